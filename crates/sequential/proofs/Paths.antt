-- After every accepted schedule places follow from one another, in program order: an action's from its processor's action before it, and
-- the place counter from the last one. Assumes nothing.
use mathlib.Core.Path.{◌≡◌, refl, sym, ◌∙◌, ap, subst}
use mathlib.Core.Logic.{◌⊎◌, inl, inr, ⊎_elim}
use mathlib.Core.Bool.{true, false, cond, false≢true}
use mathlib.Core.Option.{Option, none, some}
use Prim.Native.Nat.{ℕ, suc, ◌≤◌, ◌<◌}
use native.Mathlib.Omega.{arith}
use native.Mathlib.Decide.{dec_lt}
use lib.Dec.{eqb}
use Rattle.words.specs.Small.{is_none, any, put}
use Rattle.words.proofs.Bools.{decide, cond-true, cond-false, put_same, put_other}
use Rattle.cases.specs.declared.Instr.{Instr}
use Rattle.cases.specs.declared.Instr.TheVariants.{Empty, Read, Write, Local, Branch, Goto, Acquire, Release}
use Rattle.cases.specs.declared.Case.{Case}
use Rattle.rules.specs.Kinds.{kind, branching, label_of}
use Rattle.rules.specs.State.{State, Action, initial, kind_of, value_of, input_of}
use Rattle.rules.specs.Issue.{here, next, place_after, new_action, issued}
use Rattle.rules.specs.Commit.{branched_to, committed}
use Rattle.rules.proofs.Accepted.{CanIssue, CanCommit}
use Rattle.rules.proofs.Actions.{either, waits-none, waits_proc, issued_old, issued_new, issued_count, committed_other, committed_self, committed_count}
use Rattle.rules.proofs.Sources.{Unset}
use Rattle.rules.proofs.Strict.{owner, Done}
use Rattle.progress.proofs.Rooted.{bare}
use Rattle.sequential.proofs.Kept.{Kept, kept_issue, kept_commit, inputs_kept, ready_then}

-- where action a of state s leads: of a branch by its input, and nowhere until it is committed
abbrev pub turns_to : ℕ → Action → ℕ
turns_to x a = cond (eqb x 0) (suc a.place) (label_of a.instr)

abbrev pub leads_to : State → Action → Option ℕ
leads_to s a = cond (branching (kind_of a)) (cond (is_none a.result) none (some (turns_to (input_of s a 0) a))) (place_after a.instr a.place)

-- no action of processor p has a number from m to n - 1
abbrev pub Idle : State → ℕ → ℕ → ℕ → Type 0
Idle s p m n = (j : ℕ) → m ≤ j → j < n → owner s j ≡ p → ⊥

-- the place of processor p after its actions below n
pub data Follow (s : State) (p n : ℕ) : Option ℕ → Type 0 where
  first : Idle s p 0 n → Follow s p n (some 0)
  behind : (k : ℕ) → k < n → owner s k ≡ p → Idle s p (suc k) n → Follow s p n (leads_to s (s.actions k))

pub record Paths (s : State) : Type 0 where
  -- a committed action has its inputs
  pub ready : (k : ℕ) → k < s.count → Done s k → any (λ x. is_none (value_of s x)) (s.actions k).inputs ≡ false
  -- a branch is committed before the next issue of its processor
  pub turned : (j k : ℕ) → j < k → k < s.count → owner s j ≡ owner s k → branching (kind_of (s.actions j)) ≡ true → Done s j
  pub places : (p : ℕ) → Follow s p s.count (s.places p)

pub paths_initial : (c : Case) → Paths (initial c)
paths_initial c = record { ready = λ k h. absurd (omega arith); turned = λ j k h g. absurd (omega arith); places = λ p. first (λ j h g. absurd (omega arith)) }

module _ (s z : State) (g : Kept s z) where
  by : {A : Type 0} (f : Action → A) (k : ℕ) → k < s.count → f (bare (z.actions k)) ≡ f (bare (s.actions k))
  by f k h = ap f (g.same k h)

  -- a committed action leads where it led, and so does one that is no branch
  module _ (k : ℕ) (l : k < s.count) where
    leads_plain : branching (kind_of (s.actions k)) ≡ false → leads_to z (z.actions k) ≡ leads_to s (s.actions k)
    leads_plain n = cond-false _ _ _ (by (λ a. branching (kind_of a)) k l ∙ n) ∙ by (λ a. place_after a.instr a.place) k l ∙ sym (cond-false _ _ _ n)

    leads_done : Done s k → any (λ x. is_none (value_of s x)) (s.actions k).inputs ≡ false → leads_to z (z.actions k) ≡ leads_to s (s.actions k)
    leads_done d r = ⊎_elim branch leads_plain (decide (branching (kind_of (s.actions k))))
      where
        branch : branching (kind_of (s.actions k)) ≡ true → leads_to z (z.actions k) ≡ leads_to s (s.actions k)
        branch b =
            cond-true _ _ _ (by (λ a. branching (kind_of a)) k l ∙ b)
            ∙ cond-false _ _ _ (ap is_none (g.done k d) ∙ d)
            ∙ ap (λ (x : ℕ). some (turns_to x (z.actions k))) (inputs_kept s z g k l r 0)
            ∙ ap (λ (f : ℕ → ℕ). some (f (input_of s (s.actions k) 0))) (by (λ a x. turns_to x a) k l)
            ∙ sym (cond-false _ _ _ d)
            ∙ sym (cond-true _ _ _ b)

  idle_kept : (p m n : ℕ) → n ≤ s.count → Idle s p m n → Idle z p m n
  idle_kept p m n l i j h q o = i j h q (sym (by (λ a. a.proc) j (omega arith)) ∙ o)

  -- what is defined stays
  pub follow_kept : (P : Paths s) (p n v : ℕ) (o : Option ℕ) → n ≤ s.count → o ≡ some v → Follow s p n o → Follow z p n o
  follow_kept P p n v o l e (first i) = first (idle_kept p 0 n l i)
  follow_kept P p n v o l e (behind k h w i) = subst (Follow z p n) (leads_kept (decide (branching (kind_of (s.actions k)))) (decide (is_none (s.actions k).result))) (behind k h (by (λ a. a.proc) k (omega arith) ∙ w) (idle_kept p (suc k) n l i))
    where
      nothing : none ≡ some v → ⊥
      nothing q = false≢true (sym (ap is_none q))

      leads_kept : (branching (kind_of (s.actions k)) ≡ true) ⊎ (branching (kind_of (s.actions k)) ≡ false) → (is_none (s.actions k).result ≡ true) ⊎ (is_none (s.actions k).result ≡ false) → leads_to z (z.actions k) ≡ leads_to s (s.actions k)
      leads_kept (inr b) d = leads_plain k (omega arith) b
      leads_kept (inl b) (inr d) = leads_done k (omega arith) d (P.ready k (omega arith) d)
      leads_kept (inl b) (inl d) = absurd (nothing (sym (cond-true _ _ _ d) ∙ sym (cond-true _ _ _ b) ∙ e))

-- issue

fresh_leads : (s : State) (a : Action) (i : Instr) → a.instr ≡ i → a.result ≡ none → cond (branching (kind i)) (cond (is_none a.result) none (some (turns_to (input_of s a 0) a))) (place_after i a.place) ≡ place_after i a.place
fresh_leads s a Empty e n = refl
fresh_leads s a (Read d x) e n = refl
fresh_leads s a (Write x b) e n = refl
fresh_leads s a (Local d x) e n = refl
fresh_leads s a (Branch x l) e n = rw n
fresh_leads s a (Goto l) e n = refl
fresh_leads s a (Acquire x) e n = refl
fresh_leads s a (Release x) e n = refl

module _ (c : Case) (s : State) (p : ℕ) (C : CanIssue c s p) (u : Unset s) (P : Paths s) where
  abbrev z : State
  z = issued c s p

  g : Kept s z
  g = kept_issue c s p u

  new_proc : owner z s.count ≡ p
  new_proc = ap (λ (a : Action). a.proc) (issued_new c s p)

  -- the last action of the processor, if it is a branch, is committed
  branched : (j : ℕ) → j < s.count → owner s j ≡ p → branching (kind_of (s.actions j)) ≡ true → Done s j
  branched j l o b = last (s.places p) C.place (P.places p)
    where
      last : (x : Option ℕ) → is_none x ≡ false → Follow s p s.count x → Done s j
      last x q (first i) = absurd (i j (omega arith) l o)
      last x q (behind k h w i) = either j k same other
        where
          same : j ≡ k → Done s j
          same e = ⊎_elim (λ d. absurd (false≢true (sym q ∙ ap is_none (cond-true _ _ _ (ap (λ (y : ℕ). branching (kind_of (s.actions y))) (sym e) ∙ b) ∙ cond-true _ _ _ (ap (λ (y : ℕ). is_none (s.actions y).result) (sym e) ∙ d))))) (λ d. d) (decide (is_none (s.actions j).result))

          other : (j ≡ k → ⊥) → Done s j
          other n = elim (dec_lt j k) [ yes y ↦ P.turned j k y h (o ∙ sym w) b | no y ↦ absurd (i j (omega arith) l o) ]

  turned_issue : (j k : ℕ) → j < k → k < z.count → owner z j ≡ owner z k → branching (kind_of (z.actions j)) ≡ true → Done z j
  turned_issue j k h m o b =
      let lj : j < s.count = omega (arith, issued_count c s p) in
      let ej = issued_old c s p j (λ q. omega arith) in
      let bj = sym (ap (λ (a : Action). branching (kind_of a)) ej) ∙ b in
      let oj = sym (ap (λ (a : Action). a.proc) ej) ∙ o in
      ap (λ (a : Action). is_none a.result) ej
      ∙ either k s.count (λ q. branched j lj (oj ∙ ap (owner z) q ∙ new_proc) bj)
      (λ n. P.turned j k h (omega (arith, issued_count c s p)) (oj ∙ ap (λ (a : Action). a.proc) (issued_old c s p k n)) bj)

  ready_issue : (k : ℕ) → k < z.count → Done z k → any (λ x. is_none (value_of z x)) (z.actions k).inputs ≡ false
  ready_issue k h d =
      either k s.count (λ q. absurd (false≢true (sym d ∙ ap (λ (m : ℕ). is_none (z.actions m).result) q ∙ ap (λ (a : Action). is_none a.result) (issued_new c s p))))
      (λ n. let l : k < s.count = omega (arith, issued_count c s p) in ready_then s z g k l (P.ready k l (sym (ap (λ (a : Action). is_none a.result) (issued_old c s p k n)) ∙ d)))

  own-place : Follow z p (suc s.count) (place_after (next c s p) (here c s p))
  own-place =
      subst (Follow z p (suc s.count))
      (ap (λ (a : Action). leads_to z a) (issued_new c s p) ∙ fresh_leads z (new_action c s p) (next c s p) refl refl)
      (behind s.count (omega arith) new_proc (λ j h m. absurd (omega arith)))

  other_place : (q : ℕ) → (q ≡ p → ⊥) → (x : Option ℕ) → Follow s q s.count x → Follow z q (suc s.count) x
  other_place q n x (first i) = first (λ j h m o. either j s.count (λ e. n (sym o ∙ ap (owner z) e ∙ new_proc)) (λ d. i j h (omega arith) (sym (ap (λ (a : Action). a.proc) (issued_old c s p j d)) ∙ o)))
  other_place q n x (behind k h w i) =
      let ek = issued_old c s p k (λ e. omega arith) in
      subst (Follow z q (suc s.count)) leads
      (behind k (omega arith) (ap (λ (a : Action). a.proc) ek ∙ w) (λ j b m o. either j s.count (λ e. n (sym o ∙ ap (owner z) e ∙ new_proc)) (λ d. i j b (omega arith) (sym (ap (λ (a : Action). a.proc) (issued_old c s p j d)) ∙ o))))
    where
      leads : leads_to z (z.actions k) ≡ leads_to s (s.actions k)
      leads = ⊎_elim (λ d. queued d) (λ d. leads_done s z g k h d (P.ready k h d)) (decide (is_none (s.actions k).result))
        where
          queued : is_none (s.actions k).result ≡ true → leads_to z (z.actions k) ≡ leads_to s (s.actions k)
          queued d = ⊎_elim (λ b. ap (leads_to z) (issued_old c s p k (λ e. omega arith)) ∙ cond-true _ _ _ b ∙ cond-true _ _ _ d ∙ sym (cond-true _ _ _ d) ∙ sym (cond-true _ _ _ b)) (leads_plain s z g k h) (decide (branching (kind_of (s.actions k))))

  places_issue : (q : ℕ) → Follow z q (suc s.count) (z.places q)
  unfolding issued
  places_issue q =
      either q p
      (λ e. subst (λ (y : ℕ). Follow z y (suc s.count) (z.places y)) (sym e) (subst (Follow z p (suc s.count)) (sym (put_same s.places p p _ refl)) own-place))
      (λ n. subst (Follow z q (suc s.count)) (sym (put_other s.places p q _ n)) (other_place q n (s.places q) (P.places q)))

  pub paths_issue : Paths z
  paths_issue = record { ready = ready_issue; turned = turned_issue; places = λ q. subst (λ (n : ℕ). Follow z q n (z.places q)) (sym (issued_count c s p)) (places_issue q) }

-- commit

module _ (c : Case) (s : State) (p k e : ℕ) (T : CanCommit c s p k e) (P : Paths s) where
  abbrev y : State
  y = committed c s p k e

  gk : Kept s y
  gk = kept_commit c s p k e T

  mine : owner s k ≡ p
  mine = waits_proc p (s.actions k) T.waits

  queued : is_none (s.actions k).result ≡ true
  queued = ap is_none (waits-none p (s.actions k) T.waits)

  leads_other : (j : ℕ) → j < s.count → (j ≡ k → ⊥) → leads_to y (y.actions j) ≡ leads_to s (s.actions j)
  leads_other j l n = ⊎_elim waits (λ d. leads_done s y gk j l d (P.ready j l d)) (decide (is_none (s.actions j).result))
    where
      waits : is_none (s.actions j).result ≡ true → leads_to y (y.actions j) ≡ leads_to s (s.actions j)
      waits d = ⊎_elim (λ b. ap (leads_to y) (committed_other c s p k e j n) ∙ cond-true _ _ _ b ∙ cond-true _ _ _ d ∙ sym (cond-true _ _ _ d) ∙ sym (cond-true _ _ _ b)) (leads_plain s y gk j l) (decide (branching (kind_of (s.actions j))))

  -- where the action leads does not matter to processor q, or has not changed
  follow_other : (q : ℕ) → ((j : ℕ) → j < s.count → owner s j ≡ q → leads_to y (y.actions j) ≡ leads_to s (s.actions j)) → (x : Option ℕ) → Follow s q s.count x → Follow y q s.count x
  follow_other q same x (first i) = first (idle_kept s y gk q 0 s.count (omega arith) i)
  follow_other q same x (behind j h w i) = subst (Follow y q s.count) (same j h w) (behind j h (by s y gk (λ a. a.proc) j h ∙ w) (idle_kept s y gk q (suc j) s.count (omega arith) i))

  turns : branching (kind_of (s.actions k)) ≡ true → leads_to y (y.actions k) ≡ some (branched_to c s p k e)
  turns b =
      cond-true _ _ _ (by s y gk (λ a. branching (kind_of a)) k T.there ∙ b)
      ∙ cond-false _ _ _ (ap (λ (a : Action). is_none a.result) (committed_self c s p k e))
      ∙ ap (λ (x : ℕ). some (turns_to x (y.actions k))) (inputs_kept s y gk k T.there T.ready 0)
      ∙ ap (λ (f : ℕ → ℕ). some (f (input_of s (s.actions k) 0))) (by s y gk (λ a x. turns_to x a) k T.there)

  follow_own : branching (kind_of (s.actions k)) ≡ true → (x : Option ℕ) → Follow s p s.count x → Follow y p s.count (some (branched_to c s p k e))
  follow_own b x (first i) = absurd (i k (omega arith) T.there mine)
  follow_own b x (behind j h w i) = either j k same other
    where
      same : j ≡ k → Follow y p s.count (some (branched_to c s p k e))
      same q = subst (Follow y p s.count) (turns b) (behind k T.there (by s y gk (λ a. a.proc) k T.there ∙ mine) (idle_kept s y gk p (suc k) s.count (omega arith) (λ m a. i m (omega arith))))

      other : (j ≡ k → ⊥) → Follow y p s.count (some (branched_to c s p k e))
      other n = absurd (elim (dec_lt k j) [ yes l ↦ false≢true (sym (P.turned k j l h (mine ∙ sym w) b) ∙ queued) | no l ↦ i k (omega arith) T.there mine ])

  places_commit : (q : ℕ) → Follow y q s.count (y.places q)
  unfolding committed
  places_commit q = ⊎_elim branch plain (decide (branching (kind_of (s.actions k))))
    where
      plain : branching (kind_of (s.actions k)) ≡ false → Follow y q s.count (cond (branching (kind_of (s.actions k))) (put s.places p (some (branched_to c s p k e))) s.places q)
      plain b = subst (λ (f : ℕ → Option ℕ). Follow y q s.count (f q)) (sym (cond-false _ _ _ b)) (follow_other q (λ j l o. either j k (λ n. leads_plain s y gk j l (ap (λ (m : ℕ). branching (kind_of (s.actions m))) n ∙ b)) (leads_other j l)) (s.places q) (P.places q))

      branch : branching (kind_of (s.actions k)) ≡ true → Follow y q s.count (cond (branching (kind_of (s.actions k))) (put s.places p (some (branched_to c s p k e))) s.places q)
      branch b =
          subst (λ (f : ℕ → Option ℕ). Follow y q s.count (f q)) (sym (cond-true _ _ _ b))
          (either q p
          (λ n. subst (Follow y q s.count) (sym (put_same s.places p q _ n)) (subst (λ (m : ℕ). Follow y m s.count (some (branched_to c s p k e))) (sym n) (follow_own b (s.places p) (P.places p))))
          (λ n. subst (Follow y q s.count) (sym (put_other s.places p q _ n)) (follow_other q (λ j l o. leads_other j l (λ m. n (sym o ∙ ap (owner s) m ∙ mine))) (s.places q) (P.places q))))

  pub paths_commit : Paths y
  paths_commit =
      record {
        ready = λ j h d.
            let l : j < s.count = omega (arith, committed_count c s p k e) in
            ready_then s y gk j l (either j k (λ q. ap (λ (i : ℕ). any (λ x. is_none (value_of s x)) (s.actions i).inputs) q ∙ T.ready) (λ n. P.ready j l (sym (ap (λ (a : Action). is_none a.result) (committed_other c s p k e j n)) ∙ d)));
        turned = λ j m h l o b.
            let lm : m < s.count = omega (arith, committed_count c s p k e) in
            let lj : j < s.count = omega arith in
            let d = P.turned j m h lm (sym (by s y gk (λ a. a.proc) j lj) ∙ o ∙ by s y gk (λ a. a.proc) m lm) (sym (by s y gk (λ a. branching (kind_of a)) j lj) ∙ b) in
            ap is_none (gk.done j d) ∙ d;
        places = λ q. subst (λ (n : ℕ). Follow y q n (y.places q)) (sym (committed_count c s p k e)) (places_commit q);
      }
