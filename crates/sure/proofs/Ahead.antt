-- What may still be issued: where nothing that passes a test lies ahead, no step issues such an instruction or brings one nearer. Assumes nothing.
use mathlib.Core.Path.{◌≡◌, refl, sym, ◌∙◌, ap, subst}
use mathlib.Core.Logic.{◌⊎◌, inl, inr, ⊎_elim}
use mathlib.Core.Bool.{Bool, true, false, cond, ◌&&◌, ◌||◌, false≢true}
use mathlib.Core.List.{List, [], ◌∷◌}
use mathlib.Core.Option.{Option, none, some}
use Prim.Native.Nat.{ℕ, zero, suc, ◌+◌, ◌<◌}
use native.Mathlib.Omega.{arith}
use lib.Dec.{eqb, ltb}
use lib.ListN.{get_or}
use borrow.Author.Tests.{leb-false, lt-ltb, eqb-true, eqb-false}
use Rattle.words.specs.Small.{is_none, or_zero, put, any, some_below}
use Rattle.words.proofs.Bools.{decide, or_cases, or_left, or_right, or_none, or_false, and_both, and_make, and_rest, fails, none_below, put_same, put_other}
use Rattle.cases.specs.Case.{count_of, instr_at}
use Rattle.cases.specs.declared.Instr.TheVariants.{Empty, Read, Write, Local, Branch, Goto, Acquire, Release}
use Rattle.cases.specs.declared.Instr.{Instr}
use Rattle.cases.specs.declared.Case.{Case}
use Rattle.rules.specs.Kinds.{kind, branching, label_of}
use Rattle.rules.specs.Commit.{committed}
use Rattle.rules.specs.State.{State, Action, kind_of}
use Rattle.rules.specs.Step.{Step, issue, commit, neither, step_code, after}
use Rattle.rules.specs.Issue.{place_after, new_action, here, issued, next}
use Rattle.rules.proofs.Accepted.{CanIssue, can_issue, after_issue, neither_no}
use Rattle.sure.specs.Ahead.{leads_to, ahead, ahead_of, ahead_by, comes}
use Rattle.sure.proofs.Kept.{issued_old, issued_new, waits-none, waits_proc}
use Rattle.sure.proofs.Commit.{Commit, the, self, input, settled_by, committed_by, CanTake, can_take, after-take}

any_more : {A : Type 0} (f g : A → Bool) → ((x : A) → f x ≡ true → g x ≡ true) → (l : List A) → any f l ≡ true → any g l ≡ true
any_more f g h [] e = e
any_more f g h (x ∷ l) e = ⊎_elim (λ w. or_left (g x) (any g l) (h x w)) (λ w. or_right (g x) (any g l) (any_more f g h l w)) (or_cases (f x) (any f l) e)

pub place-some : (o : Option ℕ) → is_none o ≡ false → o ≡ some (or_zero o)
place-some none h = absurd (false≢true (sym h))
place-some (some v) h = refl

-- where an instruction's place counter goes, it leads
leads_place : (x : Instr) (i j : ℕ) (g : ℕ → Bool) → place_after x i ≡ some j → any g (leads_to x i) ≡ false → g j ≡ false
leads_place Empty i j g e h = subst (λ (k : ℕ). g k ≡ false) (ap or_zero e) (or_none _ _ h).0
leads_place (Read d a) i j g e h = subst (λ (k : ℕ). g k ≡ false) (ap or_zero e) (or_none _ _ h).0
leads_place (Write a b) i j g e h = subst (λ (k : ℕ). g k ≡ false) (ap or_zero e) (or_none _ _ h).0
leads_place (Local d x) i j g e h = subst (λ (k : ℕ). g k ≡ false) (ap or_zero e) (or_none _ _ h).0
leads_place (Branch a l) i j g e h = absurd (false≢true (sym (ap is_none e)))
leads_place (Goto l) i j g e h = subst (λ (k : ℕ). g k ≡ false) (ap or_zero e) (or_none _ _ h).0
leads_place (Acquire a) i j g e h = subst (λ (k : ℕ). g k ≡ false) (ap or_zero e) (or_none _ _ h).0
leads_place (Release a) i j g e h = subst (λ (k : ℕ). g k ≡ false) (ap or_zero e) (or_none _ _ h).0

-- where a branch goes, it leads
leads_branch : (x : Instr) (i : ℕ) (g : ℕ → Bool) → branching (kind x) ≡ true → any g (leads_to x i) ≡ false → (b : Bool) → g (cond b (suc i) (label_of x)) ≡ false
leads_branch Empty i g e h b = absurd (false≢true e)
leads_branch (Read d a) i g e h b = absurd (false≢true e)
leads_branch (Write a c) i g e h b = absurd (false≢true e)
leads_branch (Local d x) i g e h b = absurd (false≢true e)
leads_branch (Branch a l) i g e h true = (or_none _ _ (or_none (g l) _ h).1).0
leads_branch (Branch a l) i g e h false = (or_none (g l) _ h).0
leads_branch (Goto l) i g e h b = absurd (false≢true e)
leads_branch (Acquire a) i g e h b = absurd (false≢true e)
leads_branch (Release a) i g e h b = absurd (false≢true e)

module _ (c : Case) (p : ℕ) (f : Instr → Bool) where
  ahead_more : (n i : ℕ) → ahead c p f n i ≡ true → ahead c p f (suc n) i ≡ true
  unfolding ahead
  ahead_more zero i h = absurd (false≢true h)
  ahead_more (suc n) i h =
      let a = and_both (ltb i (count_of c p)) (f (instr_at c p i) || any (ahead c p f n) (leads_to (instr_at c p i) i)) h in
      and_make (ltb i (count_of c p)) (f (instr_at c p i) || any (ahead c p f (suc n)) (leads_to (instr_at c p i) i)) a.0
      (⊎_elim (or_left (f (instr_at c p i)) _)
      (λ w. or_right (f (instr_at c p i)) (any (ahead c p f (suc n)) (leads_to (instr_at c p i) i)) (any_more (ahead c p f n) (ahead c p f (suc n)) (ahead_more n) (leads_to (instr_at c p i) i) w))
      (or_cases (f (instr_at c p i)) (any (ahead c p f n) (leads_to (instr_at c p i) i)) a.1))

  ahead_less : (n i : ℕ) → ahead c p f (suc n) i ≡ false → ahead c p f n i ≡ false
  ahead_less n i = fails (ahead c p f (suc n) i) (ahead c p f n i) (ahead_more n i)

  any_less : (n : ℕ) (l : List ℕ) → any (ahead c p f (suc n)) l ≡ false → any (ahead c p f n) l ≡ false
  any_less n l = fails (any (ahead c p f (suc n)) l) (any (ahead c p f n) l) (any_more (ahead c p f n) (ahead c p f (suc n)) (ahead_more n) l)

  -- the instruction at a place, and what it leads to
  ahead_here : (n i : ℕ) → i < count_of c p → ahead c p f (suc n) i ≡ false
      → (f (instr_at c p i) ≡ false) × (any (ahead c p f n) (leads_to (instr_at c p i) i) ≡ false)
  unfolding ahead
  ahead_here n i l h = or_none (f (instr_at c p i)) _ (and_rest (ltb i (count_of c p)) _ h (lt-ltb _ _ l))

-- with n steps to go nothing that passes the test lies ahead
pub record Barren (c : Case) (f : ℕ → Instr → Bool) (n : ℕ) (s : State) : Type 0 where
  pub places : (p i : ℕ) → p < c.procs → s.places p ≡ some i → ahead c p (f p) n i ≡ false
  pub turns : (k : ℕ) → k < s.count → (s.actions k).result ≡ none → branching (kind_of (s.actions k)) ≡ true
      → any (ahead c (s.actions k).proc (f (s.actions k).proc) n) (leads_to (s.actions k).instr (s.actions k).place) ≡ false

pub barren_of : (c : Case) (f : ℕ → Instr → Bool) (n : ℕ) (s : State) → comes c f n s ≡ false → Barren c f n s
unfolding comes
barren_of c f n s h =
    let w = or_none (some_below c.procs (λ p. ahead_of c p (f p) n (s.places p))) _ h in
    record {
      places = λ p i l e. ap (ahead_of c p (f p) n) (sym e) ∙ none_below c.procs (λ p. ahead_of c p (f p) n (s.places p)) w.0 p l;
      turns = λ k l x y.
          and_rest (branching (kind_of (s.actions k))) _
          (and_rest (is_none (s.actions k).result) _ (none_below s.count (λ k. ahead_by c f n (s.actions k)) w.1 k l) (ap is_none x))
          y;
    }

module _ (c : Case) (f : ℕ → Instr → Bool) (n : ℕ) (s : State) (B : Barren c f (suc n) s) where
  module _ (q : ℕ) (I : CanIssue c s q) where
    here_next : (f q (next c s q) ≡ false) × (any (ahead c q (f q) n) (leads_to (next c s q) (here c s q)) ≡ false)
    here_next = ahead_here c q (f q) n (here c s q) (leb-false (count_of c q) (here c s q) I.inside) (B.places q (here c s q) I.proc (place-some (s.places q) I.place))

    -- the instruction that is issued does not pass the test
    pub barren_next : f q (next c s q) ≡ false
    barren_next = here_next.0

    -- what a branch leads to
    abbrev Turns : Action → Type 0
    Turns a = a.result ≡ none → branching (kind_of a) ≡ true → any (ahead c a.proc (f a.proc) n) (leads_to a.instr a.place) ≡ false

    barren_issue : Barren c f n (issued c s q)
    unfolding issued
    barren_issue =
        record {
          places = λ p i l e. ⊎_elim (λ x. mine p i (eqb-true p q x) e) (λ x. ahead_less c p (f p) n i (B.places p i l (sym (put_other s.places q p _ (eqb-false p q x)) ∙ e))) (decide (eqb p q));
          turns = λ k l.
              ⊎_elim
              (λ e. subst (λ (j : ℕ). Turns ((issued c s q).actions j)) (sym (eqb-true k s.count e)) (subst Turns (sym (issued_new c s q)) (λ x y. here_next.1)))
              (λ e. let m : k < s.count = omega (arith, eqb-false k s.count e) in subst Turns (sym (issued_old c s q k m)) (λ x y. any_less c (s.actions k).proc (f (s.actions k).proc) n (leads_to (s.actions k).instr (s.actions k).place) (B.turns k m x y)))
              (decide (eqb k s.count));
        }
      where
        mine : (p i : ℕ) → p ≡ q → put s.places q (place_after (next c s q) (here c s q)) p ≡ some i → ahead c p (f p) n i ≡ false
        mine p i x e =
            subst (λ (r : ℕ). ahead c r (f r) n i ≡ false) (sym x)
            (leads_place (next c s q) (here c s q) i (ahead c q (f q) n) (sym (put_same s.places q p (place_after (next c s q) (here c s q)) x) ∙ e) here_next.1)

  module _ (u : Commit) (U : CanTake c s u) where
    barren_commit : Barren c f n (committed_by c s u)
    unfolding committed
    barren_commit = record { places = λ p i l e. places p i l (branching (kind_of (self s u))) refl e; turns = λ k l. turns k l (eqb k u.action) }
      where
        to : ℕ
        to = cond (eqb (input s u 0) 0) (suc (self s u).place) (label_of (self s u).instr)

        mine : branching (kind_of (self s u)) ≡ true → (p i : ℕ) → p ≡ u.proc → to ≡ i → ahead c p (f p) n i ≡ false
        mine y p i x e =
            let o : (self s u).proc ≡ p = waits_proc u.proc (self s u) U.waits ∙ sym x in
            let w = B.turns u.action U.there (waits-none u.proc (self s u) U.waits) y in
            let g = leads_branch (self s u).instr (self s u).place (ahead c (self s u).proc (f (self s u).proc) (suc n)) y w (eqb (input s u 0) 0) in
            ahead_less c p (f p) n i (subst (λ (j : ℕ). ahead c p (f p) (suc n) j ≡ false) e (subst (λ (r : ℕ). ahead c r (f r) (suc n) to ≡ false) o g))

        places : (p i : ℕ) → p < c.procs → (b : Bool) → branching (kind_of (self s u)) ≡ b → cond b (put s.places u.proc (some to)) s.places p ≡ some i
            → ahead c p (f p) n i ≡ false
        places p i l true y e =
            ⊎_elim (λ x. mine y p i (eqb-true p u.proc x) (ap or_zero (sym (put_same s.places u.proc p (some to) (eqb-true p u.proc x)) ∙ e)))
            (λ x. ahead_less c p (f p) n i (B.places p i l (sym (put_other s.places u.proc p (some to) (eqb-false p u.proc x)) ∙ e)))
            (decide (eqb p u.proc))
        places p i l false y e = ahead_less c p (f p) n i (B.places p i l e)

        turns : (k : ℕ) → k < s.count → (b : Bool) → (cond b (settled_by c s u) (s.actions k)).result ≡ none
            → branching (kind_of (cond b (settled_by c s u) (s.actions k))) ≡ true
            → any (ahead c (cond b (settled_by c s u) (s.actions k)).proc (f (cond b (settled_by c s u) (s.actions k)).proc) n) (leads_to (cond b (settled_by c s u) (s.actions k)).instr (cond b (settled_by c s u) (s.actions k)).place) ≡ false
        turns k l true x y = absurd (false≢true (ap is_none x))
        turns k l false x y = any_less c (s.actions k).proc (f (s.actions k).proc) n (leads_to (s.actions k).instr (s.actions k).place) (B.turns k l x y)

  pub barren_step : (t : Step) → step_code c s t ≡ 0 → Barren c f n (after c s t)
  barren_step (issue q) h = rw (after_issue c s q) (barren_issue q (can_issue c s q h))
  barren_step (commit q k e) h = rw (after-take c s (the q k e)) (barren_commit (the q k e) (can_take c s (the q k e) h))
  barren_step neither h = absurd (neither_no c s h)
