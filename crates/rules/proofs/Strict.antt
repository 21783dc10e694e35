-- After every accepted schedule each location's order is transitive and strict. Assumes nothing.
-- An edge leads to an action, from an earlier one of its processor or from one that a committed release of its own processor came after.
use Rattle.std.proofs.Common.{◌≡◌, ℕ, ◌+◌, ◌-◌, ◌<◌, ◌≤◌, Bool, true, false, ◌&&◌, eqb, ◌⊎◌, List, sym, refl, ap, ◌∙◌, subst, inl, inr, ⊎_elim, arith, eq-eqb, eqb-true}
use mathlib.Core.Bool.{false≢true}
use mathlib.Core.Option.{Option, none, some}
use native.Mathlib.Decide.{dec_lt}
use Rattle.words.specs.Small.{is_none, is}
use Rattle.words.proofs.Bools.{decide, and_both, and_make, below_make}
use Rattle.cases.specs.declared.Instr.{Instr}
use Rattle.cases.specs.declared.Case.{Case}
use Rattle.runs.specs.Outcome.{Leads}
use Rattle.runs.proofs.Always.{always_after}
use Rattle.rules.specs.Kinds.{kind, releasing, held_by}
use Rattle.rules.specs.State.{State, Action, initial, kind_of, waiting, stands_at}
use Rattle.rules.specs.Issue.{earlier, issued}
use Rattle.rules.specs.Commit.{input, held_back, released, committed}
use Rattle.rules.specs.Step.{Step, step_code, after}
use Rattle.rules.specs.Womm.{womm}
use Rattle.rules.proofs.Closed.{Transitive, UpTo, Via, joined_if_cases, joined_if_transitive}
use Rattle.rules.proofs.Accepted.{CanCommit}
use Rattle.rules.proofs.Actions.{either, by_step, waits-none, waits_proc, issued_old, issued_new, issued_count, committed_other, committed_self, committed_count, committed_keeps, item_cases}

-- transitive

abbrev pub Ordered : State → Type 0
Ordered s = (l : ℕ) → Transitive (s.orders l)

ordered_issue : (c : Case) (s : State) (p : ℕ) → Ordered s → Ordered (issued c s p)
unfolding issued
ordered_issue c s p o l = joined_if_transitive _ _ _ _ _ (o l)

ordered_commit : (c : Case) (s : State) (p k e : ℕ) → Ordered s → Ordered (committed c s p k e)
unfolding committed
ordered_commit c s p k e o l = joined_if_transitive _ _ _ _ _ (o l)

-- strict

abbrev pub owner : State → ℕ → ℕ
owner s j = (s.actions j).proc

abbrev pub Done : State → ℕ → Type 0
Done s j = is_none (s.actions j).result ≡ false

abbrev pub Frees : State → ℕ → Type 0
Frees s j = releasing (kind_of (s.actions j)) ≡ true

-- action j, or a later one of its processor, is a committed release
pub record Freed (s : State) (j : ℕ) : Type 0 where
  pub at : ℕ
  pub late : j ≤ at
  pub low : at < s.count
  pub own : owner s at ≡ owner s j
  pub frees : Frees s at
  pub done : Done s at

-- action j may stand before action k: an earlier one of its processor, or freed
pub record Before (s : State) (j k : ℕ) : Type 0 where
  pub there : j < s.count
  pub mine : owner s j ≡ owner s k → j < k
  pub other : (owner s j ≡ owner s k → ⊥) → Freed s j

-- b is the item of an action; if a is that of an action too, that may stand before it
pub record Edge (s : State) (a b : ℕ) : Type 0 where
  pub to : ℕ
  pub is_to : b ≡ 8 + to
  pub low : to < s.count
  pub before : (j : ℕ) → a ≡ 8 + j → Before s j to

pub record Strict (s : State) : Type 0 where
  -- what comes before a committed release of its processor is committed
  pub closed : (j k : ℕ) → j < k → k < s.count → owner s j ≡ owner s k → Frees s k → Done s k → Done s j
  pub edges : (l a b : ℕ) → s.orders l a b ≡ true → Edge s a b

-- what a step keeps of the actions before it
record Grows (s z : State) : Type 0 where
  more : s.count ≤ z.count
  proc : (j : ℕ) → j < s.count → owner z j ≡ owner s j
  instr : (j : ℕ) → j < s.count → (z.actions j).instr ≡ (s.actions j).instr
  done : (j : ℕ) → j < s.count → Done s j → Done z j

module _ (s z : State) (g : Grows s z) where
  freed_grows : (j : ℕ) → j < s.count → Freed s j → Freed z j
  freed_grows j h f =
      record {
        at = f.at;
        late = f.late;
        low = omega (arith, f.low, g.more);
        own = g.proc f.at f.low ∙ f.own ∙ sym (g.proc j h);
        frees = ap (λ (i : Instr). releasing (kind i)) (g.instr f.at f.low) ∙ f.frees;
        done = g.done f.at f.low f.done;
      }

  before_grows : (j k : ℕ) → k < s.count → Before s j k → Before z j k
  before_grows j k h w =
      let pj = g.proc j w.there in
      let pk = g.proc k h in
      record {
        there = omega (arith, w.there, g.more);
        mine = λ q. w.mine (sym pj ∙ q ∙ pk);
        other = λ q. freed_grows j w.there (w.other (λ z. q (pj ∙ z ∙ sym pk)));
      }

  edge_grows : (a b : ℕ) → Edge s a b → Edge z a b
  edge_grows a b e = record { to = e.to; is_to = e.is_to; low = omega (arith, e.low, g.more); before = λ j x. before_grows j e.to e.low (e.before j x) }

-- issue

module _ (c : Case) (s : State) (p : ℕ) where
  old : (j : ℕ) → j < s.count → (issued c s p).actions j ≡ s.actions j
  old j h = issued_old c s p j (λ e. omega arith)

  issued_grows : Grows s (issued c s p)
  issued_grows =
      record {
        more = omega (arith, issued_count c s p);
        proc = λ j h. ap (λ (a : Action). a.proc) (old j h);
        instr = λ j h. ap (λ (a : Action). a.instr) (old j h);
        done = λ j h d. ap (λ (a : Action). is_none a.result) (old j h) ∙ d;
      }

  module _ (v : Strict s) where
    new_owner : owner (issued c s p) s.count ≡ p
    new_owner = ap (λ (a : Action). a.proc) (issued_new c s p)

    -- action j stands up to action m of the processor
    under : (l j m : ℕ) → owner s m ≡ p → m < s.count → UpTo (s.orders l) (8 + j) (8 + m) → Before (issued c s p) j s.count
    under l j m o h (inl e) =
        let same : j ≡ m = omega (arith, e) in
        record {
          there = omega (arith, issued_count c s p);
          mine = λ q. omega arith;
          other = λ q. absurd (q (ap (owner (issued c s p)) same ∙ ap (λ (a : Action). a.proc) (old m h) ∙ o ∙ sym new_owner));
        }
    under l j m o h (inr e) =
        let r = v.edges l (8 + j) (8 + m) e in
        let to : r.to ≡ m = omega (arith, r.is_to) in
        let w = r.before j refl in
        record {
          there = omega (arith, w.there, issued_count c s p);
          mine = λ q. omega (arith, w.there);
          other = λ q. freed_grows s (issued c s p) issued_grows j w.there (w.other (λ z. q (ap (λ (a : Action). a.proc) (old j w.there) ∙ z ∙ ap (owner s) to ∙ o ∙ sym new_owner)));
        }

    -- the new item stands after items of its processor only
    fresh : (l a b : ℕ) → Via (s.orders l) (8 + s.count) (8 + s.count) (earlier c s p l) a b → Edge (issued c s p) a b
    fresh l a b w = record { to = s.count; is_to = target w.down; low = omega (arith, issued_count c s p); before = λ j x. source j x (item_cases (eqb w.from l) (λ z. eqb z.proc p && stands_at l z) s w.from w.one) w.up }
      where
        target : UpTo (s.orders l) (8 + s.count) b → b ≡ 8 + s.count
        target (inl e) = sym e
        target (inr e) = let r = v.edges l (8 + s.count) b e in absurd (omega (arith, (r.before s.count refl).there))

        source : (j : ℕ) → a ≡ 8 + j → ((w.from < 8) × (eqb w.from l ≡ true)) ⊎ ((m : ℕ) × (w.from ≡ 8 + m) × ((eqb (owner s m) p && stands_at l (s.actions m)) ≡ true)) → UpTo (s.orders l) a w.from → Before (issued c s p) j s.count
        source j x (inl k) (inl e) = absurd (omega (arith, e, x, k.0))
        source j x (inl k) (inr e) = let r = v.edges l a w.from e in absurd (omega (arith, r.is_to, k.0))
        source j x (inr k) u =
            under l j k.0 (eqb-true _ p (and_both (eqb (owner s k.0) p) (stands_at l (s.actions k.0)) k.2).0) (omega (arith, w.low, k.1))
            (subst (λ (z : ℕ). UpTo (s.orders l) z (8 + k.0)) x (subst (λ (z : ℕ). UpTo (s.orders l) a z) k.1 u))

    edge_issue : (l a b : ℕ) → (issued c s p).orders l a b ≡ true → Edge (issued c s p) a b
    unfolding issued
    edge_issue l a b h = ⊎_elim (λ e. edge_grows s (issued c s p) issued_grows a b (v.edges l a b e)) (fresh l a b) (joined_if_cases _ (s.orders l) (8 + s.count) (8 + s.count) (earlier c s p l) a b h)

    closed_issue : (j k : ℕ) → j < k → k < (issued c s p).count → owner (issued c s p) j ≡ owner (issued c s p) k → Frees (issued c s p) k → Done (issued c s p) k → Done (issued c s p) j
    closed_issue j k h g o f d = either k s.count newest older
      where
        newest : k ≡ s.count → Done (issued c s p) j
        newest e = absurd (false≢true (sym d ∙ ap (λ (z : ℕ). is_none ((issued c s p).actions z).result) e ∙ ap (λ (a : Action). is_none a.result) (issued_new c s p)))

        older : (k ≡ s.count → ⊥) → Done (issued c s p) j
        older n =
            let lk : k < s.count = omega (arith, issued_count c s p) in
            let lj : j < s.count = omega arith in
            let ek = old k lk in
            let ej = old j lj in
            ap (λ (a : Action). is_none a.result) ej
            ∙ v.closed j k h lk (sym (ap (λ (a : Action). a.proc) ej) ∙ o ∙ ap (λ (a : Action). a.proc) ek) (sym (ap (λ (a : Action). releasing (kind_of a)) ek) ∙ f) (sym (ap (λ (a : Action). is_none a.result) ek) ∙ d)

    strict_issue : Strict (issued c s p)
    strict_issue = record { closed = closed_issue; edges = edge_issue }

-- commit

-- a release waits for anything
release_waits : (k q : ℕ) (b : Bool) → releasing k ≡ true → held_by k q b ≡ true
unfolding held_by
release_waits k q b h = rw (eqb-true k 7 h)

is_done : (n : ℕ) (o : Option ℕ) → is n o ≡ true → is_none o ≡ false
is_done n none h = absurd (false≢true h)
is_done n (some m) h = refl

module _ (c : Case) (s : State) (p k e : ℕ) (T : CanCommit c s p k e) where
  mine : owner s k ≡ p
  mine = waits_proc p (s.actions k) T.waits

  waits : is_none (s.actions k).result ≡ true
  waits = ap is_none (waits-none p (s.actions k) T.waits)

  self_done : Done (committed c s p k e) k
  self_done = ap (λ (a : Action). is_none a.result) (committed_self c s p k e)

  committed_grows : Grows s (committed c s p k e)
  committed_grows =
      record {
        more = omega (arith, committed_count c s p k e);
        proc = λ j g. committed_keeps c s p k e (λ (a : Action). a.proc) refl j;
        instr = λ j g. committed_keeps c s p k e (λ (a : Action). a.instr) refl j;
        done = λ j g d. either j k (λ q. ap (λ (i : ℕ). is_none ((committed c s p k e).actions i).result) q ∙ self_done) (λ n. ap (λ (a : Action). is_none a.result) (committed_other c s p k e j n) ∙ d);
      }

  -- a release goes last
  last : Frees s k → (j : ℕ) → j < k → owner s j ≡ p → Done s j
  last f j g o = ⊎_elim (λ q. absurd (false≢true (sym T.free ∙ held q))) (λ q. q) (decide (is_none (s.actions j).result))
    where
      held : is_none (s.actions j).result ≡ true → held_back c s p k e ≡ true
      held q = below_make k _ j g (and_make (waiting p (s.actions j)) _ (and_make (eqb (owner s j) p) _ (eq-eqb _ _ o) q) (release_waits (kind_of (s.actions k)) (kind_of (s.actions j)) _ f))

  module _ (v : Strict s) where
    -- a committed release of the processor comes before the action
    past : (m : ℕ) → m < s.count → owner s m ≡ p → Frees s m → Done s m → m < k
    past m g o f d = elim (dec_lt m k) [ yes h ↦ h | no h ↦ absurd (either m k same (λ n. later (omega arith))) ]
      where
        same : m ≡ k → ⊥
        same q = false≢true (sym d ∙ ap (λ (i : ℕ). is_none (s.actions i).result) q ∙ waits)

        later : k < m → ⊥
        later h = false≢true (sym (v.closed k m h g (mine ∙ sym o) f d) ∙ waits)

    past_freed : (j : ℕ) → owner s j ≡ p → Freed s j → j < k
    past_freed j o f = omega (arith, f.late, past f.at f.low (f.own ∙ o) f.frees f.done)

    module _ (l a b : ℕ) (w : Via (s.orders l) (8 + k) (8 + s.count) (released c s p k e (input c s p k e 0)) a b) where
      -- b is the action's item or that of a later one of its processor
      target : (i : ℕ) × (b ≡ 8 + i) × (i < s.count) × (k ≤ i) × (owner s i ≡ p)
      target = step w.down
        where
          step : UpTo (s.orders l) (8 + k) b → (i : ℕ) × (b ≡ 8 + i) × (i < s.count) × (k ≤ i) × (owner s i ≡ p)
          step (inl q) = (k, sym q, T.there, omega arith, mine)
          step (inr q) =
              let r = v.edges l (8 + k) b q in
              let y = r.before k refl in
              either (owner s k) (owner s r.to) (λ q. (r.to, r.is_to, r.low, omega (arith, y.mine q), sym q ∙ mine)) (λ q. absurd (omega (arith, past_freed k mine (y.other q))))

      freed : (m : ℕ) × (w.from ≡ 8 + m) × Frees s m × Done s m
      freed = step (item_cases false (λ z. releasing (kind_of z) && is (input c s p k e 0) z.result) s w.from w.one)
        where
          step : ((w.from < 8) × (false ≡ true)) ⊎ ((m : ℕ) × (w.from ≡ 8 + m) × ((releasing (kind_of (s.actions m)) && is (input c s p k e 0) (s.actions m).result) ≡ true)) → (m : ℕ) × (w.from ≡ 8 + m) × Frees s m × Done s m
          step (inl q) = absurd (false≢true q.1)
          step (inr q) = let r = and_both (releasing (kind_of (s.actions q.0))) (is (input c s p k e 0) (s.actions q.0).result) q.2 in (q.0, q.1, r.0, is_done (input c s p k e 0) (s.actions q.0).result r.1)

      source : (j : ℕ) → a ≡ 8 + j → (j < s.count) × Freed s j
      source j x = step w.up
        where
          low : freed.0 < s.count
          low = omega (arith, w.low, freed.1)

          step : UpTo (s.orders l) a w.from → (j < s.count) × Freed s j
          step (inl q) =
              let same : j ≡ freed.0 = omega (arith, q, x, freed.1) in
              (omega (arith, low), record { at = freed.0; late = omega arith; low = low; own = ap (owner s) (sym same); frees = freed.2; done = freed.3 })
          step (inr q) =
              let r = v.edges l a w.from q in
              let y = r.before j x in
              let same : r.to ≡ freed.0 = omega (arith, r.is_to, freed.1) in
              either (owner s j) (owner s r.to)
              (λ q. (y.there, record { at = freed.0; late = omega (arith, y.mine q); low = low; own = ap (owner s) (sym same) ∙ sym q; frees = freed.2; done = freed.3 }))
              (λ q. (y.there, y.other q))

      joined_edge : Edge s a b
      joined_edge =
          record {
            to = target.0;
            is_to = target.1;
            low = target.2;
            before = λ j x. let f = source j x in record { there = f.0; mine = λ q. omega (arith, target.3, past_freed j (q ∙ target.4) f.1); other = λ q. f.1 };
          }

    edge_commit : (l a b : ℕ) → (committed c s p k e).orders l a b ≡ true → Edge (committed c s p k e) a b
    unfolding committed
    edge_commit l a b h = edge_grows s (committed c s p k e) committed_grows a b (⊎_elim (v.edges l a b) (joined_edge l a b) (joined_if_cases _ (s.orders l) (8 + k) (8 + s.count) (released c s p k e (input c s p k e 0)) a b h))

    closed_commit : (j i : ℕ) → j < i → i < (committed c s p k e).count → owner (committed c s p k e) j ≡ owner (committed c s p k e) i → Frees (committed c s p k e) i → Done (committed c s p k e) i → Done (committed c s p k e) j
    closed_commit j i h g o f d = committed_grows.done j (omega (arith, committed_count c s p k e)) (either i k now before)
      where
        same : (i : ℕ) → owner (committed c s p k e) i ≡ owner s i
        same = committed_keeps c s p k e (λ (a : Action). a.proc) refl

        frees : Frees s i
        frees = sym (committed_keeps c s p k e (λ (a : Action). releasing (kind_of a)) refl i) ∙ f

        now : i ≡ k → Done s j
        now q = last (ap (λ (z : ℕ). releasing (kind_of (s.actions z))) (sym q) ∙ frees) j (omega arith) (sym (same j) ∙ o ∙ same i ∙ ap (owner s) q ∙ mine)

        before : (i ≡ k → ⊥) → Done s j
        before n = v.closed j i h (omega (arith, committed_count c s p k e)) (sym (same j) ∙ o ∙ same i) frees (sym (ap (λ (a : Action). is_none a.result) (committed_other c s p k e i n)) ∙ d)

    strict_commit : Strict (committed c s p k e)
    strict_commit = record { closed = closed_commit; edges = edge_commit }

pub strict_initial : (c : Case) → Strict (initial c)
strict_initial c = record { closed = λ j k g q. absurd (omega arith); edges = λ l a b q. absurd (false≢true q) }

pub strict_step : (c : Case) (s : State) (t : Step) → step_code c s t ≡ 0 → Strict s → Strict (after c s t)
strict_step c = by_step c (λ n. Strict) (λ n s p I v. strict_issue c s p v) (λ n s p k e T v. strict_commit c s p k e T v) 0

module _ (c : Case) (ts : List Step) (e : State) (w : Leads (womm c) (initial c) ts e) where
  strict : Strict e
  strict = always_after (womm c) Strict (strict_step c) (strict_initial c) ts e w

  pub order_transitive : (l : ℕ) → Transitive (e.orders l)
  order_transitive = always_after (womm c) Ordered (λ s t. by_step c (λ n. Ordered) (λ n s p I. ordered_issue c s p) (λ n s p k e T. ordered_commit c s p k e) 0 s t) (λ l a b d h k. absurd (false≢true h)) ts e w

  pub order_irreflexive : (l a : ℕ) → e.orders l a a ≡ true → ⊥
  order_irreflexive l a x = let r = strict.edges l a a x in omega (arith, (r.before r.to r.is_to).mine refl)

  pub order_asymmetric : (l a b : ℕ) → e.orders l a b ≡ true → e.orders l b a ≡ true → ⊥
  order_asymmetric l a b x y = order_irreflexive l a (order_transitive l a b a x y)

  -- what stands before an action that no queued one of its processor comes before is committed
  pub before-oldest : (l j k : ℕ) → ((i : ℕ) → i < k → (e.actions i).proc ≡ (e.actions k).proc → is_none (e.actions i).result ≡ false) → e.orders l (8 + j) (8 + k) ≡ true → is_none (e.actions j).result ≡ false
  before-oldest l j k first h =
      let r = strict.edges l (8 + j) (8 + k) h in
      let y = r.before j refl in
      let same : r.to ≡ k = omega (arith, r.is_to) in
      either (owner e j) (owner e r.to) (λ q. first j (omega (arith, y.mine q)) (q ∙ ap (owner e) same)) (λ q. freed (y.other q))
    where
      freed : Freed e j → Done e j
      freed f = either j f.at (λ q. ap (λ (z : ℕ). is_none (e.actions z).result) q ∙ f.done) (λ n. strict.closed j f.at (omega (arith, f.late)) f.low (sym f.own) f.frees f.done)

  -- what stands before an item is an initial write or issued
  pub order_low : (l a b : ℕ) → e.orders l a b ≡ true → a < 8 + e.count
  order_low l a b h =
      let y = strict.edges l a b h in
      elim (dec_lt a 8) [ yes q ↦ omega arith | no q ↦ let at : a ≡ 8 + (a - 8) = omega arith in omega (arith, (y.before (a - 8) at).there) ]
