-- Nobody waits without cause: the oldest action of a queue has an accepted commit, or one of four causes; and a cause bars it. Assumes nothing.
use mathlib.Core.Path.{◌≡◌, refl, sym, ◌∙◌, ap, subst}
use mathlib.Core.Logic.{◌⊎◌, inl, inr, ⊎_elim, ◌↔◌}
use mathlib.Core.Bool.{Bool, true, false, not, cond, ◌&&◌, ◌||◌, false≢true}
use mathlib.Core.List.{List, [], ◌∷◌, ◌++◌}
use Prim.Native.Nat.{ℕ, ◌+◌, ◌≤◌, ◌<◌}
use native.Mathlib.Omega.{arith}
use lib.Dec.{eqb, ltb, leb}
use lib.ListN.{length, length-append}
use borrow.Author.Tests.{eq-eqb, eqb-true, lt-ltb, le-ltb, ltb-true}
use Rattle.words.specs.Small.{is_none, is, any, some_below}
use Rattle.words.specs.Refusals.{◌when◌, first_code_of}
use Rattle.words.proofs.Bools.{decide, and_both, and_make, and_right, or_left, or_right, or_none, cond-true, cond-false, below_fewer}
use Rattle.words.proofs.Passed.{Passed, passed, unpassed}
use Rattle.cases.specs.declared.Case.{Case}
use Rattle.cases.specs.Block.{Sound, lowest}
use Rattle.cases.proofs.Lowest.{lowest_hit, lowest-none, no_position}
use Rattle.runs.specs.Outcome.{Leads}
use Rattle.runs.proofs.Walk.{Walk, stop, go, walk, leads}
use Rattle.runs.proofs.Always.{counted-after}
use Rattle.rules.specs.Kinds.{reading, writing, acquiring, releasing, accesses, syncs}
use Rattle.rules.specs.State.{State, initial, kind_of, waiting, value_of, item_value, stands_at}
use Rattle.rules.specs.Commit.{writes, barred, visible}
use Rattle.rules.specs.Step.{Step, commit, step_code, after}
use Rattle.rules.specs.Womm.{womm}
use Rattle.rules.proofs.Accepted.{CanCommit, can_commit, commit_ok, between, Visible, visible_make}
use Rattle.rules.proofs.Actions.{waits_proc, item_cases}
use Rattle.rules.proofs.Steps.{Spent, spent_initial, spent_step}
use Rattle.rules.proofs.Strict.{order_transitive, order_irreflexive, before-oldest, order_low}
use Rattle.progress.specs.Causes.{oldest, lock, causes, cause, reason, GoesOn, NobodyWaits, CauseBars}
use Rattle.progress.proofs.Last.{last_of}
use Rattle.progress.proofs.Sizes.{sound_procs, sound_locs}
use Rattle.progress.proofs.Rooted.{item_initial, Rooted, rooted_after}

-- 4 and 5 together are 'acquire while another holds it, or release while this processor does not'
spread : (a r i : Bool) → ((a || r) && i) ≡ ((a && i) || (r && i))
spread true r true = refl
spread true r false = sym (and_right r false refl)
spread false r i = refl

module _ (c : Case) (s : State) (p k : ℕ) where
  -- what is left of the tests of a commit where there is no cause
  pub record Causeless : Type 0 where
    pub ready : any (λ n. is_none (value_of s n)) (s.actions k).inputs ≡ false
    pub low : (syncs (kind_of (s.actions k)) && leb c.locs (lock c s p k)) ≡ false
    pub allowed : barred p (kind_of (s.actions k)) (s.holders (lock c s p k)) ≡ false

  pub barred_is : barred p (kind_of (s.actions k)) (s.holders (lock c s p k))
      ≡ ((acquiring (kind_of (s.actions k)) && not (is_none (s.holders (lock c s p k))) && not (is p (s.holders (lock c s p k)))) || (releasing (kind_of (s.actions k)) && not (is p (s.holders (lock c s p k)))))
  barred_is = spread (acquiring (kind_of (s.actions k)) && not (is_none (s.holders (lock c s p k)))) (releasing (kind_of (s.actions k))) (not (is p (s.holders (lock c s p k))))

  pub causeless : cause c s p k ≡ 0 → Causeless
  unfolding causes
  causeless z = let q = passed (causes c s p k) refl z in record { ready = q.0; low = q.1.0; allowed = barred_is ∙ rw (q.1.1.0, q.1.1.1.0) refl }

  pub no_cause : Causeless → cause c s p k ≡ 0
  unfolding causes
  no_cause q = unpassed (causes c s p k) (q.ready, (q.low, (neither.0, (neither.1, tt))))
    where
      neither : ((acquiring (kind_of (s.actions k)) && not (is_none (s.holders (lock c s p k))) && not (is p (s.holders (lock c s p k)))) ≡ false) × ((releasing (kind_of (s.actions k)) && not (is p (s.holders (lock c s p k)))) ≡ false)
      neither = or_none _ _ (sym barred_is ∙ q.allowed)

pub cause_bars : CauseBars
cause_bars c s p k n e h = let T = can_commit c s p k e h in n (no_cause c s p k (record { ready = T.ready; low = T.low; allowed = T.allowed }))

module _ (c : Case) (ts : List Step) (s : State) (l : Leads (womm c) (initial c) ts s) (few : c.locs ≤ 8) (p k : ℕ) (there : k < s.count) (waits : waiting p (s.actions k) ≡ true) (first : (j : ℕ) → j < k → waiting p (s.actions j) ≡ false) where
  r : Rooted c s
  r = rooted_after c ts s l

  mine : (s.actions k).proc ≡ p
  mine = waits_proc p (s.actions k) waits

  -- no earlier action of the processor is in the queue
  earlier_done : (i : ℕ) → i < k → (s.actions i).proc ≡ (s.actions k).proc → is_none (s.actions i).result ≡ false
  earlier_done i h o = ⊎_elim (λ e. absurd (false≢true (sym (first i h) ∙ and_make (eqb (s.actions i).proc p) _ (eq-eqb _ _ (o ∙ mine)) e))) (λ e. e) (decide (is_none (s.actions i).result))

  -- a read sees the last write before it
  module _ (is_read : reading (kind_of (s.actions k)) ≡ true) where
    abbrev here : ℕ
    here = (s.actions k).loc

    access : accesses (kind_of (s.actions k)) ≡ true
    access = or_left (reading (kind_of (s.actions k))) (writing (kind_of (s.actions k))) is_read

    low : here < 8
    low = omega (arith, r.locs k there access)

    -- the writes before it
    abbrev candidate : ℕ → Bool
    candidate w = writes s here w && s.orders here w (8 + k)

    found : (e : ℕ) × (candidate e ≡ true) × (some_below (8 + s.count) (λ w. candidate w && s.orders here e w) ≡ false)
    found =
        last_of (s.orders here) (order_transitive c ts s l here) (order_irreflexive c ts s l here) candidate (8 + s.count) here
        (and_make _ _ (item_initial (eqb here here) (λ a. writing (kind_of a) && eqb a.loc here) s here low ∙ eq-eqb here here refl)
        (r.rooted here k low (r.locs k there access) there (or_right (syncs (kind_of (s.actions k))) _ (and_make _ _ access (eq-eqb here here refl)))))

    known : (e : ℕ) → writes s here e ≡ true → s.orders here e (8 + k) ≡ true → is_none (item_value c s e) ≡ false
    known e x y = step (item_cases (eqb e here) (λ a. writing (kind_of a) && eqb a.loc here) s e x)
      where
        step : ((e < 8) × (eqb e here ≡ true)) ⊎ ((j : ℕ) × (e ≡ 8 + j) × ((writing (kind_of (s.actions j)) && eqb (s.actions j).loc here) ≡ true)) → is_none (item_value c s e) ≡ false
        step (inl q) = ap is_none (cond-true (ltb e 8) _ _ (lt-ltb e 8 q.0))
        step (inr (j, q, z)) =
            ap is_none (value e j q)
            ∙ before-oldest c ts s l here j k earlier_done (subst (λ (a : ℕ). s.orders here a (8 + k) ≡ true) q y)
          where
            value : (e j : ℕ) → e ≡ 8 + j → item_value c s e ≡ (s.actions j).result
            value e j q = cond-false (ltb e 8) _ _ (le-ltb e 8 (omega arith)) ∙ ap (λ (i : ℕ). (s.actions i).result) (omega arith)

    seen : (e : ℕ) × (e < 8 + s.count) × Visible c s (s.actions k).loc (8 + k) e
    seen =
        let f = found in
        let b = and_both (writes s here f.0) (s.orders here f.0 (8 + k)) f.1 in (
          f.0,
          order_low c ts s l here f.0 (8 + k) b.1,
          record {
            one = b.0;
            known = known f.0 b.0 b.1;
            newest = below_fewer (8 + s.count) (λ w. candidate w && s.orders here f.0 w) (between s here (8 + k) f.0)
                (λ w _ z. let x = and_both (writes s here w) (s.orders here f.0 w && s.orders here w (8 + k)) z in
                let y = and_both (s.orders here f.0 w) (s.orders here w (8 + k)) x.1 in
                and_make _ _ (and_make _ _ x.0 y.1) y.0) f.2;
            before = ⊎_elim (λ z. absurd (order_irreflexive c ts s l here (8 + k) (order_transitive c ts s l here (8 + k) f.0 (8 + k) z b.1))) (λ z. z) (decide (s.orders here (8 + k) f.0));
          },
        )

  module _ (q : Causeless c s p k) where
    accepted : (e : ℕ) → (not (eqb e 0) && not (reading (kind_of (s.actions k)))) ≡ false → (reading (kind_of (s.actions k)) && not (visible c s (s.actions k).loc (8 + k) e)) ≡ false → step_code c s (commit p k e) ≡ 0
    accepted e plain sees =
        commit_ok c s p k e
        (record {
          proc = subst (λ (x : ℕ). x < c.procs) mine (r.procs k there);
          there = there;
          waits = waits;
          plain = plain;
          free = below_fewer k (λ j. waiting p (s.actions j)) _ (λ j _ z. (and_both (waiting p (s.actions j)) _ z).0) (no_position k (λ j. waiting p (s.actions j)) first);
          ready = q.ready;
          low = q.low;
          allowed = q.allowed;
          sees = sees;
        })

    pub oldest-commits : (e : ℕ) × (e < 8 + s.count) × (step_code c s (commit p k e) ≡ 0)
    oldest-commits =
        ⊎_elim
        (λ x. let f = seen x in (f.0, f.1, accepted f.0 (rw x (and_right (not (eqb f.0 0)) false refl)) (rw (x, visible_make c s _ _ _ f.2) refl)))
        (λ x. (0, omega arith, accepted 0 refl (rw x refl)))
        (decide (reading (kind_of (s.actions k))))

snoc : (c : Case) {s e : State} {ts : List Step} (t : Step) → Walk (womm c) s ts e → step_code c e t ≡ 0 → Walk (womm c) s (ts ++ t ∷ []) (after c e t)
snoc c {s} {e} t (stop h) k = subst (λ (x : State). Walk (womm c) x (t ∷ []) (after c e t)) (sym h) (go k (stop refl))
snoc c t (go h w) k = go h (snoc c t w k)

pub nobody_waits : NobodyWaits
nobody_waits c sound ts s l h p queued z = goes (oldest-commits c ts s l (sound_locs c sound).1 p k queued waits (lowest-none s.count _) (causeless c s p k z))
  where
    k : ℕ
    k = oldest s p

    waits : waiting p (s.actions k) ≡ true
    waits = lowest_hit s.count (λ j. waiting p (s.actions j)) queued

    goes : (e : ℕ) × (e < 8 + s.count) × (step_code c s (commit p k e) ≡ 0) → GoesOn c ts p k
    goes (e, low, ok) =
        let four = (sound_procs c sound).1 in
        let few = (counted-after (womm c) Spent (spent_step c) (spent_initial c) ts s l).few in
        let small : p < c.procs = subst (λ (x : ℕ). x < c.procs) (waits_proc p (s.actions k) waits) ((rooted_after c ts s l).procs k queued) in
        record {
          source = e;
          bytes = (omega arith, omega (arith, queued), omega arith);
          short = simp length-append (omega arith);
          accepted = (leads (womm c) (snoc c (commit p k e) (walk (womm c) ts (initial c) s l) ok)).accepted;
        }

-- what the numbers say

other_number : (u n f r : Bool) → first_code_of (2 when u ∷ 3 when n ∷ 4 when f ∷ 5 when r ∷ []) ≡ 1 → ⊥
unfolding first_code_of
other_number true n f r h = omega arith
other_number false true f r h = omega arith
other_number false false true r h = omega arith
other_number false false false true h = omega arith
other_number false false false false h = omega arith

module _ (c : Case) (s : State) (p : ℕ) where
  -- 1 or more: something is queued; 1: without cause
  reason_cases : 0 < reason c s p → (oldest s p < s.count) × ((reason c s p ≡ 1) ↔ (cause c s p (oldest s p) ≡ 0))
  unfolding causes
  reason_cases h = ⊎_elim queued (λ e. absurd (omega (arith, h, cond-false (ltb (oldest s p) s.count) (number (cause c s p (oldest s p))) 0 e))) (decide (ltb (oldest s p) s.count))
    where
      number : ℕ → ℕ
      number n = cond (eqb n 0) 1 n

      queued : ltb (oldest s p) s.count ≡ true → (oldest s p < s.count) × ((reason c s p ≡ 1) ↔ (cause c s p (oldest s p) ≡ 0))
      queued e =
          let q : reason c s p ≡ number (cause c s p (oldest s p)) = cond-true (ltb (oldest s p) s.count) (number (cause c s p (oldest s p))) 0 e in
          (ltb-true _ _ e, (λ o. one (cause c s p (oldest s p)) (λ x. other_number _ _ _ _ x) (sym q ∙ o), λ z. q ∙ ap number z))
        where
          one : (n : ℕ) → (n ≡ 1 → ⊥) → number n ≡ 1 → n ≡ 0
          one n other h = ⊎_elim (λ x. eqb-true n 0 x) (λ x. absurd (other (sym (cond-false (eqb n 0) 1 n x) ∙ h))) (decide (eqb n 0))

-- 1: the oldest action has an accepted commit
pub may_commit : (c : Case) → Sound c → (ts : List Step) (s : State) → Leads (womm c) (initial c) ts s → length ts ≤ 95 → (p : ℕ) → reason c s p ≡ 1 → GoesOn c ts p (oldest s p)
may_commit c sound ts s l h p o = let r = reason_cases c s p (omega (arith, o)) in nobody_waits c sound ts s l h p r.0 (r.1.0 o)

-- more: it has none
pub must_wait : (c : Case) (s : State) (p : ℕ) → 1 < reason c s p → (e : ℕ) → step_code c s (commit p (oldest s p) e) ≡ 0 → ⊥
must_wait c s p h = let r = reason_cases c s p (omega (arith, h)) in cause_bars c s p (oldest s p) (λ z. omega (arith, h, r.1.1 z))
