-- The first race: at most one answer, always one, and the test by the location's order decides it. Assumes nothing.
use mathlib.Core.Path.{◌≡◌, refl, sym, ◌∙◌, ap, subst}
use mathlib.Core.Logic.{◌⊎◌, inl, inr, ⊎_elim, ◌↔◌}
use mathlib.Core.Bool.{true, false, not, ◌&&◌, ◌||◌, false≢true}
use mathlib.Core.List.{List}
use Prim.Native.Nat.{ℕ, ◌+◌, ◌≤◌, ◌<◌}
use native.Mathlib.Omega.{arith}
use native.Mathlib.Decide.{dec_lt}
use lib.Dec.{eqb, ltb}
use borrow.Author.Tests.{eqb-true, eq-eqb, ltb-true, ltb-false, lt-ltb, not-true}
use Rattle.words.proofs.Bools.{decide, and_both, and_make, or_right}
use Rattle.cases.specs.declared.Case.{Case}
use Rattle.cases.proofs.Lowest.{lowest_hit, lowest-none}
use Rattle.runs.specs.Outcome.{Leads}
use Rattle.rules.specs.Kinds.{writing, accesses, syncs}
use Rattle.rules.specs.State.{State, initial, kind_of, stands_at}
use Rattle.rules.specs.Step.{Step}
use Rattle.rules.specs.Womm.{womm}
use Rattle.rules.proofs.Actions.{either}
use Rattle.progress.proofs.Rooted.{rooted_after}
use Rattle.races.specs.Happens.{HappensBefore}
use Rattle.races.specs.Race.{Race, FirstRace, found, clear}
use Rattle.races.specs.Test.{conflict, unordered, races, partner, opener, first_of_race, second_of_race}
use Rattle.races.proofs.Happens.{happens_before}

-- at most one answer
pub first_race_unique : (ts : List Step) (s : State) (j k i m : ℕ) → FirstRace ts s j k → FirstRace ts s i m → (j ≡ i) × (k ≡ m)
first_race_unique ts s j k i m (found r f) (found q g) = ⊎_elim (λ x. ⊎_elim (λ y. absurd (omega arith)) (λ y. absurd (omega (arith, y.0))) (g j k r)) (λ x. ⊎_elim (λ y. absurd (omega (arith, x.0))) (λ y. (x.0, omega (arith, x.1, y.1))) (g j k r)) (f i m q)
first_race_unique ts s j k i m (found r f) (clear x y g) = absurd (g j k r)
first_race_unique ts s j k i m (clear x y f) (found q g) = absurd (f i m q)
first_race_unique ts s j k i m (clear x y f) (clear z w g) = (x ∙ sym z, y ∙ sym w)

module _ (c : Case) (ts : List Step) (s : State) (d : Leads (womm c) (initial c) ts s) where
  stands : (k l : ℕ) → accesses (kind_of (s.actions k)) ≡ true → (s.actions k).loc ≡ l → stands_at l (s.actions k) ≡ true
  stands k l a e = or_right (syncs (kind_of (s.actions k))) _ (and_make _ _ a (eq-eqb _ l e))

  -- between reads and writes of one location happens-before is the location's order
  ordered : (j k : ℕ) → j < s.count → accesses (kind_of (s.actions j)) ≡ true → accesses (kind_of (s.actions k)) ≡ true → (s.actions j).loc ≡ (s.actions k).loc
      → (HappensBefore ts s.actions j k ↔ (s.orders (s.actions j).loc (8 + j) (8 + k) ≡ true)) × (HappensBefore ts s.actions k j ↔ (s.orders (s.actions j).loc (8 + k) (8 + j) ≡ true))
  ordered j k h a b e =
      let l = (s.actions j).loc in
      let low = (rooted_after c ts s d).locs j h a in
      let sj = stands j l a refl in
      let sk = stands k l b (sym e) in
      (happens_before c ts s d l j k low sj sk, happens_before c ts s d l k j low sk sj)

  -- the test by the location's order
  pub race_test : (j k : ℕ) → j < k → k < s.count → Race ts s j k ↔ (races s j k ≡ true)
  unfolding races
  race_test j k first there = (passes, raced)
    where
      passes : Race ts s j k → races s j k ≡ true
      passes r =
          let a = and_both (accesses (kind_of (s.actions j))) (accesses (kind_of (s.actions k))) r.access in
          let o = ordered j k (omega arith) a.0 a.1 r.location in
          and_make _ _ (and_make _ _ (and_make _ _ r.access (eq-eqb _ _ r.location)) r.write)
          (and_make _ _
          (ap not (⊎_elim (λ x. absurd (r.not_before (o.0.1 x))) (λ x. x) (decide (s.orders (s.actions j).loc (8 + j) (8 + k)))))
          (ap not (⊎_elim (λ x. absurd (r.not_after (o.1.1 x))) (λ x. x) (decide (s.orders (s.actions j).loc (8 + k) (8 + j))))))

      raced : races s j k ≡ true → Race ts s j k
      raced h =
          let R = s.orders (s.actions j).loc in
          let u = and_both (conflict (s.actions j) (s.actions k)) (unordered R j k) h in
          let n = and_both (not (R (8 + j) (8 + k))) (not (R (8 + k) (8 + j))) u.1 in
          let w = and_both ((accesses (kind_of (s.actions j)) && accesses (kind_of (s.actions k))) && eqb (s.actions j).loc (s.actions k).loc) (writing (kind_of (s.actions j)) || writing (kind_of (s.actions k))) u.0 in
          let e = and_both (accesses (kind_of (s.actions j)) && accesses (kind_of (s.actions k))) (eqb (s.actions j).loc (s.actions k).loc) w.0 in
          let a = and_both (accesses (kind_of (s.actions j))) (accesses (kind_of (s.actions k))) e.0 in
          let same = eqb-true (s.actions j).loc (s.actions k).loc e.1 in
          let o = ordered j k (omega arith) a.0 a.1 same in
          record {
            first = first;
            there = there;
            access = e.0;
            location = same;
            write = w.1;
            not_before = λ x. false≢true (sym (not-true _ n.0) ∙ o.0.0 x);
            not_after = λ x. false≢true (sym (not-true _ n.1) ∙ o.1.0 x);
          }

  -- k is a partner of j where both race
  partner-low : (j k : ℕ) → Race ts s j k → partner s j ≤ k
  unfolding partner
  partner-low j k r = elim (dec_lt k (partner s j)) [ yes h ↦ absurd (false≢true (sym (lowest-none s.count (λ i. ltb j i && races s j i) k h) ∙ and_make _ _ (lt-ltb j k r.first) ((race_test j k r.first r.there).0 r))) | no h ↦ omega arith ]

  partner-races : (j : ℕ) → partner s j < s.count → Race ts s j (partner s j)
  unfolding partner
  partner-races j h =
      let u = and_both (ltb j (partner s j)) (races s j (partner s j)) (lowest_hit s.count (λ i. ltb j i && races s j i) h) in
      (race_test j (partner s j) (ltb-true _ _ u.0) h).1 u.1

  opener-low : (j k : ℕ) → Race ts s j k → opener s ≤ j
  unfolding opener
  opener-low j k r = elim (dec_lt j (opener s)) [ yes h ↦ absurd (false≢true (sym (lowest-none s.count (λ i. ltb (partner s i) s.count) j h) ∙ lt-ltb (partner s j) s.count (omega (arith, partner-low j k r, r.there)))) | no h ↦ omega arith ]

  opener-opens : opener s < s.count → partner s (opener s) < s.count
  unfolding opener
  opener-opens h = ltb-true _ _ (lowest_hit s.count (λ i. ltb (partner s i) s.count) h)

  -- the first race, so there always is one answer
  pub first_race : FirstRace ts s (first_of_race s) (second_of_race s)
  first_race = ⊎_elim some_race no_race (decide (ltb (opener s) s.count))
    where
      least : (i m : ℕ) → Race ts s i m → (opener s < i) ⊎ ((opener s ≡ i) × (partner s (opener s) ≤ m))
      least i m r =
          either (opener s) i (λ e. inr (e, subst (λ (n : ℕ). partner s n ≤ m) (sym e) (partner-low i m r))) (λ n. inl (omega (arith, opener-low i m r)))

      some_race : ltb (opener s) s.count ≡ true → FirstRace ts s (first_of_race s) (second_of_race s)
      some_race h = rw h (found (partner-races (opener s) (opener-opens (ltb-true (opener s) s.count h))) least)

      no_race : ltb (opener s) s.count ≡ false → FirstRace ts s (first_of_race s) (second_of_race s)
      no_race h = rw h (clear refl refl (λ i m r. omega (arith, ltb-false (opener s) s.count h, opener-low i m r, r.first, r.there)))
