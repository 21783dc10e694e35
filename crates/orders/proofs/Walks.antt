-- Walks over the numbers of a set, from the least on. Assumes nothing.
use mathlib.Core.Path.{◌≡◌, refl, sym, ap, ◌∙◌}
use mathlib.Core.Logic.{⊎_elim}
use mathlib.Core.Bool.{Bool, true, false, ◌&&◌, ◌||◌, not, false≢true}
use Prim.Native.Nat.{ℕ, ◌≤◌, ◌<◌}
use native.Mathlib.Omega.{arith}
use lib.Bits.{bit_or}
use lib.Dec.{eqb, ltb}
use borrow.Author.Tests.{eqb-true, lt-ltb, ltb-true}
use Rattle.words.specs.Small.{some_below}
use Rattle.words.specs.Sets.{has}
use Rattle.words.proofs.Bools.{decide, bool_eq, and_both, and_make, and_right, and_true, or_nothing, or_cases, or_left, or_right, below_cases, below_make}
use Rattle.words.proofs.Sets.{has_or, has_zero}
use Rattle.rules.specs.Order.{Order, up_to}
use Rattle.orders.specs.Least.{Least}
use Rattle.orders.specs.Rows.{SetOf, Reaches}

-- some number of the set x passes
abbrev pub in_some : ℕ → (ℕ → Bool) → Bool
in_some x f = some_below 64 (λ w. has x w && f w)

some-none : (f : ℕ → Bool) → in_some 0 f ≡ false
some-none f = bool_eq (in_some 0 f) false (λ h. let r = below_cases 64 (λ w. has 0 w && f w) h in absurd (false≢true (sym (has_zero r.0) ∙ (and_both (has 0 r.0) (f r.0) r.2).0))) (λ h. absurd (false≢true h))

-- what was found, where nothing is left
pub found_all : (rest : ℕ) (f : ℕ → Bool) (found all : Bool) → rest ≡ 0 → (found || in_some rest f) ≡ all → found ≡ all
found_all rest f found all q h = sym (or_nothing found) ∙ ap (λ (b : Bool). found || b) (sym (some-none f)) ∙ ap (λ (n : ℕ). found || in_some n f) (sym q) ∙ h

-- the mask has the numbers that stand in R before one of the items that are not left
abbrev pub Covers : Order → ℕ → ℕ → ℕ → Type 0
Covers R items rest mask = (a : ℕ) → (has mask a || in_some rest (R a)) ≡ in_some items (R a)

pub cover_none : (R : Order) (items : ℕ) → Covers R items items 0
cover_none R items a = ap (λ (b : Bool). b || in_some items (R a)) (has_zero a)

-- the numbers of items that pass and are not left
pub record Sifted (items : ℕ) (pass : ℕ → Bool) (rest seen : ℕ) : Type 0 where
  pub inside : (a : ℕ) → has rest a ≡ true → has items a ≡ true
  pub is : (a : ℕ) → has seen a ≡ (has items a && not (has rest a) && pass a)

pub sift_none : (items : ℕ) (pass : ℕ → Bool) → Sifted items pass items 0
sift_none items pass = record { inside = λ a h. h; is = λ a. has_zero a ∙ none (has items a) (pass a) }
  where
    none : (u v : Bool) → false ≡ (u && not u && v)
    none true v = refl
    none false v = refl

pub sift_all : {items : ℕ} {pass : ℕ → Bool} {rest seen : ℕ} → rest ≡ 0 → Sifted items pass rest seen → (a : ℕ) → has seen a ≡ (has items a && pass a)
sift_all {items} {pass} q s a =
    s.is a ∙ ap (λ (n : ℕ). has items a && not (has n a) && pass a) q ∙ ap (λ (b : Bool). has items a && not b && pass a) (has_zero a) ∙ ap (λ (b : Bool). b && pass a) (and_true (has items a))

-- the least number of a set, and the others
module _ (x e y : ℕ) (m : Least x e) (p : 0 < x) (o : (a : ℕ) → has y a ≡ (has x a && not (eqb a e))) where
  some_first : (f : ℕ → Bool) → in_some x f ≡ (f e || in_some y f)
  some_first f = bool_eq (in_some x f) (f e || in_some y f) part whole
    where
      part : in_some x f ≡ true → (f e || in_some y f) ≡ true
      part h =
          let r = below_cases 64 (λ w. has x w && f w) h in
          let b = and_both (has x r.0) (f r.0) r.2 in
          ⊎_elim
          (λ q. or_left (f e) (in_some y f) (ap f (sym (eqb-true r.0 e q)) ∙ b.1))
          (λ q. or_right (f e) (in_some y f) (below_make 64 (λ w. has y w && f w) r.0 r.1 (and_make (has y r.0) (f r.0) (o r.0 ∙ and_make (has x r.0) _ b.0 (ap not q)) b.1)))
          (decide (eqb r.0 e))

      whole : (f e || in_some y f) ≡ true → in_some x f ≡ true
      whole h =
          ⊎_elim
          (λ q. below_make 64 (λ w. has x w && f w) e (m.low p) (and_make (has x e) (f e) (m.inside (m.low p)) q))
          (λ q. let r = below_cases 64 (λ w. has y w && f w) q in let b = and_both (has y r.0) (f r.0) r.2 in below_make 64 (λ w. has x w && f w) r.0 r.1 (and_make (has x r.0) (f r.0) (and_both (has x r.0) _ (sym (o r.0) ∙ b.0)).0 b.1))
          (or_cases (f e) (in_some y f) h)

  -- one test more
  pub found_more : (f : ℕ → Bool) (test found all : Bool) → test ≡ f e → (found || in_some x f) ≡ all → (test || found || in_some y f) ≡ all
  found_more f test found all h k = turn test found (in_some y f) ∙ ap (λ (b : Bool). found || (b || in_some y f)) h ∙ ap (λ (b : Bool). found || b) (sym (some_first f)) ∙ k
    where
      turn : (u v w : Bool) → (u || v || w) ≡ (v || (u || w))
      turn true true w = refl
      turn true false w = refl
      turn false v w = refl

  -- one row more
  pub cover_more : (R : Order) (items row mask : ℕ) → ((a : ℕ) → has row a ≡ R a e) → Covers R items x mask → Covers R items y (bit_or row mask)
  cover_more R items row mask h k a = ap (λ (b : Bool). b || in_some y (R a)) (has_or row mask a) ∙ found_more (R a) (has row a) (has mask a) (in_some items (R a)) (h a) (k a)

  -- one number more, where it passes
  pub sift_more : (items : ℕ) (pass : ℕ → Bool) (seen next : ℕ) (test : Bool) → test ≡ pass e → ((a : ℕ) → has next a ≡ ((eqb a e && test) || has seen a)) → Sifted items pass x seen → Sifted items pass y next
  sift_more items pass seen next test t n s =
      record { inside = λ a h. s.inside a (and_both (has x a) _ (sym (o a) ∙ h)).0; is = λ a. n a ∙ ⊎_elim (same a) (other a) (decide (eqb a e)) }
    where
      same : (a : ℕ) → eqb a e ≡ true → ((eqb a e && test) || has seen a) ≡ (has items a && not (has y a) && pass a)
      same a q =
          let z = eqb-true a e q in
          let h : has x a ≡ true = ap (has x) z ∙ m.inside (m.low p) in
          let i : has items a ≡ true = s.inside a h in
          let u : has y a ≡ false = o a ∙ rw (q) (and_right (has x a) false refl) in
          let v : test ≡ pass a = t ∙ ap pass (sym z) in
          rw (q, s.is a, h, i, u, v) (or_nothing (pass a))

      other : (a : ℕ) → eqb a e ≡ false → ((eqb a e && test) || has seen a) ≡ (has items a && not (has y a) && pass a)
      other a q =
          let u : has y a ≡ has x a = o a ∙ rw q (and_true (has x a)) in
          rw (q, s.is a, u)

-- what the numbers below n of a set reach, none past the last row
pub reaches_all : (R : Order) (n items mask : ℕ) (P : ℕ → Bool) → n ≤ 56 → SetOf n P items → ((a : ℕ) → has mask a ≡ in_some items (λ w. ltb w 56 && up_to R a w)) → Reaches R n P mask
reaches_all R n items mask P l S h a = h a ∙ bool_eq _ _ part whole
  where
    part : in_some items (λ w. ltb w 56 && up_to R a w) ≡ true → some_below n (λ w. P w && up_to R a w) ≡ true
    part t =
        let r = below_cases 64 (λ w. has items w && (ltb w 56 && up_to R a w)) t in
        let b = and_both (has items r.0) _ r.2 in
        let s = and_both (ltb r.0 n) (P r.0) (sym (S r.0) ∙ b.0) in
        below_make n (λ w. P w && up_to R a w) r.0 (ltb-true r.0 n s.0) (and_make (P r.0) _ s.1 (and_both (ltb r.0 56) _ b.1).1)

    whole : some_below n (λ w. P w && up_to R a w) ≡ true → in_some items (λ w. ltb w 56 && up_to R a w) ≡ true
    whole t =
        let r = below_cases n (λ w. P w && up_to R a w) t in
        let low = r.1 in
        let b = and_both (P r.0) _ r.2 in
        below_make 64 (λ w. has items w && (ltb w 56 && up_to R a w)) r.0 (omega arith)
        (and_make (has items r.0) _ (S r.0 ∙ and_make (ltb r.0 n) (P r.0) (lt-ltb r.0 n low) b.0) (and_make (ltb r.0 56) _ (lt-ltb r.0 56 (omega arith)) b.1))
