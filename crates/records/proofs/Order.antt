-- Byte order: of byte strings of one length it is the order of the numbers that they are, first byte first. Assumes nothing.
use mathlib.Core.Path.{◌≡◌, refl, sym, ap, ◌∙◌, subst}
use mathlib.Core.Bool.{Bool, true, false, cond, ◌||◌, ◌&&◌}
use mathlib.Core.List.{List, [], ◌∷◌, ◌++◌}
use Prim.Native.Nat.{ℕ, suc, ◌+◌, ◌*◌, ◌≤◌, ◌<◌}
use native.Mathlib.Omega.{arith}
use lib.Seq.{length-take-le, get_or-take, get_or-drop}
use native.Mathlib.Decide.{dec_lt}
use lib.Dec.{ltb, eqb}
use lib.ListN.{length, get_or, take, drop, take-append-drop, length-take, get_or-eq_default}
use borrow.Author.Tests.{lt-ltb, le-ltb, eq-eqb, ne_eqb}
use Rattle.std.proofs.Common.{w64, Some, Option}
use Rattle.std.specs.Ordering.{partial_lt, nat_cmp, is_some_and, is_lt, partial_ordering_then}
use Rattle.std.specs.declared.cmp.Ordering.{Ordering}
use Rattle.std.specs.declared.cmp.Ordering.TheVariants.{Less, Equal, Greater}
use Rattle.std.specs.Cmp.Lexicographic.{slice_partial_cmp}
use Rattle.std.specs.Int.{from_be_bytes}
use Rattle.std.proofs.lemmas.Nat.{be_bytes_8}
use Rattle.runs.specs.Listing.{below}

pub below_self : (a : List ℕ) → below a a ≡ false
below_self [] = refl
below_self (x ∷ xs) = rw (le-ltb x x (omega arith), eq-eqb x x refl) (below_self xs)

-- what stands in front of two strings: the same, or not
pub below_behind : (x a b : List ℕ) → below (x ++ a) (x ++ b) ≡ below a b
below_behind [] a b = refl
below_behind (x ∷ xs) a b = rw (le-ltb x x (omega arith), eq-eqb x x refl) (below_behind xs a b)

pub below_front : (x y a b : List ℕ) → length x ≡ length y → (x ≡ y → ⊥) → below (x ++ a) (y ++ b) ≡ below x y
below_front [] [] a b e d = absurd (d refl)
below_front [] (y ∷ ys) a b e d = absurd (omega arith)
below_front (x ∷ xs) [] a b e d = absurd (omega arith)
below_front (x ∷ xs) (y ∷ ys) a b e d = elim (dec_lt x y) [
  | yes l ↦ rw (lt-ltb x y l) refl
  | no g ↦ elim (dec_lt y x) [
    | yes l ↦ rw (ne_eqb x y (λ q. absurd (omega arith))) refl
    | no f ↦ let q : x ≡ y = omega arith in rw (le-ltb x y (omega arith), eq-eqb x y q) (below_front xs ys a b (omega arith) (λ r. d (λ i. q i ∷ r i)))
  ]
]

-- every number of the list is a byte
abbrev pub Bytes : List ℕ → Type 0
Bytes s = (k : ℕ) → get_or s k 0 < 256

-- the number that bytes are behind another
abbrev number : List ℕ → ℕ → ℕ
number [] p = p
number (x ∷ xs) p = number xs (256 * p + x)

lead : (x y : List ℕ) (p q : ℕ) → Bytes x → length x ≡ length y → p < q → number x p < number y q
lead [] [] p q b e h = h
lead [] (y ∷ ys) p q b e h = absurd (omega arith)
lead (x ∷ xs) [] p q b e h = absurd (omega arith)
lead (x ∷ xs) (y ∷ ys) p q b e h =
    let low : x < 256 = b 0 in
    lead xs ys (256 * p + x) (256 * q + y) (λ k. b (suc k)) (omega arith) (omega arith)

number_order : (x y : List ℕ) (p : ℕ) → Bytes x → Bytes y → length x ≡ length y → ltb (number x p) (number y p) ≡ below x y
number_order [] [] p b c e = le-ltb p p (omega arith)
number_order [] (y ∷ ys) p b c e = absurd (omega arith)
number_order (x ∷ xs) [] p b c e = absurd (omega arith)
number_order (x ∷ xs) (y ∷ ys) p b c e = elim (dec_lt x y) [
  | yes l ↦
      let h = lead xs ys (256 * p + x) (256 * p + y) (λ k. b (suc k)) (omega arith) (omega arith) in
      rw (lt-ltb x y l) (lt-ltb (number xs (256 * p + x)) (number ys (256 * p + y)) h)
  | no g ↦ elim (dec_lt y x) [
    | yes l ↦
        let h = lead ys xs (256 * p + y) (256 * p + x) (λ k. c (suc k)) (omega arith) (omega arith) in
        rw (le-ltb x y (omega arith), ne_eqb x y (λ q. absurd (omega arith))) (le-ltb (number xs (256 * p + x)) (number ys (256 * p + y)) (omega arith))
    | no f ↦
        let q : x ≡ y = omega arith in
        rw (le-ltb x y (omega arith), eq-eqb x y q) (ap (λ z. ltb (number xs (256 * p + z)) (number ys (256 * p + y))) q ∙ number_order xs ys (256 * p + y) (λ k. b (suc k)) (λ k. c (suc k)) (omega arith))
  ]
]

eight : (x : List ℕ) → length x ≡ 8 → from_be_bytes w64 x ≡ number x 0
eight (a ∷ b ∷ c ∷ d ∷ e ∷ f ∷ g ∷ h ∷ []) q = omega arith
eight x q = absurd (omega arith)

take_bytes : (n : ℕ) (a : List ℕ) → Bytes a → Bytes (take n a)
take_bytes n a b k = elim (dec_lt k n) [
  | yes l ↦ rw (get_or-take n a k 0 l) (b k)
  | no g ↦
      let h : length (take n a) ≤ k = simp length-take (omega arith) in
      rw (get_or-eq_default (take n a) 0 h) (omega arith)
]

pub drop_bytes : (n : ℕ) (a : List ℕ) → Bytes a → Bytes (drop n a)
drop_bytes n a b k = rw (get_or-drop n a k 0) (b (n + k))

-- the first eight bytes of a string, and what is left of it
abbrev pub Eight : List ℕ → List ℕ → List ℕ → Type 0
Eight a x xs = (x ≡ take 8 a) × (xs ≡ drop 8 a) × (length xs + 8 ≡ length a)

module _ (a x xs b y ys : List ℕ) (bytes-a : Bytes a) (bytes-b : Bytes b) (p : Eight a x xs) (q : Eight b y ys) where
  bytes-x : Bytes x
  bytes-x = subst Bytes (sym p.0) (take_bytes 8 a bytes-a)

  bytes-y : Bytes y
  bytes-y = subst Bytes (sym q.0) (take_bytes 8 b bytes-b)

  long-x : length x ≡ 8
  long-x = ap length p.0 ∙ length-take-le 8 a (let e = p.2 in omega arith)

  long-y : length y ≡ 8
  long-y = ap length q.0 ∙ length-take-le 8 b (let e = q.2 in omega arith)

  whole : below (x ++ xs) (y ++ ys) ≡ below a b
  whole = (λ i. below (p.0 i ++ p.1 i) (q.0 i ++ q.1 i)) ∙ (λ i. below (take-append-drop 8 a i) (take-append-drop 8 b i))

  pub eights_same : from_be_bytes w64 x ≡ from_be_bytes w64 y → below xs ys ≡ below a b
  eights_same e =
      let same : x ≡ y = sym (be_bytes_8 x _ long-x bytes-x refl) ∙ be_bytes_8 y _ long-y bytes-y e in
      sym (ap (λ z. below (z ++ xs) (y ++ ys)) same ∙ below_behind y xs ys) ∙ whole

  pub eights_differ : (from_be_bytes w64 x ≡ from_be_bytes w64 y → ⊥) → ltb (from_be_bytes w64 x) (from_be_bytes w64 y) ≡ below a b
  eights_differ d =
      (λ i. ltb (eight x long-x i) (eight y long-y i))
      ∙ number_order x y 0 bytes-x bytes-y (long-x ∙ sym long-y)
      ∙ sym (below_front x y xs ys (long-x ∙ sym long-y) (λ e. d (ap (λ z. from_be_bytes w64 z) e)))
      ∙ whole

-- the comparison of std
first_decides : (l e : Bool) (r : Option Ordering) → is_some_and is_lt (partial_ordering_then (Some (cond l Less (cond e Equal Greater))) r) ≡ l || (e && is_some_and is_lt r)
first_decides true e r = refl
first_decides false true r = refl
first_decides false false r = refl

pub less : (a b : List ℕ) → partial_lt (slice_partial_cmp (λ x y. Some (nat_cmp x y))) a b ≡ below a b
less [] [] = refl
less [] (y ∷ ys) = refl
less (x ∷ xs) [] = refl
less (x ∷ xs) (y ∷ ys) =
    first_decides (ltb x y) (eqb x y) (slice_partial_cmp (λ x y. Some (nat_cmp x y)) xs ys) ∙ ap (λ z. ltb x y || (eqb x y && z)) (less xs ys)
