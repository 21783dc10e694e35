-- At most one answer satisfies a list's statement, bytes and all. Assumes nothing.
use mathlib.Core.Path.{◌≡◌, refl, sym, ◌∙◌, ap, subst}
use mathlib.Core.Logic.{◌⊎◌, inl, inr, ⊎_elim, ◌↔◌}
use mathlib.Core.Bool.{Bool, true, false, false≢true}
use mathlib.Core.List.Memᴰ
use mathlib.Core.List.{List, [], ◌∷◌, Memᴰ}
use Prim.Native.Nat.{ℕ, ◌≤◌, ◌<◌, ◌/◌}
use native.Mathlib.Omega.{arith}
use lib.Dec.{leb}
use lib.ListN.{length}
use borrow.Author.Tests.{leb-true, leb-false}
use Rattle.words.specs.Small.{all}
use Rattle.words.proofs.Bools.{decide, and_both, all_at}
use Rattle.runs.specs.Model.{Model}
use Rattle.runs.specs.Listing.{below, ascending, RecordsOf, Listed, Refused, IsListOf, IsListing}
use Rattle.runs.proofs.ByteOrder.{below_irrefl, below_asym}

abbrev Within : List (List ℕ) → List (List ℕ) → Type 0
Within rs qs = (r : List ℕ) → Memᴰ r rs → Memᴰ r qs

module _ (r : List ℕ) (rs : List (List ℕ)) (h : ascending (r ∷ rs) ≡ true) where
  above : (q : List ℕ) → Memᴰ q rs → below r q ≡ true
  above q m = all_at (below r) m (and_both (all (below r) rs) (ascending rs) h).0

  rest : ascending rs ≡ true
  rest = (and_both (all (below r) rs) (ascending rs) h).1

heads : (r q : List ℕ) (rs qs : List (List ℕ)) → ascending (r ∷ rs) ≡ true → ascending (q ∷ qs) ≡ true → Memᴰ r (q ∷ qs) → Memᴰ q (r ∷ rs) → r ≡ q
heads r q rs qs h k m n = step (Memᴰ.cases_cons m) (Memᴰ.cases_cons n)
  where
    step : (r ≡ q) ⊎ Memᴰ r qs → (q ≡ r) ⊎ Memᴰ q rs → r ≡ q
    step (inl e) y = e
    step (inr x) (inl e) = sym e
    step (inr x) (inr y) = absurd (below_asym q r (above q qs k r x) (above r rs h q y))

tails : (r q : List ℕ) (rs qs : List (List ℕ)) → ascending (r ∷ rs) ≡ true → r ≡ q → Within (r ∷ rs) (q ∷ qs) → Within rs qs
tails r q rs qs h e w z m = step (Memᴰ.cases_cons (w z (Memᴰ.tail m)))
  where
    step : (z ≡ q) ⊎ Memᴰ z qs → Memᴰ z qs
    step (inl d) = absurd (below_irrefl r (subst (λ (x : List ℕ). below r x ≡ true) (d ∙ sym e) (above r rs h z m)))
    step (inr x) = x

-- two ascending lists with the same members are equal
pub same_members : (rs qs : List (List ℕ)) → ascending rs ≡ true → ascending qs ≡ true → Within rs qs → Within qs rs → rs ≡ qs
same_members [] [] h k v w = refl
same_members [] (q ∷ qs) h k v w = absurd (Memᴰ.not-nil (w q (Memᴰ.head refl)))
same_members (r ∷ rs) [] h k v w = absurd (Memᴰ.not-nil (v r (Memᴰ.head refl)))
same_members (r ∷ rs) (q ∷ qs) h k v w =
    let e = heads r q rs qs h k (v r (Memᴰ.head refl)) (w q (Memᴰ.head refl)) in
    let t = same_members rs qs (rest r rs h) (rest q qs k) (tails r q rs qs h e v) (tails q r qs rs k (sym e) w) in
    λ i. e i ∷ t i

pub records_unique : (O : List ℕ → Type 0) (rs qs : List (List ℕ)) → RecordsOf O rs → RecordsOf O qs → rs ≡ qs
records_unique O rs qs x y = same_members rs qs x.sorted y.sorted (λ r k. (y.members r).1 ((x.members r).0 k)) (λ r k. (x.members r).1 ((y.members r).0 k))

pub same_mark : {X : Type 0} (a b : Bool) → (a ≡ true) ↔ X → (b ≡ true) ↔ X → a ≡ b
same_mark true true p q = refl
same_mark true false p q = absurd (false≢true (q.1 (p.0 refl)))
same_mark false true p q = absurd (false≢true (p.1 (q.0 refl)))
same_mark false false p q = refl

same_answer : (a b : Listed) → a.code ≡ b.code → a.count ≡ b.count → a.cut ≡ b.cut → a ≡ b
same_answer a b p q r = λ i. record { code = p i; count = q i; cut = r i }

module _ (O : List ℕ → Type 0) (C : Type 0) (size : ℕ) (a b : Listed) (out buf : List ℕ) where
  pub list_unique : IsListOf O C size a out → IsListOf O C size b buf → (a ≡ b) × (out ≡ buf)
  list_unique x y = ⊎_elim fits full (decide (leb (length x.records) (size / 96)))
    where
      same : x.records ≡ y.records
      same = records_unique O x.records y.records x.right y.right

      fits : leb (length x.records) (size / 96) ≡ true → (a ≡ b) × (out ≡ buf)
      fits h =
          let g : length x.records ≤ size / 96 = leb-true _ _ h in
          let p = x.fits g in
          let q = y.fits (omega (arith, ap length same)) in
          (same_answer a b (p.code ∙ sym q.code) (p.count ∙ ap length same ∙ sym q.count) (same_mark a.cut b.cut p.cut q.cut), p.bytes ∙ rw same (sym q.bytes))

      full : leb (length x.records) (size / 96) ≡ false → (a ≡ b) × (out ≡ buf)
      full h =
          let g : size / 96 < length x.records = leb-false _ _ h in
          let p = x.full g in
          let q = y.full (omega (arith, ap length same)) in
          (same_answer a b (p.code ∙ sym q.code) (p.count ∙ sym q.count) (p.cut ∙ sym q.cut), p.bytes ∙ sym q.bytes)

-- the list of a model's outcomes
pub listing_unique : (m : Model) (n size : ℕ) (a b : Listed) (out buf : List ℕ) → IsListing m n size a out → IsListing m n size b buf → (a ≡ b) × (out ≡ buf)
listing_unique m n size a b out buf x y = list_unique _ _ size a b out buf x y

-- one refusal with a code
pub refused_unique : (why size : ℕ) (a b : Listed) (out buf : List ℕ) → Refused why size a out → Refused why size b buf → (a ≡ b) × (out ≡ buf)
refused_unique why size a b out buf x y =
    (λ i. record { code = (x.code ∙ sym y.code) i; count = (x.count ∙ sym y.count) i; cut = (x.cut ∙ sym y.cut) i }, x.bytes ∙ sym y.bytes)
