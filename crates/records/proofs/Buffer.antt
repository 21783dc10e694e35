-- A buffer as records: by their places, of a whole and of its parts, and in a row. Assumes nothing.
use mathlib.Core.Path.{◌≡◌, refl, sym, ap, ◌∙◌}
use mathlib.Core.Logic.{⊎_elim}
use mathlib.Core.Bool.{true}
use mathlib.Core.List.Memᴰ
use mathlib.Core.List.{List, ◌∷◌, ◌++◌}
use Prim.Native.Nat.{ℕ, zero, suc, ◌+◌, ◌-◌, ◌*◌, ◌≤◌, ◌<◌, suc-le-suc}
use native.Mathlib.Nat.{zero-add, suc-add, zero-sub, suc-sub-suc, sub-zero, zero-lt-suc, le_of_suc-le-suc}
use native.Mathlib.Omega.{arith}
use lib.ListN.{length, take, drop, replicate, length-drop, length-replicate, take-append-drop}
use lib.Seq.{take_at, drop_at, take-append-le, drop-append-le, drop-drop, take-add, length-take-le}
use Rattle.words.specs.Small.{concat_map}
use Rattle.runs.specs.Listing.{below, ascending}
use Rattle.records.specs.Buffer.{record_at, records_in, Among, Held}
use Rattle.records.proofs.Ascending.{first_below, rest_ascends}

pub records_length : (n : ℕ) (bs : List ℕ) → length (records_in n bs) ≡ n
unfolding records_in
records_length zero bs = refl
records_length (suc n) bs = ap suc (records_length n (drop 96 bs))

-- the part of a slice that is the record at k
pub record_part : (bs : List ℕ) (k : ℕ) → take (96 * k + 96 - 96 * k) (drop (96 * k) bs) ≡ record_at bs k
record_part bs k = let e : 96 * k + 96 - 96 * k ≡ 96 = omega arith in ap (λ (m : ℕ). take m (drop (96 * k) bs)) e

-- the places of a whole and of what follows its first k records

pub record_drop : (bs : List ℕ) (k i : ℕ) → record_at (drop (96 * k) bs) i ≡ record_at bs (k + i)
record_drop bs k i = let e : 96 * k + 96 * i ≡ 96 * (k + i) = omega arith in rw (drop-drop (96 * i) (96 * k) bs, e)

next : (bs : List ℕ) (i : ℕ) → record_at (drop 96 bs) i ≡ record_at bs (suc i)
next bs i = let e : 96 + 96 * i ≡ 96 * suc i = omega arith in rw (drop-drop (96 * i) 96 bs, e)

pub among_at : (n : ℕ) (bs : List ℕ) (k : ℕ) → k < n → Among bs n (record_at bs k)
unfolding records_in
among_at zero bs k h = absurd (omega arith)
among_at (suc n) bs zero h = Memᴰ.head refl
among_at (suc n) bs (suc k) h = Memᴰ.tail (Memᴰ.cast (sym (next bs k)) (among_at n (drop 96 bs) k (le_of_suc-le-suc h)))

pub place_of : (n : ℕ) (bs r : List ℕ) → Among bs n r → (k : ℕ) × (k < n) × (r ≡ record_at bs k)
unfolding records_in
place_of zero bs r m = absurd (Memᴰ.not-nil m)
place_of (suc n) bs r m = ⊎_elim
    (λ e. (0, zero-lt-suc n, e))
    (λ t. let w = place_of n (drop 96 bs) r t in (suc w.0, suc-le-suc w.1, w.2 ∙ next bs w.0))
    (Memᴰ.cases_cons m)

pub ordered : (n : ℕ) (bs : List ℕ) → ascending (records_in n bs) ≡ true → (i j : ℕ) → i < j → j < n → below (record_at bs i) (record_at bs j) ≡ true
unfolding records_in
ordered n bs a i zero h l = absurd (omega arith)
ordered zero bs a i (suc j) h l = absurd (omega arith)
ordered (suc n) bs a zero (suc j) h l =
    first_below (take 96 bs) (records_in n (drop 96 bs)) a (record_at bs (suc j))
    (Memᴰ.cast (sym (next bs j)) (among_at n (drop 96 bs) j (le_of_suc-le-suc l)))
ordered (suc n) bs a (suc i) (suc j) h l =
    rw (← next bs i, ← next bs j) (ordered n (drop 96 bs) (rest_ascends (take 96 bs) (records_in n (drop 96 bs)) a) i j (le_of_suc-le-suc h) (le_of_suc-le-suc l))

-- the records of a whole and of its parts

pub records_add : (a b : ℕ) (bs : List ℕ) → records_in (a + b) bs ≡ records_in a bs ++ records_in b (drop (96 * a) bs)
unfolding records_in
records_add zero b bs = rw zero-add
records_add (suc a) b bs =
    let e : 96 + 96 * a ≡ 96 * suc a = omega arith in
    rw (suc-add, records_add a b (drop 96 bs), drop-drop (96 * a) 96 bs, e)

pub records_split : (n p : ℕ) (bs : List ℕ) → p ≤ n → records_in n bs ≡ records_in p bs ++ records_in (n - p) (drop (96 * p) bs)
records_split n p bs h = let e : n ≡ p + (n - p) = omega arith in ap (λ (k : ℕ). records_in k bs) e ∙ records_add p (n - p) bs

pub records_cons : (n : ℕ) (r bs : List ℕ) → length r ≡ 96 → records_in (suc n) (r ++ bs) ≡ r ∷ records_in n bs
unfolding records_in
records_cons n r bs l = rw (take_at r bs 96 l, drop_at r bs 96 l)

pub records_front : (n : ℕ) (xs ys : List ℕ) → 96 * n ≤ length xs → records_in n (xs ++ ys) ≡ records_in n xs
unfolding records_in
records_front zero xs ys l = refl
records_front (suc n) xs ys l =
    let h : 96 ≤ length xs = omega arith in
    let k : 96 * n ≤ length (drop 96 xs) = simp length-drop (omega arith) in
    rw (take-append-le 96 xs ys h, drop-append-le 96 xs ys h, records_front n (drop 96 xs) ys k)

pub records_take : (n m : ℕ) (bs : List ℕ) → 96 * n ≤ m → m ≤ length bs → records_in n (take m bs) ≡ records_in n bs
records_take n m bs l h =
    let k : 96 * n ≤ length (take m bs) = rw (length-take-le m bs h) l in
    sym (records_front n (take m bs) (drop m bs) k) ∙ ap (λ (xs : List ℕ). records_in n xs) (take-append-drop m bs)

-- in a row

pub records_row : (n : ℕ) (bs : List ℕ) → concat_map (λ r. r) (records_in n bs) ≡ take (96 * n) bs
unfolding records_in
records_row zero bs = refl
records_row (suc n) bs =
    let e : 96 + 96 * n ≡ 96 * suc n = omega arith in
    rw (records_row n (drop 96 bs)) (sym (take-add 96 (96 * n) bs) ∙ ap (λ (k : ℕ). take k bs) e)

pub held_bytes : {bs : List ℕ} {n : ℕ} → Held bs n → bs ≡ concat_map (λ r. r) (records_in n bs) ++ replicate (length bs - 96 * n) 0
held_bytes {bs} {n} h = sym (take-append-drop (96 * n) bs) ∙ (λ i. sym (records_row n bs) i ++ h.rest i)

pub held_zeros : (size : ℕ) (bs : List ℕ) → bs ≡ replicate size 0 → Held bs 0
unfolding records_in
held_zeros size bs e = record { room = omega arith; sorted = refl; rest = rw (sub-zero, e, length-replicate) }

pub drop_zeros : (k n : ℕ) → drop {A = ℕ} k (replicate n 0) ≡ replicate (n - k) 0
drop_zeros zero n = rw sub-zero
drop_zeros (suc k) zero = rw zero-sub
drop_zeros (suc k) (suc n) = rw (suc-sub-suc, drop_zeros k n)
