-- A record put at its place among the records of a buffer: the three answers of an insertion. Assumes nothing.
use mathlib.Core.Path.{◌≡◌, refl, sym, ap, ◌∙◌, subst}
use mathlib.Core.Logic.{◌⊎◌, inl, ⊎_elim, ◌↔◌}
use mathlib.Core.Bool.{true, false, true≢false, false≢true}
use mathlib.Core.List.Memᴰ
use mathlib.Core.List.{List, [], ◌∷◌, ◌++◌, append-nil, Memᴰ}
use Prim.Native.Nat.{ℕ, suc, ◌+◌, ◌-◌, ◌*◌, ◌/◌, ◌≤◌, ◌<◌}
use native.Mathlib.Omega.{arith}
use lib.ListN.{length, take, drop, replicate, length-append, length-drop, drop_of_length-le}
use lib.Seq.{take_all, drop_at, drop-drop, length-take-le}
use borrow.Rule.Slice.PartMut.{put_mid}
use Rattle.words.proofs.Bools.{decide}
use Rattle.runs.specs.Listing.{below, ascending}
use Rattle.records.specs.Buffer.{record_at, records_in, Among, Held}
use Rattle.records.specs.Growth.{Joined}
use Rattle.records.specs.Insertion.{Place, Insertion}
use Rattle.runs.proofs.ByteOrder.{below_total}
use Rattle.records.proofs.Ascending.{members_put, ascending_put}
use Rattle.records.proofs.Buffer.{
  records_length,
  record_drop,
  among_at,
  place_of,
  records_add,
  records_split,
  records_cons,
  records_front,
  records_take,
  drop_zeros,
}

-- the tail `&mut out[a..]`, lent and given back

pub tail_lent : (a : ℕ) (bs : List ℕ) → take (length bs - a) (drop a bs) ≡ drop a bs
tail_lent a bs = take_all (length bs - a) (drop a bs) (simp length-drop (omega arith))

pub tail_back : (a : ℕ) (bs ys : List ℕ) → put_mid a (length bs - a) bs ys ≡ take a bs ++ ys
tail_back a bs ys =
    let h : length (drop a bs) ≤ length bs - a = simp length-drop (omega arith) in
    let e : drop (length bs - a) (drop a bs) ≡ [] = drop_of_length-le (drop a bs) h in
    ap (λ (zs : List ℕ). take a bs ++ (ys ++ zs)) e ∙ ap (λ (zs : List ℕ). take a bs ++ zs) (append-nil ys)

-- r before the first u bytes of a tail, which move up
abbrev pub shifted : List ℕ → ℕ → List ℕ → List ℕ
shifted r u tail = r ++ (take u tail ++ drop (u + 96) tail)

-- r put at the place p among n records
abbrev pub put_at : List ℕ → List ℕ → ℕ → ℕ → List ℕ
put_at bs r n p = take (96 * p) bs ++ shifted r (96 * (n - p)) (drop (96 * p) bs)

module _ (bs r : List ℕ) (n p : ℕ) where
  -- what is written to the tail, said of the whole
  pub put_back : (last : List ℕ) → last ≡ shifted r (96 * (n - p)) (take (length bs - 96 * p) (drop (96 * p) bs)) →
      put_mid (96 * p) (length bs - 96 * p) bs last ≡ put_at bs r n p
  put_back last e =
      tail_back (96 * p) bs last
      ∙ ap (λ (ys : List ℕ). take (96 * p) bs ++ ys) (e ∙ ap (λ (tail : List ℕ). shifted r (96 * (n - p)) tail) (tail_lent (96 * p) bs))

  module _ (within : p ≤ n) (room : 96 * n + 96 ≤ length bs) (size : length r ≡ 96) where
    head_length : length (take (96 * p) bs) ≡ 96 * p
    head_length = length-take-le (96 * p) bs (omega arith)

    tail_length : length (drop (96 * p) bs) ≡ length bs - 96 * p
    tail_length = length-drop (96 * p) bs

    moved_length : length (take (96 * (n - p)) (drop (96 * p) bs)) ≡ 96 * (n - p)
    moved_length = length-take-le (96 * (n - p)) (drop (96 * p) bs) (omega (arith, tail_length))

    records_put : records_in (n + 1) (put_at bs r n p) ≡ records_in p bs ++ r ∷ records_in (n - p) (drop (96 * p) bs)
    records_put =
        let u : ℕ = 96 * (n - p) in
        let tail : List ℕ = drop (96 * p) bs in
        let e : n + 1 ≡ p + suc (n - p) = omega arith in
        let k : 96 * p ≤ length (take (96 * p) bs) = omega (arith, head_length) in
        let h : u ≤ length tail = omega (arith, tail_length) in
        let j : u ≤ length (take u tail) = omega (arith, moved_length) in
        ap (λ (i : ℕ). records_in i (put_at bs r n p)) e
        ∙ records_add p (suc (n - p)) (put_at bs r n p)
        ∙ rw (
          records_front p (take (96 * p) bs) (shifted r u tail) k,
          records_take p (96 * p) bs (omega arith) (omega arith),
          drop_at (take (96 * p) bs) (shifted r u tail) (96 * p) head_length,
          records_cons (n - p) r (take u tail ++ drop (u + 96) tail) size,
          records_front (n - p) (take u tail) (drop (u + 96) tail) j,
          records_take (n - p) u tail (omega arith) h,
        )

    length_put : length (put_at bs r n p) ≡ length bs
    length_put = simp (length-append, length-drop, moved_length, head_length, size) (omega arith)

    rest_put : drop (96 * n) bs ≡ replicate (length bs - 96 * n) 0 → drop (96 * (n + 1)) (put_at bs r n p) ≡ replicate (length (put_at bs r n p) - 96 * (n + 1)) 0
    rest_put z =
        let u : ℕ = 96 * (n - p) in
        let tail : List ℕ = drop (96 * p) bs in
        let e₁ : 96 * (n + 1) ≡ 96 * p + (96 + u) = omega arith in
        let e₂ : 96 * p + (u + 96) ≡ 96 * n + 96 = omega arith in
        let e₃ : length bs - 96 * n - 96 ≡ length (put_at bs r n p) - 96 * (n + 1) = omega (arith, length_put) in
        ap (λ (k : ℕ). drop k (put_at bs r n p)) e₁
        ∙ sym (drop-drop (96 + u) (96 * p) (put_at bs r n p))
        ∙ ap (λ (xs : List ℕ). drop (96 + u) xs) (drop_at (take (96 * p) bs) (shifted r u tail) (96 * p) head_length)
        ∙ sym (drop-drop u 96 (shifted r u tail))
        ∙ ap (λ (xs : List ℕ). drop u xs) (drop_at r (take u tail ++ drop (u + 96) tail) 96 size)
        ∙ drop_at (take u tail) (drop (u + 96) tail) u moved_length
        ∙ drop-drop (u + 96) (96 * p) bs
        ∙ ap (λ (k : ℕ). drop k bs) e₂
        ∙ sym (drop-drop 96 (96 * n) bs)
        ∙ ap (λ (xs : List ℕ). drop 96 xs) z
        ∙ drop_zeros 96 (length bs - 96 * n)
        ∙ ap (λ (k : ℕ). replicate k 0) e₃

module _ {bs r : List ℕ} {n p : ℕ} (held : Held bs n) (w : Place bs n r p) where
  low : List (List ℕ)
  low = records_in p bs

  high : List (List ℕ)
  high = records_in (n - p) (drop (96 * p) bs)

  whole : records_in n bs ≡ low ++ high
  unfolding low high
  whole = records_split n p bs w.within

  -- r is there
  pub inserted_same : Among bs n r → Insertion r bs n bs n false
  inserted_same m =
      record {
        grown = record {
          filled = record { size = refl; held = λ _. held; lacks = λ f. absurd (false≢true f) };
          members = λ _ x. (inl, ⊎_elim (λ h. h) (λ q. Memᴰ.cast q m));
        };
        refused = (λ f. absurd (false≢true f), λ h. absurd (h.0 m));
        kept = λ f. absurd (false≢true f);
      }

  module _ (new : Among bs n r → ⊥) where
    low_below : (x : List ℕ) → Memᴰ x low → below x r ≡ true
    unfolding low
    low_below x m = let k = place_of p bs x m in rw k.2 (w.under k.0 k.1)

    above_at : (y : List ℕ) (k : ℕ) → k < n - p → y ≡ record_at (drop (96 * p) bs) k → below r y ≡ true
    above_at y k l e = ⊎_elim (λ h. h) (λ h. absurd (new (Memᴰ.cast (sym (below_total y r not-below h) ∙ at_k) (among_at n bs (p + k) inside)))) (decide (below r y))
      where
        inside : p + k < n
        inside = omega arith

        at_k : y ≡ record_at bs (p + k)
        at_k = e ∙ record_drop bs p k

        not-below : below y r ≡ false
        not-below = ap (λ (x : List ℕ). below x r) at_k ∙ w.over (p + k) (omega arith) inside

    high_above : (y : List ℕ) → Memᴰ y high → below r y ≡ true
    unfolding high
    high_above y m = let k = place_of (n - p) (drop (96 * p) bs) y m in above_at y k.0 k.1 k.2

    sorted_put : ascending (low ++ r ∷ high) ≡ true
    sorted_put = ascending_put r low high (ap ascending (sym whole) ∙ held.sorted) low_below high_above

    now_among : (x : List ℕ) → Memᴰ x (low ++ r ∷ high) ↔ Joined bs n (λ x. x ≡ r) x
    now_among x = subst (λ (xs : List (List ℕ)). Memᴰ x (low ++ r ∷ high) ↔ (Memᴰ x xs ⊎ (x ≡ r))) (sym whole) (members_put x r low high)

    longer : length (low ++ r ∷ high) ≡ suc n
    unfolding low high
    longer = simp length-append (omega (arith, records_length p bs, records_length (n - p) (drop (96 * p) bs), w.within))

    -- r is new, and there is no room
    pub inserted_full : length bs / 96 ≤ n → Insertion r bs n bs n true
    inserted_full few =
        record {
          grown = record {
            filled = record {
              size = refl;
              held = λ f. absurd (true≢false f);
              lacks = λ _. record { some = low ++ r ∷ high; sorted = sorted_put; pass = λ x m. (now_among x).0 m; many = omega (arith, longer) };
            };
            members = λ f. absurd (true≢false f);
          };
          refused = (λ _. (new, few), λ _. refl);
          kept = λ _. (refl, refl);
        }

    -- r is new, and goes in
    pub inserted_put : length r ≡ 96 → n < length bs / 96 → (after : List ℕ) → after ≡ put_at bs r n p → Insertion r bs n after (n + 1) false
    unfolding low high
    inserted_put size more after q =
        let within : p ≤ n = w.within in
        let room : 96 * n + 96 ≤ length bs = omega arith in
        let listed : records_in (n + 1) (put_at bs r n p) ≡ low ++ r ∷ high = records_put bs r n p within room size in
        let len : length (put_at bs r n p) ≡ length bs = length_put bs r n p within room size in
        subst (λ (xs : List ℕ). Insertion r bs n xs (n + 1) false) (sym q)
        (record {
          grown = record {
            filled = record {
              size = len;
              held = λ _. record {
                room = omega arith;
                sorted = ap ascending listed ∙ sorted_put;
                rest = rest_put bs r n p within room size held.rest;
              };
              lacks = λ f. absurd (false≢true f);
            };
            members = λ _ x. subst (λ (xs : List (List ℕ)). Memᴰ x xs ↔ Joined bs n (λ x. x ≡ r) x) (sym listed) (now_among x);
          };
          refused = (λ f. absurd (false≢true f), λ h. absurd (omega (arith, h.1)));
          kept = λ f. absurd (false≢true f);
        })
