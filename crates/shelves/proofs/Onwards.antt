-- A piece read on, whether it ends before a block is full or not. Assumes nothing.
use mathlib.Core.Path.{◌≡◌, sym, ap, ap₂, ◌∙◌}
use mathlib.Core.List.{List, ◌++◌, append_assoc}
use Prim.Native.Nat.{ℕ, ◌+◌, ◌*◌, ◌-◌, ◌/◌, ◌%◌, ◌≤◌, ◌<◌, min}
use native.Mathlib.Omega.{arith}
use lib.ListN.{length, take, drop, length-append, take-append-drop}
use lib.Seq.{take_all}
use Rattle.shelves.specs.declared.Tally.{Tally}
use Rattle.shelves.specs.declared.Reading.{Reading}
use Rattle.shelves.specs.Blocks.{blocks_of, left_over}
use Rattle.shelves.specs.Tallies.{tally_of, counted_all}
use Rattle.shelves.specs.Readings.{Settled, After, Onwards}
use Rattle.shelves.proofs.Adding.{counted-append}
use Rattle.shelves.proofs.Tallying.{tally_all}
use Rattle.shelves.proofs.Splitting.{blocks_append, left-append, blocks_short, left_short, left-length, blocks_on, left_on}

-- what a block's end leaves over
pub left-is : (bytes : List ℕ) → drop (length bytes - length bytes % 512) bytes ≡ left_over bytes
unfolding left_over
left-is bytes =
    let starts : length bytes - length bytes % 512 ≡ 512 * (length bytes / 512) = omega arith in
    ap (λ (n : ℕ). drop n bytes) starts

-- the block left over, filled with the first n bytes of the piece
module _ (r s : Reading) (piece filled : List ℕ) (end n : ℕ) (ends : end ≡ min r.over 512) (takes : n ≡ min (length piece) (512 - end)) (front : take (end + n) filled ≡ take end r.rest ++ take n piece) where
  module _ (file : List ℕ) (known : After file r) where
    abbrev left : List ℕ
    left = left_over file

    ends_there : end ≡ r.over
    ends_there = omega (arith, known.over, left-length file)

    -- the tally with all that the piece brings
    grown : counted_all r.tally (blocks_of (left ++ piece)) ≡ tally_of (blocks_of (file ++ piece))
    grown =
        ap (λ (t : Tally). counted_all t (blocks_of (left ++ piece))) known.counts
        ∙ tally_all (blocks_of file) (blocks_of (left ++ piece))
        ∙ ap tally_of (sym (blocks_on file piece))

    filled-front : take (end + n) filled ≡ left ++ take n piece
    filled-front = front ∙ ap (λ (l : List ℕ). l ++ take n piece) (ap (λ (k : ℕ). take k r.rest) ends_there ∙ known.rest)

    short : end + n < 512 → s.tally ≡ r.tally → s.over ≡ end + n → s.rest ≡ filled → After (file ++ piece) s
    unfolding counted_all
    short h t o e =
        let all : take n piece ≡ piece = take_all n piece (omega arith) in
        let size : length (left ++ piece) ≡ end + n = omega (arith, length-append left piece, known.over, ends_there) in
        let few : length (left ++ piece) < 512 = omega arith in
        let stays : left_over (file ++ piece) ≡ left ++ piece = left_on file piece ∙ left_short (left ++ piece) few in
        record {
          counts = t ∙ ap (counted_all r.tally) (sym (blocks_short (left ++ piece) few)) ∙ grown;
          over = o ∙ sym (ap length stays ∙ size);
          rest = ap₂ take o e ∙ filled-front ∙ ap (λ (l : List ℕ). left ++ l) all ∙ sym stays;
        }

    full : length filled ≡ 512 → 512 ≤ end + n → Settled (counted_all (counted_all r.tally (blocks_of filled)) (blocks_of (drop n piece))) (drop n piece) s → After (file ++ piece) s
    full size h settled =
        let block : filled ≡ left ++ take n piece = sym (take_all (end + n) filled (omega arith)) ∙ filled-front in
        let whole : length (left ++ take n piece) % 512 ≡ 0 = omega (arith, ap length block) in
        let cut : left ++ piece ≡ (left ++ take n piece) ++ drop n piece = ap (λ (l : List ℕ). left ++ l) (sym (take-append-drop n piece)) ∙ sym (append_assoc left (take n piece) (drop n piece)) in
        let blocks : blocks_of (left ++ piece) ≡ blocks_of filled ++ blocks_of (drop n piece) = ap blocks_of cut ∙ blocks_append (left ++ take n piece) (drop n piece) whole ∙ ap (λ (l : List ℕ). blocks_of l ++ blocks_of (drop n piece)) (sym block) in
        let stays : left_over (file ++ piece) ≡ left_over (drop n piece) = left_on file piece ∙ ap left_over cut ∙ left-append (left ++ take n piece) (drop n piece) whole in
        record {
          counts = settled.counts ∙ sym (counted-append r.tally (blocks_of filled) (blocks_of (drop n piece))) ∙ ap (counted_all r.tally) (sym blocks) ∙ grown;
          over = settled.over ∙ ap length (sym stays);
          rest = settled.rest ∙ sym stays;
        }

  -- the block is not full yet
  pub short_on : end + n < 512 → s.tally ≡ r.tally → s.over ≡ end + n → s.rest ≡ filled → Onwards r piece s
  short_on h t o e = record { after = λ file known. short file known h t o e }

  -- it is full, and the rest of the piece is settled
  pub full_on : length filled ≡ 512 → 512 ≤ end + n → Settled (counted_all (counted_all r.tally (blocks_of filled)) (blocks_of (drop n piece))) (drop n piece) s → Onwards r piece s
  full_on size h settled = record { after = λ file known. full file known size h settled }
