use Rattle.std.proofs.Common.{◌≡◌, ℕ, List, ◌++◌, ◌+◌, ◌-◌, length, take, drop, refl, sym, ap, subst, arith, rules, ◌∙◌}
use Rattle.std.proofs.lemmas.List.{take_rest}
use Rattle.std.proofs.lemmas.Slice.{take-put_mid, put_mid-paste}
use lib.Seq.{length-paste}
use borrow.Rule.Slice.PartMut.{put_mid}
use Rattle.shelves.specs.declared.Tally.{Tally}
use Rattle.shelves.specs.Blocks.{blocks_of}
use Rattle.shelves.specs.Tallies.{counted_all}
use Rattle.shelves.specs.Readings.{Settled}
use Rattle.shelves.proofs.Onwards.{short_on, full_on}
use Rattle.shelves.proofs.pieces.read_on.Goals as goal

-- The block left over is not full yet (`short_on`), or it is, and the rest is settled (`full_on`). Assumes nothing.
pub returns-then-over-n-lt512 : goal.returns-then-over-n-lt512
returns-then-over-n-lt512 c =
    let r = c.args.r in
    let end = c.min-over.result in
    let n = c.min-n.result in
    let copied = c.copy_from_slice.new.self in
    let long : length r.rest ≡ 512 = search rules in
    let size : length copied ≡ n = omega (arith, c.copy_from_slice.ensures.len) in
    let front = take-put_mid end (end + n - end) r.rest copied (end + n) (omega arith) (omega arith) in
    short_on r _ c.args.piece.now _ end n c.min-over.ensures c.min-n.ensures (front ∙ ap (λ (l : List ℕ). take end r.rest ++ l) c.copy_from_slice.ensures.after) c.if-over-n-lt512.true refl refl refl

pub returns : goal.returns
returns c =
    let r = c.args.r in
    let piece = c.args.piece.now in
    let end = c.min-over.result in
    let n = c.min-n.result in
    let s = c.settled.result in
    let copied = c.copy_from_slice.new.self in
    let filled = put_mid end (end + n - end) r.rest copied in
    let long : length r.rest ≡ 512 = search rules in
    let size : length copied ≡ n = omega (arith, c.copy_from_slice.ensures.len) in
    let front = take-put_mid end (end + n - end) r.rest copied (end + n) (omega arith) (omega arith) in
    let pasted = put_mid-paste end (end + n - end) r.rest copied copied n refl (omega arith) (sym size) in
    let whole : length filled ≡ 512 = ap length pasted ∙ length-paste r.rest end copied n (omega arith) (omega arith) ∙ long in
    full_on r s piece filled end n c.min-over.ensures c.min-n.ensures (front ∙ ap (λ (l : List ℕ). take end r.rest ++ l) c.copy_from_slice.ensures.after) whole (omega arith)
    (subst (λ (t : Tally). Settled (counted_all t (blocks_of (drop n piece))) (drop n piece) s) c.count_blocks.ensures
    (subst (λ (l : List ℕ). Settled (counted_all c.count_blocks.new.t (blocks_of l)) l s) (take_rest piece n) c.settled.ensures))
