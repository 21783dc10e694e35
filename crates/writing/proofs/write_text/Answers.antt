use mathlib.Core.Path.{refl, ap, ◌∙◌}
use native.Mathlib.Omega.{arith}
use lib.ListN.{length, length-replicate}
use Prim.Native.Nat.{ℕ}
use Rattle.cases.proofs.Puts.{long_of}
use Rattle.judging.proofs.Bridge.{Long}
use Rattle.lines.proofs.Behind.{laid_printed, printed_text, printed_count}
use Rattle.writing.proofs.Writes.{few_counts, sound, write_faulty, write_short, write_whole}
use borrow.Author.Rules.{rules}
use Rattle.writing.proofs.write_text.Goals as goal

-- Refused by the record; refused by the buffer; written. Assumes nothing.
-- the lengths that the type of a case has
sized : (s : goal.After-page-1) → Long s.args.case
sized s = record { counts = search (long_of, rules); masks = search (long_of, rules); presets = search (long_of, rules); memory = search (long_of, rules); code = search (long_of, rules) }

pub returns-then-fault-ne0 : goal.returns-then-fault-ne0
returns-then-fault-ne0 c =
    let fault = c.fault-fault in
    write_faulty c.args.case (length c.args.out.now) fault.result fault.ensures _ c.if-fault-ne0.true (c.fill.ensures.after (λ y e. e))

pub lay-n-requires : goal.lay-n-requires
lay-n-requires c =
    let fault = c.fault-fault in
    few_counts c.args.case (sized c) (sound c.args.case 0 fault.result fault.ensures c.if-fault-ne0.false)

pub returns-then-n-out : goal.returns-then-n-out
returns-then-n-out c =
    let lay = c.lay-n in
    let zeros = c.fill.ensures.after (λ y e. e) in
    let fault = c.fault-fault in
    let size = length c.args.out.now in
    write_short c.args.case size fault.result fault.ensures c.if-fault-ne0.false _ _ lay.result refl (record { laid = lay.ensures.laid; short = lay.ensures.short }) _ (omega (arith, c.if-n-out.true, ap length zeros, length-replicate {A = ℕ} size 0)) zeros

pub slice_bounds-copy_from_slice-end-3 : goal.slice_bounds-copy_from_slice-end-3
slice_bounds-copy_from_slice-end-3 c =
    let lay = c.lay-n in
    printed_count (laid_printed lay.ensures.laid (omega (arith, lay.ensures.short)))

pub returns : goal.returns
returns c =
    let lay = c.lay-n in
    let fault = c.fault-fault in
    let size = length c.args.out.now in
    let said = c.copy_from_slice.ensures.after ∙ printed_text (laid_printed lay.ensures.laid (omega (arith, lay.ensures.short))) in
    write_whole c.args.case size fault.result fault.ensures c.if-fault-ne0.false _ _ lay.result refl (record { laid = lay.ensures.laid; short = lay.ensures.short }) _ _ _ (omega (arith, c.if-n-out.false, c.fill.ensures.len)) (c.fill.ensures.after (λ y e. e)) said refl
