-- The text is that of the answer, and fits. Assumes nothing.
use mathlib.Core.Path.{refl, ap}
use Prim.Native.Nat.{◌*◌, ◌/◌, ◌≤◌}
use native.Mathlib.Omega.{arith}
use lib.ListN.{length, take, get_or, length-take}
use lib.Seq.{length-take-le}
use Rattle.records.specs.Buffer.{records_in}
use Rattle.listing.proofs.Exact.{outcomes_room}
use Rattle.lines.specs.Answers.{refusal_line}
use Rattle.lines.specs.Outcome.{list_text}
use Rattle.lines.proofs.Behind.{laid_printed, printed_as}
use Rattle.outcomes.proofs.Texts.{refused_said, listed-said, few_present, records_part, longest}
use Rattle.outcomes.proofs.list.Goals as goal

pub returns-else-listed-eq0 : goal.returns-else-listed-eq0
returns-else-listed-eq0 c =
    let line = c.refusal.ensures in
    let x = c.outcomes-listed in
    record {
      text = refusal_line x.result.code x.result.position;
      said = refused_said c.args.input.now c.from.ensures refl x.ensures c.if-listed-eq0.false;
      printed = laid_printed line.laid (omega (arith, line.short, c.requires));
    }

pub slice_bounds-outcomes-end : goal.slice_bounds-outcomes-end
slice_bounds-outcomes-end c = omega (arith, c.requires, length-take 512 c.args.input.now)

pub overflow_mul-records : goal.overflow_mul-records
overflow_mul-records c =
    let room = outcomes_room _ _ _ _ _ _ c.outcomes-listed.ensures c.if-listed-eq0.true in
    omega (arith, room)

pub slice_bounds-records-end : goal.slice_bounds-records-end
slice_bounds-records-end c =
    let room = outcomes_room _ _ _ _ _ _ c.outcomes-listed.ensures c.if-listed-eq0.true in
    omega (arith, room, c.outcomes-listed.auto.out)

pub returns-then-listed-eq0 : goal.returns-then-listed-eq0
returns-then-listed-eq0 c =
    let lines = c.list.ensures in
    let x = c.outcomes-listed in
    let input = c.args.input.now in
    let records = x.new.out in
    let procs = get_or input 0 0 in
    let none = c.if-listed-eq0.true in
    let room : 96 * x.result.count ≤ length records = omega (arith, outcomes_room _ _ _ _ _ _ x.ensures none, x.auto.out) in
    let count : x.result.count ≤ 682 = omega (arith, outcomes_room _ _ _ _ _ _ x.ensures none) in
    let few = few_present input c.from.ensures refl x.ensures none in
    let part = take (96 * x.result.count) records in
    let fewer : length part / 96 ≤ 682 = omega (arith, count, length-take-le (96 * x.result.count) records (omega (arith, room))) in
    let said = ap (list_text procs x.result.cut) (records_part x.result.count records room) in
    record {
      text = list_text procs x.result.cut (records_in x.result.count records);
      said = listed-said input c.from.ensures refl x.ensures none;
      printed = printed_as said (laid_printed lines.laid (omega (arith, lines.short, longest procs (length part / 96) few fewer, c.requires)));
    }
