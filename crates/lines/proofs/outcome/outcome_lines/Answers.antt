use mathlib.Core.Path.{sym, ap, ◌∙◌}
use mathlib.Core.List.{List, ◌++◌}
use Prim.Native.Nat.{ℕ}
use Rattle.words.specs.Small.{concat_map}
use Rattle.records.specs.Buffer.{records_in}
use Rattle.records.proofs.Buffer.{record_part}
use Rattle.lines.specs.Outcome.{outcome_line}
use Rattle.lines.proofs.Rows.{rows_none, rows_more, recorded_more}
use Rattle.lines.proofs.outcome.outcome_lines.Goals as goal

pub loop-k-init : goal.loop-k-init
unfolding records_in
loop-k-init c = rows_none _ _ _

pub loop-k-preserved : goal.loop-k-preserved
loop-k-preserved c =
    let args = c.args in
    let records = args.records.now in
    let line = outcome_line args.procs in
    let k = c.loop-k.k in
    let more = c.outcome_line-end.ensures in
    let said = recorded_more line records k ∙ ap (λ (r : List ℕ). concat_map line (records_in k records) ++ line r) (sym (record_part records k)) in
    rows_more c.loop-k.invariant more.laid more.short said
