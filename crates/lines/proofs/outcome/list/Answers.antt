use mathlib.Core.Path.{◌≡◌, sym, ap}
use mathlib.Core.List.{◌++◌}
use Prim.Native.Nat.{ℕ, ◌/◌}
use native.Mathlib.Omega.{arith}
use lib.ListN.{length, length-append}
use Rattle.words.specs.Small.{concat_map}
use Rattle.records.specs.Buffer.{records_in}
use Rattle.records.proofs.Buffer.{records_length}
use Rattle.lines.specs.Answers.{header_line}
use Rattle.lines.specs.Outcome.{outcome_line, list_text}
use Rattle.lines.proofs.Behind.{laid_then, laid_as}
use Rattle.lines.proofs.outcome.list.Goals as goal

pub returns : goal.returns
unfolding list_text
returns c =
    let args = c.args in
    let records = args.records.now in
    let n = length records / 96 in
    let text = concat_map (outcome_line args.procs) (records_in n records) in
    let count : n ≡ length (records_in n records) = sym (records_length n records) in
    let said = ap (λ (k : ℕ). header_line k args.cut ++ text) count in record {
      laid = laid_as said (laid_then c.header-behind_header.ensures.laid c.outcome_lines.ensures.laid);
      short = omega (arith, ap length said, length-append (header_line n args.cut) text, c.header-behind_header.ensures.short, c.outcome_lines.ensures.short);
    }
