use mathlib.Core.Path.{refl, sym}
use native.Mathlib.Omega.{arith}
use lib.Seq.{set_out}
use Rattle.lines.specs.Laid.{laid}
use Rattle.lines.proofs.laying.put.Goals as goal

pub returns-then-at-text : goal.returns-then-at-text
unfolding laid
returns-then-at-text c = record { bytes = refl; ends = omega arith }

pub returns-else-at-text : goal.returns-else-at-text
unfolding laid
returns-else-at-text c = record { bytes = sym (set_out c.args.text.now c.args.at c.args.b (omega arith)); ends = omega arith }
