use mathlib.Core.Path.{◌∙◌}
use Prim.Native.Nat.{suc}
use native.Mathlib.Omega.{arith}
use Rattle.lines.proofs.Behind.{laid_as}
use Rattle.lines.proofs.Digits.{spelled}
use Rattle.lines.proofs.number.decimal.Goals as goal

pub returns : goal.returns
returns c =
    let said = c.decimal-k in
    let n = c.args.n in
    laid_as (said.ensures.digits ∙ spelled said.result (suc n) n (omega arith) said.ensures.len) c.word.ensures
