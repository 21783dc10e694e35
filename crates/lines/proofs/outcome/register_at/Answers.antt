use mathlib.Core.Path.{◌≡◌}
use mathlib.Core.List.{◌∷◌}
use native.Mathlib.Omega.{arith}
use Rattle.lines.specs.Outcome.{register, register_at}
use Rattle.lines.proofs.Behind.{laid_then, laid_as}
use Rattle.lines.proofs.Pieces.{register_at_short}
use Rattle.lines.proofs.outcome.register_at.Goals as goal

pub returns : goal.returns
unfolding register_at
returns c =
    let args = c.args in
    let outcome = args.outcome.now in
    let said : 32 ∷ register c.byte-defined.result c.byte-high.result c.byte-low.result ≡ register_at outcome args.p args.k = rw (c.byte-defined.ensures.is, c.byte-high.ensures.is, c.byte-low.ensures.is) in record {
      laid = laid_as said (laid_then c.put-behind_gap.ensures c.register.ensures);
      short = register_at_short outcome args.p args.k (omega (arith, c.byte-high.ensures.is, c.byte-high.ensures.low)) (omega (arith, c.byte-low.ensures.is, c.byte-low.ensures.low));
    }
