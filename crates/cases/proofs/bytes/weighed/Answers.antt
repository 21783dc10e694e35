use native.Mathlib.Omega.{arith}
use Rattle.cases.proofs.Decoding.{weight_bound}
use borrow.Author.Rules.{rules}
use Rattle.cases.proofs.bytes.weighed.Goals as goal

pub overflow_mul-result : goal.overflow_mul-result
overflow_mul-result c = let h = weight_bound c.args.weight c.args.byte c.requires.weight_low c.requires.byte_low in omega arith

pub returns : goal.returns
returns c = let h = weight_bound c.args.weight c.args.byte c.requires.weight_low c.requires.byte_low in record { is = search rules; low = omega arith }
