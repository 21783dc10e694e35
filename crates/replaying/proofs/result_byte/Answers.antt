use mathlib.Core.Path.{◌∙◌, ap}
use mathlib.Core.List.{List}
use Prim.Native.Nat.{ℕ}
use lib.ListN.{get_or}
use Rattle.replaying.proofs.Results.{result-register, result_tail}
use Rattle.replaying.proofs.result_byte.Goals as goal

pub returns-then-i-lt96 : goal.returns-then-i-lt96
returns-then-i-lt96 c = let a = c.args in λ k s e h q r. ap (λ (l : List ℕ). get_or l a.i 0) r ∙ result-register k s a.i c.if-i-lt96.true

pub returns-else-i-lt96 : goal.returns-else-i-lt96
returns-else-i-lt96 c = let a = c.args in λ k s e h q r. c.tail_byte.ensures k s e h q ∙ result_tail k s a.i c.if-i-lt96.false
