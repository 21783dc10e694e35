use mathlib.Core.Path.{◌≡◌}
use mathlib.Core.List.{◌++◌}
use Prim.Native.Nat.{◌+◌, ◌*◌}
use lib.ListN.{length, take}
use Rattle.words.specs.Small.{concat_map}
use Rattle.cases.specs.Instruction.{two}
use Rattle.cases.proofs.writing.put_words.Given as goal

-- The front of the buffer is what it was, then the words put so far (`Puts`, parts of two bytes).
abbrev pub invariant-loop-i : goal.invariant-loop-i
invariant-loop-i l = (length l.block ≡ length l.initial.block) × (take (l.at + 2 * l.i) l.block ≡ take l.at l.initial.block ++ concat_map two (take l.i l.words))
