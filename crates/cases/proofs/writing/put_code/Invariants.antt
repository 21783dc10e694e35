use mathlib.Core.Path.{◌≡◌}
use mathlib.Core.List.{◌++◌}
use Prim.Native.Nat.{◌+◌, ◌*◌}
use lib.ListN.{length, take}
use Rattle.words.specs.Small.{concat_map}
use Rattle.cases.specs.Block.{slot_bytes}
use Rattle.cases.proofs.writing.put_code.Given as goal

-- The front of the buffer is what it was, then the slots put so far (`Puts`, parts of six bytes).
abbrev pub invariant-loop-n : goal.invariant-loop-n
invariant-loop-n l = (length l.block ≡ length l.initial.block) × (take (92 + 6 * l.n) l.block ≡ take 92 l.initial.block ++ concat_map slot_bytes (take l.n l.code))
