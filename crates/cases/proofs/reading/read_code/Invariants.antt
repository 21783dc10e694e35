use mathlib.Core.Path.{◌≡◌}
use Prim.Native.Nat.{ℕ, ◌<◌}
use lib.ListN.{length, get_or}
use Rattle.cases.specs.Block.{slot_at}
use Rattle.cases.specs.declared.Instr.TheVariants.{Empty}
use Rattle.cases.proofs.reading.read_code.Given as goal

-- The slots passed are those of the block.
abbrev pub invariant-loop-n : goal.invariant-loop-n
invariant-loop-n l = (length l.code ≡ 48) × ((k : ℕ) → k < l.n → get_or l.code k (record { instr = Empty }) ≡ slot_at l.block k)
