use mathlib.Core.Path.{◌≡◌}
use Prim.Native.Nat.{ℕ, ◌*◌, ◌≤◌, ◌<◌}
use lib.ListN.{length, get_or}
use Rattle.cases.specs.declared.Case.{Case}
use Rattle.rules.specs.State.{State}
use Rattle.rules.specs.Result.{registers as registers_of}
use Rattle.machine.specs.Shown.{names_of, Presets, Acts}
use Rattle.machine.proofs.registers.Given as goal

abbrev pub invariant-loop-n : goal.invariant-loop-n
invariant-loop-n l = (length l.out ≡ 96) × ((j : ℕ) → 3 * l.n ≤ j → j < 96 → get_or l.out j 0 ≡ 0) × ((c : Case) (s : State) → c.procs ≡ l.case.procs → Presets c l.case.masks l.case.presets → Acts c l.m.issued l.m.acts s → s.names ≡ names_of c l.m.names → (j : ℕ) → j < 3 * l.n → get_or l.out j 0 ≡ get_or (registers_of c s) j 0)
