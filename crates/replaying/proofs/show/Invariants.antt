use mathlib.Core.Path.{◌≡◌}
use Prim.Native.Nat.{ℕ, ◌≤◌, ◌<◌}
use lib.ListN.{length, get_or}
use Rattle.cases.specs.declared.Case.{Case}
use Rattle.rules.specs.Result.{registers as registers_of, result_bytes}
use Rattle.machine.specs.Shown.{shown}
use Rattle.replaying.proofs.show.Given as goal

abbrev pub invariant-loop-i : goal.invariant-loop-i
invariant-loop-i l = (l.i ≤ 104) × (length l.res ≡ 104) × ((c : Case) → c.procs ≡ l.case.procs → l.registers ≡ registers_of c (shown c l.m) → (j : ℕ) → j < l.i → get_or l.res j 0 ≡ get_or (result_bytes c (shown c l.m)) j 0)
