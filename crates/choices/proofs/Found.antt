-- What was found, or the answer for none. Assumes nothing.
use Rattle.std.proofs.Common.{Option, Some, None}
use Rattle.std.specs.Option.{MatchOption, IfSome, unwrap_or}
use mathlib.Core.Path.{◌≡◌}
use mathlib.Core.Bool.{true}
use mathlib.Core.List.{List}
use Prim.Native.Nat.{ℕ, ◌<◌, ◌≤◌}
use native.Mathlib.Omega.{arith}
use Rattle.cases.specs.declared.Case.{Case}
use Rattle.rules.specs.State.{State}
use Rattle.sure.specs.Quiet.{ended}
use Rattle.choices.specs.declared.Quiet.{Quiet}
use Rattle.choices.specs.Choice.{QuietAt}
use Rattle.choices.specs.Finding.{FirstFresh, DeadAt, Settled}
use Rattle.choices.proofs.Answers.{quiet_none, quiet-some}

pub fresh_or : (word : ℕ) (now : List ℕ) (j end : ℕ) (r : Option ℕ) → MatchOption r (FirstFresh word now j end end) (λ i. (i < end) × FirstFresh word now j end i) → FirstFresh word now j end (unwrap_or r end)
fresh_or word now j end None F = F
fresh_or word now j end (Some i) F = F.1

pub dead_or : (c : Case) (s : State) (r : Option ℕ) → IfSome r (DeadAt c s) → unwrap_or r 3200 < 3200 → DeadAt c s (unwrap_or r 3200)
dead_or c s None D l = absurd (omega arith)
dead_or c s (Some j) D l = D

abbrev unquiet : Quiet
unquiet = record { read = 48; sources = 0 }

pub quiet_low : (r : Option Quiet) → IfSome r (λ q. q.read < 48) → (unwrap_or r unquiet).read ≤ 48
quiet_low None l = omega arith
quiet_low (Some q) l = omega arith

pub quiet_or : (c : Case) (s : State) (r : Option Quiet) → ended c s ≡ true → IfSome r (λ q. Settled c s q.read q.sources) → QuietAt c s (unwrap_or r unquiet).read (unwrap_or r unquiet).sources
quiet_or c s None e S = quiet_none c s
quiet_or c s (Some q) e S = quiet-some c s q.read q.sources e (λ l. S)
