-- Sure steps: where one is accepted, a search may take it alone. Assumes nothing.
use Rattle.std.specs.Prelude.{Bool, false, not, ◌&&◌, ◌||◌, ℕ, ◌+◌, ◌≤◌, ◌<◌, leb}
use Rattle.words.specs.Small.{some_below}
use Rattle.cases.specs.declared.Instr.{Instr}
use Rattle.cases.specs.declared.Case.{Case}
use Rattle.cases.specs.Case.{count_of, instr_at}
use Rattle.rules.specs.Kinds.{kind, reading, acquiring, jumping, label_of}
use Rattle.rules.specs.State.{State, kind_of}
use Rattle.rules.specs.Step.{Step, issue, commit, neither}

-- What the laws need of a sound case: at most 4 processors with at most 12 instructions each, so that 48 actions are enough
-- for programs that never jump back.
pub record Sized (c : Case) : Type 0 where
  pub few : c.procs ≤ 4
  pub short : (p : ℕ) → p < c.procs → count_of c p ≤ 12

-- The commit of a local, a branch, a goto, a write or a release: of neither a read nor an acquire.
abbrev pub sure_kind : ℕ → Bool
sure_kind k = not (reading k || acquiring k)

-- The instruction x, at place i, may lead back to i or before it.
abbrev pub backward : Instr → ℕ → Bool
backward x i = jumping (kind x) && leb (label_of x) i

-- Every label of the case lies past its own instruction.
unfoldable pub forward : Case → Bool
forward c = not (some_below c.procs (λ p. some_below (count_of c p) (λ i. backward (instr_at c p i) i)))

-- With n steps to go from s no issue can get code 23: no processor comes by an instruction twice, or the 48 actions outlast the steps.
abbrev pub roomy : Case → ℕ → State → Bool
roomy c n s = forward c || leb (s.count + n) 48

-- The step, if it is accepted at s, may be taken alone with n steps to go.
abbrev pub sure : Case → ℕ → State → Step → Bool
sure c n s (issue p) = roomy c n s
sure c n s (commit p k e) = sure_kind (kind_of (s.actions k))
sure c n s neither = false
