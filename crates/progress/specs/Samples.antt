-- Request 11: two states in which every reason is met. Assumes nothing.
use Rattle.std.specs.Prelude.{◌≡◌, List, [], ◌∷◌, ℕ}
use Rattle.cases.specs.declared.Case.{Case}
use Rattle.cases.specs.declared.Instr.TheVariants.{Read, Write, Local, Acquire, Release}
use Rattle.cases.specs.declared.Expr.TheVariants.{Sum}
use Rattle.cases.specs.Block.{Sound}
use Rattle.rules.specs.Step.{Step, issue, commit}
use Rattle.rules.specs.Building.{plain}
use Rattle.rules.specs.Claims.{code_of, reached}
use Rattle.progress.specs.Causes.{reasons}

-- A sound case, an accepted schedule, and the reasons then.
pub record Shows (c : Case) (ts : List Step) (answer : List ℕ) : Type 0 where
  pub sound : Sound c
  pub accepted : code_of c ts ≡ 0
  pub why : reasons c (reached c ts) ≡ answer

-- Processor 0 holds x and wants it again, processor 1 wants it too, processor 2 would release it, processor 3 has nothing queued.
abbrev pub locks : Case
locks = plain 1 ((Acquire 0 ∷ Acquire 0 ∷ []) ∷ (Acquire 0 ∷ []) ∷ (Release 0 ∷ []) ∷ [] ∷ [])

-- Processor 0 reads a register that it sets itself, processor 1 acquires location M, the older action of processor 2 may commit though the
-- newer may not, processor 3 reads x.
abbrev pub others : Case
others = plain 1 ((Local 2 (Sum 2 2) ∷ []) ∷ (Acquire 1 ∷ []) ∷ (Write 0 1 ∷ Release 0 ∷ []) ∷ (Read 2 0 ∷ []) ∷ [])

abbrev pub Samples : Type 0
Samples =
    Shows locks (issue 0 ∷ commit 0 0 0 ∷ issue 0 ∷ issue 1 ∷ issue 2 ∷ []) (1 ∷ 4 ∷ 5 ∷ 0 ∷ [])
    × Shows others (issue 0 ∷ issue 1 ∷ issue 2 ∷ issue 2 ∷ issue 3 ∷ []) (2 ∷ 3 ∷ 1 ∷ 1 ∷ [])
