-- Request 10: small cases, a schedule of each, and its first race. Assumes nothing.
use Rattle.std.specs.Prelude.{◌≡◌, List, [], ◌∷◌, ℕ}
use Rattle.cases.specs.declared.Instr.{Instr}
use Rattle.cases.specs.declared.Instr.TheVariants.{Read, Write, Acquire, Release}
use Rattle.cases.specs.declared.Case.{Case}
use Rattle.cases.specs.Block.{Sound}
use Rattle.rules.specs.Step.{Step, issue, commit}
use Rattle.rules.specs.Building.{plain}
use Rattle.rules.specs.Claims.{reached, code_of, Every}
use Rattle.races.specs.Race.{FirstRace}

-- A case of two locations and two processors, a schedule, and the two numbers.
pub record Sample : Type 0 where
  pub case : Case
  pub steps : List Step
  pub first : ℕ
  pub second : ℕ

abbrev pub sample : List Instr → List Instr → List Step → ℕ → ℕ → Sample
sample p q ts j k = record { case = plain 2 (p ∷ q ∷ []); steps = ts; first = j; second = k }

-- Its case is sound, its schedule is accepted, and the first race is that.
pub record Shows (x : Sample) : Type 0 where
  pub sound : Sound x.case
  pub accepted : code_of x.case x.steps ≡ 0
  pub race : FirstRace x.steps (reached x.case x.steps) x.first x.second

-- An access inside the lock of location l.
abbrev pub locked : ℕ → Instr → List Instr
locked l i = Acquire l ∷ i ∷ Release l ∷ []

-- Three actions of each processor are issued; then processor 0 commits its own, then processor 1, whose read takes item e.
abbrev pub threes : ℕ → List Step
threes e =
    issue 0 ∷ issue 0 ∷ issue 0 ∷ issue 1 ∷ issue 1 ∷ issue 1
    ∷ commit 0 0 0 ∷ commit 0 1 0 ∷ commit 0 2 0 ∷ commit 1 3 0 ∷ commit 1 4 e ∷ commit 1 5 0 ∷ []

-- Processor 0 takes and frees the lock, then processor 1 does; then processor 0 reads x.
abbrev pub afterwards : List Step
afterwards =
    issue 0 ∷ issue 0 ∷ issue 0 ∷ issue 1 ∷ issue 1 ∷ issue 1
    ∷ commit 0 0 0 ∷ commit 0 1 0 ∷ commit 1 3 0 ∷ commit 1 4 0 ∷ commit 1 5 0 ∷ commit 0 2 12 ∷ []

abbrev pub samples : List Sample
samples =
    -- H: both words race, x with the lower numbers
    sample (Write 0 1 ∷ Write 1 1 ∷ []) (Read 2 1 ∷ Read 3 0 ∷ []) (issue 0 ∷ issue 0 ∷ issue 1 ∷ issue 1 ∷ commit 0 0 0 ∷ commit 0 1 0 ∷ commit 1 2 9 ∷ commit 1 3 0 ∷ []) 0 3
    -- two reads do not race
    ∷ sample (Read 2 0 ∷ []) (Read 2 0 ∷ []) (issue 0 ∷ issue 1 ∷ commit 0 0 0 ∷ commit 1 1 0 ∷ []) 255 255
    -- nor do two accesses of one processor, committed in turn or not
    ∷ sample (Write 0 1 ∷ Read 2 1 ∷ Write 0 1 ∷ []) [] (issue 0 ∷ issue 0 ∷ issue 0 ∷ commit 0 2 0 ∷ commit 0 1 1 ∷ commit 0 0 0 ∷ []) 255 255
    -- inside one lock there is none
    ∷ sample (locked 1 (Write 0 1)) (locked 1 (Read 2 0)) (threes 9) 255 255
    -- inside two locks there is
    ∷ sample (locked 0 (Write 0 1)) (locked 1 (Read 2 0)) (threes 9) 1 4
    -- an access after the lock was freed races with the next holder's
    ∷ sample (Acquire 1 ∷ Release 1 ∷ Read 2 0 ∷ []) (locked 1 (Write 0 1)) afterwards 2 4
    ∷ []

abbrev pub Samples : Type 0
Samples = Every Shows samples
