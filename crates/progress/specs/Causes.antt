-- Request 11, 'nobody waits without cause': why the oldest queued action of a processor waits. Assumes nothing.
use Rattle.std.specs.Prelude.{◌≡◌, Bool, ◌&&◌, not, cond, List, [], ◌∷◌, ◌++◌, ℕ, ◌≤◌, ◌<◌, eqb, leb, ltb, length}
use Rattle.words.specs.Small.{any, is, is_none}
use Rattle.words.specs.Refusals.{Refusal, ◌when◌, first_code_of}
use Rattle.cases.specs.declared.Case.{Case}
use Rattle.cases.specs.Block.{Sound, lowest}
use Rattle.runs.specs.Replay.{replay}
use Rattle.runs.specs.Outcome.{Leads}
use Rattle.rules.specs.Kinds.{acquiring, releasing, syncs}
use Rattle.rules.specs.State.{State, Action, initial, kind_of, waiting, value_of, input_of}
use Rattle.rules.specs.Step.{Step, commit, step_code}
use Rattle.rules.specs.Result.{present}
use Rattle.rules.specs.Womm.{womm}

-- 'The oldest queued action' of processor p, by its number; the count where nothing is queued.
abbrev pub oldest : State → ℕ → ℕ
oldest s p = lowest s.count (λ k. waiting p (s.actions k))

-- Action k of processor p.
module _ (c : Case) (s : State) (p k : ℕ) where
  abbrev pub self : Action
  self = s.actions k

  -- The location of an acquire or a release.
  abbrev pub lock : ℕ
  lock = input_of s self 0

  -- 'Unless it reads an undefined register, is an acquire or release of a location not below M, an acquire of one held by another, or a
  -- release of one it does not hold': each with its number.
  unfoldable pub causes : List Refusal
  causes =
      2 when any (λ n. is_none (value_of s n)) self.inputs
      ∷ 3 when (syncs (kind_of self) && leb c.locs lock)
      ∷ 4 when (acquiring (kind_of self) && not (is_none (s.holders lock)) && not (is p (s.holders lock)))
      ∷ 5 when (releasing (kind_of self) && not (is p (s.holders lock)))
      ∷ []

  -- The first that applies, and 0 where none does.
  abbrev pub cause : ℕ
  cause = first_code_of causes

-- 'Has an accepted commit': the schedule ts with a commit of action k of processor p after it is accepted, is not too long, and its bytes are bytes.
pub record GoesOn (c : Case) (ts : List Step) (p k : ℕ) : Type 0 where
  pub source : ℕ
  pub bytes : (p < 256) × (k < 256) × (source < 256)
  pub short : length (ts ++ commit p k source ∷ []) ≤ 96
  pub accepted : (replay (womm c) (initial c) (ts ++ commit p k source ∷ [])).code ≡ 0

-- 'After any accepted schedule of at most 95 steps of a sound case, the oldest queued action of each processor has an accepted commit, unless'
-- there is a cause.
abbrev pub NobodyWaits : Type 0
NobodyWaits = (c : Case) → Sound c → (ts : List Step) (s : State) → Leads (womm c) (initial c) ts s → length ts ≤ 95 → (p : ℕ) → oldest s p < s.count → cause c s p (oldest s p) ≡ 0 → GoesOn c ts p (oldest s p)

-- A cause bars it: no commit of the action is accepted, from whatever source.
abbrev pub CauseBars : Type 0
CauseBars = (c : Case) (s : State) (p k : ℕ) → (cause c s p k ≡ 0 → ⊥) → (e : ℕ) → step_code c s (commit p k e) ≡ 0 → ⊥

-- Why processor p waits, as a number: 0 nothing is queued, 1 its oldest action may commit, 2 to 5 the cause.
abbrev pub reason : Case → State → ℕ → ℕ
reason c s p = cond (ltb (oldest s p) s.count) (cond (eqb (cause c s p (oldest s p)) 0) 1 (cause c s p (oldest s p))) 0

-- A byte for each processor, 0 of an absent one.
unfoldable pub reasons : Case → State → List ℕ
reasons c s = present c (reason c s)
