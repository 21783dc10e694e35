-- Dead reads: no register and no step will look at what such a read takes, or only reads and locals of which the same holds; so one of its
-- sources is enough. Assumes nothing.
use Rattle.std.specs.Prelude.{◌≡◌, ◌⊎◌, Bool, true, false, ◌&&◌, ◌||◌, ℕ, ◌<◌, eqb}
use Rattle.std.proofs.Math.Option.{Option, none, some}
use Rattle.words.specs.Small.{is_none, any}
use Rattle.cases.specs.declared.Case.{Case}
use Rattle.rules.specs.Kinds.{reading, computing, assigns}
use Rattle.rules.specs.State.{State, Action, Name, start, given, kind_of}
use Rattle.rules.specs.Step.{Step, issue, commit, neither}
use Rattle.sure.specs.Sure.{sure}

-- The name stands for what action k gives.
abbrev pub is_given : ℕ → Name → Bool
is_given k (start v) = false
is_given k (given j) = eqb j k

-- The register, of the processor of action k, is bound to what k gives.
abbrev pub holds_on : State → ℕ → Option ℕ → Bool
holds_on s k none = false
holds_on s k (some d) = is_given k (s.names (s.actions k).proc d)

-- The action is in the queue, and a register that it reads is bound to what action k gives.
abbrev pub awaits : ℕ → Action → Bool
awaits k a = is_none a.result && any (is_given k) a.inputs

-- A read or a local.
abbrev pub ignorable : ℕ → Bool
ignorable k = reading k || computing k

-- A set of issued reads and locals: the register that each assigns has a newer name, and what it gives is read by no queued action outside the set.
pub record Ignored (s : State) (D : ℕ → Bool) : Type 0 where
  pub there : (k : ℕ) → D k ≡ true → k < s.count
  pub kinds : (k : ℕ) → D k ≡ true → ignorable (kind_of (s.actions k)) ≡ true
  pub renamed : (k : ℕ) → D k ≡ true → holds_on s k (assigns (s.actions k).instr) ≡ false
  pub unread : (j k : ℕ) → j < s.count → D j ≡ false → D k ≡ true → awaits k (s.actions j) ≡ false

-- Action k is a read of such a set.
pub record DeadRead (s : State) (k : ℕ) : Type 0 where
  pub reads : reading (kind_of (s.actions k)) ≡ true
  pub set : ℕ → Bool
  pub ignored : Ignored s set
  pub among : set k ≡ true

-- The step is the commit of a dead read.
abbrev pub DeadStep : State → Step → Type 0
DeadStep s (issue p) = ⊥
DeadStep s (commit p k e) = DeadRead s k
DeadStep s neither = ⊥

-- The step, if it is accepted at s, may be taken alone with n steps to go: it is sure, or commits a dead read.
abbrev pub Lone : Case → ℕ → State → Step → Type 0
Lone c n s t = (sure c n s t ≡ true) ⊎ DeadStep s t
