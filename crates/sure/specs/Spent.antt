-- Spent steps: steps whose branch a search has been through, so that it may leave them out later on. Assumes nothing.
use Rattle.std.specs.Prelude.{◌≡◌, Bool, true, false, ◌&&◌, ◌||◌, ℕ, zero, suc, ◌<◌, eqb, leb}
use Rattle.std.proofs.Math.Option.{none}
use Rattle.cases.specs.declared.Case.{Case}
use Rattle.rules.specs.Kinds.{reading, acquiring}
use Rattle.rules.specs.State.{State, Action, kind_of, input_of}
use Rattle.rules.specs.Step.{Step, issue, commit, neither, step_code, after}

-- What may be spent: the commit of action k, a read from item e or an acquire with e = 0; the next issue of processor p.
pub data Key : Type 0 where
  taking : ℕ → ℕ → Key
  issuing : ℕ → Key

-- The step of a key.
abbrev pub step_by : State → Key → Step
step_by s (taking k e) = commit (s.actions k).proc k e
step_by s (issuing p) = issue p

-- The steps that are spent.
abbrev pub Spent : Type 0
Spent = Key → Bool

-- Nothing is spent.
abbrev pub fresh : Spent
fresh a = false

-- The step is spent.
abbrev pub asleep : Spent → Step → Bool
asleep sp (issue p) = sp (issuing p)
asleep sp (commit p k e) = sp (taking k e)
asleep sp neither = false

-- The kinds whose commits may be spent: a read and an acquire.
abbrev pub restable : ℕ → Bool
restable k = reading k || acquiring k

-- The step of the key may be spent.
abbrev pub restful : State → Key → Bool
restful s (taking k e) = restable (kind_of (s.actions k))
restful s (issuing p) = true

-- Two acquires of one location.
abbrev pub rivals : State → Action → Action → Bool
rivals s a b = acquiring (kind_of a) && (acquiring (kind_of b) && eqb (input_of s a 0) (input_of s b 0))

-- The step, taken at s, wakes what is spent under the key: an acquire one of its location, an issue one of its processor, and,
-- where it takes the last room for an action, every issue.
abbrev pub wakes : State → Step → Key → Bool
wakes s (issue p) (taking k e) = false
wakes s (issue p) (issuing q) = eqb q p || leb 48 (suc s.count)
wakes s (commit p j f) (taking k e) = rivals s (s.actions j) (s.actions k)
wakes s (commit p j f) (issuing q) = false
wakes s neither a = false

-- Action k is a read or an acquire, and while it is in the queue its commit from e is accepted.
pub record Rests (c : Case) (s : State) (k e : ℕ) : Type 0 where
  pub there : k < s.count
  pub kinds : restable (kind_of (s.actions k)) ≡ true
  pub fits : (s.actions k).result ≡ none → step_code c s (step_by s (taking k e)) ≡ 0

-- What holds of a spent step: it is accepted, unless it has been taken.
abbrev pub Resting : Case → State → Key → Type 0
Resting c s (taking k e) = Rests c s k e
Resting c s (issuing p) = step_code c s (issue p) ≡ 0

-- It holds of all that is spent.
abbrev pub Rested : Case → State → Spent → Type 0
Rested c s sp = (a : Key) → sp a ≡ true → Resting c s a

-- P after some spent step.
pub record Through (c : Case) (sp : Spent) (P : State → Type 0) (s : State) : Type 0 where
  pub key : Key
  pub rests : sp key ≡ true
  pub fits : step_code c s (step_by s key) ≡ 0
  pub then' : P (after c s (step_by s key))

-- The same, of a run with n steps to go.
abbrev pub Else : Case → Spent → (State → ℕ → Type 0) → State → ℕ → Type 0
Else c sp P s zero = ⊥
Else c sp P s (suc n) = Through c sp (λ x. P x n) s
