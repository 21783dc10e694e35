-- Which actions are queued, which reads are ready, and what stands first. Assumes nothing.
use Rattle.std.specs.Prelude.{◌≡◌, Bool, true, false, ◌&&◌, ◌||◌, not, ◌⊎◌, ℕ, ◌+◌, ◌≤◌, ◌<◌, leb}
use Rattle.words.specs.Small.{is_none, any, some_below}
use Rattle.words.specs.Sets.{has}
use Rattle.cases.specs.declared.Case.{Case}
use Rattle.rules.specs.Kinds.{reading, acquiring}
use Rattle.rules.specs.State.{State, Action, kind_of, waiting, value_of}
use Rattle.sights.specs.Sights.{holding}

-- A queued read of a processor below `procs`.
abbrev pub queued_read : ℕ → Action → Bool
queued_read procs a = reading (kind_of a) && (is_none a.result && not (leb procs a.proc))

-- Action k is a read that every refusal but 32 lets pass.
abbrev pub ready_read : Case → State → ℕ → Bool
ready_read c s k =
    let a = s.actions k in
    queued_read c.procs a && not (some_below k (λ j. holding a.proc 1 a.loc (s.actions j)) || any (λ n. is_none (value_of s n)) a.inputs)

-- The action is in the queue of a processor that a case can have.
abbrev pub in_queue : Action → Bool
in_queue a = some_below 4 (λ p. waiting p a)

-- Of the issued actions, the set has those that are queued and of a kind that passes the test.
abbrev pub Queued : State → (ℕ → Bool) → ℕ → Type 0
Queued s P x = (k : ℕ) → k < s.count → has x k ≡ (in_queue (s.actions k) && P (kind_of (s.actions k)))

-- The first number of the set from k on, below `end`, else `end`.
pub record FirstOf (x k end r : ℕ) : Type 0 where
  pub from : k ≤ r
  pub upto : r ≤ end
  pub skipped : (i : ℕ) → k ≤ i → i < r → has x i ≡ false
  pub found : r < end → has x r ≡ true

-- An acquire of the processor of action k, issued before k, is queued.
abbrev pub behind : State → ℕ → Bool
behind s k = some_below k (λ j. waiting (s.actions k).proc (s.actions j) && acquiring (kind_of (s.actions j)))

-- Every action in the queue of processor p is in the set of items, or has such an acquire before it.
abbrev pub Front : State → ℕ → ℕ → Type 0
Front s p x = (k : ℕ) → k < s.count → waiting p (s.actions k) ≡ true → (has x (8 + k) ≡ true) ⊎ (behind s k ≡ true)

-- Every queued action that the set leaves out has such an acquire before it.
abbrev pub Leading : State → ℕ → Type 0
Leading s x = (k : ℕ) → k < s.count → in_queue (s.actions k) ≡ true → has x k ≡ false → behind s k ≡ true
