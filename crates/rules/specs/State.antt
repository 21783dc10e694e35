-- Document 01, 'How a step changes the machine': what the machine is made of, and its start. Assumes nothing.
use Rattle.std.specs.Prelude.{ℕ, ◌+◌, ◌-◌, Bool, true, false, cond, ◌&&◌, ◌||◌, List, [], ◌∷◌, ◌==◌, nat_lt, slice_index_or}
use Rattle.std.proofs.Math.Option.{Option, none, some}
use Rattle.words.specs.Small.{is_none, or_zero}
use Rattle.cases.specs.declared.Instr.{Instr}
use Rattle.cases.specs.declared.Instr.TheVariants.{Empty}
use Rattle.cases.specs.declared.Case.{Case}
use Rattle.cases.specs.Case.{preset_of, word_of}
use Rattle.rules.specs.Kinds.{kind, accesses, syncs}
use Rattle.rules.specs.Order.{Order}

-- What a register is bound to: what it held at the start, or what action k gives.
pub data Name : Type 0 where
  start : Option ℕ → Name
  given : ℕ → Name

pub record Action : Type 0 where
  pub proc : ℕ
  -- the number of its instruction
  pub place : ℕ
  pub instr : Instr
  -- what the registers that it reads are bound to, in their order
  pub inputs : List Name
  -- the location of a read or a write, else 0
  pub loc : ℕ
  -- none while it is in the queue; then the value read, written or computed, or the location acquired or released, or 0
  pub result : Option ℕ

pub record State : Type 0 where
  -- actions 0, 1, .., count - 1 are issued
  pub count : ℕ
  pub actions : ℕ → Action
  -- the place counter of each processor; none is undefined
  pub places : ℕ → Option ℕ
  -- by processor and register
  pub names : ℕ → ℕ → Name
  -- the processor that holds each location
  pub holders : ℕ → Option ℕ
  pub orders : ℕ → Order

-- An action that is not issued.
abbrev pub unissued : Action
unissued = record { proc = 0; place = 0; instr = Empty; inputs = []; loc = 0; result = none }

abbrev pub initial : Case → State
initial c =
    record {
      count = 0;
      actions = λ k. unissued;
      places = λ p. some 0;
      names = λ p k. start (preset_of c p k);
      holders = λ l. none;
      orders = λ l a b. false;
    }

abbrev pub kind_of : Action → ℕ
kind_of a = kind a.instr

-- In the queue of processor p, if it is issued.
abbrev pub waiting : ℕ → Action → Bool
waiting p a = a.proc == p && is_none a.result

-- What a name stands for: none is undefined.
abbrev pub value_of : State → Name → Option ℕ
value_of s (start v) = v
value_of s (given k) = (s.actions k).result

-- The value of input n of an action.
abbrev pub input_of : State → Action → ℕ → ℕ
input_of s a n = or_zero (value_of s (slice_index_or a.inputs n (start none)))

-- 'Items 0 to 7 are the initial writes; action k has item 8 + k': item e passes, as an initial write by b, else by f of its action.
abbrev pub item_is : Bool → (Action → Bool) → State → ℕ → Bool
item_is b f s e = cond (nat_lt e 8) b (f (s.actions (e - 8)))

-- The value of an item: an initial write has one, any other once it is committed.
abbrev pub item_value : Case → State → ℕ → Option ℕ
item_value c s e = cond (nat_lt e 8) (some (word_of c e)) (s.actions (e - 8)).result

-- 'A read or write joins its location's order; acquire and release join every location's order': the action has an item in that of l.
abbrev pub stands_at : ℕ → Action → Bool
stands_at l a = syncs (kind_of a) || (accesses (kind_of a) && a.loc == l)
