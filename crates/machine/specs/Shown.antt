-- What the machine's arrays show: a state of the rules. Assumes nothing.
use Rattle.std.specs.Prelude as std
use Rattle.std.specs.Prelude.{Some, None, ◌≡◌, Bool, ◌&&◌, cond, List, [], ◌∷◌, ℕ, ◌+◌, ◌*◌, ◌-◌, ◌/◌, ◌%◌, eqb, ltb, get_or}
use Rattle.std.proofs.Math.Option.{Option, none, some}
use Rattle.cases.specs.declared.Case.{Case}
use Rattle.cases.specs.Case.{preset_of}
use Rattle.rules.specs.Kinds.{reads}
use Rattle.rules.specs.State.{Name, start, given, Action, State, unissued}
use Rattle.rules.specs.Order.{Order}
use Rattle.oneorder.specs.OneOrder.{OneState, limited, view}
use Rattle.orders.specs.Rows.{order_of}
use Rattle.machine.specs.declared.Entry.{Entry}
use Rattle.machine.specs.declared.Machine.{Machine}
use Rattle.machine.specs.Word.{entry_of}

-- A name as a number: below 32 what a register held at the start, that of register k of processor p at 8p + k; from 32 on what an action gives.
abbrev pub name_of : Case → ℕ → Name
name_of c n = cond (ltb n 32) (start (preset_of c (n / 8) (n % 8))) (given (n - 32))

-- The names of the registers that an instruction reads: none, one or both of two.
abbrev pub inputs_of : Case → List ℕ → ℕ → ℕ → List Name
inputs_of c [] x y = []
inputs_of c (a ∷ []) x y = name_of c x ∷ []
inputs_of c (a ∷ b ∷ more) x y = name_of c x ∷ name_of c y ∷ []

-- A value that may be missing.
abbrev pub option_of : Bool → ℕ → Option ℕ
option_of known v = cond known (some v) none

abbrev pub Value : Type 0
Value = std.Option ℕ

abbrev pub shown_value : Value → Option ℕ
shown_value None = none
shown_value (Some v) = some v

abbrev pub shown_entry : Case → Entry → Action
shown_entry c e =
    record {
      proc = e.proc;
      place = e.place;
      instr = e.instr;
      inputs = inputs_of c (reads e.instr) e.first e.second;
      loc = e.loc;
      result = option_of e.done e.result;
    }

-- The actions of the first n words.
abbrev pub actions_of : Case → ℕ → List ℕ → ℕ → Action
actions_of c n acts k = cond (ltb k n) (shown_entry c (entry_of (get_or acts k 0))) unissued

-- A place counter: 255 is undefined.
abbrev pub place_of : ℕ → Option ℕ
place_of n = cond (eqb n 255) none (some n)

-- A holder: 0 is none, 1 + p is processor p.
abbrev pub holder_of : ℕ → Option ℕ
holder_of n = cond (eqb n 0) none (some (n - 1))

-- Names by processor and register; a register past the array keeps its start.
abbrev pub names_of : Case → List ℕ → ℕ → ℕ → Name
names_of c names p k = cond (ltb p 4 && ltb k 8) (name_of c (get_or names (8 * p + k) 0)) (start (preset_of c p k))

-- The machine with one order over all items.
abbrev pub shown_one : Case → Machine → OneState
shown_one c m =
    record {
      count = m.issued;
      actions = actions_of c m.issued m.acts;
      places = λ p. place_of (get_or m.places p 0);
      names = names_of c m.names;
      holders = λ l. holder_of (get_or m.holders l 0);
      order = order_of m.rows;
    }

-- The state of the rules that it stands for: each location's order is taken from the one order.
abbrev pub shown : Case → Machine → State
shown c m = view c (shown_one c m)

-- The orders of the locations, of actions A, that the rows give.
abbrev pub orders_of : Case → (ℕ → Action) → List ℕ → ℕ → Order
orders_of c A rows l a b = ltb l c.locs && limited A l (order_of rows) a b

-- The case has these presets.
pub record Presets (c : Case) (m p : List ℕ) : Type 0 where
  pub masks : c.masks ≡ m
  pub presets : c.presets ≡ p

-- The state s has the first n words as its actions.
pub record Acts (c : Case) (n : ℕ) (acts : List ℕ) (s : State) : Type 0 where
  pub count : s.count ≡ n
  pub actions : s.actions ≡ actions_of c n acts
