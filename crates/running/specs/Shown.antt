-- What the arrays show: a board. Assumes nothing.
use Rattle.std.specs.Prelude.{None, false, ◌&&◌, cond, List, ℕ, ◌+◌, ◌*◌, ltb, get_or}
use Rattle.std.proofs.Math.Option.{Option}
use Rattle.cases.specs.declared.Case.{Case}
use Rattle.cases.specs.Case.{preset_of}
use Rattle.machine.specs.Shown.{Value, shown_value, holder_of}
use Rattle.boards.specs.declared.Buffering.{Buffering}
use Rattle.boards.specs.Board.{Board}
use Rattle.stores.specs.Log.{buffer_of}
use Rattle.running.specs.declared.Arrays.{Arrays}

-- No value.
abbrev pub unknown : Value
unknown = None

-- Registers by processor and number; one past the array keeps its start.
abbrev pub values_of : Case → List Value → ℕ → ℕ → Option ℕ
values_of c values p r = cond (ltb p 4 && ltb r 8) (shown_value (get_or values (8 * p + r) unknown)) (preset_of c p r)

abbrev pub shown : Buffering → Case → Arrays → Board
shown k c s =
    record {
      places = λ p. get_or s.places p 0;
      values = values_of c s.values;
      holders = λ l. holder_of (get_or s.holders l 0);
      memory = λ l. get_or s.memory l 0;
      buffers = buffer_of k s.log s.logged;
    }
