-- Wider quiet reads: no write in the queue and no code that may still be issued writes the location of such a read, so its sources cannot grow. Assumes
-- nothing.
use Rattle.std.specs.Prelude.{Bool, not, ◌&&◌, ℕ}
use Rattle.words.specs.Small.{some_below}
use Rattle.cases.specs.declared.Instr.{Instr}
use Rattle.cases.specs.declared.Case.{Case}
use Rattle.rules.specs.Kinds.{kind, reading, writing}
use Rattle.rules.specs.State.{State, kind_of}
use Rattle.sure.specs.Ahead.{comes, may_name}
use Rattle.sure.specs.Quiet.{pending}

-- Instruction x of processor p may be a write to location l.
abbrev pub may_write : Case → ℕ → ℕ → Instr → Bool
may_write c l p x = writing (kind x) && may_name c l p x

-- With n steps to go: action k is a read, no write to its location is queued, and none may be issued any more.
unfoldable pub wide : Case → ℕ → State → ℕ → Bool
wide c n s k =
    let l = (s.actions k).loc in
    reading (kind_of (s.actions k)) && (not (some_below s.count (λ j. pending l (s.actions j))) && not (comes c (may_write c l) n s))
