-- Request 07: the steps of a store-buffer machine and its end, as a model. Assumes nothing.
use Rattle.std.specs.Prelude.{Bool, ◌&&◌, not, cond, List, ℕ, eqb, ltb}
use Rattle.std.proofs.Math.Option.{none}
use Rattle.words.specs.Small.{any, all, counting, concat_map, some_below}
use Rattle.cases.specs.declared.Case.{Case}
use Rattle.cases.specs.Case.{count_of}
use Rattle.runs.specs.Model.{Model}
use Rattle.rules.specs.Result.{register_bytes}
use Rattle.boards.specs.declared.Buffering.{Buffering}
use Rattle.boards.specs.Board.{Board, opening, filled}
use Rattle.boards.specs.Run.{bars, ran}
use Rattle.boards.specs.Drain.{drained}

-- 'A step runs the next instruction or drains the oldest store of a buffer that holds one.'
pub data Move : Type 0 where
  -- the next instruction of processor p
  run : ℕ → Move
  -- the oldest store of buffer b of processor p
  drain : ℕ → ℕ → Move

module _ (k : Buffering) (c : Case) where
  unfoldable pub allowed : Board → Move → Bool
  allowed s (run p) = not (any (λ t. t) (bars k c s p))
  allowed s (drain p b) = ltb p c.procs && ltb b c.locs && filled (s.buffers p b)

  unfoldable pub moved : Board → Move → Board
  moved s (run p) = ran k c s p
  moved s (drain p b) = drained s p b (s.buffers p b)

  -- No step gets a code of its own: 1 where it is not allowed.
  abbrev pub move_code : Board → Move → ℕ
  move_code s m = cond (allowed s m) 0 1

-- Every place counter is at its processor's count.
unfoldable pub ended : Case → Board → Bool
ended c s = all (λ p. eqb (s.places p) (count_of c p)) (counting 0 c.procs)

-- 'Finished also means every buffer is empty.'
unfoldable pub finished : Case → Board → Bool
finished c s = ended c s && all (λ p. not (some_below c.locs (λ b. filled (s.buffers p b)))) (counting 0 c.procs)

-- The 96 bytes of registers.
unfoldable pub registers : Case → Board → List ℕ
registers c s = concat_map (λ p. concat_map (λ r. register_bytes (cond (ltb p c.procs) (s.values p r) none)) (counting 0 8)) (counting 0 4)

abbrev pub board : Buffering → Case → Model
board k c =
    record {
      State = Board;
      Step = Move;
      initial = opening c;
      code = move_code k c;
      next = moved k c;
      finished = finished c;
      registers = registers c;
    }
