-- Request 07: draining a buffer. Assumes nothing.
use Rattle.std.specs.Prelude.{List, [], ◌∷◌, ℕ}
use Rattle.words.specs.Small.{put}
use Rattle.boards.specs.Board.{Store, Board}

-- The oldest of the stores of buffer b of processor p reaches memory.
abbrev pub drained : Board → ℕ → ℕ → List Store → Board
drained s p b [] = s
drained s p b (x ∷ xs) =
    record {
      places = s.places;
      values = s.values;
      holders = s.holders;
      memory = put s.memory x.loc x.value;
      buffers = put s.buffers p (put (s.buffers p) b xs);
    }
