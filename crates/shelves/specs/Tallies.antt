-- A tally: the counts over a list of blocks, kept in a record. Assumes nothing.
use mathlib.Core.List.{List, foldl}
use Rattle.std.specs.Prelude.{ℕ, ◌+◌, min, length, get_or, set}
use Rattle.words.specs.Small.{each}
use Rattle.shelves.specs.declared.Tally.{Tally}
use Rattle.shelves.specs.Counts.{code_of, ops_in, refused, instructions}

-- A count as it is kept: it stays at the largest number that it can hold, and never wraps.
abbrev pub kept : ℕ → ℕ
kept n = min n 4294967295

-- The tally of a list of blocks: codes by their number, 0 for accepted; ops by theirs, 0 for slots without an instruction.
unfoldable pub tally_of : List (List ℕ) → Tally
tally_of blocks =
    record {
      blocks = kept (length blocks);
      codes = each 20 (λ code. kept (refused blocks code));
      ops = each 11 (λ op. kept (instructions blocks op));
    }

-- Counts with one more at k.
abbrev pub raised : List ℕ → ℕ → List ℕ
raised counts k = set counts k (kept (get_or counts k 0 + 1))

-- Counts with one more at each k of a list.
unfoldable pub raised_all : List ℕ → List ℕ → List ℕ
raised_all = foldl raised

-- A tally with one more block.
unfoldable pub counted : Tally → List ℕ → Tally
counted t block =
    record {
      blocks = kept (t.blocks + 1);
      codes = raised t.codes (code_of block);
      ops = raised_all t.ops (ops_in block);
    }

-- A tally with more blocks, one after the other.
unfoldable pub counted_all : Tally → List (List ℕ) → Tally
counted_all = foldl counted
