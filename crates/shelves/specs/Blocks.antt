-- A shelf is a file of blocks, 512 bytes each, one behind the other. Assumes nothing.
use Rattle.std.specs.Prelude.{List, ℕ, ◌*◌, ◌/◌, length, take, drop}
use Rattle.words.specs.Small.{each}

-- Block i of a file.
abbrev pub block_at : List ℕ → ℕ → List ℕ
block_at file i = take 512 (drop (512 * i) file)

-- The whole blocks of a file, in their order.
unfoldable pub blocks_of : List ℕ → List (List ℕ)
blocks_of file = each (length file / 512) (block_at file)

-- The bytes left over behind them.
unfoldable pub left_over : List ℕ → List ℕ
left_over file = drop (512 * (length file / 512)) file
