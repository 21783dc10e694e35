-- What the functions over a block's bytes are given, and what they give back. Assumes nothing.
use Rattle.std.specs.Prelude.{◌≡◌, Bool, false, ◌&&◌, List, ℕ, ◌+◌, ◌*◌, ◌≤◌, ◌<◌, length, take}
use Rattle.cases.specs.declared.Case.{Case}
use Rattle.cases.specs.Block.{within, proc_at, number_at, used, bad, contents}

-- A weight and a byte.
pub record Weighing (weight byte : ℕ) : Type 0 where
  pub weight_low : weight < 511
  pub byte_low : byte < 256

-- No position before r is bad for a code.
pub record StartOf (code r : ℕ) : Type 0 where
  pub within : r ≤ 510
  pub none_before : (s : List ℕ) (k : ℕ) → k < r → bad s code k ≡ false

-- No position from r on is bad for a code.
pub record EndOf (code r : ℕ) : Type 0 where
  pub within : r ≤ 510
  pub none-behind : (s : List ℕ) (k : ℕ) → r ≤ k → k < 510 → bad s code k ≡ false

-- Position i belongs to a used instruction.
abbrev pub in_use : List ℕ → ℕ → Bool
in_use s i = within 92 380 i && used s (proc_at i) (number_at i)

-- A position and an end in the block.
pub record Within (i end : ℕ) : Type 0 where
  pub from : i ≤ 510
  pub to : end ≤ 510

-- r is i or a later position, and f holds of none from i on before it.
pub record Skipped (f : ℕ → Bool) (i r : ℕ) : Type 0 where
  pub from : i ≤ r
  pub within : r ≤ 510
  pub none_between : (k : ℕ) → i ≤ k → k < r → f k ≡ false

-- A whole block, with room for the words.
pub record PuttingWords (block : List ℕ) (at : ℕ) (words : List ℕ) : Type 0 where
  pub room : at + 2 * length words ≤ length block
  pub long : length block ≡ 512

-- A whole block that holds a case but for its check.
pub record FilledWith (case : Case) (block : List ℕ) : Type 0 where
  pub holds : take 510 block ≡ contents case
  pub long : length block ≡ 512
