-- A row of the code and the line that it is; words with a space before each. Assumes nothing.
use Rattle.std.specs.Prelude.{List, ◌∷◌, ◌++◌, map, ℕ}
use Rattle.std.proofs.Math.Option.{none, some}
use Rattle.words.specs.Small.{concat_map}
use Rattle.lines.specs.Decimal.{decimal}
use Rattle.texts.specs.Lines.{Line, head, mem, reg, op}
use Rattle.texts.specs.declared.Row.{Row}
use Rattle.texts.specs.declared.Row.TheVariants.{Head, Old, Mem, Reg, Op}

-- The line that a row is.
abbrev pub line_of : Row → Line
line_of (Head p m) = head p m none
line_of (Old p m b) = head p m (some b)
line_of (Mem l v) = mem l v
line_of (Reg p k v) = reg p k v
line_of (Op p x) = op p x

-- Words, a space before each.
abbrev pub tails : List (List ℕ) → List ℕ
tails ws = concat_map (λ w. 32 ∷ w) ws

-- A word and numbers after it.
abbrev pub numbered : List ℕ → List ℕ → List ℕ
numbered word numbers = word ++ tails (map decimal numbers)
