-- A text that is written out, as the bytes that are printed. Assumes nothing.
use Rattle.std.specs.Prelude.{List, [] as none, ◌∷◌ as ◌then◌, ℕ}
use Prim.Native.Char.{code}
use Prim.Native.String.{String, [], ◌∷◌}

-- Its characters, one byte each.
abbrev pub quoted : String → List ℕ
quoted [] = none
quoted (c ∷ text) = code c then quoted text
