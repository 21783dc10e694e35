-- Request 01: the text of a case, word by word. Assumes nothing.
use Rattle.std.specs.Prelude.{List, [], ◌∷◌, ◌++◌, map, ℕ}
use Rattle.std.proofs.Math.Option.{Option, none, some}
use Prim.Native.String.{String}
use Rattle.words.specs.Small.{concat_map}
use Rattle.cases.specs.declared.Expr.{Expr}
use Rattle.cases.specs.declared.Expr.TheVariants.{Constant, Sum, Difference, Equal}
use Rattle.cases.specs.declared.Instr.{Instr}
use Rattle.cases.specs.declared.Instr.TheVariants.{Empty, Read, Write, Local, Branch, Goto, Acquire, Release}
use Rattle.cases.specs.declared.Case.{Case}
use Rattle.lines.specs.Quoted.{quoted}
use Rattle.lines.specs.Decimal.{decimal}
use Rattle.texts.specs.Lines.{Line, head, mem, reg, op, lines_of}

-- A word and numbers after it, 'decimal without leading zeros'.
abbrev pub said : String → List ℕ → List (List ℕ)
said word numbers = quoted word ∷ map decimal numbers

-- 'The words for ops 1 to 10 .., each followed by the fields it uses in the order d, a, b, constant.' The empty instruction stands in no text.
abbrev pub expr_words : ℕ → Expr → List (List ℕ)
expr_words d (Constant k) = said "set" (d ∷ k ∷ [])
expr_words d (Sum a b) = said "add" (d ∷ a ∷ b ∷ [])
expr_words d (Difference a b) = said "sub" (d ∷ a ∷ b ∷ [])
expr_words d (Equal a b) = said "eq" (d ∷ a ∷ b ∷ [])

abbrev pub instr_words : Instr → List (List ℕ)
instr_words Empty = []
instr_words (Read d a) = said "read" (d ∷ a ∷ [])
instr_words (Write a b) = said "write" (a ∷ b ∷ [])
instr_words (Local d e) = expr_words d e
instr_words (Branch a l) = said "branch" (a ∷ l ∷ [])
instr_words (Goto l) = said "goto" (l ∷ [])
instr_words (Acquire a) = said "acquire" (a ∷ [])
instr_words (Release a) = said "release" (a ∷ [])

-- The number, where there is one.
abbrev pub listed : Option ℕ → List ℕ
listed none = []
listed (some b) = b ∷ []

-- The words of a line.
abbrev pub line_words : Line → List (List ℕ)
line_words (head p m bound) = said "case" (p ∷ m ∷ listed bound)
line_words (mem l v) = said "mem" (l ∷ v ∷ [])
line_words (reg p k v) = said "reg" (p ∷ k ∷ v ∷ [])
line_words (op p i) = quoted "op" ∷ decimal p ∷ instr_words i

-- 'single spaces': words with one between each two.
unfoldable pub spaced : List ℕ → List (List ℕ) → List ℕ
spaced w [] = w
spaced w (v ∷ ws) = w ++ (32 ∷ spaced v ws)

abbrev pub joined : List (List ℕ) → List ℕ
joined [] = []
joined (w ∷ ws) = spaced w ws

-- A line's bytes but for its line feed.
abbrev pub body : Line → List ℕ
body l = joined (line_words l)

-- 'a line feed after every line'
unfoldable pub line_bytes : Line → List ℕ
line_bytes l = body l ++ (10 ∷ [])

-- The text of a case; with a bound, its old text.
unfoldable pub text_with : Option ℕ → Case → List ℕ
text_with bound c = concat_map line_bytes (lines_of c bound)

abbrev pub text_of : Case → List ℕ
text_of = text_with none
