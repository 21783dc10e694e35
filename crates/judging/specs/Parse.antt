-- The reader's way through a text, line by line and word by word, which the promises do not speak of. Assumes nothing.
use Rattle.std.specs.Prelude.{Bool, true, false, ◌&&◌, cond, List, [], ◌∷◌, ℕ, suc, ◌+◌, ◌*◌, ◌%◌, eqb, ltb, leb, get_or}
use Rattle.std.proofs.Math.Option.{Option, none, some}
use Rattle.cases.specs.Block.{nothing}
use Rattle.cases.specs.declared.Expr.{Expr}
use Rattle.cases.specs.declared.Expr.TheVariants.{Constant, Sum, Difference, Equal}
use Rattle.cases.specs.declared.Instr.{Instr}
use Rattle.cases.specs.declared.Instr.TheVariants.{Read, Write, Local, Branch, Goto, Acquire, Release}
use Rattle.texts.specs.Lines.{Line, head, mem, reg, op}
use Rattle.lines.specs.Quoted.{quoted}
use Rattle.texts.specs.Text.{body}
use Rattle.judging.specs.Draft.{Draft, step, begin, and_then, case_from}
use Rattle.texts.specs.Reading.{told}
use Rattle.texts.specs.declared.TextRead.{TextRead}

-- The ended lines of a text, without their line feeds.
abbrev pub before : ℕ → List (List ℕ) → List (List ℕ)
before b [] = []
before b (p ∷ ps) = (b ∷ p) ∷ ps

unfoldable pub parts : List ℕ → List (List ℕ)
parts [] = []
parts (b ∷ t) = cond (eqb b 10) ([] ∷ parts t) (before b (parts t))

-- The words of a line.
abbrev pub front : ℕ → List (List ℕ) → List (List ℕ)
front b [] = (b ∷ []) ∷ []
front b (w ∷ ws) = (b ∷ w) ∷ ws

unfoldable pub words_in : List ℕ → List (List ℕ)
words_in [] = [] ∷ []
words_in (b ∷ t) = cond (eqb b 32) ([] ∷ words_in t) (front b (words_in t))

abbrev pub same : List ℕ → List ℕ → Bool
same [] [] = true
same [] (b ∷ t) = false
same (a ∷ s) [] = false
same (a ∷ s) (b ∷ t) = eqb a b && same s t

-- The number that a word is, if it is one.
abbrev pub grown : ℕ → ℕ → ℕ
grown v b = (10 * v + b + 999952) % 1000000

unfoldable pub value_from : ℕ → List ℕ → ℕ
value_from v [] = v
value_from v (b ∷ t) = value_from (grown v b) t

abbrev pub value : List ℕ → ℕ
value w = value_from 0 w

-- A number as a byte, as two bytes: too large a number becomes the largest.
abbrev pub byte_of : ℕ → ℕ
byte_of n = cond (ltb n 256) n 255

abbrev pub half_of : ℕ → ℕ
half_of n = cond (ltb n 65536) n 65535

-- The line that words are, if they are one.
module _ (ws : List (List ℕ)) where
  -- Word k, empty where there is none.
  abbrev pub word_at : ℕ → List ℕ
  word_at k = get_or ws k []

  abbrev pub small_at : ℕ → ℕ
  small_at k = byte_of (value (word_at k))

  abbrev pub large_at : ℕ → ℕ
  large_at k = half_of (value (word_at k))

  abbrev pub guess_expr : Expr
  guess_expr =
      cond (same (word_at 2) (quoted "set")) (Constant (large_at 4))
      (cond (same (word_at 2) (quoted "add")) (Sum (small_at 4) (small_at 5))
      (cond (same (word_at 2) (quoted "sub")) (Difference (small_at 4) (small_at 5)) (Equal (small_at 4) (small_at 5))))

  abbrev pub guess_lock : Instr
  guess_lock =
      cond (same (word_at 2) (quoted "acquire")) (Acquire (small_at 3))
      (cond (same (word_at 2) (quoted "release")) (Release (small_at 3)) (Local (small_at 3) guess_expr))

  abbrev pub guess_jump : Instr
  guess_jump =
      cond (same (word_at 2) (quoted "branch")) (Branch (small_at 3) (large_at 4))
      (cond (same (word_at 2) (quoted "goto")) (Goto (large_at 3)) guess_lock)

  abbrev pub guess_instr : Instr
  guess_instr =
      cond (same (word_at 2) (quoted "read")) (Read (small_at 3) (small_at 4))
      (cond (same (word_at 2) (quoted "write")) (Write (small_at 3) (small_at 4)) guess_jump)

  abbrev pub guess : Line
  guess =
      cond (same (word_at 0) (quoted "case")) (head (small_at 1) (small_at 2) (cond (same (word_at 3) []) none (some (small_at 3))))
      (cond (same (word_at 0) (quoted "mem")) (mem (small_at 1) (large_at 2))
      (cond (same (word_at 0) (quoted "reg")) (reg (small_at 1) (small_at 2) (large_at 3)) (op (small_at 1) guess_instr)))

-- What a line is: the guess, if its bytes are these.
abbrev pub parsed : Line → List ℕ → Option Line
parsed l p = cond (same (body l) p) (some l) none

unfoldable pub parse : List ℕ → Option Line
parse p = parsed (guess (words_in p)) p

-- One line more: the first, or a further one.
abbrev pub onward : Option Draft → Line → Option Draft
onward none l = begin l
onward (some d) l = step d l

abbrev pub taken : Option Draft → List ℕ → Option Draft
taken s p = and_then (parse p) (onward s)

-- All of the lines.
unfoldable pub took : Option Draft → List (List ℕ) → Option Draft
took s [] = s
took s (p ∷ ps) = and_then (taken s p) (λ d. took (some d) ps)

-- The number of the first line that is not taken, counted from n.
abbrev pub counted : ℕ → (Draft → ℕ) → Option Draft → ℕ
counted n f none = n
counted n f (some d) = f d

unfoldable pub walk : Option Draft → ℕ → List (List ℕ) → ℕ
walk s n [] = n
walk s n (p ∷ ps) = counted n (λ d. walk (some d) (suc n) ps) (taken s p)

abbrev pub judge : List ℕ → ℕ
judge t = walk none 1 (parts t)

-- The text is empty or its last byte is a line feed.
unfoldable pub whole_from : Bool → List ℕ → Bool
whole_from e [] = e
whole_from e (b ∷ t) = whole_from (eqb b 10) t

abbrev pub whole : List ℕ → Bool
whole t = whole_from true t

-- The answer before 19 is asked: 0 or 17, with the number of the line at which the walk stopped.
abbrev pub refused_at : ℕ → TextRead
refused_at n = record { code = 17; line = n; usual = false; case = nothing }

abbrev pub accepted_at : ℕ → Draft → TextRead
accepted_at n d = record { code = 0; line = n; usual = told d.dropped; case = case_from d }

abbrev pub verdict : Bool → ℕ → Option Draft → TextRead
verdict w n none = refused_at n
verdict w n (some d) = cond (w && leb d.need d.next) (accepted_at n d) (refused_at n)

unfoldable pub answer_of : List ℕ → TextRead
answer_of t = verdict (whole t) (judge t) (took none (parts t))
