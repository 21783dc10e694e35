-- A guess whose bytes are the line's. Assumes nothing.
use mathlib.Core.Path.{◌≡◌, ap, ◌∙◌}
use mathlib.Core.Bool.{Bool, cond}
use mathlib.Core.List.{List}
use mathlib.Core.Option.{none, some}
use Prim.Native.Nat.{ℕ}
use Rattle.std.specs.Str.{bytes_eq}
use Rattle.texts.specs.Lines.{Line}
use Rattle.judging.specs.Parse.{same, parsed, parse, guess, words_in}
use Rattle.texts.specs.Text.{body}
use Rattle.scanning.proofs.Scanning.{same_is}

pub parsed_is : (p q : List ℕ) (l : Line) (ok : Bool) → ok ≡ bytes_eq q p → q ≡ body l → l ≡ guess (words_in p) → cond ok (some l) none ≡ parse p
unfolding parse
parsed_is p q l ok h e g = ap (λ (b : Bool). cond b (some l) none) (h ∙ same_is q p ∙ ap (λ (q : List ℕ). same q p) e) ∙ ap (λ (l : Line). parsed l p) g
