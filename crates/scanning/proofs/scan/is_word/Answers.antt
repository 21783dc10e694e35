use mathlib.Core.Path.{ap, ◌∙◌}
use mathlib.Core.List.{List}
use Prim.Native.Nat.{ℕ}
use Rattle.judging.specs.Parse.{same}
use Rattle.scanning.proofs.Scanning.{same_is}
use Rattle.scanning.proofs.scan.is_word.Goals as goal

pub returns : goal.returns
returns c = c.eq.ensures ∙ same_is c.word.result.now c.args.w.now ∙ ap (λ (w : List ℕ). same w c.args.w.now) c.word.ensures
