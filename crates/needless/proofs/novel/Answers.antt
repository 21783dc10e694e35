use mathlib.Core.Path.{sym, ◌∙◌, ap}
use mathlib.Core.Bool.{Bool, ◌&&◌, not}
use Prim.Native.Nat.{ℕ}
use Rattle.words.specs.Small.{or_zero, some_below}
use Rattle.rules.specs.State.{item_value}
use Rattle.needless.specs.Echoes.{gives_in}
use Rattle.needless.proofs.novel.Goals as goal

pub returns : goal.returns
returns c =
    let a = c.args in
    let v = c.or_zero-v in
    let u = c.item_value in
    λ x s m h t. ap not (c.some_gives.ensures x s m h ∙ ap (λ (n : ℕ). some_below 64 (gives_in x s a.word a.done n)) (v.ensures ∙ ap or_zero (u.ensures x s m h)))
    ∙ ap (λ (b : Bool). b && not (some_below 64 (gives_in x s a.word a.done (or_zero (item_value x s a.e))))) (sym t)
