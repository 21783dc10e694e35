use mathlib.Core.Path.{◌∙◌, ap, sym}
use Prim.Native.Nat.{ℕ, ◌+◌, ◌*◌}
use Rattle.words.specs.Sets.{has}
use Rattle.stores.proofs.Gathered.{home_set}
use Rattle.stores.proofs.home.Goals as goal

pub returns-in-Some : goal.returns-in-Some
returns-in-Some c =
    let a = c.args in
    λ p b low few. ap (λ (n : ℕ). has n (8 * p + b)) c.one.ensures ∙ home_set a.k a.x.now p b c.in-Some.b few (sym c.buffer_of.ensures ∙ c.in-Some.is) c.if-x.true c.if-b-lt8.true
