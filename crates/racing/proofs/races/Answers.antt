use mathlib.Core.Path.{◌∙◌, refl, sym}
use mathlib.Core.Bool.{true, false}
use native.Mathlib.Omega.{arith}
use Rattle.racing.proofs.Testing.{races_is}
use Rattle.racing.proofs.races.Goals as goal

pub unordered-requires : goal.unordered-requires
unordered-requires c =
    (omega (arith, c.requires.issued, c.requires.first), omega (arith, c.requires.issued, c.requires.second))

pub returns-then-conflict : goal.returns-then-conflict
returns-then-conflict c =
    let a = c.args in
    λ k s h o e. races_is k a.m.now.issued a.m.now.acts s h a.m.now.rows o e a.j a.k c.requires.first c.requires.second c.entry_at-a.result c.entry_at-b.result true c.unordered.result c.entry_at-a.ensures c.entry_at-b.ensures (sym c.if-conflict.true ∙ c.conflict.ensures k) c.unordered.ensures

pub returns-else-conflict : goal.returns-else-conflict
returns-else-conflict c =
    let a = c.args in
    λ k s h o e. c.if-conflict.false ∙ races_is k a.m.now.issued a.m.now.acts s h a.m.now.rows o e a.j a.k c.requires.first c.requires.second c.entry_at-a.result c.entry_at-b.result false _ c.entry_at-a.ensures c.entry_at-b.ensures (sym c.if-conflict.false ∙ c.conflict.ensures k) refl
