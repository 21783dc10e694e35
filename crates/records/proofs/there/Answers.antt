use mathlib.Core.Path.{◌≡◌, sym, ap, ◌∙◌, subst}
use mathlib.Core.Logic.{◌↔◌}
use mathlib.Core.Bool.{Bool, true, not}
use Prim.Native.Nat.{ℕ}
use mathlib.Core.List.{List}
use borrow.Author.Tests.{le-ltb}
use Rattle.runs.specs.Listing.{below}
use Rattle.records.specs.Buffer.{Among}
use Rattle.records.proofs.Places.{past_all, stands_at_lem}
use Rattle.records.proofs.there.Goals as goal

pub returns-then-inside : goal.returns-then-inside
returns-then-inside c =
    let r = c.args.r.now in
    let said = c.below.ensures ∙ ap (λ (x : List ℕ). below r x) c.record.ensures.is in
    subst (λ (b : Bool). (not b ≡ true) ↔ Among c.args.out.now c.args.n r) (sym said) (stands_at_lem c.requires.held r c.requires.place c.if-inside.true)

pub returns-else-inside : goal.returns-else-inside
returns-else-inside c =
    subst (λ (b : Bool). (b ≡ true) ↔ Among c.args.out.now c.args.n c.args.r.now) (sym (le-ltb c.args.at c.args.n c.if-inside.false)) (past_all c.requires.held c.args.r.now c.requires.place c.if-inside.false)
