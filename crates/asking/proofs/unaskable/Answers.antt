use mathlib.Core.Path.{◌≡◌, refl, sym, ◌∙◌, ap}
use mathlib.Core.Bool.{true, false, ◌||◌}
use Prim.Native.Nat.{ℕ, suc, ◌+◌}
use native.Mathlib.Omega.{arith}
use lib.ListN.{length, take}
use borrow.Author.Rules.{rules}
use Rattle.words.specs.Small.{any}
use Rattle.cases.proofs.Puts.{long_of}
use Rattle.asking.specs.Asked.{bad_clause}
use Rattle.asking.proofs.Held.{any_more, any_at, any_all, bad_many, bad_some}
use Rattle.asking.proofs.unaskable.Goals as goal

pub returns-then-many : goal.returns-then-many
returns-then-many c = let a = c.args in let long : length a.asked.clauses ≡ 8 = search (long_of, rules) in bad_many a.procs a.asked long c.if-many.true

pub loop-k-init : goal.loop-k-init
loop-k-init c = refl

pub returns-then-unnamed : goal.returns-then-unnamed
returns-then-unnamed c =
    let a = c.args in
    let long : length a.asked.clauses ≡ 8 = search (long_of, rules) in
    bad_some a.procs a.asked true long c.if-many.false (sym (any_at (bad_clause a.procs) (take a.asked.count a.asked.clauses) c.loop-k.k-index _ c.loop-k-test.true (sym c.if-unnamed.ensures)))

pub loop-k-preserved : goal.loop-k-preserved
loop-k-preserved c =
    let a = c.args in
    let f = bad_clause a.procs in
    let items = take a.asked.count a.asked.clauses in
    let one : suc c.loop-k.k-index ≡ c.loop-k.k-index + 1 = omega arith in
    ap (λ (k : ℕ). any f (take k items)) (sym one) ∙ sym (any_more f items c.loop-k.k-index _ c.loop-k-test.true) ∙ (λ i. sym c.if-unnamed.ensures i || c.loop-k.invariant i)

pub returns : goal.returns
returns c =
    let a = c.args in
    let items = take a.asked.count a.asked.clauses in
    let long : length a.asked.clauses ≡ 8 = search (long_of, rules) in
    bad_some a.procs a.asked false long c.if-many.false (sym c.loop-k.invariant ∙ any_all (bad_clause a.procs) items c.loop-k.k-index c.loop-k-test.false)
