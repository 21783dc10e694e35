use Rattle.std.proofs.Common.{arith, ◌∙◌, ◌≡◌, ap, sym, ◌&&◌}
use Prim.Native.Nat.{ℕ}
use lib.ListN.{length, take}
use Rattle.clauses.specs.Wanted.{meets_all}
use Rattle.clauses.proofs.Upto.{none_yet, one_more, fails_at, all_of, named}
use Rattle.clauses.proofs.meets.Goals as goal

pub loop-c-init : goal.loop-c-init
loop-c-init c = none_yet c.args.clauses.now c.args.outcome.now

pub holds-requires : goal.holds-requires
holds-requires c = (c.requires.0, named c.args.clauses.now c.loop-c.c-index c.requires.1 c.loop-c-test.true)

pub returns-then-not-holds : goal.returns-then-not-holds
returns-then-not-holds c =
    fails_at c.args.clauses.now c.args.outcome.now c.loop-c.c-index c.loop-c-test.true (sym c.holds.ensures ∙ c.if-not-holds.true)

pub loop-c-preserved : goal.loop-c-preserved
loop-c-preserved c =
    let a = c.args in
    (λ i. c.loop-c.invariant i && (sym c.if-not-holds.false ∙ c.holds.ensures) i) ∙ one_more a.clauses.now a.outcome.now c.loop-c.c-index c.loop-c-test.true

pub returns : goal.returns
returns c =
    let a = c.args in
    let e : c.loop-c.c-index ≡ length a.clauses.now = omega arith in
    c.loop-c.invariant ∙ ap (λ (k : ℕ). meets_all (take k a.clauses.now) a.outcome.now) e ∙ all_of a.clauses.now a.outcome.now
