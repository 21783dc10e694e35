use mathlib.Core.Path.{◌≡◌, sym, ap, ◌∙◌}
use mathlib.Core.List.{[]}
use lib.Dec.{eqb}
use borrow.Author.Tests.{eq-eqb, ne_eqb}
use Rattle.words.proofs.Bools.{cond-true, cond-false}
use Rattle.cases.proofs.Told.{read_code}
use Rattle.shelves.specs.Counts.{code_of, ops_of}
use Rattle.shelves.specs.Tallies.{raised, raised_all, counted}
use Rattle.shelves.proofs.Adding.{none-raised}
use Rattle.shelves.proofs.counts.counted.Goals as goal

pub returns-then-accepted : goal.returns-then-accepted
unfolding counted
returns-then-accepted c =
    let t = c.args.t.now in
    let block = c.args.block.now in
    let code : c.read_case-read.result.code ≡ code_of block = read_code block c.read_case-read.ensures in
    let codes = c.raise.ensures ∙ ap (raised t.codes) (c.from.ensures ∙ code) in
    let accepted = eq-eqb (code_of block) 0 (sym code ∙ c.if-accepted.true) in
    let ops = c.raise_ops.ensures ∙ ap (raised_all t.ops) (sym (cond-true (eqb (code_of block) 0) (ops_of block) [] accepted)) in
    λ j. record { blocks = c.saturating_add-t.ensures j; codes = codes j; ops = ops j }

pub returns-else-accepted : goal.returns-else-accepted
unfolding counted
returns-else-accepted c =
    let t = c.args.t.now in
    let block = c.args.block.now in
    let code : c.read_case-read.result.code ≡ code_of block = read_code block c.read_case-read.ensures in
    let codes = c.raise.ensures ∙ ap (raised t.codes) (c.from.ensures ∙ code) in
    let refused = ne_eqb (code_of block) 0 (λ q. c.if-accepted.false (code ∙ q)) in
    let ops = none-raised t.ops ∙ ap (raised_all t.ops) (sym (cond-false (eqb (code_of block) 0) (ops_of block) [] refused)) in
    λ j. record { blocks = c.saturating_add-t.ensures j; codes = codes j; ops = ops j }
