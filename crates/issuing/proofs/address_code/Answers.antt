use mathlib.Core.Path.{◌∙◌, sym, ap}
use Rattle.words.specs.Refusals.{first_code_of}
use Rattle.rules.specs.Kinds.{kind, accesses}
use Rattle.machine.specs.Shown.{Value, shown_value}
use Rattle.issuing.proofs.Refusing.{address_refusals, address_unknown, address_large, address_good, address_free}
use Rattle.issuing.proofs.address_code.Goals as goal

pub returns-then-not-accesses : goal.returns-then-not-accesses
returns-then-not-accesses c = let a = c.args in address_free a.locs (accesses (kind a.i)) (shown_value a.v) (sym c.accesses.ensures ∙ c.if-not-accesses.true)

pub returns-in-None : goal.returns-in-None
returns-in-None c =
    let a = c.args in
    let b = accesses (kind a.i) in
    address_unknown a.locs b (sym c.accesses.ensures ∙ c.if-not-accesses.false) ∙ ap (λ (o : Value). first_code_of (address_refusals a.locs b (shown_value o))) (sym c.in-None.is)

pub returns-in-Some : goal.returns-in-Some
returns-in-Some c =
    let a = c.args in
    let b = accesses (kind a.i) in
    address_large a.locs b c.in-Some.v (sym c.accesses.ensures ∙ c.if-not-accesses.false) c.if-locs-v.true ∙ ap (λ (o : Value). first_code_of (address_refusals a.locs b (shown_value o))) (sym c.in-Some.is)

pub returns-in-Some-2 : goal.returns-in-Some-2
returns-in-Some-2 c =
    let a = c.args in
    let b = accesses (kind a.i) in
    address_good a.locs b c.in-Some.v (sym c.accesses.ensures ∙ c.if-not-accesses.false) c.if-locs-v.false ∙ ap (λ (o : Value). first_code_of (address_refusals a.locs b (shown_value o))) (sym c.in-Some.is)
