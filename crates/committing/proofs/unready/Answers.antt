use Rattle.rules.specs.Kinds.{reads as reads_of}
use mathlib.Core.Path.{◌≡◌, ◌∙◌, sym, ap}
use mathlib.Core.Bool.{false, not}
use lib.ListN.{length}
use native.Mathlib.Omega.{arith}
use borrow.Author.Tests.{lt-ltb}
use Rattle.words.specs.Small.{is_none}
use Rattle.words.proofs.Bools.{or_nothing}
use Rattle.rules.specs.State.{value_of}
use Rattle.machine.specs.Shown.{name_of}
use Rattle.committing.proofs.Inputs.{undefined_inputs, unknown_is}
use Rattle.committing.proofs.unready.Goals as goal

pub returns-in-0 : goal.returns-in-0
returns-in-0 c =
    let e = c.args.e in
    λ x s g. rw (sym c.arity.ensures ∙ c.in-0.is) at (undefined_inputs x (λ m. is_none (value_of s m)) (reads_of e.instr) e.first e.second)

pub returns-in-1 : goal.returns-in-1
returns-in-1 c =
    let e = c.args.e in
    λ x s g. unknown_is _ _ (c.known.ensures x s g) ∙ sym (or_nothing _) ∙ rw (sym c.arity.ensures ∙ c.in-1.is) at (undefined_inputs x (λ m. is_none (value_of s m)) (reads_of e.instr) e.first e.second)

pub returns-else-not-known : goal.returns-else-not-known
returns-else-not-known c =
    let e = c.args.e in
    let f = lt-ltb 0 (length (reads_of e.instr)) (omega (arith, c.arity.ensures)) in
    let t = lt-ltb 1 (length (reads_of e.instr)) (omega (arith, c.arity.ensures)) in
    λ x s g.
    let first : is_none (value_of s (name_of x e.first)) ≡ false = sym (unknown_is _ _ (c.known-in_default.ensures x s g)) ∙ ap not c.if-not-known.false in
    unknown_is _ _ (c.known-else-not-known.ensures x s g) ∙ rw (f, t, first) at (undefined_inputs x (λ m. is_none (value_of s m)) (reads_of e.instr) e.first e.second)
