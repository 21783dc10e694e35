use mathlib.Core.Path.{◌∙◌, ap, refl}
use native.Mathlib.Omega.{arith}
use lib.ListN.{get_or}
use Rattle.std.specs.Prelude.{is_some}
use Rattle.cases.specs.Case.{instr_at}
use Rattle.stores.specs.Log.{slot_by}
use Rattle.words.specs.Small.{or_zero}
use Rattle.running.proofs.Operands.{looks, stays, place-low, address_is, quiet_look, quiet_write, quiet-other}
use Rattle.running.proofs.glance.Goals as goal

pub bounds-case-p : goal.bounds-case-p
bounds-case-p c =
    let a = c.args in
    omega (arith, place-low a.k a.case.now a.s.now a.p c.requires, c.requires.valid.fit.counts a.p, c.requires.proc)

pub returns-in-Read : goal.returns-in-Read
returns-in-Read c =
    let a = c.args in
    record {
      instr = refl;
      at = c.or_zero-at.ensures ∙ ap or_zero c.first.ensures ∙ address_is a.k a.case.now a.s.now a.p c.requires;
      quiet = quiet_look a.k a.case.now a.s.now a.p c.requires (looks c.in-Read.is);
    }

pub returns-in-Write : goal.returns-in-Write
returns-in-Write c =
    let a = c.args in
    record {
      instr = refl;
      at = c.or_zero-at.ensures ∙ ap or_zero c.first.ensures ∙ address_is a.k a.case.now a.s.now a.p c.requires;
      quiet = c.is_some-quiet.ensures ∙ (λ j. is_some ((c.buffer_of.ensures ∙ ap (slot_by a.k) (c.or_zero-at.ensures ∙ ap or_zero c.first.ensures)) j)) ∙ quiet_write a.k a.case.now a.s.now a.p c.requires (rw c.in-Write.is) (rw c.in-Write.is);
    }

pub returns-in_default : goal.returns-in_default
returns-in_default c =
    let a = c.args in
    let d = c.in_default in
    let still = stays (instr_at a.case.now a.p (get_or a.s.now.places a.p 0)) d.not-Read d.not-Write d.not-Acquire d.not-Release in
    record {
      instr = refl;
      at = c.or_zero-at.ensures ∙ ap or_zero c.first.ensures ∙ address_is a.k a.case.now a.s.now a.p c.requires;
      quiet = quiet-other a.k a.case.now a.s.now a.p c.requires still.0 still.1;
    }
