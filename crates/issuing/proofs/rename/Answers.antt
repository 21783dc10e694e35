use mathlib.Core.Path.{◌≡◌, ◌∙◌}
use native.Mathlib.Omega.{arith}
use lib.ListN.{length-set}
use Rattle.issuing.specs.Issued.{assigned_by}
use Rattle.issuing.proofs.Entering.{names-some, names-none, names_stored}
use Rattle.issuing.proofs.rename.Goals as goal

pub returns-then-d-lt8 : goal.returns-then-d-lt8
returns-then-d-lt8 c =
    let a = c.args in
    let d : c.assigned-d.result ≡ assigned_by a.i = c.assigned-d.ensures in
    record {
      long = length-set a.names.now _ _ ∙ c.requires.names_long;
      low = names_stored a.names.now a.p a.k _ _ c.requires.names-low c.requires.names_long c.requires.proc c.requires.action c.if-d-lt8.true (omega (arith, c.requires.action));
      shows = λ k. names-some k a.names.now a.p a.k _ _ a.i c.requires.names_long c.requires.proc c.requires.fine d c.if-d-lt8.true (omega (arith, c.requires.action));
    }

pub returns-else-d-lt8 : goal.returns-else-d-lt8
returns-else-d-lt8 c =
    let a = c.args in
    let d : c.assigned-d.result ≡ assigned_by a.i = c.assigned-d.ensures in
    record { long = c.requires.names_long; low = c.requires.names-low; shows = λ k. names-none k a.names.now a.p a.k _ a.i c.requires.fine d c.if-d-lt8.false }
