use native.Mathlib.Omega.{arith}
use Prim.Native.Nat.{◌+◌, ◌*◌}
use Rattle.judging.specs.Draft.{reg_ok, with_reg}
use Rattle.drafting.proofs.Sheets.{accepted_by, reg_ok_lem, shows_reg}
use Rattle.drafting.proofs.state.step_reg.Goals as goal

pub returns : goal.returns
returns c = λ d sh. let a = c.args in accepted_by (reg_ok d a.p a.k a.v) (with_reg d (8 * a.p + a.k) a.v) _ (reg_ok_lem d a.p a.k a.v (omega (arith, sh.next)) (omega (arith, sh.procs)) (omega arith) (omega arith)) (shows_reg a.s a.p a.k a.v _ d (omega arith) (omega arith) (omega arith) c.marked.ensures sh)
