use Prim.Native.Nat.{◌-◌, ◌/◌, ◌%◌}
use mathlib.Core.Path.{sym, ◌∙◌, ap}
use mathlib.Core.Bool.{Bool, ◌&&◌}
use lib.Dec.{ltb}
use Rattle.boardlisting.proofs.Sparing.{open_drain}
use Rattle.boardlisting.proofs.is_open.Goals as goal

pub returns-else-i-lt4 : goal.returns-else-i-lt4
returns-else-i-lt4 c =
    let a = c.args in
    ap (λ (x : Bool). (ltb ((a.i - 4) / 8) a.case.now.procs && ltb ((a.i - 4) % 8) a.case.now.locs) && x) c.has-else-i-lt4.ensures
    ∙ open_drain a.k a.case.now a.s.now a.waits a.done a.i c.requires.waits c.if-i-lt4.false c.requires.position (sym c.has.ensures ∙ c.if-has.false)
