use mathlib.Core.Path.{◌∙◌, ap}
use native.Mathlib.Omega.{arith}
use Rattle.words.proofs.Bools.{below-same}
use Rattle.boards.specs.Board.{filled}
use Rattle.stores.proofs.Gathered.{taken_buffer}
use Rattle.running.proofs.stuck.Goals as goal

pub returns-then-q : goal.returns-then-q
returns-then-q c =
    let a = c.args in
    rw c.if-q.true (c.holding.ensures ∙ below-same a.locs _ _ (λ b l. ap filled (taken_buffer a.s.now.log a.s.now.logged (omega (arith, c.requires.2, c.requires.3)) c.stores.ensures a.k a.p b)))
