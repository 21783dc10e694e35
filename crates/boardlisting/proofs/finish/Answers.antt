use Rattle.running.specs.Shown.{shown}
use Rattle.boardlisting.proofs.Loop.{searched_end}
use Rattle.boardlisting.proofs.finish.Goals as goal

pub returns : goal.returns
returns c =
    let a = c.args in
    λ n. searched_end a.k a.case.now (shown a.k a.case.now a.s.now) n c.requires.ended c.registers.result (c.registers.ensures a.k) c.insert-put.ensures
