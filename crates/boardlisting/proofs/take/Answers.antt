use mathlib.Core.Path.{◌∙◌, sym, ap}
use native.Mathlib.Omega.{arith}
use borrow.Author.Tests.{lt-ltb}
use Rattle.words.proofs.Bools.{cond-true}
use Rattle.boards.specs.Machine.{moved}
use Rattle.running.specs.Shown.{shown}
use Rattle.boardlisting.proofs.Loop.{moved_run}
use Rattle.boardlisting.proofs.take.Goals as goal

pub returns-then-i-lt4 : goal.returns-then-i-lt4
returns-then-i-lt4 c =
    let a = c.args in
    let e = lt-ltb a.i 4 c.if-i-lt4.true in
    record {
      shows = c.run.ensures.shows ∙ moved_run a.k a.case.now (shown a.k a.case.now a.s.now) a.i ∙ ap (moved a.k a.case.now (shown a.k a.case.now a.s.now)) (sym (cond-true _ _ _ e));
      valid = c.run.ensures.valid;
      few = λ n h g. rw e (omega (arith, c.run.ensures.logged));
    }
