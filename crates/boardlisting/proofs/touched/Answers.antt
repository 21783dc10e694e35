use mathlib.Core.Path.{◌≡◌, ◌∙◌, ap, sym}
use mathlib.Core.Bool.{not}
use Rattle.std.specs.Prelude.{is_some, unwrap_or}
use Rattle.machine.specs.Shown.{option_of}
use Rattle.running.specs.Shown.{shown}
use Rattle.boards.specs.Apart.{looks}
use Rattle.boards.specs.Machine.{run}
use Rattle.boardlisting.proofs.Sparing.{touched_run, touched_drain, looks_read, looks-other, as_option}
use Rattle.boardlisting.proofs.touched.Goals.{in-Read, in_default}
use Rattle.boardlisting.proofs.touched.Goals as goal

pub returns-after-matches : goal.returns-after-matches
returns-after-matches c =
    let a = c.args in
    let g = c.glance-next.result in
    let G = c.glance-next.ensures in
    let b = shown a.k a.case.now a.s.now in
    let read : c.match-matches.matches ≡ looks a.k a.case.now b (run a.i) = elim c.match-matches.branch [
      | in-Read w ↦ w.matches-is ∙ looks_read a.k a.case.now b a.i (sym G.instr ∙ w.in-Read.is)
      | in_default w ↦ w.matches-is ∙ looks-other a.k a.case.now b a.i g.instr G.instr w.in_default.not-Read
    ] in
    touched_run a.k a.case.now b a.i g c.then_some.result c.match-matches.matches c.if-i-lt4.true G (ap (λ o. option_of (is_some o) (unwrap_or o 0)) c.then_some.ensures ∙ as_option (not g.quiet) g.at) read

pub returns-else-i-lt4 : goal.returns-else-i-lt4
returns-else-i-lt4 c =
    let a = c.args in
    touched_drain a.k a.case.now (shown a.k a.case.now a.s.now) a.i c.drain_at.result c.if-i-lt4.false c.drain_at.ensures
