use mathlib.Core.Path.{◌∙◌, ap, sym}
use native.Mathlib.Omega.{arith}
use Prim.Native.Nat.{◌≤◌}
use lib.ListN.{length}
use Rattle.boards.specs.Board.{newest_to}
use Rattle.stores.proofs.Gathered.{taken_buffer}
use Rattle.running.proofs.Seeing.{seen_known, seen-unknown, seen_direct}
use Rattle.running.proofs.seen.Goals as goal
use Rattle.running.proofs.seen.Goals.{in-Some+in_default-newest, in_default}

pub returns-in-Some-newest : goal.returns-in-Some-newest
returns-in-Some-newest c =
    let a = c.args in
    let room : a.s.now.logged ≤ length a.s.now.log = omega (arith, c.requires.logged, c.requires.log_long) in
    λ k. seen_known a.k k a.s.now a.p a.l c.in-Some.b c.newest.result c.in-Some-newest.v (sym c.buffer_of.ensures ∙ c.in-Some.is) (c.newest.ensures ∙ ap (newest_to a.l) (taken_buffer a.s.now.log a.s.now.logged room c.stores.ensures a.k a.p c.in-Some.b)) c.in-Some-newest.is

pub returns : goal.returns
returns c =
    let a = c.args in
    let room : a.s.now.logged ≤ length a.s.now.log = omega (arith, c.requires.logged, c.requires.log_long) in
    λ k. elim c.match-buffer_of.branch [
      | in-Some+in_default-newest w ↦ seen-unknown a.k k a.s.now a.p a.l w.in-Some.b w.newest.result (sym c.buffer_of.ensures ∙ w.in-Some.is) (w.newest.ensures ∙ ap (newest_to a.l) (taken_buffer a.s.now.log a.s.now.logged room w.stores.ensures a.k a.p w.in-Some.b)) w.in_default-newest.is
      | in_default w ↦ seen_direct a.k k a.s.now a.p a.l (sym c.buffer_of.ensures ∙ w.in_default.is)
    ]
