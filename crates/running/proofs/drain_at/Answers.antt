use mathlib.Core.Path.{sym}
use native.Mathlib.Omega.{arith}
use Prim.Native.Nat.{◌≤◌, ◌<◌}
use lib.ListN.{length}
use Rattle.stores.proofs.Gathered.{taken_oldest, taken-none, taken_long, oldest_location, oldest-none}
use Rattle.running.proofs.drain_at.Goals as goal

pub returns-in_err-j : goal.returns-in_err-j
returns-in_err-j c =
    let a = c.args in
    let s = a.s.now in
    let room : s.logged ≤ length s.log = omega (arith, c.requires.0, c.requires.1) in
    rw c.from_residual.ensures (sym (oldest-none a.k s.log s.logged a.p a.b (taken-none s.log s.logged room c.stores.ensures a.k a.p a.b c.in_err-j.ensures.oldest)))

pub returns : goal.returns
returns c =
    let a = c.args in
    let s = a.s.now in
    let room : s.logged ≤ length s.log = omega (arith, c.requires.0, c.requires.1) in
    let inside : c.in_ok-j.j < s.logged = omega (arith, c.in_ok-j.ensures.inside, taken_long s.log s.logged room c.stores.ensures) in
    sym (oldest_location a.k s.log s.logged a.p a.b c.in_ok-j.j inside (taken_oldest s.log s.logged room c.stores.ensures a.k a.p a.b c.in_ok-j.j c.in_ok-j.ensures.oldest))
