use mathlib.Core.Path.{refl}
use native.Mathlib.Omega.{arith}
use Rattle.stores.proofs.Gathered.{taken_oldest, taken-none}
use Rattle.running.proofs.Draining.{oldest-low, drain_shows, drain_valid}
use Rattle.running.proofs.drain.Goals as goal

pub returns-in-Some : goal.returns-in-Some
returns-in-Some c =
    let a = c.args in
    let s = a.s.now in
    let O = taken_oldest s.log s.logged (omega (arith, c.requires.valid.logged, c.requires.valid.log_long)) c.stores.ensures a.k a.p a.b c.in-Some.j c.in-Some.ensures.oldest in
    record {
      shows = drain_shows a.k a.case.now s a.p a.b c.in-Some.j c.requires O;
      valid = drain_valid a.k a.case.now s a.p a.b c.in-Some.j c.requires O;
      logged = refl;
    }

pub returns-in_default : goal.returns-in_default
returns-in_default c =
    let a = c.args in
    let s = a.s.now in
    let O = taken-none s.log s.logged (omega (arith, c.requires.valid.logged, c.requires.valid.log_long)) c.stores.ensures a.k a.p a.b c.in_default.ensures.oldest in
    absurd (omega (arith, oldest-low a.k a.case.now s a.p a.b s.logged c.requires O))
