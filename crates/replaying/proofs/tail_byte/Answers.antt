use mathlib.Core.Path.{◌∙◌, sym, ap}
use Prim.Native.Nat.{◌%◌}
use native.Mathlib.Omega.{arith}
use lib.ListN.{get_or}
use Rattle.rules.specs.Result.{place_byte}
use Rattle.replaying.proofs.Results.{place_byte_lem, tail_absent, tail_place, tail_queue}
use Rattle.replaying.proofs.tail_byte.Goals as goal

pub returns-then-case-p : goal.returns-then-case-p
returns-then-case-p c = let a = c.args in λ k s e h q. tail_absent k s a.j c.requires.1 (omega (arith, e, c.if-case-p.true))

pub returns-then-j-lt4 : goal.returns-then-j-lt4
returns-then-j-lt4 c =
    let a = c.args in
    λ k s e h q. place_byte_lem (get_or a.m.now.places (a.j % 4) 0) ∙ ap place_byte (sym (q (a.j % 4))) ∙ tail_place k s a.j c.if-j-lt4.true (omega (arith, e, c.if-case-p.false))

pub returns-else-j-lt4 : goal.returns-else-j-lt4
returns-else-j-lt4 c =
    let a = c.args in
    λ k s e h q. c.queue_length.ensures k s h ∙ tail_queue k s a.j c.if-j-lt4.false c.requires.1 (omega (arith, e, c.if-case-p.false))
