use mathlib.Core.Logic.{⊎_elim}
use borrow.Author.Tests.{eq-eqb, ne_eqb}
use Rattle.replaying.proofs.Answers.{odd_length, long_length, other_size, no_length}
use Rattle.replaying.proofs.refusal.Goals as goal

pub returns-then-code-ne0 : goal.returns-then-code-ne0
returns-then-code-ne0 c = rw (ne_eqb c.args.code 0 c.if-code-ne0.true)

pub returns-then-schedule-gt384 : goal.returns-then-schedule-gt384
returns-then-schedule-gt384 c = let a = c.args in rw (eq-eqb a.code 0 c.if-code-ne0.false) (⊎_elim (odd_length a.wanted a.schedule a.size) (λ q. long_length a.wanted a.schedule a.size q.0 q.1) c.if-schedule-gt384.either)

pub returns-then-size-wanted : goal.returns-then-size-wanted
returns-then-size-wanted c = let a = c.args in rw (eq-eqb a.code 0 c.if-code-ne0.false) (other_size a.wanted a.schedule a.size c.if-schedule-gt384.false.0 c.if-schedule-gt384.false.1 c.if-size-wanted.true)

pub returns-else-size-wanted : goal.returns-else-size-wanted
returns-else-size-wanted c = let a = c.args in rw (eq-eqb a.code 0 c.if-code-ne0.false) (no_length a.wanted a.schedule a.size c.if-schedule-gt384.false.0 c.if-schedule-gt384.false.1 c.if-size-wanted.false)
