use mathlib.Core.Logic.{⊎_elim}
use Prim.Native.Nat.{◌-◌}
use native.Mathlib.Omega.{arith}
use Rattle.clauses.specs.Wanted.{wanted}
use Rattle.machine.specs.Shown.{shown}
use Rattle.searching.proofs.Opened.{opens_step}
use Rattle.asking.specs.Inner.{step_at}
use Rattle.asking.proofs.Descent.{scanning_at, next_at, standing_next, held_after_lem, vain_after, skipped_start, skipped_more, first_here, first_none}
use Rattle.asking.proofs.Question.first_in_reach.Goals as goal
use Rattle.asking.proofs.Question.first_in_reach.Goals.{else-j-span-via-then-j-span+else-within_reach, else-j-span-via-else-j-span}

pub loop-at-init : goal.loop-at-init
loop-at-init c = let a = c.args in skipped_start a.self.now.case (wanted a.self.now.asked) (shown a.self.now.case a.m.now) (a.n - 1) a.span.start a.span.end c.requires.rising

pub next_step-j-requires : goal.next_step-j-requires
next_step-j-requires c =
    scanning_at c.requires.standing (omega (arith, c.loop-at-test.true)) c.requires.upto

pub after_step-requires : goal.after_step-requires
after_step-requires c =
    let a = c.args in
    record {
      coded = c.requires.standing.coded;
      fitting = record {
        valid = c.requires.standing.valid;
        low = omega (arith, c.if-j-span.true, c.requires.upto);
        fits = opens_step a.self.now.case (shown a.self.now.case a.m.now) _ _ ((next_at c.requires.standing c.next_step-j.ensures).found c.if-j-span.true).0;
      };
    }

pub overflow_sub-n : goal.overflow_sub-n
overflow_sub-n c = omega (arith, c.requires.more)

pub within_reach-requires : goal.within_reach-requires
within_reach-requires c =
    let a = c.args in
    standing_next c.requires.standing (step_at (shown a.self.now.case a.m.now) c.next_step-j.result) (opens_step a.self.now.case (shown a.self.now.case a.m.now) _ _ ((next_at c.requires.standing c.next_step-j.ensures).found c.if-j-span.true).0) c.after_step.ensures

pub returns-then-within_reach : goal.returns-then-within_reach
returns-then-within_reach c =
    let a = c.args in (
      first_here a.self.now.case (wanted a.self.now.asked) (shown a.self.now.case a.m.now) (a.n - 1) c.loop-at.invariant c.next_step-j.result (next_at c.requires.standing c.next_step-j.ensures) c.if-j-span.true
          (held_after_lem (shown a.self.now.case a.m.now) (step_at (shown a.self.now.case a.m.now) c.next_step-j.result) c.after_step.ensures.shows c.within_reach.ensures c.if-within_reach.true),
      c.if-j-span.true,
    )

pub overflow_add-at : goal.overflow_add-at
overflow_add-at c =
    omega (arith, (next_at c.requires.standing c.next_step-j.ensures).upto, c.requires.upto)

pub loop-at-smaller : goal.loop-at-smaller
loop-at-smaller c =
    omega (arith, c.loop-at-test.true, (next_at c.requires.standing c.next_step-j.ensures).from)

pub loop-at-preserved : goal.loop-at-preserved
loop-at-preserved c =
    let a = c.args in
    skipped_more a.self.now.case (wanted a.self.now.asked) (shown a.self.now.case a.m.now) (a.n - 1) c.loop-at.invariant c.next_step-j.result (next_at c.requires.standing c.next_step-j.ensures)
    (elim c.else-j-span.branch [
      | else-j-span-via-then-j-span+else-within_reach w ↦ λ l. vain_after (shown a.self.now.case a.m.now) (step_at (shown a.self.now.case a.m.now) c.next_step-j.result) w.after_step.ensures.shows w.within_reach.ensures w.if-within_reach.false
      | else-j-span-via-else-j-span w ↦ λ l. absurd (omega (arith, w.if-j-span.false, l))
    ])

pub returns : goal.returns
returns c =
    let a = c.args in
    first_none a.self.now.case (wanted a.self.now.asked) (shown a.self.now.case a.m.now) (a.n - 1) c.requires.rising c.loop-at.invariant c.loop-at-test.false
