use mathlib.Core.Path.{◌∙◌, refl}
use native.Mathlib.Omega.{arith}
use lib.ListN.{get_or, length-set}
use Rattle.words.proofs.Lists.{filled_more}
use Rattle.rules.specs.Result.{result_bytes}
use Rattle.machine.specs.Shown.{shown}
use Rattle.replaying.proofs.Results.{result_is}
use borrow.Author.Rules.{rules}
use Rattle.replaying.proofs.show.Goals as goal

pub loop-i-init : goal.loop-i-init
loop-i-init c = (search rules, search rules, λ k p r j lt. absurd (omega arith))

pub loop-i-preserved : goal.loop-i-preserved
loop-i-preserved c =
    let a = c.args in (
      search rules,
      length-set c.loop-i.res c.loop-i.i _ ∙ c.loop-i.invariant.1,
      λ k p r.
          filled_more (λ j. get_or (result_bytes k (shown k a.m.now)) j 0) 0 c.loop-i.res c.loop-i.i c.result_byte.result (omega (arith, c.loop-i.invariant.1, c.loop-i-test.true)) (c.result_byte.ensures k (shown k a.m.now) p (record { count = refl; actions = refl }) (λ q. refl) r) (c.loop-i.invariant.2 k p r),
    )

pub returns : goal.returns
returns c =
    let a = c.args in
    let s = shown a.case.now a.m.now in
    let r = c.registers-registers.ensures a.case.now s refl (record { masks = refl; presets = refl }) (record { count = refl; actions = refl }) refl in
    result_is a.case.now s c.loop-i.res c.loop-i.invariant.1 (λ j lt. c.loop-i.invariant.2 a.case.now refl r j (omega (arith, c.loop-i-test.false)))
