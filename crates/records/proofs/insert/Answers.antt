use mathlib.Core.Path.{◌≡◌, sym, ◌∙◌}
use mathlib.Core.Bool.{true≢false}
use native.Mathlib.Omega.{arith}
use lib.ListN.{length}
use Rattle.records.proofs.Putting.{inserted_same, inserted_full, inserted_put, put_back}
use Rattle.records.proofs.insert.Goals as goal

pub returns-then-there : goal.returns-then-there
returns-then-there c =
    inserted_same c.requires c.find-at.ensures (c.there.ensures.0 c.if-there.true)

pub returns-then-out-n : goal.returns-then-out-n
returns-then-out-n c =
    inserted_full c.requires c.find-at.ensures (λ m. true≢false (sym (c.there.ensures.1 m) ∙ c.if-there.false)) c.if-out-n.true

pub returns-else-out-n : goal.returns-else-out-n
returns-else-out-n c =
    let shift = c.shift_in in
    let out = c.args.out.now in
    let r = c.args.r in
    let n = c.args.n in
    let size : length r ≡ 96 = omega (arith, c.well_formed) in
    inserted_put c.requires c.find-at.ensures (λ m. true≢false (sym (c.there.ensures.1 m) ∙ c.if-there.false)) size c.if-out-n.false _
    (put_back out r n c.find-at.result shift.new.tail shift.ensures)
