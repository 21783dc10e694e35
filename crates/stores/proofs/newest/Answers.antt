use mathlib.Core.Path.{◌≡◌, ◌∙◌, ap, sym}
use mathlib.Core.Bool.{true, ◌&&◌}
use lib.Dec.{eqb}
use lib.ListN.{get_or}
use Rattle.std.specs.Prelude.{Some}
use Rattle.words.proofs.Bools.{cond-true, cond-false}
use Rattle.machine.specs.Shown.{Value, shown_value}
use Rattle.stores.specs.Log.{blank, sits_in, newer_by}
use Rattle.stores.proofs.Gathered.{newest-none, newest_next}
use Rattle.stores.proofs.newest.Goals.{then-sits-x, else-sits-x}
use Rattle.stores.proofs.newest.Goals as goal

pub loop-x-init : goal.loop-x-init
loop-x-init c = let a = c.args in newest-none a.k a.log.now a.p a.b a.l

pub loop-x-preserved : goal.loop-x-preserved
loop-x-preserved c =
    let a = c.args in
    let x = get_or a.log.now c.loop-x.x-index blank in
    let here = sits_in a.k a.p a.b x && eqb x.loc a.l in
    let same = ap (λ t. t && eqb x.loc a.l) (sym c.sits.ensures) in
    let new : Value = Some x.value in
    let old = c.loop-x.v in
    let u : c.if-sits-x.v ≡ newer_by here x.value old = elim c.if-sits-x.branch [
      | then-sits-x w ↦ w.v-is ∙ sym (cond-true here new old (same ∙ w.if-sits-x.true))
      | else-sits-x w ↦ w.v-is ∙ sym (cond-false here new old (same ∙ w.if-sits-x.false))
    ] in
    ap shown_value u ∙ newest_next a.k a.log.now a.p a.b a.l c.loop-x.x-index old c.loop-x.invariant
