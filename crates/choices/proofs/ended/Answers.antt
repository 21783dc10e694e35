use Rattle.machine.proofs.Answers.{at_count}
use Rattle.machine.proofs.Listing.{all_next}
use Rattle.sure.specs.Quiet.{ended as has_ended}
use Rattle.cases.specs.Case.{count_of}
use Rattle.words.specs.Small.{all as every, is, counting}
use mathlib.Core.List.{List}
use lib.Dec.{eqb}
use lib.ListN.{get_or}
use mathlib.Core.Option.{Option}
use native.Mathlib.Omega.{arith}
use Prim.Native.Nat.{ℕ}
use mathlib.Core.Path.{◌≡◌, refl, ◌∙◌, sym, ap, subst}
use Rattle.choices.proofs.ended.Goals as goal

pub loop-p-init : goal.loop-p-init
loop-p-init c = λ t s E. refl

pub loop-p-preserved : goal.loop-p-preserved
loop-p-preserved c =
    let a = c.args in
    let p = c.loop-p.p in
    λ t s E. all_next (λ q. is (count_of t q) (s.places q)) p c.loop-p.all _ (c.loop-p.invariant t s E)
    (ap (λ (l : List ℕ). eqb (get_or a.places.now p 0) (get_or l p 0)) (sym E.counted) ∙ at_count (count_of t p) (get_or a.places.now p 0) (E.fit.counts p) ∙ ap (λ (f : ℕ → Option ℕ). is (count_of t p) (f p)) (sym E.placed))

pub returns : goal.returns
unfolding has_ended
returns c =
    let a = c.args in
    let q : c.loop-p.p ≡ a.case.now.procs = omega arith in
    λ t s E. subst (λ (n : ℕ). c.loop-p.all ≡ every (λ q. is (count_of t q) (s.places q)) (counting 0 n)) (q ∙ sym E.present) (c.loop-p.invariant t s E)
