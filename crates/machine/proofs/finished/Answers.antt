use mathlib.Core.Path.{◌≡◌, ◌∙◌, sym, subst, refl}
use mathlib.Core.Bool.{◌&&◌}
use Prim.Native.Nat.{ℕ, ◌+◌}
use native.Mathlib.Omega.{arith}
use lib.Dec.{eqb}
use lib.ListN.{get_or}
use borrow.Author.Tests.{eq-eqb, ne_eqb}
use Rattle.words.proofs.Bools.{and_true, and_right}
use Rattle.words.specs.Small.{all as every, counting}
use Rattle.rules.specs.Result.{finished as is_finished}
use Rattle.machine.proofs.Listing.{all_next}
use Rattle.machine.proofs.Answers.{ended, ended_is}
use Rattle.machine.proofs.finished.Goals.{then-m-p, else-m-p}
use Rattle.machine.proofs.finished.Goals as goal

pub loop-p-init : goal.loop-p-init
loop-p-init c = λ k s e h. refl

pub loop-p-preserved : goal.loop-p-preserved
loop-p-preserved c =
    let a = c.args in
    let p = c.loop-p.p in
    let x = get_or a.m.now.sets (16 + p) 0 in
    let there = eqb (get_or a.m.now.places p 0) (get_or a.case.now.counts p 0) in
    let asked : c.if-m-p.all ≡ (eqb x 0 && there) =
    elim c.if-m-p.branch [
      | then-m-p w ↦ w.all-is ∙ rw (eq-eqb _ _ w.if-m-p.true) (sym (and_true (eqb x 0)))
      | else-m-p w ↦ let no = ne_eqb _ _ w.if-m-p.false in w.all-is ∙ no ∙ sym (and_right (eqb x 0) there no)
    ] in
    λ k s e h. all_next (ended k s) p c.loop-p.all _ (c.loop-p.invariant k s e h) (asked ∙ ended_is k s a.case.now.counts a.m.now.places a.case.now.procs p x e (h.queues p (omega (arith, c.requires))))

pub returns : goal.returns
unfolding is_finished
returns c =
    λ k s e h. let q : c.loop-p.p ≡ k.procs = omega (arith, e.present) in
    subst (λ (n : ℕ). c.loop-p.all ≡ every (ended k s) (counting 0 n)) q (c.loop-p.invariant k s e h)
