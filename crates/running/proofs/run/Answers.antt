use Rattle.rules.specs.Kinds.{kind}
use Rattle.rules.specs.Kinds.{reading}
use mathlib.Core.Path.{◌≡◌, ◌∙◌, ap, refl}
use mathlib.Core.Bool.{true}
use Prim.Native.Nat.{ℕ}
use native.Mathlib.Omega.{arith}
use lib.ListN.{get_or, set}
use borrow.Author.Tests.{eqb-true}
use Rattle.words.specs.Small.{or_zero}
use Rattle.cases.specs.Case.{instr_at}
use Rattle.issuing.specs.Issued.{assigned_by}
use Rattle.committing.specs.Committed.{result_by, locked_by}
use Rattle.boards.specs.Board.{seen}
use Rattle.running.specs.Shown.{shown}
use Rattle.running.specs.Steps.{first_by, second_by, assign_by, follow_by, written_by}
use Rattle.running.proofs.Running.{written_values, read_near, ran_right}
use Rattle.running.proofs.run.Goals as goal

pub returns : goal.returns
returns c =
    let a = c.args in
    let C = a.case.now in
    let m = a.s.now in
    let place = get_or m.places a.p 0 in
    let t = instr_at C a.p place in
    let q : c.kind_of-q.result ≡ kind t = c.kind_of-q.ensures.0 in
    let x : c.or_zero-x.result ≡ or_zero (first_by m.values a.p t) = c.or_zero-x.ensures ∙ ap or_zero c.first.ensures in
    let y : c.or_zero-y.result ≡ or_zero (second_by m.values a.p t) = c.or_zero-y.ensures ∙ ap or_zero c.second.ensures in
    let val = c.value_read.result in
    let hv : reading (kind t) ≡ true → val ≡ seen a.k (shown a.k C m) a.p (or_zero (first_by m.values a.p t)) = λ r. c.value_read.ensures C (q ∙ eqb-true (kind t) 1 r) (omega (arith, x, read_near a.k C m a.p c.requires t refl r)) ∙ ap (seen a.k (shown a.k C m) a.p) x in
    let wr : c.write.new.s ≡ written_by a.k m (kind t) a.p (or_zero (first_by m.values a.p t)) (or_zero (second_by m.values a.p t)) = c.write.ensures ∙ (λ j. written_by a.k m (q j) a.p (x j) (y j)) in
    let at : c.follow.result ≡ follow_by t place (or_zero (first_by m.values a.p t)) = c.follow.ensures ∙ ap (λ (n : ℕ). follow_by t place n) x in
    let lk : c.locked_by-next.result ≡ locked_by (kind t) m.holders (or_zero (first_by m.values a.p t)) a.p = c.locked_by-next.ensures ∙ (λ j. locked_by (q j) m.holders (x j) a.p) in
    let old : c.write.new.s.values ≡ m.values = ap (λ w. w.values) c.write.ensures ∙ written_values a.k m c.kind_of-q.result a.p c.or_zero-x.result c.or_zero-y.result in
    let res : c.result_by-result.result ≡ result_by val (or_zero (first_by m.values a.p t)) (or_zero (second_by m.values a.p t)) t = c.result_by-result.ensures ∙ (λ j. result_by val (x j) (y j) t) in
    let rg : c.assign.new.values ≡ assign_by m.values a.p (assigned_by t) (result_by val (or_zero (first_by m.values a.p t)) (or_zero (second_by m.values a.p t)) t) = c.assign.ensures ∙ (λ j. assign_by (old j) a.p (assigned_by t) (res j)) in
    ran_right a.k C m a.p c.requires t refl val hv _ (λ j. record { places = set (wr j).places a.p (at j); values = rg j; holders = lk j; memory = (wr j).memory; logged = (wr j).logged; log = (wr j).log })
