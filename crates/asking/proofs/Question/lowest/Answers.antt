use mathlib.Core.Path.{◌≡◌, refl, sym, ◌∙◌, subst}
use Prim.Native.Nat.{◌+◌, ◌*◌, ◌-◌}
use native.Mathlib.Omega.{arith}
use borrow.Author.Rules.{rules}
use Rattle.clauses.specs.Wanted.{wanted}
use Rattle.asking.proofs.Descent.{ended_at, Descending, descending_at, descending_start, descending_more, descended, at_last, laid-length, room_left}
use Rattle.asking.proofs.Question.lowest.Goals as goal

pub start-m-requires : goal.start-m-requires
start-m-requires c = c.requires.fit

pub loop-k-init : goal.loop-k-init
loop-k-init c =
    let a = c.args in
    descending_at (omega arith) (omega arith) (descending_start a.self.now.case (wanted a.self.now.asked) a.n c.requires.few c.start-m.ensures.0 c.start-m.ensures.1 c.requires.held c.requires.clear)

pub finished-requires : goal.finished-requires
finished-requires c = c.loop-k.invariant.valid.fit.procs

pub returns-then-finished : goal.returns-then-finished
returns-then-finished c =
    let a = c.args in
    descended a.self.now.case (wanted a.self.now.asked) a.n c.requires.few c.loop-k.invariant (sym (ended_at c.loop-k.invariant.valid c.finished.ensures) ∙ c.if-finished.true)

pub lowest_step-j-requires : goal.lowest_step-j-requires
lowest_step-j-requires c =
    let D = c.loop-k.invariant in
    record {
      standing = record { coded = c.requires.coded; valid = D.valid; reached = D.reached; forwards = c.requires.forwards; few = omega (arith, D.count, c.requires.few); asks = c.requires.asks };
      more = omega (arith, c.loop-k-test.true);
      undone = sym (ended_at D.valid c.finished.ensures) ∙ c.if-finished.false;
      held = D.held;
    }

pub bytes_at-requires : goal.bytes_at-requires
bytes_at-requires c =
    record { valid = c.loop-k.invariant.valid; low = c.lowest_step-j.ensures.small; fits = c.lowest_step-j.ensures.fits }

pub put_step-requires : goal.put_step-requires
put_step-requires c =
    let a = c.args in
    let D = c.loop-k.invariant in
    omega (arith, room_left a.self.now.case (wanted a.self.now.asked) a.n c.requires.few D (omega (arith, c.loop-k-test.true)), laid-length a.self.now.case (wanted a.self.now.asked) a.n c.requires.few D)

pub after_step-m-requires : goal.after_step-m-requires
after_step-m-requires c =
    record { coded = c.requires.coded; fitting = record { valid = c.loop-k.invariant.valid; low = c.lowest_step-j.ensures.small; fits = c.lowest_step-j.ensures.fits } }

pub loop-k-preserved : goal.loop-k-preserved
loop-k-preserved c =
    let a = c.args in
    let k = c.loop-k.k in
    let D = c.loop-k.invariant in
    let left : a.n - k - 1 ≡ a.n - (k + 1) = omega arith in
    let at : 4 * k + 4 ≡ 4 * (k + 1) = omega arith in
    descending_at left at (subst (Descending a.self.now.case (wanted a.self.now.asked) a.n c.after_step-m.result (a.n - k - 1) (4 * k + 4)) (sym c.put_step.ensures)
    (descending_more a.self.now.case (wanted a.self.now.asked) a.n c.requires.few D (omega (arith, c.loop-k-test.true)) (sym (ended_at D.valid c.finished.ensures) ∙ c.if-finished.false) c.lowest_step-j.result c.lowest_step-j.ensures c.after_step-m.ensures c.bytes_at.result c.bytes_at.ensures))

pub returns : goal.returns
returns c =
    let a = c.args in
    let D = c.loop-k.invariant in
    let at : 4 * c.loop-k.k ≡ 4 * a.n = omega (arith, c.loop-k-test.false, c.loop-k.auto.k-end) in
    descended a.self.now.case (wanted a.self.now.asked) a.n c.requires.few (descending_at refl at D) (at_last a.self.now.case (wanted a.self.now.asked) a.n c.requires.few D (omega (arith, c.loop-k-test.false)))
