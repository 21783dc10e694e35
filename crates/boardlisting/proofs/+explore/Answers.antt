use mathlib.Core.Path.{◌≡◌, sym, ◌∙◌, ap, subst}
use Prim.Native.Nat.{ℕ, ◌≤◌, ◌<◌, ◌-◌}
use native.Mathlib.Omega.{arith}
use lib.Bits.{bit_or}
use Rattle.running.specs.Shown.{shown}
use Rattle.running.proofs.Draining.{shown_placed}
use Rattle.boardlisting.proofs.Loop.{open_allowed, searched_stop, sweep_skip, sweep_turn, sweep_full}
use Rattle.boardlisting.proofs.Sparing.{known_next, kept_sure}
use Rattle.boardlisting.proofs.Whole.{Ends, ends_sure, ends-all, ready_next, as_ready, as_move, as_bound, last_most, sweep_same, swept_all}
use Rattle.std.specs.Prelude.{cond, is_some, unwrap_or}
use Rattle.boardlisting.specs.Spent.{Kept}
use Rattle.stores.proofs.Gathered.{taken_waits}
use Rattle.boardlisting.proofs.+explore.Goals as goal
use Rattle.boardlisting.proofs.+explore.Goals.{in-Some, in-None, then-is_open+else-sum, else-is_open}

pub returns-then-ended : goal.returns-then-ended
returns-then-ended t c = c.finish.ensures c.args.n

pub returns-then-n-eq0 : goal.returns-then-n-eq0
returns-then-n-eq0 t c =
    let a = c.args in
    searched_stop a.k a.case.now (shown a.k a.case.now a.s.now) a.n c.if-n-eq0.true (sym (c.ended.ensures a.k) ∙ c.if-ended.false) c.requires.held

pub is_open-requires : goal.is_open-requires
is_open-requires t c =
    let a = c.args in
    let R = c.requires in
    let s = a.s.now in
    let E : Ends c.sure_run-sure.result c.match-sure.from = elim c.match-sure.branch [
      | in-Some w ↦ ends_sure w.in-Some.p w.in-Some.is w.from-is c.sure_run-sure.ensures.inside
      | in-None w ↦ ends-all w.in-None.is w.from-is
    ] in
    record {
      valid = R.valid;
      position = omega (arith, c.loop-at-test.true, E.last, last_most (unwrap_or c.sure_run-sure.result 4));
      waits = taken_waits s.log s.logged (omega (arith, R.valid.logged, R.valid.log_long)) c.stores.ensures a.k c.waiting-waits.result c.waiting-waits.ensures;
    }

pub explore-sum-requires : goal.explore-sum-requires
explore-sum-requires t c =
    let a = c.args in
    let R = c.requires in
    let C = a.case.now in
    let b = shown a.k C a.s.now in
    let more : 0 < a.n = omega (arith, c.if-n-eq0.false) in
    let opens = sym c.is_open.ensures ∙ c.if-is_open.true in
    let S = c.loop-at.invariant in
    let at = c.loop-at.at in
    let sure = c.sure_run-sure.ensures in
    let E : Ends c.sure_run-sure.result c.match-sure.from = elim c.match-sure.branch [
      | in-Some w ↦ ends_sure w.in-Some.p w.in-Some.is w.from-is c.sure_run-sure.ensures.inside
      | in-None w ↦ ends-all w.in-None.is w.from-is
    ] in
    let same : c.match-sure.sure ≡ c.sure_run-sure.result = elim c.match-sure.branch [
      | in-Some w ↦ w.sure-is ∙ sym w.in-Some.is
      | in-None w ↦ w.sure-is
    ] in
    let kept = subst (λ o. Kept a.k C b (cond (is_some o) 0 4) c.loop-at.done at c.kept-left.result) same c.kept-left.ensures in
    let K = known_next a.k C b (a.n - 1) (unwrap_or c.sure_run-sure.result 4) at c.loop-at.done c.kept-left.result (shown_placed a.k C a.s.now) sure.sure (subst (λ (f : ℕ). f ≤ at) E.first S.late) (subst (λ (f : ℕ). at < f) E.last c.loop-at-test.true) opens (kept_sure c.sure_run-sure.result sure.inside kept) S.known in
    let N = ready_next R more at (open_allowed a.k C b c.loop-at.done at opens) c.take-next.ensures.shows c.take-next.ensures.valid (c.take-next.ensures.few a.n more R.few) S.room S.held K in
    (subst (λ (x : ℕ). a.deep - 1 < x) (c.decreases) (omega (arith, N.0)), as_ready c.left_after-rest.ensures N.1)

pub returns-then-sum : goal.returns-then-sum
returns-then-sum t c =
    let a = c.args in
    let b = shown a.k a.case.now a.s.now in
    let more : 0 < a.n = omega (arith, c.if-n-eq0.false) in
    as_bound more (sweep_full a.k a.case.now b (a.n - 1) c.match-sure.from.0 c.loop-at.invariant (sym c.is_open.ensures ∙ c.if-is_open.true) (as_move b c.take-next.result c.loop-at.at more c.take-next.ensures.shows c.left_after-rest.ensures c.explore-sum.ensures) c.if-sum.true)

pub loop-at-preserved : goal.loop-at-preserved
loop-at-preserved t c =
    let a = c.args in
    let b = shown a.k a.case.now a.s.now in
    let more : 0 < a.n = omega (arith, c.if-n-eq0.false) in
    let S = c.loop-at.invariant in
    elim c.if-is_open.branch [
      | then-is_open+else-sum w ↦ sweep_same w.out-is (w.done-is ∙ ap (bit_or c.loop-at.done) w.one-done.ensures) w.sum-is (sweep_turn a.k a.case.now b (a.n - 1) c.match-sure.from.0 S (sym c.is_open.ensures ∙ w.if-is_open.true) (as_move b w.take-next.result c.loop-at.at more w.take-next.ensures.shows w.left_after-rest.ensures w.explore-sum.ensures) w.if-sum.false)
      | else-is_open w ↦ sweep_same w.out-is w.done-is w.sum-is (sweep_skip a.k a.case.now b (a.n - 1) c.match-sure.from.0 S (sym c.is_open.ensures ∙ w.if-is_open.false))
    ]

pub returns : goal.returns
returns t c =
    let a = c.args in
    let R = c.requires in
    let more : 0 < a.n = omega (arith, c.if-n-eq0.false) in
    let E : Ends c.sure_run-sure.result c.match-sure.from = elim c.match-sure.branch [
      | in-Some w ↦ ends_sure w.in-Some.p w.in-Some.is w.from-is c.sure_run-sure.ensures.inside
      | in-None w ↦ ends-all w.in-None.is w.from-is
    ] in
    as_bound more (swept_all (unwrap_or c.sure_run-sure.result 4) R.valid.fit (sym (c.ended.ensures a.k) ∙ c.if-ended.false) c.sure_run-sure.ensures.sure E.first E.last c.loop-at.invariant c.loop-at-test.false)
