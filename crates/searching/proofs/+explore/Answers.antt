use mathlib.Core.Path.{refl, sym, ◌∙◌, subst}
use Prim.Native.Nat.{ℕ, ◌<◌, ◌-◌}
use native.Mathlib.Omega.{arith}
use Rattle.machine.specs.Shown.{shown}
use Rattle.searching.specs.Entered.{Woken}
use Rattle.searching.proofs.Lends.{presets, acts, registers, ending, asking, lent, entries}
use Rattle.searching.proofs.Entered.{entered_shows, woken_none, standing, explored}
use Rattle.searching.proofs.Returns.{Stage, return_bound, return_left, loop_start, loop_choosing, turn, loop_most, loop_falls, loop_skip, loop_ready, loop_turn, return_branch, return_swept, turns_same, to_most}
use Rattle.searching.proofs.+explore.Goals as goal
use Rattle.searching.proofs.+explore.Goals.{After-positions-sweep, then-k-sweep+else-sum-j, else-k-sweep}

-- the step is taken, and what stays spent where it leads
woken : (t : ℕ) (c : After-positions-sweep t) → Woken (shown c.args.case.now c.args.old.now) c.args.i c.args.spent.now c.wake.new.spent
woken t c = let k = c.args.case.now in let old = c.args.old.now in c.wake.ensures k (shown k old) (presets k old) (acts k old) c.requires.entering.fits

-- what is known where the loop begins
stage : (t : ℕ) (c : After-positions-sweep t)
    → Stage c.args.case.now c.args.program.now c.enter.new.m c.args.n c.args.ahead c.args.asked c.wake.new.spent c.args.out.now c.args.tally c.sure_step-j.result c.positions-sweep.result
stage t c =
    let k = c.args.case.now in
    let m = c.enter.new.m in
    let R = c.requires in
    let shows = entered_shows R c.enter.ensures in
    let v = shows.valid in
    record {
      stands = standing (woken t c) shows R;
      more = c.if-n-eq0.false;
      found = c.sure_step-j.ensures k (lent k m v c.args.program.now R.coded) R.forwards v;
      swept = c.positions-sweep.ensures k (shown k m) (ending k m v) (entries k m v c.args.program.now R.coded);
    }

pub enter-requires : goal.enter-requires
enter-requires t c =
    let R = c.requires in
    record { case = c.args.case.now; coded = R.coded; entering = R.entering }

pub finished-requires : goal.finished-requires
finished-requires t c = (entered_shows c.requires c.enter.ensures).valid.fit.procs

pub finish-requires : goal.finish-requires
finish-requires t c =
    let R = c.requires in
    let v = (entered_shows R c.enter.ensures).valid in
    record { few = v.fit.procs; issued = v.issued; asks = R.asks; held = R.held }

pub returns-then-finished : goal.returns-then-finished
returns-then-finished t c =
    let k = c.args.case.now in
    let m = c.enter.new.m in
    let shows = entered_shows c.requires c.enter.ensures in
    let told = c.finished.ensures k (shown k m) (ending k m shows.valid) shows.valid.kept in
    explored (woken_none _ _ _) shows (c.finish.ensures k (shown k m) (registers k m) (sym told ∙ c.if-finished.true) _ c.args.n)

pub returns-then-n-eq0 : goal.returns-then-n-eq0
returns-then-n-eq0 t c =
    let k = c.args.case.now in
    let m = c.enter.new.m in
    let shows = entered_shows c.requires c.enter.ensures in
    let told = c.finished.ensures k (shown k m) (ending k m shows.valid) shows.valid.kept in
    explored (woken_none _ _ _) shows (return_bound (standing (woken_none _ _ _) shows c.requires) c.if-n-eq0.true (sym told ∙ c.if-finished.false) c.cut_off.result c.cut_off.ensures)

pub leave-requires : goal.leave-requires
leave-requires t c =
    let v = (entered_shows c.requires c.enter.ensures).valid in
    (v.issued, v.holders_long, c.requires.few)

pub returns-then-leave : goal.returns-then-leave
returns-then-leave t c =
    let k = c.args.case.now in
    let m = c.enter.new.m in
    let shows = entered_shows c.requires c.enter.ensures in
    let left = c.leave.ensures k (shown k m) (presets k m) (acts k m) shows.valid.kept refl c.if-leave.true in
    explored (woken_none _ _ _) shows (return_left (standing (woken_none _ _ _) shows c.requires) left c.leave_off.result c.leave_off.ensures)

pub wake-requires : goal.wake-requires
wake-requires t c =
    let R = c.requires in
    (R.entering.valid.issued, R.long)

pub sure_step-j-requires : goal.sure_step-j-requires
sure_step-j-requires t c =
    let R = c.requires in
    record { asking = asking c.args.case.now c.enter.new.m (entered_shows R c.enter.ensures).valid; few = R.few }

pub positions-sweep-requires : goal.positions-sweep-requires
positions-sweep-requires t c =
    let v = (entered_shows c.requires c.enter.ensures).valid in
    (v.issued, v.fit.procs)

pub loop-at-init : goal.loop-at-init
loop-at-init t c = loop_start (stage t (goal.at.loop-at-init t c).After-positions-sweep)

pub choose-k-requires : goal.choose-k-requires
choose-k-requires t c = loop_choosing (stage t (goal.at.choose-k-requires t c).After-positions-sweep) c.loop-at.invariant c.loop-at-test.true

pub overflow_sub-n : goal.overflow_sub-n
overflow_sub-n t c = omega (arith, c.if-n-eq0.false)

pub explore-sum-requires : goal.explore-sum-requires
explore-sum-requires t c =
    let G = stage t (goal.at.explore-sum-requires t c).After-positions-sweep in
    let T = turn G c.loop-at.invariant c.loop-at-test.true c.choose-k.ensures in
    (subst (λ (x : ℕ). c.args.n - 1 < x) c.decreases (omega (arith, c.if-n-eq0.false)), loop_ready G T c.if-k-sweep.true)

pub returns-then-sum-j : goal.returns-then-sum-j
returns-then-sum-j t c =
    let w = (goal.at.returns-then-sum-j t c).After-positions-sweep in
    let G = stage t w in
    let T = turn G c.loop-at.invariant c.loop-at-test.true c.choose-k.ensures in
    explored (woken t w) (entered_shows c.requires c.enter.ensures) (return_branch G T c.if-k-sweep.true c.explore-sum.ensures c.if-sum-j.true)

pub note-requires : goal.note-requires
note-requires t c = record { low = omega (arith, c.if-k-sweep.true, to_most (stage t (goal.at.note-requires t c).After-positions-sweep).swept); long = c.loop-at.invariant.0.long }

pub overflow_add-at : goal.overflow_add-at
overflow_add-at t c =
    let G = stage t (goal.at.overflow_add-at t c).After-positions-sweep in
    omega (arith, loop_most G (turn G c.loop-at.invariant c.loop-at-test.true c.choose-k.ensures), to_most G.swept)

pub loop-at-smaller : goal.loop-at-smaller
loop-at-smaller t c =
    let G = stage t (goal.at.loop-at-smaller t c).After-positions-sweep in
    let T = turn G c.loop-at.invariant c.loop-at-test.true c.choose-k.ensures in
    omega (arith, loop_falls G T, c.loop-at-test.true)

pub loop-at-preserved : goal.loop-at-preserved
loop-at-preserved t c =
    let G = stage t (goal.at.loop-at-preserved t c).After-positions-sweep in
    let T = turn G c.loop-at.invariant c.loop-at-test.true c.choose-k.ensures in
    elim c.if-k-sweep.branch [
      | then-k-sweep+else-sum-j w ↦ turns_same w.out-is w.now-is w.sum-is (loop_turn G T w.if-k-sweep.true w.explore-sum.ensures w.if-sum-j.false w.note.ensures)
      | else-k-sweep w ↦ turns_same w.out-is w.now-is w.sum-is (loop_skip G T w.if-k-sweep.false)
    ]

pub returns : goal.returns
returns t c =
    let k = c.args.case.now in
    let m = c.enter.new.m in
    let w = (goal.at.returns t c).After-positions-sweep in
    let shows = entered_shows c.requires c.enter.ensures in
    let told = c.finished.ensures k (shown k m) (ending k m shows.valid) shows.valid.kept in
    explored (woken t w) shows (return_swept (stage t w) (sym told ∙ c.if-finished.false) c.loop-at.invariant c.loop-at-test.false)
