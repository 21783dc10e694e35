-- Where no finished run races, the WOMM and the SC machine have the same results. Assumes nothing.
use mathlib.Core.Path.{◌≡◌, refl, sym, ◌∙◌}
use mathlib.Core.Bool.{true, false}
use mathlib.Core.List.{List}
use Prim.Native.Nat.{◌+◌, ◌*◌}
use native.Mathlib.Omega.{arith}
use lib.ListN.{length}
use Rattle.words.specs.Small.{some_below}
use Rattle.words.proofs.Bools.{below_cases, none_below, fails}
use Rattle.cases.specs.declared.Case.{Case}
use Rattle.runs.specs.Outcome.{Leads}
use Rattle.runs.specs.Outcome as Runs
use Rattle.runs.proofs.Always.{counted-after}
use Rattle.rules.specs.State.{State, initial, waiting}
use Rattle.rules.specs.Step.{Step}
use Rattle.rules.specs.Result.{finished}
use Rattle.rules.specs.Womm.{womm}
use Rattle.rules.proofs.Accepted.{still}
use Rattle.rules.proofs.Origins as Origins
use Rattle.rules.proofs.Steps.{Spent, spent_all, spent_initial, spent_step}
use Rattle.rules.proofs.Strict.{owner}
use Rattle.racing.specs.Answer.{queued}
use Rattle.boards.specs.declared.Buffering.TheVariants.{Direct}
use Rattle.boards.specs.Listing.{Outcome}
use Rattle.inclusion.proofs.Sized.{sound_locs}
use Rattle.inclusion.proofs.Within.{within}
use Rattle.sequential.specs.Sequential.{RaceFreeLists}
use Rattle.sequential.proofs.Sequential.{quiet, race_free_outcome}

module _ (c : Case) (ts : List Step) (s : State) (d : Leads (womm c) (initial c) ts s) where
  -- finished, its queues are empty
  finished_empty : finished c s ≡ true → queued s ≡ false
  unfolding queued
  finished_empty h = fails false (some_below s.count (λ k. waiting (owner s k) (s.actions k))) none refl
    where
      none : some_below s.count (λ k. waiting (s.actions k).proc (s.actions k)) ≡ true → false ≡ true
      none x =
          let w = below_cases s.count (λ k. waiting (s.actions k).proc (s.actions k)) x in
          let p = (s.actions w.0).proc in
          sym (none_below s.count (λ k. waiting p (s.actions k)) (still c s h p ((Origins.bound c ts s d).actions w.0 w.1).proc).0 w.0 w.1) ∙ w.2

  -- it took two steps for each action
  two_each : queued s ≡ false → s.count + s.count ≡ length ts
  two_each e =
      let S = counted-after (womm c) Spent (spent_step c) (spent_initial c) ts s d in
      sym (spent_all s.actions s.count (quiet s e)) ∙ S.steps

-- THE SAME RESULTS
pub race_free_lists : RaceFreeLists
race_free_lists c sound n few never r = (within Direct c (sound_locs c sound) n few r, back)
  where
    back : Runs.Outcome (womm c) (2 * n) r → Outcome Direct c n r
    back o =
        let e = finished_empty c o.schedule o.end o.leads o.done in
        let x = race_free_outcome c o.schedule o.end (record { leads = o.leads; empty = e; none = never o.schedule o.end o.leads o.short o.done }) o.done in
        let two = two_each c o.schedule o.end o.leads e in
        record { moves = x.moves; end = x.end; short = omega (arith, x.short, two, o.short); leads = x.leads; done = x.done; gives = x.gives ∙ o.gives }
