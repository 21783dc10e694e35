-- What holds after every accepted schedule, in one record. Assumes nothing.
use mathlib.Core.Path.{◌≡◌}
use Rattle.cases.specs.declared.Case.{Case}
use Rattle.rules.specs.State.{State, initial}
use Rattle.rules.specs.Step.{Step, issue, commit, neither, step_code, after}
use Rattle.rules.proofs.Accepted.{can_issue, can_commit, after_issue, after_commit, neither_no}
use Rattle.rules.proofs.Sources.{Unset, unset_initial, unset_step}
use Rattle.rules.proofs.Strict.{Strict, strict_initial, strict_step}
use Rattle.sequential.proofs.Items.{Items, items_initial, items_issue, items_commit}
use Rattle.sequential.proofs.Paths.{Paths, paths_initial, paths_issue, paths_commit}

pub record Steady (s : State) : Type 0 where
  pub unset : Unset s
  pub strict : Strict s
  pub items : Items s
  pub paths : Paths s

pub steady_initial : (c : Case) → Steady (initial c)
steady_initial c = record { unset = unset_initial c; strict = strict_initial c; items = items_initial c; paths = paths_initial c }

items_step : (c : Case) (s : State) (t : Step) → step_code c s t ≡ 0 → Unset s → Items s → Items (after c s t)
items_step c s (issue p) h u I = rw (after_issue c s p) (items_issue c s p u I)
items_step c s (commit p k e) h u I = rw (after_commit c s p k e) (items_commit c s p k e (can_commit c s p k e h) I)
items_step c s neither h u I = absurd (neither_no c s h)

paths_step : (c : Case) (s : State) (t : Step) → step_code c s t ≡ 0 → Unset s → Paths s → Paths (after c s t)
paths_step c s (issue p) h u P = rw (after_issue c s p) (paths_issue c s p (can_issue c s p h) u P)
paths_step c s (commit p k e) h u P = rw (after_commit c s p k e) (paths_commit c s p k e (can_commit c s p k e h) P)
paths_step c s neither h u P = absurd (neither_no c s h)

pub steady_step : (c : Case) (s : State) (t : Step) → step_code c s t ≡ 0 → Steady s → Steady (after c s t)
steady_step c s t h S =
    record {
      unset = unset_step c s t h S.unset;
      strict = strict_step c s t h S.strict;
      items = items_step c s t h S.unset S.items;
      paths = paths_step c s t h S.unset S.paths;
    }
