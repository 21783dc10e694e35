-- Two accepted steps in either order, as the search meets them. Assumes nothing.
use mathlib.Core.Path.{◌≡◌, sym, ◌∙◌, ap}
use mathlib.Core.Bool.{false}
use Prim.Native.Nat.{ℕ, suc, ◌<◌}
use native.Mathlib.Omega.{arith}
use lib.Dec.{leb}
use Rattle.cases.specs.declared.Case.{Case}
use Rattle.rules.specs.State.{Action, State}
use Rattle.rules.specs.Step.{step_code, issue, after, Step}
use Rattle.rules.specs.Issue.{issued}
use Rattle.rules.proofs.Accepted.{can_issue, after_issue, CanIssue, issue_ok}
use Rattle.sure.proofs.Good.{Good}
use Rattle.sure.proofs.Issues.{issue_after, commit_after, issue_meets}
use Rattle.sure.proofs.Renumber.{swapped, Pair}
use Rattle.sure.proofs.Pairs.{issue_issue, at_first, at_second, issues_meet}
use Rattle.sure.proofs.Commit.{take_ok, committed_by, as_step, can_take, CanTake, after-take, Commit}

-- the same, or the same with two adjacent actions renumbered
pub data Alike (a b : State) : Type 0 where
  same : a ≡ b → Alike a b
  turned : (n : ℕ) → Pair n a → swapped n a ≡ b → Alike a b

-- t and u, both accepted at s, in either order
pub record Moves (c : Case) (s : State) (t u : Step) : Type 0 where
  pub still : step_code c (after c s u) t ≡ 0
  pub fits : step_code c (after c s t) u ≡ 0
  pub meets : after c (after c s u) t ≡ after c (after c s t) u

-- the same, up to the numbers of two new actions
pub record Passes (c : Case) (s : State) (t u : Step) : Type 0 where
  pub still : step_code c (after c s u) t ≡ 0
  pub fits : step_code c (after c s t) u ≡ 0
  pub meets : Alike (after c (after c s u) t) (after c (after c s t) u)

pub passes_of : {c : Case} {s : State} {t u : Step} → Moves c s t u → Passes c s t u
passes_of M = record { still = M.still; fits = M.fits; meets = same M.meets }

pub other_way : {c : Case} {s : State} {t u : Step} → Moves c s t u → Moves c s u t
other_way M = record { still = M.fits; fits = M.still; meets = sym M.meets }

count-two : (c : Case) (s : State) (p q : ℕ) → suc s.count < (issued c (issued c s p) q).count
unfolding issued
count-two c s p q = omega arith

module _ (c : Case) (s : State) where
  pub commits_move : (t u : Commit) → CanTake c (committed_by c s u) t → CanTake c (committed_by c s t) u
      → committed_by c (committed_by c s u) t ≡ committed_by c (committed_by c s t) u → Moves c s (as_step t) (as_step u)
  commits_move t u T U m =
      record {
        still = rw (after-take c s u) (take_ok c (committed_by c s u) t T);
        fits = rw (after-take c s t) (take_ok c (committed_by c s t) u U);
        meets = rw (after-take c s t, after-take c s u, after-take c (committed_by c s t) u, after-take c (committed_by c s u) t) m;
      }

  module _ (G : Good s) where
    pub commit_moves : (t : Commit) → step_code c s (as_step t) ≡ 0 → (q : ℕ) → step_code c s (issue q) ≡ 0 → Moves c s (as_step t) (issue q)
    commit_moves t h q g =
        let T = can_take c s t h in
        let I = can_issue c s q g in
        record {
          still = rw (after_issue c s q) (take_ok c (issued c s q) t (commit_after c s q t G I T));
          fits = rw (after-take c s t) (issue_ok c (committed_by c s t) q (issue_after c s q t G I T));
          meets = rw (after-take c s t, after_issue c s q, after_issue c (committed_by c s t) q, after-take c (issued c s q) t) (issue_meets c s q t G I T);
        }

    -- two issues, where there is room for two
    pub issues_pass : (p q : ℕ) → step_code c s (issue p) ≡ 0 → step_code c s (issue q) ≡ 0 → (p ≡ q → ⊥) → leb 48 (suc s.count) ≡ false
        → Passes c s (issue p) (issue q)
    issues_pass p q h g d space =
        record {
          still = rw (after_issue c s q) (issue_ok c (issued c s q) p (issue_issue c s q p G J I d' space));
          fits = rw (after_issue c s p) (issue_ok c (issued c s p) q (issue_issue c s p q G I J d space));
          meets =
              rw
              (after_issue c s p, after_issue c s q, after_issue c (issued c s q) p, after_issue c (issued c s p) q)
              (turned s.count pair (sym (issues_meet c s p q G I J d)));
        }
      where
        I : CanIssue c s p
        I = can_issue c s p h

        J : CanIssue c s q
        J = can_issue c s q g

        d' : q ≡ p → ⊥
        d' e = d (sym e)

        pair : Pair s.count (issued c (issued c s q) p)
        pair =
            record {
              there = count-two c s q p;
              differ = λ e. d' (ap (λ (a : Action). a.proc) (sym (at_first c s q p G J I d')) ∙ e ∙ ap (λ (a : Action). a.proc) (at_second c s q p G J I d'));
            }
