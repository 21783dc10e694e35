-- A step by its kind: what it is where nothing refuses it, and what a machine shows once it is taken. Assumes nothing.
use mathlib.Core.Path.{◌≡◌, sym, ◌∙◌, ap, subst}
use Prim.Native.Nat.{ℕ, ◌<◌}
use borrow.Author.Tests.{leb-false}
use Rattle.cases.specs.declared.Case.{Case}
use Rattle.rules.specs.State.{State}
use Rattle.rules.specs.Issue.{issued}
use Rattle.rules.specs.Commit.{committed}
use Rattle.rules.specs.Step.{Step, issue, commit, step_of, step_code, after}
use Rattle.rules.proofs.Accepted.{can_issue, after_issue, after_commit}
use Rattle.machine.specs.declared.Machine.{Machine}
use Rattle.machine.specs.Shown.{shown}
use Rattle.machine.specs.Given.{Accepted, Showing}
use Rattle.stepping.proofs.Bytes.{issue_accepted, commit_accepted}

module _ (c : Case) (m : Machine) (kind p k e : ℕ) (A : Accepted c m (step_of kind p k e)) where
  abbrev s : State
  s = shown c m

  -- taken as t, which it is
  as_step_lem : (t : Step) → step_of kind p k e ≡ t → Accepted c m t
  as_step_lem t q = record { valid = A.valid; fits = subst (λ (u : Step). step_code c s u ≡ 0) q A.fits }

  module _ (z : kind ≡ 0) where
    an_issue : step_of kind p k e ≡ issue p
    an_issue = issue_accepted c s kind p k e z A.fits

    pub issue_taken : Accepted c m (issue p)
    issue_taken = as_step_lem (issue p) an_issue

    pub issue_room : m.issued < 48
    issue_room = leb-false 48 m.issued (can_issue c s p issue_taken.fits).room

    pub issue_shown : (r : Machine) → Showing c (issued c s p) r → Showing c (after c s (step_of kind p k e)) r
    issue_shown r h = record { shows = h.shows ∙ sym (after_issue c s p) ∙ ap (after c s) (sym an_issue); valid = h.valid }

  module _ (z : kind ≡ 0 → ⊥) where
    a_commit : step_of kind p k e ≡ commit p k e
    a_commit = commit_accepted c s kind p k e z A.fits

    pub commit_taken : Accepted c m (commit p k e)
    commit_taken = as_step_lem (commit p k e) a_commit

    pub commit_shown : (r : Machine) → Showing c (committed c s p k e) r → Showing c (after c s (step_of kind p k e)) r
    commit_shown r h = record { shows = h.shows ∙ sym (after_commit c s p k e) ∙ ap (after c s) (sym a_commit); valid = h.valid }
