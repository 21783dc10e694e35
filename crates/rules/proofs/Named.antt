-- A code that names an instruction: what the step has then passed. Assumes nothing.
use Rattle.std.proofs.Common.{◌≡◌, ℕ, ◌<◌, Bool, true, false, cond, not, ◌&&◌, ltb, leb, List, ◌∷◌, sym, refl, ap, ◌∙◌, arith, ltb-true, leb-false}
use mathlib.Core.Bool.{false≢true}
use borrow.Author.Tests.{not-false}
use Rattle.words.specs.Small.{is_none}
use Rattle.words.specs.Refusals.{Refusal, ◌when◌, first_code_of}
use Rattle.words.proofs.Bools.{and_both}
use Rattle.cases.specs.declared.Case.{Case}
use Rattle.rules.specs.State.{State, waiting}
use Rattle.rules.specs.Issue.{issue_refusals}
use Rattle.rules.specs.Commit.{commit_refusals}
use Rattle.rules.specs.Step.{Step, issue, commit, neither, naming, place_in, step_code, step_place}

-- the first code of a list is another than that of its first test
past : (a : ℕ) (b : Bool) (rest : List Refusal) → (first_code_of (a when b ∷ rest) ≡ a → ⊥) → (b ≡ false) × (first_code_of (a when b ∷ rest) ≡ first_code_of rest)
unfolding first_code_of
past a true rest d = absurd (d refl)
past a false rest d = (refl, refl)

-- these codes name nothing
unnamed : (code n : ℕ) → naming code ≡ true → naming n ≡ false → code ≡ n → ⊥
unnamed code n h k e = false≢true (sym k ∙ ap naming (sym e) ∙ h)

module _ (c : Case) (s : State) where
  pub formed : (t : Step) → naming (step_code c s t) ≡ true → step_code c s t ≡ 20 → ⊥
  formed t h = unnamed (step_code c s t) 20 h refl

  -- an issue has its place counter
  pub issue_named : (p : ℕ) → naming (step_code c s (issue p)) ≡ true → (p < c.procs) × (is_none (s.places p) ≡ false)
  unfolding step_code issue_refusals
  issue_named p h =
      let a = past 20 (leb c.procs p) _ (unnamed (step_code c s (issue p)) 20 h refl) in
      let b = past 21 (is_none (s.places p)) _ (λ e. unnamed (step_code c s (issue p)) 21 h refl (a.1 ∙ e)) in
      (leb-false _ _ a.0, b.0)

  -- a commit is one of an issued action
  pub commit_named : (p k e : ℕ) → naming (step_code c s (commit p k e)) ≡ true → k < s.count
  unfolding step_code commit_refusals
  commit_named p k e h =
      let a = past 20 (leb c.procs p) _ (unnamed (step_code c s (commit p k e)) 20 h refl) in
      let b = past 26 (not (ltb k s.count && waiting p (s.actions k))) _ (λ q. unnamed (step_code c s (commit p k e)) 26 h refl (a.1 ∙ q)) in
      ltb-true _ _ (and_both (ltb k s.count) _ (not-false _ b.0)).0

  pub place_named : (t : Step) → naming (step_code c s t) ≡ true → step_place c s t ≡ place_in c s t
  unfolding step_place
  place_named t h = rw h

  pub place-unnamed : (t : Step) → naming (step_code c s t) ≡ false → step_place c s t ≡ 255
  unfolding step_place
  place-unnamed t h = rw h

  -- four bytes that say no step name nothing
  pub place_neither : step_place c s neither ≡ 255
  unfolding step_place step_code
  place_neither = refl
