-- The place that goes with a code that names an instruction, in the machine's arrays. Assumes nothing.
use mathlib.Core.Path.{◌≡◌, refl, sym, ◌∙◌, ap, subst}
use mathlib.Core.Bool.{true, false, false≢true}
use mathlib.Core.Logic.{⊎_elim}
use Prim.Native.Nat.{ℕ, ◌<◌}
use native.Mathlib.Omega.{arith}
use lib.Dec.{eqb}
use lib.ListN.{get_or}
use Rattle.words.specs.Small.{is_none, or_zero}
use Rattle.words.proofs.Bools.{decide}
use Rattle.cases.specs.declared.Case.{Case}
use Rattle.rules.specs.State.{State, Action}
use Rattle.rules.specs.Step.{Step, issue, commit, step_of, naming, step_code, step_place, place_in}
use Rattle.rules.proofs.Named.{formed, issue_named, commit_named, place_named, place-unnamed}
use Rattle.machine.specs.declared.Machine.{Machine}
use Rattle.machine.specs.Word.{entry_of}
use Rattle.machine.specs.Shown.{place_of, shown}
use Rattle.machine.specs.Valid.{Valid}
use Rattle.machine.proofs.Entries.{action_at_lem}
use Rattle.stepping.specs.Coded.{Placing}
use Rattle.stepping.proofs.Bytes.{issue_formed, commit_formed}

defined : (n : ℕ) → is_none (place_of n) ≡ false → n ≡ or_zero (place_of n)
defined n h = ⊎_elim (λ e. absurd (false≢true (sym h ∙ rw e))) (λ e. rw e) (decide (eqb n 255))

module _ (c : Case) (m : Machine) (v : Valid c m) (kind p k e code : ℕ) (is : code ≡ step_code c (shown c m) (step_of kind p k e)) where
  abbrev s : State
  s = shown c m

  abbrev t : Step
  t = step_of kind p k e

  pub no_place : naming code ≡ false → 255 ≡ step_place c s t
  no_place h = sym (place-unnamed c s t (ap naming (sym is) ∙ h))

  module _ (h : naming code ≡ true) where
    named : naming (step_code c s t) ≡ true
    named = ap naming (sym is) ∙ h

    module _ (z : kind ≡ 0) where
      one : t ≡ issue p
      one = issue_formed c s kind p k e z (formed c s t named)

      there : (p < c.procs) × (is_none (s.places p) ≡ false)
      there = issue_named c s p (subst (λ (u : Step). naming (step_code c s u) ≡ true) one named)

      issue_low : p < 4
      issue_low = omega (arith, v.fit.procs, there.0)

      pub issue_place : get_or m.places p 0 ≡ step_place c s t
      issue_place = defined (get_or m.places p 0) there.1 ∙ sym (place_named c s t named ∙ ap (place_in c s) one)

    module _ (z : kind ≡ 0 → ⊥) where
      other : t ≡ commit p k e
      other = commit_formed c s kind p k e z (formed c s t named)

      old : k < m.issued
      old = commit_named c s p k e (subst (λ (u : Step). naming (step_code c s u) ≡ true) other named)

      commit_low : k < 48
      commit_low = omega (arith, v.issued, old)

      pub commit_place : (entry_of (get_or m.acts k 0)).place ≡ step_place c s t
      commit_place =
          sym (place_named c s t named ∙ ap (place_in c s) other ∙ ap (λ (a : Action). a.place) (action_at_lem c m.issued m.acts s (record { count = refl; actions = refl }) k old))

  -- so the place can be asked for
  pub placing : Placing kind p k code
  placing = record { issue = issue_low; commit = commit_low }
