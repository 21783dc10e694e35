-- The three verdicts exclude each other and one always holds; at most one answer satisfies the statement; no bound loses anything.
use mathlib.Core.Path.{◌≡◌, refl, sym, ◌∙◌}
use mathlib.Core.Logic.{◌⊎◌, inl, inr, ⊎_elim}
use mathlib.Core.Bool.{true}
use mathlib.Core.List.{List}
use Prim.Native.Nat.{ℕ, zero, suc}
use native.Mathlib.Omega.{arith}
use lib.ListN.{length}
use Rattle.words.specs.Refusals.{first_code_of}
use Rattle.runs.specs.Outcome.{Leads, Outcome, Cut}
use Rattle.rules.specs.State.{State, initial}
use Rattle.rules.specs.Step.{Step}
use Rattle.rules.specs.Result.{finished}
use Rattle.cases.specs.Block.{Sound}
use Rattle.rules.specs.Bytes.{step_bytes}
use Rattle.rules.proofs.Listing.{still}
use Rattle.rules.proofs.Candidates.{candidates, covers}
use Rattle.runs.specs.Wanted.{Wish, WantedFrom}
use Rattle.runs.proofs.Lowest.{wanted_reaches, reaches_wanted}
use Rattle.runs.proofs.Asked.{laid_unique}
use Rattle.runs.proofs.Least.{lowest_exists}
use Rattle.handoffs.specs.Plans.{legal, case_for, bound}
use Rattle.handoffs.specs.Verdict.{stale_in, model, Stale, Stuck, Safe, Handed, IsVerdict, Refused, handoff_refusals, IsHandoff}
use Rattle.handoffs.specs.Inner.{any_outcome}
use Rattle.handoffs.proofs.Fitting.{level, uncut_there}
use Rattle.handoffs.proofs.Shapes.{legal-parts}
use Rattle.handoffs.proofs.Sound.{case_sound}

module _ (s r : List ℕ) where
  -- whether an outcome is wanted can be decided
  decide_held : (W : Wish) → WantedFrom (model s r) W (initial (case_for s r)) (bound s r) ⊎ (WantedFrom (model s r) W (initial (case_for s r)) (bound s r) → ⊥)
  decide_held W =
      ⊎_elim (λ x. inl (reaches_wanted (model s r) W x.1.reaches)) (λ none. inr (λ h. let x = wanted_reaches (model s r) W h in none x.0 x.1))
      (lowest_exists (model s r) (still (case_for s r)) W step_bytes (candidates (case_for s r)) (covers (case_for s r)) (bound s r) (initial (case_for s r)) (covers (case_for s r)).start)

  -- some run finishes
  abbrev pub Finishes : Type 0
  Finishes = WantedFrom (model s r) any_outcome (initial (case_for s r)) (bound s r)

  pub finishes_not-stuck : Finishes → Stuck s r → ⊥
  finishes_not-stuck h k = k h.registers h.outcome

  pub stuck-not_finishes : (Finishes → ⊥) → Stuck s r
  stuck-not_finishes h o x = h (record { registers = o; outcome = x; meets = refl })

  pub stale-not-stuck : Stale s r → Stuck s r → ⊥
  stale-not-stuck h k = k h.registers h.outcome

  -- EXCLUSIVE
  pub verdicts_exclude : (Stale s r × Stuck s r → ⊥) × (Stale s r × Safe s r → ⊥) × (Stuck s r × Safe s r → ⊥)
  verdicts_exclude = ((λ x. stale-not-stuck x.0 x.1), (λ x. x.1.0 x.0), (λ x. x.1.1 x.0))

  -- EXHAUSTIVE
  pub verdicts_cover : Stale s r ⊎ (Stuck s r ⊎ Safe s r)
  verdicts_cover =
      ⊎_elim inl (λ fresh. inr (⊎_elim (λ h. inr (fresh, finishes_not-stuck h)) (λ h. inl (stuck-not_finishes h)) (decide_held any_outcome))) (decide_held (stale_in s r))

  -- TWO STEPS AN ACTION: every finished run has exactly so many, and no run of so many is unfinished
  pub finished_steps : (ts : List Step) (e : State) → Leads (model s r) (initial (case_for s r)) ts e → finished (case_for s r) e ≡ true → length ts ≡ bound s r
  finished_steps ts e l f = (level s r).each any_outcome (length ts) ts (record { end = e; short = omega arith; leads = l; done = f; meets = refl })

  pub never_cut : Cut (model s r) (bound s r) → ⊥
  never_cut = uncut_there s r

  -- SOUND
  pub plans_sound : legal s r ≡ true → Sound (case_for s r)
  plans_sound h = case_sound s r (legal-parts s r h)

  -- NO BOUND LOSES ANYTHING: what any number of steps reaches is reached in twice the number of actions
  pub within-bound : (W : Wish) (n : ℕ) → WantedFrom (model s r) W (initial (case_for s r)) n → WantedFrom (model s r) W (initial (case_for s r)) (bound s r)
  within-bound W n h =
      let x = wanted_reaches (model s r) W h in
      let R = x.1 in
      reaches_wanted (model s r) W (record { end = R.end; short = omega (arith, (level s r).each W n x.0 R); leads = R.leads; done = R.done; meets = R.meets })

  -- so safe means safe, and stuck stuck, for every bound
  pub safe_always : Safe s r → (n : ℕ) → WantedFrom (model s r) (stale_in s r) (initial (case_for s r)) n → ⊥
  safe_always x n h = x.0 (within-bound (stale_in s r) n h)

  pub stuck_always : Stuck s r → (n : ℕ) (o : List ℕ) → Outcome (model s r) n o → ⊥
  stuck_always x n o h = finishes_not-stuck (within-bound any_outcome n (record { registers = o; outcome = h; meets = refl })) x

  -- ONE ANSWER
  same-handed : (a b : Handed) → a.code ≡ b.code → a.verdict ≡ b.verdict → a.length ≡ b.length → a ≡ b
  same-handed a b p q k = λ i. record { code = p i; verdict = q i; length = k i }

  verdict-same : (a b : Handed) (out buf : List ℕ) → IsVerdict s r a out → IsVerdict s r b buf → a.verdict ≡ b.verdict
  verdict-same a b out buf x y =
      ⊎_elim (λ h. x.stales.1 h ∙ sym (y.stales.1 h)) (⊎_elim (λ h. x.stucks.1 h ∙ sym (y.stucks.1 h)) (λ h. x.safes.1 h ∙ sym (y.safes.1 h))) verdicts_cover

  pub verdict_unique : (a b : Handed) (out buf : List ℕ) → IsVerdict s r a out → IsVerdict s r b buf → (a ≡ b) × (out ≡ buf)
  verdict_unique a b out buf x y = ⊎_elim shows hides (decide_held (stale_in s r))
    where
      code : a.code ≡ b.code
      code = x.code ∙ sym y.code

      shows : Stale s r → (a ≡ b) × (out ≡ buf)
      shows h =
          let w = laid_unique (model s r) (stale_in s r) step_bytes (bound s r) 384 a.length b.length out buf (x.shown h) (y.shown h) in
          (same-handed a b code (verdict-same a b out buf x y) w.0, w.1)

      hides : (Stale s r → ⊥) → (a ≡ b) × (out ≡ buf)
      hides h =
          let p = x.hidden h in
          let q = y.hidden h in
          (same-handed a b code (verdict-same a b out buf x y) (p.0 ∙ sym q.0), p.1 ∙ sym q.1)

  pub handoff_unique : (room : ℕ) (a b : Handed) (out buf : List ℕ) → IsHandoff s r room a out → IsHandoff s r room b buf → (a ≡ b) × (out ≡ buf)
  handoff_unique room a b out buf x y = by_code_lem (first_code_of (handoff_refusals s r room)) refl
    where
      refused : (k : ℕ) → Refused k room a out → Refused k room b buf → (a ≡ b) × (out ≡ buf)
      refused k p q = (same-handed a b (p.code ∙ sym q.code) (p.verdict ∙ sym q.verdict) (p.long ∙ sym q.long), p.zeros ∙ sym q.zeros)

      by_code_lem : (k : ℕ) → first_code_of (handoff_refusals s r room) ≡ k → (a ≡ b) × (out ≡ buf)
      by_code_lem zero e = verdict_unique a b out buf (x.judged e) (y.judged e)
      by_code_lem (suc k) e = refused (first_code_of (handoff_refusals s r room)) (x.refused (omega (arith, e))) (y.refused (omega (arith, e)))
