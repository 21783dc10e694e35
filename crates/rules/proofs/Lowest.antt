-- Asking about a case: there is an answer, there is one only, and its schedule is the lowest of all schedules of bytes. Assumes nothing.
use Rattle.std.proofs.Common.{◌≡◌, ℕ, zero, suc, ◌*◌, ◌≤◌, Bool, true, false, cond, ◌&&◌, eqb, List, [], ◌∷◌, ◌++◌, length, sym, refl, ap, ◌∙◌, subst, ⊎_elim, arith, eqb-true}
use Rattle.words.proofs.Bools.{decide, and_both, cond-true, cond-false}
use Rattle.cases.specs.declared.Case.{Case}
use Rattle.runs.specs.Outcome.{Leads}
use Rattle.runs.specs.Listing.{below}
use Rattle.runs.specs.Wanted.{Wish, Reaches, LowestFrom}
use Rattle.runs.specs.Asking.{Answered, IsAnswer}
use Rattle.runs.proofs.Walk.{Walk, stop, go, walk}
use Rattle.runs.proofs.Lowest.{Written}
use Rattle.runs.proofs.Asked as Asked
use Rattle.rules.specs.State.{State, initial}
use Rattle.rules.specs.Step.{Step, issue, commit, neither, step_of, steps_of, step_code}
use Rattle.rules.specs.Bytes.{step_bytes, bytes_of}
use Rattle.rules.specs.Result.{finished, registers}
use Rattle.rules.specs.Womm.{womm}
use Rattle.rules.proofs.Accepted.{neither_no}
use Rattle.rules.proofs.Bytes.{bytes_steps, steps_length}
use Rattle.rules.proofs.Candidates.{candidates, covers}
use Rattle.rules.proofs.Listing.{still}

module _ (c : Case) (W : Wish) (n size : ℕ) where
  pub answer_exists : (a : Answered) × (out : List ℕ) × IsAnswer (womm c) W step_bytes n size a out
  answer_exists = Asked.answer_exists (womm c) (still c) W step_bytes (candidates c) (covers c) n size

  pub answer_unique : (a b : Answered) (out buf : List ℕ) → IsAnswer (womm c) W step_bytes n size a out → IsAnswer (womm c) W step_bytes n size b buf → (a ≡ b) × (out ≡ buf)
  answer_unique = Asked.answer_unique (womm c) W step_bytes n size

-- a step's bytes are four, and no other step's

head_same : (t u : Step) → ◌≡◌ {A = List Step} (t ∷ []) (u ∷ []) → t ≡ u
head_same t u e = ap head e
  where
    head : List Step → Step
    head [] = t
    head (x ∷ xs) = x

pub written : (c : Case) → Written (womm c) step_bytes
written c = record { wide = 4; long = long; alone = λ t u e. head_same t u (sym (bytes_steps (t ∷ [])) ∙ ap (λ (l : List ℕ). steps_of (l ++ [])) e ∙ bytes_steps (u ∷ [])) }
  where
    long : (t : Step) → length (step_bytes t) ≡ 4
    long (issue p) = refl
    long (commit p k e) = refl
    long neither = refl

module _ (c : Case) where
  -- an accepted step's four bytes
  step_bytes_lem : (s : State) (w p k e : ℕ) → step_code c s (step_of w p k e) ≡ 0 → step_bytes (step_of w p k e) ≡ (w ∷ p ∷ k ∷ e ∷ [])
  step_bytes_lem s w p k e h = ⊎_elim issues others (decide (eqb w 0 && eqb k 0 && eqb e 0))
    where
      issues : (eqb w 0 && eqb k 0 && eqb e 0) ≡ true → step_bytes (step_of w p k e) ≡ (w ∷ p ∷ k ∷ e ∷ [])
      issues b =
          let x = and_both (eqb w 0 && eqb k 0) (eqb e 0) b in
          let y = and_both (eqb w 0) (eqb k 0) x.0 in
          ap step_bytes (cond-true (eqb w 0 && eqb k 0 && eqb e 0) (issue p) (cond (eqb w 1) (commit p k e) neither) b) ∙ (λ i. sym (eqb-true w 0 y.0) i ∷ p ∷ sym (eqb-true k 0 y.1) i ∷ sym (eqb-true e 0 x.1) i ∷ [])

      others : (eqb w 0 && eqb k 0 && eqb e 0) ≡ false → step_bytes (step_of w p k e) ≡ (w ∷ p ∷ k ∷ e ∷ [])
      others b = ⊎_elim commits nothing (decide (eqb w 1))
        where
          is_other : step_of w p k e ≡ cond (eqb w 1) (commit p k e) neither
          is_other = cond-false (eqb w 0 && eqb k 0 && eqb e 0) (issue p) (cond (eqb w 1) (commit p k e) neither) b

          commits : eqb w 1 ≡ true → step_bytes (step_of w p k e) ≡ (w ∷ p ∷ k ∷ e ∷ [])
          commits d = ap step_bytes (is_other ∙ cond-true (eqb w 1) (commit p k e) neither d) ∙ (λ i. sym (eqb-true w 1 d) i ∷ p ∷ k ∷ e ∷ [])

          nothing : eqb w 1 ≡ false → step_bytes (step_of w p k e) ≡ (w ∷ p ∷ k ∷ e ∷ [])
          nothing d = absurd (neither_no c s (sym (ap (step_code c s) (is_other ∙ cond-false (eqb w 1) (commit p k e) neither d)) ∙ h))

  -- an accepted schedule's bytes are those of its steps
  walk_bytes : (k : ℕ) (l : List ℕ) (s e : State) → length l ≡ 4 * k → Walk (womm c) s (steps_of l) e → bytes_of (steps_of l) ≡ l
  walk_bytes k [] s e q w = refl
  walk_bytes k (a ∷ []) s e q w = absurd (omega arith)
  walk_bytes k (a ∷ b ∷ []) s e q w = absurd (omega arith)
  walk_bytes k (a ∷ b ∷ d ∷ []) s e q w = absurd (omega arith)
  walk_bytes zero (a ∷ b ∷ d ∷ f ∷ l) s e q w = absurd (omega arith)
  walk_bytes (suc k) (a ∷ b ∷ d ∷ f ∷ l) s e q (go h w) = ap (λ (x : List ℕ). x ++ bytes_of (steps_of l)) (step_bytes_lem s a b d f h) ∙ ap (λ (x : List ℕ). a ∷ b ∷ d ∷ f ∷ x) (walk_bytes k l _ e (omega arith) w)

  -- THE LOWEST OF ALL: no schedule of bytes, of at most n steps, that is accepted and ends finished with what is wanted, is below it
  pub lowest_of_bytes : (W : Wish) (n : ℕ) (ts : List Step) → LowestFrom (womm c) W step_bytes (initial c) n ts → (l : List ℕ) (k : ℕ) → length l ≡ 4 * k → k ≤ n → (e : State)
      → Leads (womm c) (initial c) (steps_of l) e → finished c e ≡ true → W (registers c e) ≡ true → below l (bytes_of ts) ≡ false
  lowest_of_bytes W n ts L l k whole short e leads done meets =
      subst (λ (x : List ℕ). below x (bytes_of ts) ≡ false) (walk_bytes k l (initial c) e whole (walk (womm c) (steps_of l) (initial c) e leads))
      (L.least (steps_of l) (record { end = e; short = omega (arith, steps_length k l whole, short); leads = leads; done = done; meets = meets }))
