-- Every accepted schedule is one of bytes, four a step. Assumes nothing; the case has at most 4 processors, as every sound one.
use Rattle.std.proofs.Common.{◌≡◌, ℕ, zero, suc, ◌+◌, ◌*◌, ◌<◌, ◌≤◌, true, false, ltb, ◌↔◌, List, [], ◌∷◌, ◌++◌, length, sym, refl, ap, subst, arith, lt-ltb}
use Rattle.words.specs.Small.{all}
use Rattle.words.proofs.Bools.{and_make}
use Rattle.cases.specs.declared.Case.{Case}
use Rattle.runs.specs.Outcome.{Leads, Outcome, Cut}
use Rattle.runs.proofs.Walk.{Walk, stop, go, walk}
use Rattle.rules.specs.State.{State, initial}
use Rattle.rules.specs.Step.{Step, issue, commit, neither, steps_of, step_code}
use Rattle.rules.specs.Bytes.{step_bytes, bytes_of}
use Rattle.rules.specs.Result.{finished, registers}
use Rattle.rules.specs.Womm.{womm}
use Rattle.rules.proofs.Accepted.{can_issue, can_commit, neither_no}
use Rattle.rules.proofs.Steps.{Spent, spent_step, spent_initial, at_most_96}
use Rattle.rules.proofs.Sources.{Unset, unset_initial, unset_step, source_low}

pub bytes_steps : (ts : List Step) → steps_of (bytes_of ts) ≡ ts
bytes_steps [] = refl
bytes_steps (issue p ∷ ts) = ap (λ (l : List Step). issue p ∷ l) (bytes_steps ts)
bytes_steps (commit p k e ∷ ts) = ap (λ (l : List Step). commit p k e ∷ l) (bytes_steps ts)
bytes_steps (neither ∷ ts) = ap (λ (l : List Step). neither ∷ l) (bytes_steps ts)

pub bytes_length : (ts : List Step) → length (bytes_of ts) ≡ 4 * length ts
bytes_length [] = refl
bytes_length (issue p ∷ ts) = omega (arith, bytes_length ts)
bytes_length (commit p k e ∷ ts) = omega (arith, bytes_length ts)
bytes_length (neither ∷ ts) = omega (arith, bytes_length ts)

pub steps_length : (n : ℕ) (l : List ℕ) → length l ≡ 4 * n → length (steps_of l) ≡ n
steps_length n [] h = omega arith
steps_length n (a ∷ []) h = absurd (omega arith)
steps_length n (a ∷ b ∷ []) h = absurd (omega arith)
steps_length n (a ∷ b ∷ d ∷ []) h = absurd (omega arith)
steps_length zero (a ∷ b ∷ d ∷ e ∷ rest) h = absurd (omega arith)
steps_length (suc n) (a ∷ b ∷ d ∷ e ∷ rest) h = ap suc (steps_length n rest (omega arith))

-- they are bytes
abbrev pub AreBytes : List ℕ → Type 0
AreBytes l = all (λ b. ltb b 256) l ≡ true

four : (a b d e : ℕ) (rest : List ℕ) → a < 256 → b < 256 → d < 256 → e < 256 → AreBytes rest → AreBytes (a ∷ b ∷ d ∷ e ∷ rest)
four a b d e rest ha hb hd he h = and_make _ _ (lt-ltb a 256 ha) (and_make _ _ (lt-ltb b 256 hb) (and_make _ _ (lt-ltb d 256 hd) (and_make _ _ (lt-ltb e 256 he) h)))

module _ (c : Case) (few : c.procs ≤ 4) where
  step_bytes_lem : (n : ℕ) (s : State) (t : Step) (rest : List ℕ) → step_code c s t ≡ 0 → Spent n s → Unset s → AreBytes rest → AreBytes (step_bytes t ++ rest)
  step_bytes_lem n s (issue p) rest h w u b = four 0 p 0 0 rest (omega arith) (omega (arith, (can_issue c s p h).proc)) (omega arith) (omega arith) b
  step_bytes_lem n s (commit p k e) rest h w u b =
      let T = can_commit c s p k e h in
      four 1 p k e rest (omega arith) (omega (arith, T.proc)) (omega (arith, T.there, w.few)) (omega (arith, source_low c s u p k e T, w.few)) b
  step_bytes_lem n s neither rest h w u b = absurd (neither_no c s h)

  walk_bytes : (n : ℕ) {s e : State} {ts : List Step} → Walk (womm c) s ts e → Spent n s → Unset s → AreBytes (bytes_of ts)
  walk_bytes n (stop h) w u = refl
  walk_bytes n (go {s = s} {t = t} {ts = ts} h k) w u = step_bytes_lem n s t (bytes_of ts) h w u (walk_bytes (suc n) k (spent_step c n s t h w) (unset_step c s t h u))

-- n steps, given as bytes and accepted from the start, lead to e
pub record BytesLead (c : Case) (n : ℕ) (e : State) : Type 0 where
  pub schedule : List ℕ
  pub bytes : AreBytes schedule
  pub whole : length schedule ≡ 4 * n
  pub small : length schedule ≤ 384
  pub leads : Leads (womm c) (initial c) (steps_of schedule) e

pub leads_bytes : (c : Case) → c.procs ≤ 4 → (ts : List Step) (e : State) → Leads (womm c) (initial c) ts e → BytesLead c (length ts) e
leads_bytes c few ts e l =
    record {
      schedule = bytes_of ts;
      bytes = walk_bytes c few 0 (walk (womm c) ts (initial c) e l) (spent_initial c) (unset_initial c);
      whole = bytes_length ts;
      small = omega (arith, bytes_length ts, at_most_96 c ts e l);
      leads = subst (λ (l : List Step). Leads (womm c) (initial c) l e) (sym (bytes_steps ts)) l;
    }

-- an outcome by a schedule of bytes
pub record OutcomeByBytes (c : Case) (n : ℕ) (r : List ℕ) : Type 0 where
  pub steps : ℕ
  pub end : State
  pub short : steps ≤ n
  pub leads : BytesLead c steps end
  pub done : finished c end ≡ true
  pub gives : registers c end ≡ r

module _ (c : Case) (few : c.procs ≤ 4) (n : ℕ) where
  pub outcome_bytes : (r : List ℕ) → Outcome (womm c) n r ↔ OutcomeByBytes c n r
  outcome_bytes r = (
    λ o. record { steps = length o.schedule; end = o.end; short = o.short; leads = leads_bytes c few o.schedule o.end o.leads; done = o.done; gives = o.gives },
    λ o. let b = o.leads in record { schedule = steps_of b.schedule; end = o.end; short = omega (arith, steps_length o.steps b.schedule b.whole, o.short); leads = b.leads; done = o.done; gives = o.gives },
  )

  pub cut_bytes : Cut (womm c) n ↔ ((e : State) × BytesLead c n e × (finished c e ≡ false))
  cut_bytes = (
    λ k. (k.end, subst (λ (i : ℕ). BytesLead c i k.end) k.exact (leads_bytes c few k.schedule k.end k.leads), k.undone),
    λ k. let b = k.1 in record { schedule = steps_of b.schedule; end = k.0; exact = steps_length n b.schedule b.whole; leads = b.leads; undone = k.2 },
  )
