-- The sure step, the quiet read and the step at a position. Assumes nothing.
use mathlib.Core.Path.{◌≡◌, refl, sym, ap, ap₂, subst, ◌∙◌}
use mathlib.Core.Logic.{inl, inr, ⊎_elim}
use mathlib.Core.Bool.{Bool, true, false, ◌&&◌, ◌||◌, not, false≢true}
use Prim.Native.Nat.{ℕ, ◌+◌, ◌*◌, ◌/◌, ◌%◌, ◌<◌, ◌≤◌}
use native.Mathlib.Omega.{arith}
use native.Mathlib.Decide.{dec_lt}
use lib.Bits.{bit_and}
use lib.Dec.{eqb}
use borrow.Author.Tests.{eqb-true, eq-eqb}
use Rattle.words.specs.Small.{some_below}
use Rattle.words.specs.Sets.{has}
use Rattle.words.proofs.Bools.{and_make, or_cases}
use Rattle.cases.specs.declared.Case.{Case}
use Rattle.rules.specs.Kinds.{reading}
use Rattle.rules.specs.State.{State, kind_of}
use Rattle.rules.specs.Step.{issue, commit, step_code}
use Rattle.rules.proofs.Accepted.{can_commit}
use Rattle.machine.specs.Fit.{Fine}
use Rattle.sure.specs.Sure.{sure_kind, roomy}
use Rattle.sure.specs.Marked.{Alone}
use Rattle.sure.specs.Dead.{Ignored, DeadRead}
use Rattle.sure.specs.Quiet.{ended, pending, quiet}
use Rattle.sure.specs.Spent.{Key, taking, issuing, step_by}
use Rattle.spending.specs.Words.{key_at, opens}
use Rattle.choices.specs.Choice.{SureAt, QuietAt}
use Rattle.choices.specs.Finding.{SureCommit, DeadAt, Settled}
use Rattle.openings.specs.Opening.{Queued, Leading, FirstOf}
use Rattle.spending.proofs.Spends.{key_read, key_lone, key_issue}
use Rattle.spending.proofs.Rests.{action_at, source_at, key_taken}
use Rattle.openings.proofs.Queued.{lead_kind, lead_out}
use Rattle.openings.proofs.Opens.{opens_accepts}

-- sure commits

-- the commit of a dead read, at its position
pub dead_at : (c : Case) (s : State) (k e : ℕ) → k < 48 → e < 64 → opens c s k e ≡ true → (set : ℕ → Bool) → Ignored s set → set k ≡ true → DeadAt c s (64 * k + e)
dead_at c s k e l h o set i m =
    let p : (64 * k + e) / 64 ≡ k = omega arith in
    let q : (64 * k + e) % 64 ≡ e = omega arith in
    record {
      low = omega (arith, p);
      opened = ap₂ (opens c s) p q ∙ o;
      gone = subst (DeadRead s) (sym p) (record { reads = (opens_accepts c s k e l o).0; set = set; ignored = i; among = m });
    }

module _ (c : Case) (s : State) where
  -- no action below n is of a sure kind with an accepted commit
  abbrev pub NoSure : ℕ → Type 0
  NoSure n = (k : ℕ) → k < n → sure_kind (kind_of (s.actions k)) ≡ true → step_code c s (commit (s.actions k).proc k 0) ≡ 0 → ⊥

  pub no_sure : NoSure 0
  no_sure k h = absurd (omega arith)

  pub sure_refused : (n : ℕ) → NoSure n → (b : Bool) → b ≡ eqb (step_code c s (commit (s.actions n).proc n 0)) 0 → b ≡ false → NoSure (n + 1)
  sure_refused n N b e f k h p q =
      elim (dec_lt k n) [
        | yes l ↦ N k l p q
        | no l ↦ let z : k ≡ n = omega arith in absurd (false≢true (sym f ∙ e ∙ eq-eqb _ 0 (subst (λ (i : ℕ). step_code c s (commit (s.actions i).proc i 0) ≡ 0) z q)))
      ]

  module _ (few : c.procs ≤ 4) (x y : ℕ) (Q : Queued s sure_kind x) (L : Leading s y) (fine : (k : ℕ) → k < s.count → Fine (s.actions k).instr) where
    -- up to the next that is queued and may lead
    pub sure_over : (n end r : ℕ) → FirstOf (bit_and x y) n end r → NoSure n → NoSure r
    sure_over n end r F N k h p q =
        elim (dec_lt k n) [
          | yes l ↦ N k l p q
          | no l ↦ lead_out c s few sure_kind x Q y L fine k 0 p (F.skipped k (omega arith) h) q
        ]

    pub sure_here : (k : ℕ) (d : Bool) → k < 48 → k < s.count → has (bit_and x y) k ≡ true → d ≡ eqb (step_code c s (commit (s.actions k).proc k 0)) 0 → d ≡ true → SureCommit c s k
    sure_here k d h l b q t = record { found = λ z. (eqb-true _ 0 (sym q ∙ t), lead_kind c s few sure_kind x Q y L fine k l b); none = λ z. absurd (omega arith) }

  pub sure_nowhere : NoSure s.count → SureCommit c s 48
  sure_nowhere N = record { found = λ l. absurd (omega arith); none = λ l. N }

  -- the sure step

  module _ (marked : Bool) (n k : ℕ) (S : SureCommit c s k) where
    pub sure-lone : k < 48 → SureAt c marked n s (3072 + k)
    sure-lone h =
        let p : (3072 + k) / 64 ≡ 48 = omega arith in
        let q : (3072 + k) % 64 ≡ k = omega arith in
        let e : key_at (3072 + k) ≡ taking k 0 = key_lone ((3072 + k) / 64) ((3072 + k) % 64) p ∙ ap (λ (i : ℕ). taking i 0) q in
        record {
          found = λ l. subst (λ (a : Key). (step_code c s (step_by s a) ≡ 0) × Alone c marked n s (step_by s a)) (sym e) ((S.found h).0, inl (inl (S.found h).1));
          none = λ l. absurd (omega arith);
        }

    pub sure_issue : (p : ℕ) → p < 4 → step_code c s (issue p) ≡ 0 → (marked || roomy c n s) ≡ true → SureAt c marked n s (3136 + p)
    sure_issue p h x r =
        let w : 49 ≤ (3136 + p) / 64 = omega arith in
        let q : (3136 + p) % 64 ≡ p = omega arith in
        let e : key_at (3136 + p) ≡ issuing p = key_issue ((3136 + p) / 64) ((3136 + p) % 64) w ∙ ap issuing q in
        record {
          found = λ l. subst (λ (a : Key). (step_code c s (step_by s a) ≡ 0) × Alone c marked n s (step_by s a)) (sym e) (x, ⊎_elim (λ m. inr (and_make marked true m refl)) (λ f. inl (inl f)) (or_cases marked (roomy c n s) r));
          none = λ l. absurd (omega arith);
        }

    -- the commit of a dead read, or none
    pub sure_dead : 48 ≤ k → (j : ℕ) → (j < 3200 → DeadAt c s j) → SureAt c marked n s j
    sure_dead h j D =
        record {
          found = λ l.
              let d = D l in
              let a = opens_accepts c s (j / 64) (j % 64) d.low d.opened in
              let e : key_at j ≡ taking (j / 64) (j % 64) = key_read (j / 64) (j % 64) d.low in
              subst (λ (a : Key). (step_code c s (step_by s a) ≡ 0) × Alone c marked n s (step_by s a)) (sym e) (a.1, inl (inr d.gone));
          none = λ l. S.none h;
        }

  -- the quiet read

  pub quiet_none : QuietAt c s 48 0
  quiet_none = record { found = λ l. absurd (omega arith); some = λ l. absurd (omega arith); seen = λ l. absurd (omega arith) }

  pub quiet-some : (k sources : ℕ) → ended c s ≡ true → (k < 48 → Settled c s k sources) → QuietAt c s k sources
  unfolding quiet
  quiet-some k sources e f = record { found = found; some = λ l. (f l).some; seen = λ l. (f l).seen }
    where
      found : k < 48 → ((reading (kind_of (s.actions k)) && (ended c s && not (some_below s.count (λ j. pending (s.actions k).loc (s.actions j))))) ≡ true) × ((e : ℕ) × (step_code c s (step_by s (taking k e)) ≡ 0))
      found l =
          let r = (f l).read in
          let a = opens_accepts c s k r.opened.0 l r.opened.1 in
          (and_make _ _ a.0 (and_make _ _ e (ap not r.still)), (r.opened.0, a.1))

  -- the step at a position

  module _ (j : ℕ) where
    pub issue_at : 49 ≤ j / 64 → issue (j % 64) ≡ step_by s (key_at j)
    issue_at h = ap (step_by s) (sym (key_issue (j / 64) (j % 64) h))

    pub commit_at : (p k e : ℕ) → j / 64 < 49 → k ≡ action_at j → e ≡ source_at j → p ≡ (s.actions k).proc → commit p k e ≡ step_by s (key_at j)
    commit_at p k e h x y z = rw (z, x, y) (ap (step_by s) (sym (key_taken j h)))

    -- the action of an accepted commit is issued
    pub there_at : (k : ℕ) → j / 64 < 49 → k ≡ action_at j → step_code c s (step_by s (key_at j)) ≡ 0 → k < s.count
    there_at k h q x = (can_commit c s (s.actions k).proc k (source_at j) (ap (step_code c s) (commit_at (s.actions k).proc k (source_at j) h q refl refl) ∙ x)).there
