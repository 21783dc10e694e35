-- The step at a position, as it is taken. Assumes nothing.
use mathlib.Core.Path.{◌≡◌, sym, ◌∙◌, ap}
use Prim.Native.Nat.{ℕ, ◌-◌, ◌/◌, ◌%◌, ◌≤◌, ◌<◌}
use native.Mathlib.Omega.{arith}
use lib.ListN.{get_or}
use Rattle.cases.specs.declared.Case.{Case}
use Rattle.rules.specs.State.{State, Action}
use Rattle.rules.specs.Step.{Step, issue, step_of, step_code, after}
use Rattle.rules.proofs.Accepted.{can_commit}
use Rattle.sure.specs.Spent.{step_by}
use Rattle.machine.specs.declared.Entry.{Entry}
use Rattle.machine.specs.declared.Machine.{Machine}
use Rattle.machine.specs.Word.{entry_of}
use Rattle.machine.specs.Shown.{shown}
use Rattle.machine.specs.Given.{Accepted, Showing}
use Rattle.machine.proofs.Entries.{action_at_lem}
use Rattle.spending.specs.Words.{key_at}
use Rattle.spending.proofs.Spends.{key_issue}
use Rattle.spending.proofs.Rests.{action_at, source_at, key_taken}
use Rattle.searching.specs.Entered.{entered}
use Rattle.searching.specs.Ready.{Entering}
use Rattle.searching.proofs.Entered.{entered_step}
use Rattle.searching.proofs.Lends.{acts}

-- an issue
pub issue_at : (s : State) (i : ℕ) → 3136 ≤ i → i < 3200 → step_of 0 (i - 3136) 0 0 ≡ step_by s (key_at i)
issue_at s i h l =
    let e : i - 3136 ≡ i % 64 = omega arith in
    let w : 49 ≤ i / 64 = omega arith in
    ap issue e ∙ ap (step_by s) (sym (key_issue (i / 64) (i % 64) w))

module _ {c : Case} {m : Machine} {i : ℕ} (E : Entering c m i) where
  pub issue_here : 3136 ≤ i → i < 3200 → step_of 0 (i - 3136) 0 0 ≡ step_by (shown c m) (key_at i)
  issue_here = issue_at (shown c m) i

  -- a commit: its action is issued, and its processor is the entry's
  module _ (h : i < 3136) (k : ℕ) (at : k ≡ action_at i) where
    key : step_of 1 ((shown c m).actions k).proc k (source_at i) ≡ step_by (shown c m) (key_at i)
    key = let w : i / 64 < 49 = omega arith in rw at (ap (step_by (shown c m)) (sym (key_taken i w)))

    pub there_at : k < m.issued
    there_at = (can_commit c (shown c m) _ k (source_at i) (ap (step_code c (shown c m)) key ∙ E.fits (omega arith))).there

    pub commit_at : (e : Entry) → e ≡ entry_of (get_or m.acts k 0) → (p x : ℕ) → p ≡ e.proc → x ≡ source_at i → step_of 1 p k x ≡ step_by (shown c m) (key_at i)
    commit_at e q p x y z =
        let f : p ≡ ((shown c m).actions k).proc = y ∙ ap (λ (e : Entry). e.proc) q ∙ sym (ap (λ (a : Action). a.proc) (action_at_lem c m.issued m.acts (shown c m) (acts c m) k there_at)) in
        rw (f, z) key

  module _ (l : i < 3200) {t : Step} (e : t ≡ step_by (shown c m) (key_at i)) where
    pub accepted_at_lem : Accepted c m t
    accepted_at_lem = record { valid = E.valid; fits = ap (step_code c (shown c m)) e ∙ E.fits l }

    pub shows_at : {r : Machine} → Showing c (after c (shown c m) t) r → Showing c (entered c (shown c m) i) r
    shows_at S = record { shows = S.shows ∙ ap (after c (shown c m)) e ∙ sym (entered_step c (shown c m) i l); valid = S.valid }
