-- Where a search goes on. Assumes nothing.
use mathlib.Core.Path.{◌≡◌, refl, sym, ◌∙◌, subst}
use mathlib.Core.Bool.{Bool, cond}
use mathlib.Core.List.{List}
use Prim.Native.Nat.{ℕ, ◌≤◌, ◌<◌}
use native.Mathlib.Omega.{arith}
use native.Mathlib.Decide.{dec_lt}
use lib.Dec.{ltb}
use lib.ListN.{length, replicate}
use borrow.Author.Tests.{lt-ltb, le-ltb}
use Rattle.cases.specs.declared.Case.{Case}
use Rattle.clauses.specs.declared.Asked.{Asked}
use Rattle.clauses.specs.Wanted.{wanted}
use Rattle.runs.specs.Reachable.{Reachable}
use Rattle.runs.specs.Wanted.{Wish}
use Rattle.runs.proofs.Reachable.{reachable_step}
use Rattle.rules.specs.State.{State}
use Rattle.rules.specs.Step.{after}
use Rattle.rules.specs.Womm.{womm}
use Rattle.sure.specs.Sure.{Sized}
use Rattle.sure.specs.Spent.{step_by, Rested}
use Rattle.sure.proofs.Known.{known}
use Rattle.sure.proofs.Sweep.{rested_after}
use Rattle.machine.specs.declared.Machine.{Machine}
use Rattle.machine.specs.Shown.{shown, Presets}
use Rattle.machine.specs.Lent.{Program}
use Rattle.machine.specs.Given.{Showing}
use Rattle.machine.specs.Fit.{Fit}
use Rattle.spending.specs.Words.{spent_by, key_at}
use Rattle.searching.specs.declared.Tally.{Tally}
use Rattle.searching.specs.Entered.{entered, Woken}
use Rattle.searching.specs.Ready.{Ready, Entering}
use Rattle.searching.specs.Searched.{Searched, Explored}
use Rattle.searching.proofs.Lends.{presets}
use Rattle.searching.proofs.Starts.{not_spent}

module _ (c : Case) (s : State) (i : ℕ) where
  pub entered_step : i < 3200 → entered c s i ≡ after c s (step_by s (key_at i))
  entered_step l = rw (lt-ltb i 3200 l)

  pub entered-none : 3200 ≤ i → entered c s i ≡ s
  entered-none l = rw (le-ltb i 3200 l)

pub sized : (c : Case) → Fit c → Sized c
sized c F = record { few = F.procs; short = λ p _. F.counts p }

-- the machine that `enter` leaves
pub entered_shows : {c : Case} {program : List ℕ} {m next : Machine} {i n : ℕ} {ahead : Bool} {asked : Asked} {spent bytes : List ℕ} {y : Tally} → Ready c program m i n ahead asked spent bytes y
    → ((d : Case) → Program d program → Presets d c.masks c.presets → d.memory ≡ c.memory → Entering d m i → Showing d (entered d (shown d m) i) next) → Showing c (entered c (shown c m) i) next
entered_shows {c} {m = m} R enters = enters c R.coded (presets c m) refl R.entering

-- where the search ends at once, nothing need stay spent
pub woken_none : (s : State) (i : ℕ) (spent : List ℕ) → Woken s i spent (cond (ltb i 3200) (replicate 50 0) spent)
woken_none s i spent =
    record {
      step = λ l. rw (lt-ltb i 3200 l) (record { long = refl; calm = λ a h. absurd (not_spent a h) });
      none = λ l. rw (le-ltb i 3200 l);
    }

module _ {c : Case} {program : List ℕ} {m : Machine} {i n : ℕ} {ahead : Bool} {asked : Asked} {spent calm bytes : List ℕ} {y : Tally} {next : Machine} (woken : Woken (shown c m) i spent calm) (E : Showing c (entered c (shown c m) i) next) where
  -- the search goes on from there
  pub standing : Ready c program m i n ahead asked spent bytes y → Ready c program next 3200 n ahead asked calm bytes y
  standing R =
      record {
        coded = R.coded;
        entering = record { valid = E.valid; fits = λ l. absurd (omega arith) };
        reached = reached;
        forwards = R.forwards;
        few = R.few;
        asks = R.asks;
        long = long;
        rested = rested;
        room = R.room;
        held = R.held;
      }
    where
      reached : Reachable (womm c) (shown c next)
      reached =
          elim (dec_lt i 3200) [
            | yes l ↦ subst (Reachable (womm c)) (sym (E.shows ∙ entered_step c (shown c m) i l)) (reachable_step (womm c) R.reached (step_by (shown c m) (key_at i)) (R.entering.fits l))
            | no l ↦ subst (Reachable (womm c)) (sym (E.shows ∙ entered-none c (shown c m) i (omega arith))) R.reached
          ]

      long : length calm ≡ 50
      long =
          elim (dec_lt i 3200) [
            | yes l ↦ (woken.step l).long
            | no l ↦ subst (λ (x : List ℕ). length x ≡ 50) (sym (woken.none (omega arith))) R.long
          ]

      rested : Rested c (shown c next) (spent_by calm)
      rested =
          elim (dec_lt i 3200) [
            | yes l ↦
                subst (λ (s : State). Rested c s (spent_by calm)) (sym (E.shows ∙ entered_step c (shown c m) i l))
                (rested_after c (wanted asked) (sized c R.entering.valid.fit) (shown c m) (spent_by spent) (known R.reached) n R.rested (step_by (shown c m) (key_at i)) (R.entering.fits l) (spent_by calm) (woken.step l).calm)
            | no l ↦
                subst (λ (s : State). Rested c s (spent_by calm)) (sym (E.shows ∙ entered-none c (shown c m) i (omega arith)))
                (subst (λ (x : List ℕ). Rested c (shown c m) (spent_by x)) (sym (woken.none (omega arith))) R.rested)
          ]

-- what it tells from there
pub explored : {c : Case} {W : Wish} {s : State} {i n : ℕ} {spent calm bytes bytes' : List ℕ} {y z : Tally} {next : Machine} → Woken s i spent calm → Showing c (entered c s i) next → Searched c W (spent_by calm) (shown c next) n bytes y bytes' z → Explored c W s i spent n bytes y bytes' z
explored {c} {W} {n = n} {calm = calm} {bytes} {bytes'} {y} {z} woken E D = record { calm = calm; woken = woken; searched = subst (λ (s : State). Searched c W (spent_by calm) s n bytes y bytes' z) E.shows D }
