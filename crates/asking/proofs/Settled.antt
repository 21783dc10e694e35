-- From the search and the descent to the answer. Assumes nothing.
use mathlib.Core.Path.{◌≡◌, refl, sym, ◌∙◌, ap, subst}
use mathlib.Core.Bool.{Bool, true, false, false≢true, true≢false}
use mathlib.Core.List.{List}
use Prim.Native.Nat.{ℕ, ◌≤◌}
use lib.ListN.{length, replicate}
use Rattle.cases.specs.declared.Case.{Case}
use Rattle.clauses.specs.declared.Asked.{Asked}
use Rattle.clauses.specs.Wanted.{Askable}
use Rattle.runs.specs.Reachable.{Reachable}
use Rattle.runs.specs.Wanted.{Wish}
use Rattle.runs.specs.Asking.{Laid, IsAnswer}
use Rattle.runs.proofs.Reachable.{reachable_start}
use Rattle.rules.specs.State.{State, initial}
use Rattle.rules.specs.Womm.{womm}
use Rattle.rules.specs.Bytes.{step_bytes}
use Rattle.sure.specs.Sure.{forward}
use Rattle.machine.specs.declared.Machine.{Machine}
use Rattle.machine.specs.Shown.{shown}
use Rattle.machine.specs.Valid.{Valid}
use Rattle.machine.specs.Lent.{Program}
use Rattle.asking.specs.declared.Reach.{Reach}
use Rattle.asking.specs.Inner.{Standing, InReach, ReachOf}

module _ {c : Case} {W : List ℕ → Bool} {s : State} {n : ℕ} (shows : s ≡ initial c) {r : Reach} (F : ReachOf c W s n r) where
  from_start : ReachOf c W (initial c) n r
  from_start = subst (λ (s : State). ReachOf c W s n r) shows F

  pub start_held : r.found ≡ true → InReach c W (initial c) n
  start_held e = from_start.found.0 e

  pub settled_yes : r.found ≡ true → {long : ℕ} {out : List ℕ} → Laid (womm c) W step_bytes n 384 long out → IsAnswer (womm c) W step_bytes n 384 (record { code = 0; yes = true; length = long; cut = false }) out
  settled_yes e L =
      record {
        code = refl;
        yes = (λ _. start_held e, λ _. refl);
        found = λ _. record { laid = L; cut = refl };
        missing = λ z. absurd (true≢false z);
      }

  pub settled_no : r.found ≡ false → {out : List ℕ} → out ≡ replicate 384 0 → IsAnswer (womm c) W step_bytes n 384 (record { code = 0; yes = false; length = 0; cut = r.cut }) out
  settled_no e zeros =
      record {
        code = refl;
        yes = (λ z. absurd (false≢true z), λ h. absurd (false≢true (sym e ∙ from_start.found.1 h)));
        found = λ z. absurd (false≢true z);
        missing = λ _. record { long = refl; cut = from_start.cut e; zeros = zeros };
      }

-- what the search from the start is given
pub standing_start : {c : Case} {program : List ℕ} {m : Machine} {n : ℕ} {ahead : Bool} {asked : Asked} → Program c program → (shown c m ≡ initial c) × Valid c m → ahead ≡ forward c → n ≤ 96 → Askable asked → Standing c program m n ahead asked
standing_start {c} coded starts forwards few asks = record { coded = coded; valid = starts.1; reached = subst (Reachable (womm c)) (sym starts.0) (reachable_start (womm c)); forwards = forwards; few = few; asks = asks }

-- a cleared buffer of 384 bytes
pub all_clear : (buf : List ℕ) {out : List ℕ} → out ≡ replicate (length buf) 0 → length buf ≡ 384 → out ≡ replicate 384 0
all_clear buf e l = e ∙ ap (λ (k : ℕ). replicate k 0) l
