-- From the search over a cleared buffer to the list of a case. Assumes nothing.
use mathlib.Core.Path.{◌≡◌, refl, sym, ◌∙◌, ap, subst}
use mathlib.Core.Logic.{◌↔◌}
use mathlib.Core.Bool.{Bool, true, false}
use mathlib.Core.List.{List}
use Prim.Native.Nat.{ℕ, ◌≤◌}
use native.Mathlib.Omega.{arith}
use lib.ListN.{length, replicate, length-replicate}
use Rattle.cases.specs.declared.Case.{Case}
use Rattle.clauses.specs.declared.Asked.{Asked}
use Rattle.clauses.specs.Wanted.{wanted, no_clauses, meets_all}
use Rattle.runs.specs.Listing.{Listed, Refused, IsListing}
use Rattle.runs.specs.Outcome.{Outcome, Cut}
use Rattle.runs.specs.Reachable.{Reachable}
use Rattle.runs.proofs.Reachable.{reachable_start}
use Rattle.rules.specs.State.{State, initial}
use Rattle.rules.specs.Womm.{womm}
use Rattle.rules.proofs.Listing.{listing_exists}
use Rattle.sure.specs.Sure.{forward}
use Rattle.sure.proofs.Reduce.{done_from}
use Rattle.sure.proofs.Sweep.{told_outcomes, told_cut}
use Rattle.machine.specs.declared.Machine.{Machine}
use Rattle.machine.specs.Shown.{shown}
use Rattle.machine.specs.Valid.{Valid}
use Rattle.machine.specs.Lent.{Program}
use Rattle.records.specs.Growth.{Filled, Joined}
use Rattle.records.proofs.Growth.{iff_trans, in_second, filled_of}
use Rattle.records.proofs.Closing.{listed, unlisted, filled_size, filled_more}
use Rattle.spending.specs.Words.{spent_by}
use Rattle.searching.specs.declared.Tally.{Tally}
use Rattle.searching.specs.Ready.{Ready}
use Rattle.searching.specs.Searched.{Tells, Searched, Explored}
use Rattle.searching.proofs.Starts.{empty, ready_start, searched_start, tells_nothing, told_fresh}

-- no clauses: every outcome is wanted
all_wanted : (r : List ℕ) → wanted no_clauses r ≡ true
unfolding meets_all
all_wanted r = refl

-- what the search is given
pub ready_list : {c : Case} {program : List ℕ} {m : Machine} {n : ℕ} {ahead : Bool} {asked : Asked} (size : ℕ) {zeros : List ℕ} → asked ≡ no_clauses → Program c program → shown c m ≡ initial c → Valid c m → ahead ≡ forward c → n ≤ 96 → zeros ≡ replicate size 0
    → Ready c program m 3200 n ahead asked (replicate 50 0) zeros empty
ready_list {c} {program} {m} {n} {ahead} {asked} size {zeros} none coded shows valid forwards few cleared =
    subst (λ (a : Asked). Ready c program m 3200 n ahead a (replicate 50 0) zeros empty) (sym none) (ready_start size coded (subst (Reachable (womm c)) (sym shows) (reachable_start (womm c))) valid forwards few (omega arith, tt) cleared)

-- the machine's start is that of the rules, and there are no clauses
pub from_start : {c : Case} {asked : Asked} {s : State} {spent : List ℕ} {n : ℕ} {before bytes : List ℕ} {y z : Tally} → asked ≡ no_clauses → s ≡ initial c → Explored c (wanted asked) s 3200 spent n before y bytes z
    → Searched c (wanted no_clauses) (spent_by spent) (initial c) n before y bytes z
from_start {c} {asked} {s} {spent} {n} {before} {bytes} {y} {z} none e D =
    subst (λ (s : State). Searched c (wanted no_clauses) (spent_by spent) s n before y bytes z) e (subst (λ (a : Asked). Searched c (wanted a) (spent_by spent) s n before y bytes z) none (searched_start D))

-- a search from the start over a cleared buffer
module _ (c : Case) (n size : ℕ) {zeros : List ℕ} (cleared : zeros ≡ replicate size 0) {bytes : List ℕ} {z : Tally}
    (D : Searched c (wanted no_clauses) (spent_by (replicate 50 0)) (initial c) n zeros empty bytes z) where
  filled : Filled (Joined zeros 0 (Outcome (womm c) n)) zeros bytes z.count z.full
  filled = filled_of (λ r. in_second (λ d. done_from c n d.0)) D.filled

  whole_size : length bytes ≡ size
  whole_size = filled_size size cleared filled

  -- the buffer has its length still once it is cleared again
  pub cleared_size : {out : List ℕ} → out ≡ replicate (length bytes) 0 → length out ≡ size
  cleared_size e = ap length e ∙ length-replicate (length bytes) 0 ∙ whole_size

  -- there was room
  pub whole-listed : z.full ≡ false → {a : Listed} → a.code ≡ 0 → a.count ≡ z.count → a.cut ≡ z.cut → IsListing (womm c) n size a bytes
  whole-listed e {a} code count mark =
      let T = told_fresh D e in
      listed whole_size (D.filled.held e)
      (λ r. iff_trans (told_outcomes c (wanted no_clauses) (initial c) n (Tells zeros empty) (Tells bytes z) (tells_nothing zeros) T r) (λ o. o.0, λ o. (o, all_wanted r))) code count
      (subst (λ (b : Bool). (b ≡ true) ↔ Cut (womm c) n) (sym mark) (told_cut c (wanted no_clauses) (initial c) n (Tells zeros empty) (Tells bytes z) (tells_nothing zeros) T))

  -- there was none, and the buffer is cleared again
  pub whole_unlisted : z.full ≡ true → {a : Listed} {out : List ℕ} → Refused 11 (length bytes) a out → IsListing (womm c) n size a out
  whole_unlisted e {a} {out} refused = let x = listing_exists c n size in unlisted x.2.right (filled_more size cleared filled e) (subst (λ (k : ℕ). Refused 11 k a out) whole_size refused)
