-- The start of a search: nothing is spent, and the buffer is cleared. Assumes nothing.
use mathlib.Core.Path.{◌≡◌, refl, sym, ◌∙◌, ap, subst, fun_ext}
use mathlib.Core.Bool.{Bool, true, false, false≢true}
use mathlib.Core.List.Memᴰ
use mathlib.Core.List.{List}
use Prim.Native.Nat.{ℕ, zero, suc, ◌≤◌}
use native.Mathlib.Omega.{arith}
use lib.Dec.{eqb, ltb}
use lib.ListN.{replicate, get_or}
use Rattle.words.specs.Sets.{has}
use Rattle.words.proofs.Sets.{has_zero}
use Rattle.words.proofs.Bools.{or_false, and_right}
use Rattle.cases.specs.declared.Case.{Case}
use Rattle.clauses.specs.declared.Asked.{Asked}
use Rattle.clauses.specs.Wanted.{Askable}
use Rattle.runs.specs.Reachable.{Reachable}
use Rattle.runs.specs.Wanted.{Wish}
use Rattle.rules.specs.State.{State}
use Rattle.rules.specs.Womm.{womm}
use Rattle.sure.specs.Spent.{Key, taking, issuing, Spent, fresh}
use Rattle.sure.specs.Sure.{forward}
use Rattle.sure.specs.Told.{Question, outcome, cut, Told}
use Rattle.machine.specs.declared.Machine.{Machine}
use Rattle.machine.specs.Shown.{shown}
use Rattle.machine.specs.Valid.{Valid}
use Rattle.machine.specs.Lent.{Program}
use Rattle.records.specs.Buffer.{records_in}
use Rattle.records.proofs.Buffer.{held_zeros}
use Rattle.spending.specs.Words.{spent_by}
use Rattle.searching.specs.declared.Tally.{Tally}
use Rattle.searching.specs.Ready.{Ready}
use Rattle.searching.specs.Searched.{Tells, Searched, Explored}

-- nothing is spent at the start

get_d_zeros : (n k : ℕ) → ◌≡◌ {A = ℕ} (get_or (replicate n 0) k 0) 0
get_d_zeros zero k = refl
get_d_zeros (suc n) zero = refl
get_d_zeros (suc n) (suc k) = get_d_zeros n k

pub spent_none : spent_by (replicate 50 0) ≡ fresh
unfolding spent_by
spent_none = fun_ext each
  where
    none : (k e : ℕ) → has (get_or (replicate 50 0) k 0) e ≡ false
    none k e = ap (λ (x : ℕ). has x e) (get_d_zeros 50 k) ∙ has_zero e

    each : (a : Key) → spent_by (replicate 50 0) a ≡ false
    each (taking k e) = or_false _ _ (and_right (ltb k 48) _ (none k e)) (and_right (eqb e 0) _ (none 48 k))
    each (issuing p) = none 49 p

pub not_spent : (a : Key) → spent_by (replicate 50 0) a ≡ true → ⊥
not_spent a h = false≢true (sym (ap (λ (sp : Spent). sp a) spent_none) ∙ h)

-- the tally before the search
abbrev pub empty : Tally
empty = record { count = 0; cut = false; full = false }

-- which is the default
pub empty_of : {y : Tally} → (y.count ≡ 0) × ((y.cut ≡ false) × (y.full ≡ false)) → y ≡ empty
empty_of e i = record { count = e.0 i; cut = e.1.0 i; full = e.1.1 i }

-- what the search is given
pub ready_start : {c : Case} {program : List ℕ} {m : Machine} {n : ℕ} {ahead : Bool} {asked : Asked} (size : ℕ) {zeros : List ℕ} → Program c program → Reachable (womm c) (shown c m) → Valid c m → ahead ≡ forward c → n ≤ 96 → Askable asked → zeros ≡ replicate size 0
    → Ready c program m 3200 n ahead asked (replicate 50 0) zeros empty
ready_start {c} {program} {m} size {zeros} coded reached valid forwards few asks cleared =
    record {
      coded = coded;
      entering = record { valid = valid; fits = λ l. absurd (omega arith) };
      reached = reached;
      forwards = forwards;
      few = few;
      asks = asks;
      long = refl;
      rested = λ a h. absurd (not_spent a h);
      room = refl;
      held = held_zeros size zeros cleared;
    }

-- it goes on from the machine itself
pub searched_start : {c : Case} {W : Wish} {s : State} {spent : List ℕ} {n : ℕ} {before bytes : List ℕ} {y z : Tally} → Explored c W s 3200 spent n before y bytes z → Searched c W (spent_by spent) s n before y bytes z
searched_start {c} {W} {s} {n = n} {before} {bytes} {y} {z} D = subst (λ (x : List ℕ). Searched c W (spent_by x) s n before y bytes z) (D.woken.none (omega arith)) D.searched

-- the same with the default
pub ready_empty : {c : Case} {program : List ℕ} {m : Machine} {i n : ℕ} {ahead : Bool} {asked : Asked} {spent bytes : List ℕ} (y : Tally) → (y.count ≡ 0) × ((y.cut ≡ false) × (y.full ≡ false))
    → Ready c program m i n ahead asked spent bytes empty → Ready c program m i n ahead asked spent bytes y
ready_empty {c} {program} {m} {i} {n} {ahead} {asked} {spent} {bytes} y e = subst (Ready c program m i n ahead asked spent bytes) (sym (empty_of e))

pub explored_empty : {c : Case} {W : Wish} {s : State} {i : ℕ} {spent : List ℕ} {n : ℕ} {before bytes : List ℕ} (y : Tally) {z : Tally} → (y.count ≡ 0) × ((y.cut ≡ false) × (y.full ≡ false))
    → Explored c W s i spent n before y bytes z → Explored c W s i spent n before empty bytes z
explored_empty {c} {W} {s} {i} {spent} {n} {before} {bytes} y {z} e = subst (λ (y : Tally). Explored c W s i spent n before y bytes z) (empty_of e)

-- an empty buffer tells nothing
pub tells_nothing : (bytes : List ℕ) (q : Question) → Tells bytes empty q → ⊥
unfolding records_in
tells_nothing bytes (outcome r) h = Memᴰ.not-nil h
tells_nothing bytes cut h = false≢true h

-- what a search with nothing spent has told
pub told_fresh : {c : Case} {W : Wish} {s : State} {n : ℕ} {before bytes : List ℕ} {y z : Tally} → Searched c W (spent_by (replicate 50 0)) s n before y bytes z → z.full ≡ false → Told c W fresh s n (Tells before y) (Tells bytes z)
told_fresh {c} {W} {s} {n} {before} {bytes} {y} {z} D e = subst (λ (sp : Spent). Told c W sp s n (Tells before y) (Tells bytes z)) spent_none (D.told e)
