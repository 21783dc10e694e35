-- What the parts of the hand-off are given and answer. Assumes nothing.
use Rattle.std.specs.Prelude.{◌≡◌, Option, Some, None, ◌↔◌, Bool, true, false, ◌&&◌, ◌||◌, cond, List, [], ◌∷◌, ◌++◌, ℕ, ◌+◌, ◌<◌, eqb, ltb, leb, length, get_or, set, replicate}
use Rattle.cases.specs.declared.Case.{Case}
use Rattle.cases.specs.declared.Instr.TheVariants.{Empty}
use Rattle.cases.specs.declared.Slot.{Slot}
use Rattle.clauses.specs.declared.Clause.{Clause}
use Rattle.clauses.specs.declared.Asked.{Asked}
use Rattle.clauses.specs.Wanted.{no_clauses, with_clause}
use Rattle.rules.specs.State.{initial}
use Rattle.rules.specs.Step.{Step}
use Rattle.rules.specs.Womm.{womm}
use Rattle.rules.specs.Building.{slot_of}
use Rattle.rules.specs.Bytes.{step_bytes}
use Rattle.runs.specs.Wanted.{Wish, WantedFrom, Reaches}
use Rattle.runs.specs.Asking.{Laid}
use Rattle.handoffs.specs.declared.Answer.{Answer}
use Rattle.handoffs.specs.declared.Verdict.{Verdict}
use Rattle.handoffs.specs.declared.Verdict.TheVariants.{Safe, Stale, Stuck}
use Rattle.handoffs.specs.declared.Plan.{Plan}
use Rattle.handoffs.specs.Plans.{fresh, receives, constants}
use Rattle.handoffs.specs.Verdict.{Handed, holds, safe, stale, stuck}

-- The number of a verdict.
abbrev pub number_of : Verdict → ℕ
number_of Safe = safe
number_of Stale = stale
number_of Stuck = stuck

-- Whether a schedule was found, and its length in bytes.
pub record Found : Type 0 where
  pub yes : Bool
  pub length : ℕ

abbrev pub found_of : Option ℕ → Found
found_of (Some n) = record { yes = true; length = n }
found_of None = record { yes = false; length = 0 }

abbrev pub handed_of : Answer → Handed
handed_of a = record { code = a.code; verdict = a.verdict; length = a.length }

-- A plan by value: its length and its first four actions, 6 where there is none.
abbrev pub plan_of : List ℕ → Plan
plan_of l = record { count = length l; deeds = get_or l 0 6 ∷ get_or l 1 6 ∷ get_or l 2 6 ∷ get_or l 3 6 ∷ [] }

-- Action i of the four.
abbrev pub deed_of : Plan → ℕ → ℕ
deed_of p i = get_or p.deeds i 0

-- How many of the four pass.
abbrev pub passing : (ℕ → Bool) → Plan → ℕ
passing f p = cond (f (deed_of p 0)) 1 0 + cond (f (deed_of p 1)) 1 0 + cond (f (deed_of p 2)) 1 0 + cond (f (deed_of p 3)) 1 0

-- At most four actions, each at most 5.
abbrev pub four_at : Plan → Bool
four_at p =
    leb p.count 4
    && (leb p.count 0 || ltb (deed_of p 0) 6)
    && (leb p.count 1 || ltb (deed_of p 1) 6)
    && (leb p.count 2 || ltb (deed_of p 2) 6)
    && (leb p.count 3 || ltb (deed_of p 3) 6)

-- The registers for the second, third and fourth action.
abbrev pub fresh_two : Plan → ℕ
fresh_two p = fresh 5 (deed_of p 0)

abbrev pub fresh_three : Plan → ℕ
fresh_three p = fresh (fresh_two p) (deed_of p 1)

abbrev pub fresh_four : Plan → ℕ
fresh_four p = fresh (fresh_three p) (deed_of p 2)

abbrev pub no_code : List Slot
no_code = replicate 48 (slot_of Empty)

-- The receiver's instructions in slots 12 to 15.
abbrev pub receiver_code : List Slot → Plan → List Slot
receiver_code code p =
    set
    (set (set (set code 12 (slot_of (receives (record { byte = deed_of p 0; register = 5 })))) 13 (slot_of (receives (record { byte = deed_of p 1; register = fresh_two p }))))
    14 (slot_of (receives (record { byte = deed_of p 2; register = fresh_three p }))))
    15 (slot_of (receives (record { byte = deed_of p 3; register = fresh_four p })))

abbrev pub presets_of : List ℕ
presets_of = constants ++ (constants ++ replicate 16 0)

-- The register that ready is read into.
abbrev pub ready_at : Plan → ℕ
ready_at p = cond (eqb (deed_of p 0) 3) 5 (cond (eqb (deed_of p 1) 3) (fresh_two p) (cond (eqb (deed_of p 2) 3) (fresh_three p) (fresh_four p)))

-- The action touches this word, one of the first three.
abbrev pub touched_by : Plan → ℕ → Bool
touched_by p d = ltb d 3 && (eqb d (deed_of p 0) || eqb d (deed_of p 1) || eqb d (deed_of p 2) || eqb d (deed_of p 3))

-- Register k of the receiver is v.
abbrev pub clause_of : ℕ → ℕ → Clause
clause_of k v = record { processor = 1; register = k; defined = true; value = v }

-- Ready is 1 and another read 0.
abbrev pub asked_for : ℕ → ℕ → Asked
asked_for ready other = with_clause (with_clause no_clauses (clause_of ready 1)) (clause_of other 0)

-- The lowest schedule to an outcome that is wanted, in the buffer, or zeros where there is none.
pub record IsLow (c : Case) (W : Wish) (n : ℕ) (f : Found) (out : List ℕ) : Type 0 where
  pub yes : (f.yes ≡ true) ↔ WantedFrom (womm c) W (initial c) n
  pub found : f.yes ≡ true → Laid (womm c) W step_bytes n 384 f.length out
  pub missing : f.yes ≡ false → (f.length ≡ 0) × (out ≡ replicate 384 0)

-- Every finished run has exactly n steps.
pub record Level (c : Case) (n : ℕ) : Type 0 where
  pub each : (W : Wish) (k : ℕ) (ts : List Step) → Reaches (womm c) W (initial c) k ts → length ts ≡ n

-- Wanted by the one or by the other.
abbrev pub or_else : Wish → Wish → List ℕ → Bool
or_else U W o = U o || W o

-- What is the lowest for U before is the lowest for U or W after.
abbrev pub Improved : Case → Wish → ℕ → Found → List ℕ → Found → List ℕ → Type 0
Improved c W n before buf after out = (U : Wish) → IsLow c U n before buf → IsLow c (or_else U W) n after out

abbrev pub ImprovedTwice : Case → Wish → Wish → ℕ → Found → List ℕ → Found → List ℕ → Type 0
ImprovedTwice c W X n before buf after out = (U : Wish) → IsLow c U n before buf → IsLow c (or_else (or_else U W) X) n after out

-- An action d whose register is k: it reads a word that the sending plan touches, and is stale where ready is 1.
abbrev pub stale_at : Plan → ℕ → ℕ → ℕ → List ℕ → Bool
stale_at sending ready d k o = touched_by sending d && (holds o ready 1 && holds o k 0)

-- At most three reads, of which one is of ready: the registers are 5, 6 and 7.
pub record Few (p : Plan) : Type 0 where
  pub ready : ready_at p < 8
  pub second : deed_of p 1 < 4 → fresh_two p < 8
  pub third : deed_of p 2 < 4 → fresh_three p < 8
  pub fourth : deed_of p 3 < 4 → fresh_four p < 8

-- One of the receiver's four actions is stale.
abbrev pub stale_any : Plan → Plan → List ℕ → Bool
stale_any s r o =
    (((false || stale_at s (ready_at r) (deed_of r 0) 5 o) || stale_at s (ready_at r) (deed_of r 1) (fresh_two r) o) || stale_at s (ready_at r) (deed_of r 2) (fresh_three r) o)
    || stale_at s (ready_at r) (deed_of r 3) (fresh_four r) o

-- Any outcome will do.
abbrev pub any_outcome : List ℕ → Bool
any_outcome o = true
