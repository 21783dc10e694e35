-- Request 13: plans, and the case that a sending and a receiving plan make. Assumes nothing.
-- A plan is a list of bytes: 0 to 3 touch that word, 4 takes the lock, 5 frees it.
use Rattle.std.specs.Prelude.{Bool, ◌&&◌, cond, List, [], ◌∷◌, ◌++◌, map, ℕ, suc, ◌+◌, ◌*◌, eqb, ltb, leb, length, replicate}
use Rattle.words.specs.Small.{all}
use Rattle.cases.specs.declared.Instr.{Instr}
use Rattle.cases.specs.declared.Instr.TheVariants.{Empty, Read, Write, Acquire, Release}
use Rattle.cases.specs.declared.Case.{Case}
use Rattle.rules.specs.Building.{slot_of, slots_of}

-- The action touches a word.
abbrev pub touching : ℕ → Bool
touching d = ltb d 4

-- How many actions of a plan pass the test.
unfoldable pub how_many : (ℕ → Bool) → List ℕ → ℕ
how_many f [] = 0
how_many f (d ∷ ds) = cond (f d) 1 0 + how_many f ds

-- 'A plan of 0 to 4 actions: touch a word 0 to 3, take the lock, free the lock.'
unfoldable pub is_plan : List ℕ → Bool
is_plan l = leb (length l) 4 && all (λ d. ltb d 6) l

-- 'Word 3 is the ready flag and the receiver reads it exactly once.' Not 'more than three receiving reads'.
unfoldable pub legal : List ℕ → List ℕ → Bool
legal sending receiving = is_plan sending && is_plan receiving && eqb (how_many (λ d. eqb d 3) receiving) 1 && leb (how_many touching receiving) 3

-- 'The receiver reads, each time into a fresh register': an action, and the register that a read there goes to.
pub record Deed : Type 0 where
  pub byte : ℕ
  pub register : ℕ

abbrev pub fresh : ℕ → ℕ → ℕ
fresh k d = cond (touching d) (suc k) k

-- The actions of a plan, where register k is the first that is fresh.
abbrev pub deeds : ℕ → List ℕ → List Deed
deeds k [] = []
deeds k (d ∷ ds) = record { byte = d; register = k } ∷ deeds (fresh k d) ds

-- Registers 0 to 4 of both processors hold 0 to 4: the addresses of the words, that of the lock, which is location 4, and the value 1.
abbrev pub locks : ℕ → Instr
locks d = cond (eqb d 4) (Acquire 4) (cond (eqb d 5) (Release 4) Empty)

-- 'The sender, processor 0, writes 1.'
abbrev pub sends : ℕ → Instr
sends d = cond (touching d) (Write d 1) (locks d)

-- 'The receiver, processor 1, reads.'
abbrev pub receives : Deed → Instr
receives x = cond (touching x.byte) (Read x.register x.byte) (locks x.byte)

-- The presets of both.
abbrev pub constants : List ℕ
constants = 0 ∷ 1 ∷ 2 ∷ 3 ∷ 4 ∷ 0 ∷ 0 ∷ 0 ∷ []

-- 'All words start at 0.' The case of the two plans.
unfoldable pub case_for : List ℕ → List ℕ → Case
case_for sending receiving =
    record {
      procs = 2;
      locs = 5;
      counts = length sending ∷ length receiving ∷ 0 ∷ 0 ∷ [];
      masks = 31 ∷ 31 ∷ 0 ∷ 0 ∷ [];
      presets = constants ++ (constants ++ replicate 16 0);
      memory = replicate 8 0;
      code = slots_of (map sends sending) ++ (slots_of (map receives (deeds 5 receiving)) ++ replicate 24 (slot_of Empty));
    }

-- 'The bound is always twice the number of actions.'
abbrev pub bound : List ℕ → List ℕ → ℕ
bound sending receiving = 2 * (length sending + length receiving)
