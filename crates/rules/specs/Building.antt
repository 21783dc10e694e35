-- Document 01, 'Shapes run on the bench': how a small case starts. Assumes nothing.
use Rattle.std.specs.Prelude.{ℕ, ◌-◌, List, [], ◌∷◌, ◌++◌, map, length, replicate}
use Rattle.std.proofs.Math.Option.{Option, none, some}
use Rattle.words.specs.Small.{or_zero, concat_map}
use Rattle.cases.specs.declared.Instr.{Instr}
use Rattle.cases.specs.declared.Instr.TheVariants.{Empty}
use Rattle.cases.specs.declared.Slot.{Slot}
use Rattle.cases.specs.declared.Case.{Case}
use Rattle.rules.specs.Result.{register_bytes}

-- A processor: what register 4 is preset to, and its instructions.
pub record Program : Type 0 where
  pub fourth : Option ℕ
  pub instrs : List Instr

-- 'Registers 0 and 1 of each processor are preset to 0 and 1; where a shape needs another address or value, register 4 is preset to it':
-- the mask and the presets of a processor whose register 4 is preset to v.
abbrev pub mask_of : Option ℕ → ℕ
mask_of none = 3
mask_of (some v) = 19

abbrev pub presets_of : Option ℕ → List ℕ
presets_of v = 0 ∷ 1 ∷ 0 ∷ 0 ∷ or_zero v ∷ 0 ∷ 0 ∷ 0 ∷ []

-- An instruction in a slot.
abbrev pub slot_of : Instr → Slot
slot_of i = record { instr = i }

-- Twelve slots that begin with these instructions.
abbrev pub slots_of : List Instr → List Slot
slots_of is = map slot_of is ++ replicate (12 - length is) (slot_of Empty)

-- What f gives of each processor, of four in all; of an absent one it is as said.
abbrev pub four : {A : Type 0} → A → (Program → A) → List Program → List A
four absent f ps = map f ps ++ replicate (4 - length ps) absent

-- 'Memory starts at 0': the case of these processors and m locations.
abbrev pub shape : ℕ → List Program → Case
shape m ps =
    record {
      procs = length ps;
      locs = m;
      counts = four 0 (λ q. length q.instrs) ps;
      masks = four 0 (λ q. mask_of q.fourth) ps;
      presets = concat_map (λ l. l) (four (replicate 8 0) (λ q. presets_of q.fourth) ps);
      memory = replicate 8 0;
      code = concat_map (λ l. l) (four (slots_of []) (λ q. slots_of q.instrs) ps);
    }

-- The same where no register 4 is preset.
abbrev pub plain : ℕ → List (List Instr) → Case
plain m is = shape m (map (λ i. record { fourth = none; instrs = i }) is)

-- One processor, one location.
abbrev pub alone : List Instr → Case
alone is = plain 1 (is ∷ [])

-- The record of one processor whose register 2 is x and whose register 4 is v.
abbrev pub left : Option ℕ → Option ℕ → List ℕ
left x v = concat_map register_bytes (some 0 ∷ some 1 ∷ x ∷ none ∷ v ∷ []) ++ replicate 81 0
