-- What reading a block tells its callers. Assumes nothing.
use mathlib.Core.Path.{◌≡◌, ◌∙◌, ap}
use mathlib.Core.List.{List}
use Prim.Native.Nat.{ℕ}
use Rattle.words.specs.Refusals.{first_code_of}
use Rattle.words.proofs.First.{first_none}
use Rattle.cases.specs.declared.CaseRead.{CaseRead}
use Rattle.cases.specs.Block.{faults, refusals, case_of, position_of, case_with, read_of}

-- a block that is read as r
module _ (block : List ℕ) {r : CaseRead} (read : r ≡ read_of block) where
  pub read_code : r.code ≡ first_code_of (refusals block)
  unfolding read_of
  read_code = ap (λ (x : CaseRead). x.code) read

  pub read_position : r.position ≡ (read_of block).position
  read_position = ap (λ (x : CaseRead). x.position) read

  module _ (accepted : first_code_of (refusals block) ≡ 0) where
    pub read_as : r.case ≡ case_of block
    unfolding read_of
    read_as = ap (λ (x : CaseRead). x.case) read ∙ ap (λ (n : ℕ). case_with n (case_of block)) accepted

module _ (block : List ℕ) (accepted : first_code_of (refusals block) ≡ 0) where
  -- accepted: none of 3 to 7 applies, and the position is 0
  pub read_sound : first_code_of (faults block) ≡ 0
  read_sound = (first_none 1 _ _ (first_none 0 _ _ accepted).1).1

  pub accepted_position : (read_of block).position ≡ 0
  unfolding read_of position_of
  accepted_position = ap (position_of block) accepted
