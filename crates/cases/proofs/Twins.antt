-- Two blocks that differ in the usual bound and the check alone are read alike, but for the mark. Assumes nothing.
use mathlib.Core.Path.{◌≡◌, ap, sym, ◌∙◌}
use mathlib.Core.List.{List}
use Prim.Native.Nat.{ℕ}
use lib.Dec.{ltb}
use borrow.Author.Tests.{le-ltb}
use Rattle.words.specs.Refusals.{first_code_of}
use Rattle.cases.specs.declared.Fault.{Fault}
use Rattle.cases.specs.Block.{byte, refusals, case_of, case_with, read_of}
use Rattle.cases.specs.Formed.{Twins}
use Rattle.cases.proofs.Agree.{faults_alike, fault_alike}
use Rattle.cases.proofs.Decoding.{past_check}
use Rattle.cases.proofs.Kept.{case_same}

module _ (s t : List ℕ) (w : Twins s t) where
  over : ltb 96 (byte s 2) ≡ ltb 96 (byte t 2)
  over = le-ltb 96 (byte s 2) w.few.0 ∙ sym (le-ltb 96 (byte t 2) w.few.1)

  pub twins_code : first_code_of (refusals s) ≡ first_code_of (refusals t)
  twins_code = sym (past_check s w.long.0 w.checked.0) ∙ faults_alike s t w.same over ∙ past_check t w.long.1 w.checked.1

  pub twins_case : case_of s ≡ case_of t
  twins_case = case_same s t w.same

  pub twins_position : (read_of s).position ≡ (read_of t).position
  unfolding read_of
  twins_position = ap (λ (f : Fault). f.position) (fault_alike s t w.same over (first_code_of (refusals s)) (first_code_of (refusals t)) twins_code)

  -- The same code, the same position and the same case.
  pub twins_read : ((read_of s).code ≡ (read_of t).code) × ((read_of s).position ≡ (read_of t).position) × ((read_of s).case ≡ (read_of t).case)
  unfolding read_of
  twins_read = (twins_code, twins_position, (λ j. case_with (twins_code j) (twins_case j)))
