-- 510 bytes with their check behind them are a block, which holds the case that they hold. Assumes nothing.
use mathlib.Core.Path.{◌≡◌, refl, ap, sym, ◌∙◌}
use mathlib.Core.Bool.{not}
use mathlib.Core.List.{List, ◌++◌}
use Prim.Native.Nat.{ℕ, ◌+◌, ◌*◌, ◌<◌}
use native.Mathlib.Omega.{arith}
use lib.Dec.{eqb, lit<}
use lib.ListN.{length, get_or, length-append, get_or-append}
use lib.Seq.{get_or-append-add}
use Rattle.words.specs.Refusals.{first_code_of}
use Rattle.cases.specs.Instruction.{two}
use Rattle.cases.specs.Block.{word, marked, check, faults, fault_of, case_of, read_of}
use Rattle.cases.proofs.Agree.{faults_same, check_same}
use Rattle.cases.proofs.Decoding.{read_accepted, past_check}
use Rattle.cases.proofs.Kept.{case_same}
use Rattle.cases.proofs.Slots.{two_back}

module _ (s : List ℕ) (long : length s ≡ 510) where
  abbrev signed : List ℕ
  signed = s ++ two (check s)

  pub below : (i : ℕ) → i < 510 → get_or signed i 0 ≡ get_or s i 0
  below i h = get_or-append s (two (check s)) 0 i (omega (arith, long))

  above : (i : ℕ) → get_or signed (510 + i) 0 ≡ get_or (two (check s)) i 0
  above i = ap (λ (n : ℕ). get_or signed (n + i) 0) (sym long) ∙ get_or-append-add s (two (check s)) i 0

  pub signed_long : length signed ≡ 512
  signed_long = length-append s (two (check s)) ∙ ap (λ (n : ℕ). n + 2) long

  pub signed_check : word signed 510 ≡ check signed
  signed_check = (λ t. above 0 t + 256 * above 1 t) ∙ two_back (check s) ∙ sym (check_same signed s below)

  pub signed_read : first_code_of (faults s) ≡ 0 → read_of (s ++ two (check s)) ≡ record { code = 0; position = 0; usual = marked s 2; case = case_of s }
  signed_read h =
      let code = sym (past_check signed signed_long signed_check) ∙ faults_same signed s below ∙ h in
      let usual = ap (λ (n : ℕ). not (eqb n 0)) (sym (below 2 (lit< tt))) in
      sym (read_accepted signed (fault_of signed 0) (ap (fault_of signed) (sym code)) (case_of s) (marked s 2) refl usual (sym (case_same signed s (λ i b e. below i b))))
