-- The codes of a listing: that of its block first, then 10; and the list's laws over a block. Assumes nothing.
use mathlib.Core.Path.{◌≡◌, refl, sym, ◌∙◌, ap, subst}
use mathlib.Core.Bool.{false, cond}
use mathlib.Core.List.{List}
use Prim.Native.Nat.{ℕ, zero, suc, ◌≤◌, ◌<◌}
use native.Mathlib.Omega.{arith}
use lib.Dec.{ltb}
use borrow.Author.Tests.{lt-ltb, le-ltb}
use Rattle.words.specs.Refusals.{first_code_of}
use Rattle.words.proofs.Bools.{cond-true, cond-false}
use Rattle.cases.specs.declared.CaseRead.{CaseRead}
use Rattle.cases.specs.Block.{read_of}
use Rattle.cases.proofs.Told.{read_code, read_as, read_sound, accepted_position}
use Rattle.runs.specs.Listing.{Listed, Refused}
use Rattle.runs.proofs.Unique.{refused_unique}
use Rattle.machine.specs.Fit.{Fit}
use Rattle.machine.proofs.Fits.{fit}
use Rattle.boards.specs.declared.Buffering.{Buffering}
use Rattle.boards.specs.Listing.{IsBoardList}
use Rattle.boards.proofs.Stable.{board-same, board_unique}
use Rattle.boardlisting.specs.Outcomes.{board_refusals, IsBoardOutcomes}

module _ (block : List ℕ) (bound : ℕ) where
  first_block : 0 < (read_of block).code → first_code_of (board_refusals block bound) ≡ (read_of block).code
  unfolding board_refusals first_code_of
  first_block h = cond-true _ _ _ (lt-ltb 0 (read_of block).code h)

  first_bound : (read_of block).code ≡ 0 → first_code_of (board_refusals block bound) ≡ cond (ltb 48 bound) 10 0
  unfolding board_refusals first_code_of
  first_bound z = cond-false _ _ _ (le-ltb 0 (read_of block).code (omega (arith, z)))

  -- accepted: the block is read, and the bound is not over 48
  pub accepted : (read_of block).code ≡ 0 → bound ≤ 48 → first_code_of (board_refusals block bound) ≡ 0
  accepted z l = first_bound z ∙ cond-false _ _ _ (le-ltb 48 bound l)

  accepted_block : first_code_of (board_refusals block bound) ≡ 0 → (read_of block).code ≡ 0
  accepted_block h = by_code_lem (read_of block).code refl
    where
      by_code_lem : (n : ℕ) → (read_of block).code ≡ n → (read_of block).code ≡ 0
      by_code_lem zero e = e
      by_code_lem (suc n) e = absurd (omega (arith, e, first_block (omega (arith, e)), h))

-- a block that is read as r
module _ (k : Buffering) (block : List ℕ) {r : CaseRead} (read : r ≡ read_of block) where
  code : (read_of block).code ≡ r.code
  code = ap (λ (x : CaseRead). x.code) (sym read)

  position : r.position ≡ (read_of block).position
  position = ap (λ (x : CaseRead). x.position) read

  -- a sound case has what the machine asks
  pub read_fit : r.code ≡ 0 → Fit r.case
  read_fit z = let ok = sym (read_code block read) ∙ z in subst Fit (sym (read_as block read ok)) (fit block (read_sound block ok))

  module _ {bound size : ℕ} {a : Listed} {at : ℕ} {out : List ℕ} where
    refused_with : (why : ℕ) → 0 < why → first_code_of (board_refusals block bound) ≡ why → at ≡ (read_of block).position → Refused why size a out → IsBoardOutcomes k block bound size a at out
    refused_with why h e q x = record { sound = λ z. absurd (omega (arith, e)); unsound = λ _. subst (λ (n : ℕ). Refused n size a out) (sym e) x; position = q }

    pub refused_block : (r.code ≡ 0 → ⊥) → Refused r.code size a out → at ≡ r.position → IsBoardOutcomes k block bound size a at out
    refused_block some x q =
        let h : 0 < r.code = omega (arith, some) in
        refused_with r.code h (first_block block bound (omega (arith, h, code)) ∙ code) (q ∙ position) x

    pub refused_bound : r.code ≡ 0 → 48 < bound → Refused 10 size a out → at ≡ 0 → IsBoardOutcomes k block bound size a at out
    refused_bound z l x q =
        refused_with 10 (omega arith) (first_bound block bound (code ∙ z) ∙ cond-true _ _ _ (lt-ltb 48 bound l)) (q ∙ sym (accepted_position block (sym (read_code block read) ∙ z))) x

    pub listed_case : r.code ≡ 0 → bound ≤ 48 → IsBoardList k r.case bound size a out → at ≡ 0 → IsBoardOutcomes k block bound size a at out
    listed_case z l x q =
        let e = accepted block bound (code ∙ z) l in
        record {
          sound = λ _. subst (λ (y : CaseRead). IsBoardList k y.case bound size a out) read x;
          unsound = λ h. absurd (omega (arith, e));
          position = q ∙ sym (accepted_position block (sym (read_code block read) ∙ z));
        }

-- AT MOST ONE ANSWER
pub outcomes_unique : (k : Buffering) (block : List ℕ) (bound size : ℕ) (a b : Listed) (at at' : ℕ) (out buf : List ℕ) → IsBoardOutcomes k block bound size a at out → IsBoardOutcomes k block bound size b at' buf → (a ≡ b) × (at ≡ at') × (out ≡ buf)
outcomes_unique k block bound size a b at at' out buf x y = let w = by_code_lem (first_code_of (board_refusals block bound)) refl in (w.0, x.position ∙ sym y.position, w.1)
  where
    by_code_lem : (n : ℕ) → first_code_of (board_refusals block bound) ≡ n → (a ≡ b) × (out ≡ buf)
    by_code_lem zero e = board_unique k (read_of block).case bound size a b out buf (x.sound e) (y.sound e)
    by_code_lem (suc n) e = let h : 0 < first_code_of (board_refusals block bound) = omega (arith, e) in refused_unique _ size a b out buf (x.unsound h) (y.unsound h)

-- UNMARKED, THE SAME FOR LARGER BOUNDS, up to 48
pub outcomes_same : (k : Buffering) (block : List ℕ) (bound more size : ℕ) (a : Listed) (at : ℕ) (out : List ℕ) → bound ≤ more → more ≤ 48 → a.code ≡ 0 → a.cut ≡ false → IsBoardOutcomes k block bound size a at out → IsBoardOutcomes k block more size a at out
outcomes_same k block bound more size a at out le few ok unmarked x = by_code_lem (first_code_of (board_refusals block bound)) refl
  where
    by_code_lem : (n : ℕ) → first_code_of (board_refusals block bound) ≡ n → IsBoardOutcomes k block more size a at out
    by_code_lem zero e =
        let z = accepted block more (accepted_block block bound e) few in
        record { sound = λ _. board-same k (read_of block).case bound more size a out le ok unmarked (x.sound e); unsound = λ h. absurd (omega (arith, z)); position = x.position }
    by_code_lem (suc n) e = let h : 0 < first_code_of (board_refusals block bound) = omega (arith, e) in absurd (omega (arith, (x.unsound h).code))
