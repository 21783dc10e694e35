-- The program of a case: numbers that give its instructions back. Assumes nothing.
use mathlib.Core.Path.{◌≡◌, sym, ◌∙◌, ap, subst}
use mathlib.Core.List.{List}
use Prim.Native.Nat.{ℕ, ◌+◌, ◌*◌, ◌%◌, ◌<◌}
use native.Mathlib.Omega.{arith}
use lib.ListN.{length, get_or, set}
use Rattle.cases.specs.declared.Case.{Case}
use Rattle.cases.specs.Case.{slot_in, count_of}
use Rattle.machine.specs.Word.{instr_from, code_of}
use Rattle.machine.specs.Fit.{Fit}
use Rattle.machine.specs.Lent.{Program}
use Rattle.machine.proofs.Packing.{code_back}
use Rattle.machine.proofs.Stores.{set_at}

-- x is the number of the instruction in slot n
abbrev pub CodeIn : Case → ℕ → ℕ → Type 0
CodeIn c n x = (x ≡ code_of (slot_in c n)) × (x < 8388608)

-- the first n slots of out have their numbers
abbrev pub Coded : Case → List ℕ → ℕ → Type 0
Coded c out n = (j : ℕ) → j < n → CodeIn c j (get_or out j 0)

module _ (c : Case) (out : List ℕ) (long : length out ≡ 48) where
  pub coded_more : (n x : ℕ) → n < 48 → CodeIn c n x → Coded c out n → Coded c (set out n x) (n + 1)
  coded_more n x low new old j l = set_at (CodeIn c j) out 0 n j x (omega arith) (λ e. subst (λ (i : ℕ). CodeIn c i x) (sym e) new) (λ e. old j (omega arith))

  pub program_of : Fit c → Coded c out 48 → Program c out
  program_of fit h = record { long = long; instr = at }
    where
      at : (p i : ℕ) → p < 4 → i < count_of c p → instr_from (get_or out (12 * p + i) 0 % 8388608) ≡ slot_in c (12 * p + i)
      at p i lp li =
          let few = fit.counts p in
          let b = h (12 * p + i) (omega arith) in
          let low = b.1 in
          let q : get_or out (12 * p + i) 0 % 8388608 ≡ get_or out (12 * p + i) 0 = omega arith in
          ap instr_from (q ∙ b.0) ∙ code_back (slot_in c (12 * p + i)) (fit.fine p i lp li)
