-- Asked of clauses that are held by value is asked of the list that they were gathered from. Assumes nothing.
use mathlib.Core.Path.{◌≡◌, sym, ◌∙◌, ap, subst}
use mathlib.Core.Bool.{Bool, false, not}
use mathlib.Core.List.{List, [], ◌∷◌, ◌++◌}
use Prim.Native.Nat.{ℕ, ◌≤◌, ◌<◌}
use native.Mathlib.Omega.{arith}
use native.Mathlib.Decide.{dec_lt}
use lib.Dec.{eqb, ltb}
use lib.ListN.{length}
use borrow.Author.Tests.{lt-ltb, ltb-false}
use Rattle.words.specs.Refusals.{◌when◌, first_code_of}
use Rattle.words.proofs.Bools.{or_left, or_none}
use Rattle.cases.specs.Block.{refusals, case_of}
use Rattle.clauses.specs.declared.Clause.{Clause}
use Rattle.clauses.specs.Wanted.{meets_all, gathered, clauses_of}
use Rattle.clauses.proofs.Gathers.{gathered-count, gathered_long, gathered_are}
use Rattle.runs.specs.Asking.{Answered, IsAnswer, Refused}
use Rattle.rules.specs.Bytes.{step_bytes}
use Rattle.rules.specs.Womm.{womm}
use Rattle.asking.specs.Asked.{bad_clauses, ask_refusals, IsAsked}
use Rattle.asking.proofs.Held.{held_clauses, bad_many}
use Rattle.asking.proofs.Refusing.{fair_clauses}

module _ (ks : List Clause) where
  same_clauses : length ks ≤ 8 → clauses_of (gathered ks) ≡ ks
  same_clauses few = sym (held_clauses (gathered ks) (omega (arith, gathered-count ks))) ∙ gathered_are ks few

  same_bad : (procs : ℕ) → bad_clauses procs (clauses_of (gathered ks)) ≡ bad_clauses procs ks
  unfolding bad_clauses
  same_bad procs =
      elim (dec_lt 8 (length ks)) [
        | yes h ↦ sym (bad_many procs (gathered ks) (gathered_long ks) (omega (arith, gathered-count ks))) ∙ sym (or_left (ltb 8 (length ks)) _ (lt-ltb 8 (length ks) h))
        | no h ↦ ap (bad_clauses procs) (same_clauses (omega arith))
      ]

  few_clauses : (procs : ℕ) → bad_clauses procs ks ≡ false → length ks ≤ 8
  unfolding bad_clauses
  few_clauses procs h = ltb-false 8 (length ks) (or_none (ltb 8 (length ks)) _ h).0

  module _ (block : List ℕ) (bound size : ℕ) where
    same_code : first_code_of (ask_refusals block bound (clauses_of (gathered ks)) size) ≡ first_code_of (ask_refusals block bound ks size)
    unfolding ask_refusals
    same_code = ap (λ (b : Bool). first_code_of (refusals block ++ (10 when ltb 96 bound ∷ 12 when b ∷ 13 when not (eqb size 384) ∷ []))) (same_bad (case_of block).procs)

    pub asked_of : (a : Answered) (at : ℕ) (out : List ℕ) → IsAsked block bound (clauses_of (gathered ks)) size a at out → IsAsked block bound ks size a at out
    asked_of a at out x =
        record {
          sound = λ z.
              subst (λ (l : List Clause). IsAnswer (womm (case_of block)) (meets_all l) step_bytes bound size a out) (same_clauses (few_clauses (case_of block).procs (fair_clauses block bound ks size z)))
              (x.sound (same_code ∙ z));
          unsound = λ h. subst (λ (k : ℕ). Refused k size a out) same_code (x.unsound (subst (λ (k : ℕ). 0 < k) (sym same_code) h));
          position = x.position;
        }
