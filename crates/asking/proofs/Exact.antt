-- At most one answer satisfies the statement of a question about a block, and there is one. Assumes nothing.
use mathlib.Core.Path.{◌≡◌, refl, sym, ◌∙◌}
use mathlib.Core.Bool.{false}
use mathlib.Core.List.{List}
use Prim.Native.Nat.{ℕ, zero, suc, ◌<◌}
use native.Mathlib.Omega.{arith}
use lib.ListN.{replicate}
use Rattle.words.specs.Refusals.{first_code_of}
use Rattle.cases.specs.Block.{case_of, read_of}
use Rattle.clauses.specs.declared.Clause.{Clause}
use Rattle.clauses.specs.Wanted.{meets_all}
use Rattle.runs.specs.Asking.{Answered}
use Rattle.runs.proofs.Asked.{refused_unique}
use Rattle.rules.proofs.Lowest.{answer_unique, answer_exists}
use Rattle.asking.specs.Asked.{ask_refusals, IsAsked}

module _ (block : List ℕ) (bound : ℕ) (ks : List Clause) (size : ℕ) where
  -- AT MOST ONE ANSWER, refusals too
  pub asked_unique : (a b : Answered) (at spot : ℕ) (out buf : List ℕ) → IsAsked block bound ks size a at out → IsAsked block bound ks size b spot buf → (a ≡ b) × (at ≡ spot) × (out ≡ buf)
  asked_unique a b at spot out buf x y = let w = by_code_lem (first_code_of (ask_refusals block bound ks size)) refl in (w.0, x.position ∙ sym y.position, w.1)
    where
      by_code_lem : (n : ℕ) → first_code_of (ask_refusals block bound ks size) ≡ n → (a ≡ b) × (out ≡ buf)
      by_code_lem zero e = answer_unique (case_of block) (meets_all ks) bound size a b out buf (x.sound e) (y.sound e)
      by_code_lem (suc n) e = let h : 0 < first_code_of (ask_refusals block bound ks size) = omega (arith, e) in refused_unique _ size a b out buf (x.unsound h) (y.unsound h)

  -- ONE THERE IS
  pub asked_exists : (a : Answered) × (at : ℕ) × (out : List ℕ) × IsAsked block bound ks size a at out
  asked_exists = by_code_lem (first_code_of (ask_refusals block bound ks size)) refl
    where
      by_code_lem : (n : ℕ) → first_code_of (ask_refusals block bound ks size) ≡ n → (a : Answered) × (at : ℕ) × (out : List ℕ) × IsAsked block bound ks size a at out
      by_code_lem zero e = let x = answer_exists (case_of block) (meets_all ks) bound size in (x.0, (read_of block).position, x.1, record { sound = λ _. x.2; unsound = λ h. absurd (omega (arith, e)); position = refl })
      by_code_lem (suc n) e = (
        record { code = first_code_of (ask_refusals block bound ks size); yes = false; length = 0; cut = false },
        (read_of block).position,
        replicate size 0,
        record { sound = λ z. absurd (omega (arith, e, z)); unsound = λ _. record { code = refl; yes = refl; long = refl; cut = refl; zeros = refl }; position = refl },
      )
