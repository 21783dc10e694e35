-- The small cases hold, all together, by computation. Assumes nothing.
use mathlib.Core.Path.{◌≡◌, refl, sym, ◌∙◌}
use mathlib.Core.Bool.{Bool, true, false, ◌&&◌, beq, false≢true}
use mathlib.Core.List.Memᴰ
use mathlib.Core.List.{List, [], ◌∷◌, Memᴰ}
use Prim.Native.Nat.{ℕ}
use lib.Dec.{eqb}
use borrow.Author.Tests.{eqb-true}
use Rattle.words.specs.Small.{any, all, some_below}
use Rattle.words.specs.Refusals.{first_code_of}
use Rattle.words.proofs.Bools.{and_both, any_cases, all_at}
use Rattle.cases.specs.Block.{bad3, bad4, bad5, bad6, zero5, bad_byte, assigns_at, is_set, reads_at, bad19, contents}
use Rattle.runs.specs.Listing.{ascending}
use Rattle.rules.specs.Claims.{Every}
use Rattle.rules.proofs.Quick.{quick, quick_sound}
use Rattle.boards.specs.Board.{newest_to}
use Rattle.boards.specs.Run.{bars, ran}
use Rattle.boards.specs.Machine.{allowed, moved, ended, registers}
use Rattle.boards.specs.Quiet.{quiet}
use Rattle.boards.specs.Shapes.{Claim, lists, Holds, shapes}
use Rattle.boards.proofs.Waiting.{moves}
use Rattle.boards.proofs.Search.{pick, found, whole, outcomes_in, cut_in, outcomes_found, cut_found}

abbrev same : List ℕ → List ℕ → Bool
same [] [] = true
same [] (y ∷ ys) = false
same (x ∷ xs) [] = false
same (x ∷ xs) (y ∷ ys) = eqb x y && same xs ys

same_eq : (a b : List ℕ) → same a b ≡ true → a ≡ b
same_eq [] [] h = refl
same_eq [] (y ∷ ys) h = absurd (false≢true h)
same_eq (x ∷ xs) [] h = absurd (false≢true h)
same_eq (x ∷ xs) (y ∷ ys) h =
    let w = and_both (eqb x y) (same xs ys) h in
    let p = eqb-true x y w.0 in
    let q = same_eq xs ys w.1 in
    λ i. p i ∷ q i

abbrev within : List (List ℕ) → List (List ℕ) → Bool
within rs qs = all (λ r. any (same r) qs) rs

within_mem : (rs qs : List (List ℕ)) → within rs qs ≡ true → (r : List ℕ) → Memᴰ r rs → Memᴰ r qs
within_mem rs qs h r m = let w = any_cases (same r) qs (all_at (λ r. any (same r) qs) m h) in Memᴰ.cast (same_eq r w.0 w.2) w.1

beq_eq : (a b : Bool) → beq a b ≡ true → a ≡ b
beq_eq true true h = refl
beq_eq true false h = absurd (false≢true h)
beq_eq false true h = absurd (false≢true h)
beq_eq false false h = refl

-- a row, as a test
unfoldable pub test : Claim → Bool
test (lists k c n rs cut) =
    let qs = whole k c n in
    quick c && (ascending rs && (within rs (outcomes_in qs) && (within (outcomes_in qs) rs && beq cut (cut_in qs))))

holds : (w : Claim) → test w ≡ true → Holds w
unfolding test
holds (lists k c n rs cut) h =
    let qs = whole k c n in
    let s = and_both (quick c) _ h in
    let w = and_both (ascending rs) _ s.1 in
    let v = and_both (within rs (outcomes_in qs)) _ w.1 in
    let u = and_both (within (outcomes_in qs) rs) _ v.1 in
    let e = beq_eq cut (cut_in qs) u.1 in (
      quick_sound c s.0,
      (
        record {
          sorted = w.0;
          members = λ r. (λ m. (outcomes_found k c n r).0 (within_mem rs (outcomes_in qs) v.0 r m), λ o. within_mem (outcomes_in qs) rs u.0 r ((outcomes_found k c n r).1 o));
        },
        (λ z. (cut_found k c n).0 (sym e ∙ z), λ z. e ∙ (cut_found k c n).1 z),
      ),
    )

pub every : (l : List Claim) → all test l ≡ true → Every Holds l
every [] h = tt
every (w ∷ ws) h = let v = and_both (test w) (all test ws) h in (holds w v.0, every ws v.1)

computed : all test shapes ≡ true
unfolding test quick bad3 bad4 bad5 bad6 zero5 bad_byte assigns_at is_set reads_at bad19 contents first_code_of some_below found pick moves quiet newest_to bars ran allowed moved ended registers
computed = refl

pub shapes_hold : Every Holds shapes
shapes_hold = every shapes computed
