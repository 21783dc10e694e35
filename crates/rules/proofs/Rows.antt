-- A row of a table by computation. Assumes nothing.
use Rattle.std.proofs.Common.{◌≡◌, ℕ, Bool, true, false, ◌&&◌, eqb, List, [], ◌∷◌, sym, refl, ◌∙◌, eqb-true}
use mathlib.Core.Bool.{beq, false≢true}
use mathlib.Core.List.Memᴰ
use mathlib.Core.List.{Memᴰ}
use mathlib.Core.Option.{Option, none, some}
use Rattle.words.specs.Small.{any, all}
use Rattle.words.proofs.Bools.{and_both, any_cases, all_at}
use Rattle.cases.specs.declared.Case.{Case}
use Rattle.runs.specs.Replay.{replay}
use Rattle.runs.specs.Listing.{ascending}
use Rattle.runs.proofs.Search.{search, cuts}
use Rattle.rules.specs.State.{initial}
use Rattle.rules.specs.Result.{finished, register_of}
use Rattle.rules.specs.Womm.{womm}
use Rattle.rules.specs.Claims.{Claim, lists, replays, names, finishes, leaves, orders, reached, code_of, place_at, case_in, Says, Holds, Every}
use Rattle.rules.proofs.Quick.{quick, quick_sound}
use Rattle.rules.proofs.Candidates.{candidates, outcomes_found, cut_found}

abbrev same : List ℕ → List ℕ → Bool
same [] [] = true
same [] (y ∷ ys) = false
same (x ∷ xs) [] = false
same (x ∷ xs) (y ∷ ys) = eqb x y && same xs ys

same_eq : (a b : List ℕ) → same a b ≡ true → a ≡ b
same_eq [] [] h = refl
same_eq [] (y ∷ ys) h = absurd (false≢true h)
same_eq (x ∷ xs) [] h = absurd (false≢true h)
same_eq (x ∷ xs) (y ∷ ys) h =
    let w = and_both (eqb x y) (same xs ys) h in
    let p = eqb-true x y w.0 in
    let q = same_eq xs ys w.1 in
    λ i. p i ∷ q i

abbrev within : List (List ℕ) → List (List ℕ) → Bool
within rs qs = all (λ r. any (same r) qs) rs

within_mem : (rs qs : List (List ℕ)) → within rs qs ≡ true → (r : List ℕ) → Memᴰ r rs → Memᴰ r qs
within_mem rs qs h r m = let w = any_cases (same r) qs (all_at (λ r. any (same r) qs) m h) in Memᴰ.cast (same_eq r w.0 w.2) w.1

beq_eq : (a b : Bool) → beq a b ≡ true → a ≡ b
beq_eq true true h = refl
beq_eq true false h = absurd (false≢true h)
beq_eq false true h = absurd (false≢true h)
beq_eq false false h = refl

abbrev same_value : Option ℕ → Option ℕ → Bool
same_value none none = true
same_value none (some n) = false
same_value (some m) none = false
same_value (some m) (some n) = eqb m n

same_value_eq : (a b : Option ℕ) → same_value a b ≡ true → a ≡ b
same_value_eq none none h = refl
same_value_eq none (some n) h = absurd (false≢true h)
same_value_eq (some m) none h = absurd (false≢true h)
same_value_eq (some m) (some n) h = let e = eqb-true m n h in λ i. some (e i)

-- the outcomes as the search finds them
abbrev outcomes : Case → ℕ → List (List ℕ)
outcomes c n = search (womm c) (candidates c) n (initial c)

-- a row, as a test
abbrev saying : Claim → Bool
saying (lists c n rs cut) = ascending rs && (within rs (outcomes c n) && (within (outcomes c n) rs && beq cut (cuts (womm c) (candidates c) n (initial c))))
saying (replays c ts taken code) = eqb (replay (womm c) (initial c) ts).taken taken && eqb (code_of c ts) code
saying (names c ts code place) = eqb (code_of c ts) code && eqb (place_at c ts) place
saying (finishes c ts) = eqb (code_of c ts) 0 && finished c (reached c ts)
saying (leaves c ts p k v) = eqb (code_of c ts) 0 && same_value (register_of c (reached c ts) p k) v
saying (orders c ts l a b r) = eqb (code_of c ts) 0 && beq ((reached c ts).orders l a b) r

-- its case is sound besides
unfoldable pub test : Claim → Bool
test k = quick (case_in k) && saying k

says : (k : Claim) → saying k ≡ true → Says k
says (lists c n rs cut) h =
    let w = and_both (ascending rs) _ h in
    let v = and_both (within rs (outcomes c n)) _ w.1 in
    let u = and_both (within (outcomes c n) rs) _ v.1 in
    let e = beq_eq cut (cuts (womm c) (candidates c) n (initial c)) u.1 in (
      record {
        sorted = w.0;
        members = λ r. (λ m. (outcomes_found c n r).0 (within_mem rs (outcomes c n) v.0 r m), λ o. within_mem (outcomes c n) rs u.0 r ((outcomes_found c n r).1 o));
      },
      (λ k. (cut_found c n).0 (sym e ∙ k), λ k. e ∙ (cut_found c n).1 k),
    )
says (replays c ts taken code) h = let w = and_both _ _ h in (eqb-true _ _ w.0, eqb-true _ _ w.1)
says (names c ts code place) h = let w = and_both _ _ h in (eqb-true _ _ w.0, eqb-true _ _ w.1)
says (finishes c ts) h = let w = and_both _ _ h in (eqb-true _ _ w.0, w.1)
says (leaves c ts p k v) h = let w = and_both _ _ h in (eqb-true _ _ w.0, same_value_eq _ _ w.1)
says (orders c ts l a b r) h = let w = and_both _ _ h in (eqb-true _ _ w.0, beq_eq _ _ w.1)

pub every : (l : List Claim) → all test l ≡ true → Every Holds l
unfolding test
every [] h = tt
every (k ∷ ks) h =
    let w = and_both (test k) (all test ks) h in
    let v = and_both (quick (case_in k)) (saying k) w.0 in
    ((quick_sound (case_in k) v.0, says k v.1), every ks w.1)
