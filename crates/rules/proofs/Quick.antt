-- A quick test that a case is sound: the bytes that must be zero are looked at in one walk over the block. Assumes nothing.
use Rattle.std.proofs.Common.{◌≡◌, ℕ, zero, suc, ◌+◌, Bool, true, false, not, ◌&&◌, ◌||◌, eqb, ◌⊎◌, List, [], ◌∷◌, get_or, sym, refl, ◌∙◌, subst, inl, inr, arith}
use mathlib.Core.Bool.{false≢true}
use borrow.Author.Tests.{not-true}
use Rattle.words.specs.Small.{some_below}
use Rattle.words.proofs.Bools.{and_both, and_right, or_none, decide, below_cases}
use Rattle.words.proofs.Passed.{unpassed}
use Rattle.cases.specs.declared.Case.{Case}
use Rattle.cases.specs.Block.{within, proc_at, number_at, used, bad3, bad4, bad5, bad6, bad7, bad19, faults, contents, Sound}

-- some byte of the list, its first at position i, is not zero where the test says that it must be
abbrev walk : (ℕ → Bool) → ℕ → List ℕ → Bool
walk f i [] = false
walk f i (x ∷ xs) = (f i && not (eqb x 0)) || walk f (suc i) xs

walk_none : (f : ℕ → Bool) (i : ℕ) (l : List ℕ) → walk f i l ≡ false → (j : ℕ) → (f (i + j) && not (eqb (get_or l j 0) 0)) ≡ false
walk_none f i [] h j = and_right (f (i + j)) _ refl
walk_none f i (x ∷ xs) h zero = subst (λ (n : ℕ). (f n && not (eqb x 0)) ≡ false) (omega arith) (or_none (f i && not (eqb x 0)) (walk f (suc i) xs) h).0
walk_none f i (x ∷ xs) h (suc j) = subst (λ (n : ℕ). (f n && not (eqb (get_or xs j 0) 0)) ≡ false) (omega arith) (walk_none f (suc i) xs (or_none (f i && not (eqb x 0)) (walk f (suc i) xs) h).1 j)

-- position i is of an unused slot or of 380..509
abbrev unused : List ℕ → ℕ → Bool
unused s i = (within 92 380 i && not (used s (proc_at i) (number_at i))) || within 380 510 i

none_marked : (s : List ℕ) → walk (unused s) 0 s ≡ false → some_below 510 (bad7 s) ≡ false
unfolding bad7
none_marked s h = step (decide (some_below 510 (bad7 s)))
  where
    step : (some_below 510 (bad7 s) ≡ true) ⊎ (some_below 510 (bad7 s) ≡ false) → some_below 510 (bad7 s) ≡ false
    step (inl k) =
        let w = below_cases 510 (bad7 s) k in
        let e : 0 + w.0 ≡ w.0 = omega arith in
        absurd (false≢true (sym (rw e at (walk_none (unused s) 0 s h w.0)) ∙ w.2))
    step (inr k) = k

unfoldable pub quick : Case → Bool
quick c =
    let s = contents c in
    not (some_below 510 (bad3 s)) && (not (some_below 510 (bad4 s)) && (not (some_below 510 (bad5 s)) && (not (some_below 510 (bad6 s)) && (not (walk (unused s) 0 s) && not (some_below 510 (bad19 s))))))

pub quick_sound : (c : Case) → quick c ≡ true → Sound c
unfolding quick
quick_sound c h =
    let s = contents c in
    let a = and_both (not (some_below 510 (bad3 s))) _ h in
    let b = and_both (not (some_below 510 (bad4 s))) _ a.1 in
    let d = and_both (not (some_below 510 (bad5 s))) _ b.1 in
    let e = and_both (not (some_below 510 (bad6 s))) _ d.1 in
    let f = and_both (not (walk (unused s) 0 s)) _ e.1 in
    unpassed (faults s) (not-true _ a.0, (not-true _ b.0, (not-true _ d.0, (not-true _ e.0, (none_marked s (not-true _ f.0), (not-true _ f.1, tt))))))
