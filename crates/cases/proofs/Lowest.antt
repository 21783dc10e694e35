-- The lowest position that is bad for a code, and the first code that has one. Assumes nothing.
use mathlib.Core.Path.{◌≡◌, refl, ap, sym, ◌∙◌, subst}
use mathlib.Core.Logic.{⊎_elim}
use mathlib.Core.Bool.{Bool, true, false, ◌&&◌, cond, false≢true}
use mathlib.Core.List.{List, [], ◌∷◌}
use Prim.Native.Nat.{ℕ, zero, suc, ◌+◌, ◌<◌, ◌≤◌}
use native.Mathlib.Omega.{arith}
use lib.Dec.{eqb, ltb, lit<, lit≤}
use lib.ListN.{get_or, get_or-eq_default}
use borrow.Author.Count.{below_more}
use borrow.Author.Tests.{lt-ltb, le-ltb}
use Rattle.words.specs.Small.{some_below}
use Rattle.words.specs.Refusals.{first_code_of}
use Rattle.words.proofs.Bools.{cond-true, cond-false, decide, below_cases, below_make}
use Rattle.words.proofs.First.{hit, miss, none, first}
use Rattle.cases.specs.Block.{lowest, bad3, bad4, bad5, bad6, bad7, bad19, faults, bad, position_of, fault_of}

pub lowest_is : (n : ℕ) (f : ℕ → Bool) (r : ℕ) → r ≤ n → ((k : ℕ) → k < r → f k ≡ false) → (r < n → f r ≡ true) → r ≡ lowest n f
unfolding lowest
lowest_is zero f r h before at = omega arith
lowest_is (suc n) f zero h before at = rw (at (omega arith))
lowest_is (suc n) f (suc r) h before at = rw (before 0 (omega arith)) (ap suc (lowest_is n (λ i. f (suc i)) r (omega arith) (λ k b. before (suc k) (omega arith)) (λ b. at (omega arith))))

pub no_position : (n : ℕ) (f : ℕ → Bool) → ((k : ℕ) → k < n → f k ≡ false) → some_below n f ≡ false
no_position n f before = ⊎_elim (λ h. let r = below_cases n f h in absurd (false≢true (sym (before r.0 r.1) ∙ r.2))) (λ h. h) (decide (some_below n f))

pub lowest_hit : (n : ℕ) (f : ℕ → Bool) → lowest n f < n → f (lowest n f) ≡ true
unfolding lowest
lowest_hit zero f h = absurd (omega arith)
lowest_hit (suc n) f h = step (f 0) refl (lowest_hit n (λ i. f (suc i))) h
  where
    low : ℕ
    low = lowest n (λ i. f (suc i))

    step : (b : Bool) → f 0 ≡ b → (low < n → f (suc low) ≡ true) → cond b 0 (suc low) < suc n → f (cond b 0 (suc low)) ≡ true
    step true e more h = e
    step false e more h = more (omega arith)

pub lowest-none : (n : ℕ) (f : ℕ → Bool) (k : ℕ) → k < lowest n f → f k ≡ false
unfolding lowest
lowest-none zero f k h = absurd (omega arith)
lowest-none (suc n) f k h = step (f 0) refl (lowest-none n (λ i. f (suc i))) k h
  where
    low : ℕ
    low = lowest n (λ i. f (suc i))

    step : (b : Bool) → f 0 ≡ b → ((k : ℕ) → k < low → f (suc k) ≡ false) → (k : ℕ) → k < cond b 0 (suc low) → f k ≡ false
    step true e more k h = absurd (omega arith)
    step false e more zero h = e
    step false e more (suc k) h = more k (omega arith)

-- a code's test at each position, as the code finds it: some position is bad, or none

module _ (n : ℕ) (f : ℕ → Bool) where
  pub some_bad : lowest n f < n → some_below n f ≡ true
  some_bad h = below_make n f (lowest n f) h (lowest_hit n f h)

  pub none_bad : n ≤ lowest n f → some_below n f ≡ false
  none_bad h = no_position n f (λ k b. lowest-none n f k (omega arith))

  pub none-lowest : ((k : ℕ) → k < n → f k ≡ false) → n ≡ lowest n f
  none-lowest h = lowest_is n f n (omega arith) h (λ b. absurd (omega arith))

-- the codes that judge tries, in their order
abbrev pub codes : List ℕ
codes = 3 ∷ 4 ∷ 5 ∷ 6 ∷ 7 ∷ 19 ∷ []

-- the first n of them have no bad position
abbrev pub Passed : List ℕ → ℕ → Type 0
Passed s n = (k : ℕ) → k < n → some_below 510 (bad s (get_or codes k 0)) ≡ false

module _ (s : List ℕ) where
  pub passed_more : (n : ℕ) → Passed s n → 510 ≤ lowest 510 (bad s (get_or codes n 0)) → Passed s (n + 1)
  passed_more n passed h = below_more _ n passed (none_bad 510 (bad s (get_or codes n 0)) h)

  first_code : (n : ℕ) → n < 6 → Passed s n → some_below 510 (bad s (get_or codes n 0)) ≡ true → get_or codes n 0 ≡ first_code_of (faults s)
  unfolding bad
  first_code zero l p e = first (faults s) (hit e)
  first_code (suc zero) l p e = first (faults s) (miss (p 0 (lit< tt)) (hit e))
  first_code (suc (suc zero)) l p e = first (faults s) (miss (p 0 (lit< tt)) (miss (p 1 (lit< tt)) (hit e)))
  first_code (suc (suc (suc zero))) l p e = first (faults s) (miss (p 0 (lit< tt)) (miss (p 1 (lit< tt)) (miss (p 2 (lit< tt)) (hit e))))
  first_code (suc (suc (suc (suc zero)))) l p e =
      first (faults s) (miss (p 0 (lit< tt)) (miss (p 1 (lit< tt)) (miss (p 2 (lit< tt)) (miss (p 3 (lit< tt)) (hit e)))))
  first_code (suc (suc (suc (suc (suc zero))))) l p e =
      first (faults s) (miss (p 0 (lit< tt)) (miss (p 1 (lit< tt)) (miss (p 2 (lit< tt)) (miss (p 3 (lit< tt)) (miss (p 4 (lit< tt)) (hit e))))))
  first_code (suc (suc (suc (suc (suc (suc n)))))) l p e = absurd (omega arith)

  no_code_lem : Passed s 6 → 0 ≡ first_code_of (faults s)
  unfolding bad
  no_code_lem p =
      first (faults s) (miss (p 0 (lit< tt)) (miss (p 1 (lit< tt)) (miss (p 2 (lit< tt)) (miss (p 3 (lit< tt)) (miss (p 4 (lit< tt)) (miss (p 5 (lit< tt)) none))))))

  -- a code that is the one asked for, with its position
  fault_is : (code position n : ℕ) → code ≡ n → position ≡ position_of s code → record { code = code; position = position } ≡ fault_of s n
  fault_is code position n p q = let r = q ∙ ap (position_of s) p in λ j. record { code = p j; position = r j }

  -- 1, 2 and no code carry 0
  pub fault_none : (code n : ℕ) → code < 3 → code ≡ n → record { code = code; position = 0 } ≡ fault_of s n
  unfolding position_of
  fault_none code n h p = fault_is code 0 n p (sym (cond-true (ltb code 3) 0 _ (lt-ltb code 3 h)))

  -- the answers of judge: at a code with a bad position, and after all
  at_least_3 : (n : ℕ) → n < 6 → 3 ≤ get_or codes n 0
  at_least_3 zero l = lit≤ tt
  at_least_3 (suc zero) l = lit≤ tt
  at_least_3 (suc (suc zero)) l = lit≤ tt
  at_least_3 (suc (suc (suc zero))) l = lit≤ tt
  at_least_3 (suc (suc (suc (suc zero)))) l = lit≤ tt
  at_least_3 (suc (suc (suc (suc (suc zero))))) l = lit≤ tt
  at_least_3 (suc (suc (suc (suc (suc (suc n)))))) l = absurd (omega arith)

  found : (code n position : ℕ) → 3 ≤ code → code ≡ n → position ≡ lowest 510 (bad s code) → record { code = code; position = position } ≡ fault_of s n
  unfolding position_of
  found code n position l p e = fault_is code position n p (e ∙ sym (cond-false (ltb code 3) 0 _ (le-ltb code 3 l)))

  pub judge_found : (n position : ℕ) → n < 6 → Passed s n → position ≡ lowest 510 (bad s (get_or codes n 0)) → position < 510 →
      record { code = get_or codes n 0; position = position } ≡ fault_of s (first_code_of (faults s))
  judge_found n position l p e b =
      found (get_or codes n 0) _ position (at_least_3 n l) (first_code n l p (some_bad 510 (bad s (get_or codes n 0)) (subst (λ (m : ℕ). m < 510) e b))) e

  pub judge-none : Passed s 6 → record { code = 0; position = 0 } ≡ fault_of s (first_code_of (faults s))
  judge-none p = fault_none 0 _ (lit< tt) (no_code_lem p)

-- bad: the test of each code
module _ (s : List ℕ) (i : ℕ) where
  pub bad_3 : bad3 s i ≡ bad s 3 i
  unfolding bad
  bad_3 = refl

  pub bad_4 : bad4 s i ≡ bad s 4 i
  unfolding bad
  bad_4 = refl

  pub bad_5 : bad5 s i ≡ bad s 5 i
  unfolding bad
  bad_5 = refl

  pub bad_6 : bad6 s i ≡ bad s 6 i
  unfolding bad
  bad_6 = refl

  pub bad_7 : bad7 s i ≡ bad s 7 i
  unfolding bad
  bad_7 = refl

  pub bad_else : (code : ℕ) → 8 ≤ code → (eqb code 19 && bad19 s i) ≡ bad s code i
  unfolding bad
  bad_else code h = sym (get_or-eq_default (false ∷ false ∷ false ∷ bad3 s i ∷ bad4 s i ∷ bad5 s i ∷ bad6 s i ∷ bad7 s i ∷ []) _ h)

pub last_code : (code : ℕ) → 3 ≤ code → (code ≡ 3 → ⊥) → (code ≡ 4 → ⊥) → (code ≡ 5 → ⊥) → (code ≡ 6 → ⊥) → (code ≡ 7 → ⊥) → 8 ≤ code
last_code code l a b c d e = omega arith
