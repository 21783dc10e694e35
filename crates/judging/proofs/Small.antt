-- Small laws: places of a function, lists grown at one place, tests. Assumes nothing.
use mathlib.Core.Path.{◌≡◌, refl, sym, ◌∙◌, subst}
use mathlib.Core.Logic.{◌⊎◌, inl, inr, ⊎_elim}
use mathlib.Core.Bool.{Bool, true, false, ◌&&◌, cond}
use mathlib.Core.List.{List, [], ◌∷◌, ◌++◌, append_assoc, append-nil}
use mathlib.Core.Option.{Option, none, some}
use Prim.Native.Nat.{ℕ, zero, suc, ◌+◌, ◌<◌, ◌≤◌}
use native.Mathlib.Omega.{arith}
use native.Mathlib.Decide.{dec_lt}
use lib.Dec.{eqb}
use borrow.Author.Tests.{eqb-true, eqb-false}
use Rattle.words.specs.Small.{counting, concat_map, put}
use Rattle.words.proofs.Bools.{decide, and_both, put_same, put_other}

pub same? : (a b : ℕ) → (a ≡ b) ⊎ (a ≡ b → ⊥)
same? a b = ⊎_elim (λ h. inl (eqb-true a b h)) (λ h. inr (eqb-false a b h)) (decide (eqb a b))

pub below? : (a b : ℕ) → (a < b) ⊎ (b ≤ a)
below? a b = elim (dec_lt a b) [ yes h ↦ inl h | no f ↦ inr (omega arith) ]

pub put_case : {A : Type 0} (P : A → Type 0) (f : ℕ → A) (i : ℕ) (v : A) (j : ℕ) → (j ≡ i → P v) → ((j ≡ i → ⊥) → P (f j)) → P (put f i v j)
put_case P f i v j y n = ⊎_elim (λ e. subst P (sym (put_same f i j v e)) (y e)) (λ e. subst P (sym (put_other f i j v e)) (n e)) (same? j i)

pub some_is : {A : Type 0} (a b : A) → ◌≡◌ {A = Option A} (some a) (some b) → a ≡ b
some_is a b h = cc

unwrap : {A : Type 0} → Option A → Type 0
unwrap none = ⊥
unwrap (some a) = Unit {0}

pub none-some : {A : Type 0} {a : A} → ◌≡◌ {A = Option A} none (some a) → ⊥
unfolding unwrap
none-some h = subst unwrap (sym h) tt

pub cond-some : {A : Type 0} (t : Bool) (x y : A) → cond t (some x) none ≡ some y → (t ≡ true) × (x ≡ y)
cond-some true x y h = (refl, some_is x y h)
cond-some false x y h = absurd (none-some h)

pub and4 : (a b c d : Bool) → (a && b && c && d) ≡ true → (a ≡ true) × (b ≡ true) × (c ≡ true) × (d ≡ true)
and4 a b c d h = let x = and_both (a && b && c) d h in let y = and_both (a && b) c x.0 in let z = and_both a b y.0 in (z.0, z.1, y.1, x.1)

pub and5 : (a b c d e : Bool) → (a && b && c && d && e) ≡ true → (a ≡ true) × (b ≡ true) × (c ≡ true) × (d ≡ true) × (e ≡ true)
and5 a b c d e h = let x = and_both (a && b && c && d) e h in let y = and4 a b c d x.0 in (y.0, y.1, y.2, y.3, x.1)

pub make4 : (a b c d : Bool) → a ≡ true → b ≡ true → c ≡ true → d ≡ true → (a && b && c && d) ≡ true
make4 a b c d p q r s = rw (p, q, r, s)

pub make5 : (a b c d e : Bool) → a ≡ true → b ≡ true → c ≡ true → d ≡ true → e ≡ true → (a && b && c && d && e) ≡ true
make5 a b c d e p q r s t = rw (p, q, r, s, t)

module _ {A : Type 0} where
  pub nil_all : (g : ℕ → List A) (k n : ℕ) → ((q : ℕ) → k ≤ q → g q ≡ []) → concat_map g (counting k n) ≡ []
  nil_all g k zero h = refl
  nil_all g k (suc n) h = rw (h k (omega arith)) (nil_all g (suc k) n (λ q b. h q (omega arith)))

  pub same_all : (g g' : ℕ → List A) (k n : ℕ) → ((q : ℕ) → k ≤ q → q < k + n → g' q ≡ g q) → concat_map g' (counting k n) ≡ concat_map g (counting k n)
  same_all g g' k zero h = refl
  same_all g g' k (suc n) h = λ t. h k (omega arith) (omega arith) t ++ same_all g g' (suc k) n (λ q a b. h q (omega arith) (omega arith)) t

  -- one element more at place p, behind which nothing stands
  module _ (g g' : ℕ → List A) (x : A) (p : ℕ) (other : (q : ℕ) → (q ≡ p → ⊥) → g' q ≡ g q) (here : g' p ≡ g p ++ (x ∷ [])) (after : (q : ℕ) → p < q → g q ≡ []) where
    pub grow : (k n : ℕ) → k ≤ p → p < k + n → concat_map g' (counting k n) ≡ concat_map g (counting k n) ++ (x ∷ [])
    grow k zero a b = absurd (omega arith)
    grow k (suc n) a b = go (λ f. grow (suc k) n (omega arith) (omega arith)) (same? k p)
      where
        later : (q : ℕ) → suc k ≤ q → (k ≡ p) → g' q ≡ []
        later q h e = other q (λ w. absurd (omega arith)) ∙ after q (omega arith)

        go : ((k ≡ p → ⊥) → concat_map g' (counting (suc k) n) ≡ concat_map g (counting (suc k) n) ++ (x ∷ [])) → (k ≡ p) ⊎ (k ≡ p → ⊥) → g' k ++ concat_map g' (counting (suc k) n) ≡ (g k ++ concat_map g (counting (suc k) n)) ++ (x ∷ [])
        go more (inl e) =
            let now : g' k ≡ g k ++ (x ∷ []) = subst (λ (j : ℕ). g' j ≡ g j ++ (x ∷ [])) (sym e) here in
            let r = nil_all g' (suc k) n (λ q h. later q h e) in
            let s = nil_all g (suc k) n (λ q h. after q (omega arith)) in
            rw (now, r, s, append-nil, append-nil)
        go more (inr f) =
            rw (other k f, more f) (sym (append_assoc (g k) (concat_map g (counting (suc k) n)) (x ∷ [])))
