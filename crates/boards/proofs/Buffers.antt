-- Boards by their parts: what a store does to buffers and memory, buffer by buffer and word by word. Assumes nothing.
use mathlib.Core.Path.{◌≡◌, refl, sym, ◌∙◌, ap, ap₂}
use mathlib.Core.Logic.{◌⊎◌, inl, inr, ⊎_elim}
use mathlib.Core.Bool.{Bool, true, false, cond, false≢true}
use mathlib.Core.List.{List, [], ◌∷◌, ◌++◌}
use mathlib.Core.Option.{Option, none, some}
use Prim.Native.Nat.{ℕ, ◌≤◌}
use native.Mathlib.Omega.{arith}
use lib.Dec.{eqb}
use borrow.Author.Tests.{eqb-true, eqb-false}
use Rattle.words.specs.Small.{is_none, or_zero, put}
use Rattle.words.proofs.Bools.{decide, put_same, put_other}
use Rattle.cases.specs.declared.Instr.{Instr}
use Rattle.cases.specs.declared.Instr.TheVariants.{Empty, Read, Write, Local, Branch, Goto, Acquire, Release}
use Rattle.cases.specs.declared.Case.{Case}
use Rattle.rules.specs.Kinds.{kind, writing}
use Rattle.boards.specs.declared.Buffering.{Buffering}
use Rattle.boards.specs.declared.Buffering.TheVariants.{Direct, Shared, Split}
use Rattle.boards.specs.Board.{slot, Store, Board}
use Rattle.boards.specs.Run.{in_memory, in_buffer, operand, yields}

pub same-board : (x y : Board) → x.places ≡ y.places → x.values ≡ y.values → x.holders ≡ y.holders → x.memory ≡ y.memory
    → ((p n : ℕ) → x.buffers p n ≡ y.buffers p n) → x ≡ y
same-board x y a b d e f = λ i. record { places = a i; values = b i; holders = d i; memory = e i; buffers = λ p n. f p n i }

pub slot-low : (k : Buffering) (l b : ℕ) → slot k l ≡ some b → b ≤ l
slot-low Direct l b h = absurd (false≢true (sym (ap is_none h)))
slot-low Shared l b h = omega (arith, ap or_zero h)
slot-low Split l b h = omega (arith, ap or_zero h)

-- f with v at p, n
pub put2_cases : {A : Type 0} (f : ℕ → ℕ → A) (p n : ℕ) (v : A) (q m : ℕ)
    → ((q ≡ p) × (m ≡ n) × (put f p (put (f p) n v) q m ≡ v)) ⊎ ((((q ≡ p) × (m ≡ n)) → ⊥) × (put f p (put (f p) n v) q m ≡ f q m))
put2_cases {A} f p n v q m = step (eqb q p) (eqb m n) refl refl
  where
    step : (x y : Bool) → eqb q p ≡ x → eqb m n ≡ y
        → ((q ≡ p) × (m ≡ n) × (cond x (put (f p) n v) (f q) m ≡ v)) ⊎ ((((q ≡ p) × (m ≡ n)) → ⊥) × (cond x (put (f p) n v) (f q) m ≡ f q m))
    step true true x y = inl (eqb-true _ _ x, eqb-true _ _ y, ap (λ (z : Bool). cond z v (f p m)) y)
    step true false x y = inr (λ w. eqb-false _ _ y w.1, ap (λ (z : Bool). cond z v (f p m)) y ∙ ap (λ (z : ℕ). f z m) (sym (eqb-true _ _ x)))
    step false y x _ = inr (λ w. eqb-false _ _ x w.0, refl)

-- what a write does to the buffers: here x enters that of processor p, number o
pub entered_cases : {A : Type 0} (f : ℕ → ℕ → List A) (w : Bool) (o : Option ℕ) (x : A) (p q m : ℕ)
    → ((q ≡ p) × (w ≡ true) × (o ≡ some m) × (cond w (put f p (in_buffer o (f p) x)) f q m ≡ f q m ++ (x ∷ [])))
    ⊎ ((q ≡ p → w ≡ true → o ≡ some m → ⊥) × (cond w (put f p (in_buffer o (f p) x)) f q m ≡ f q m))
entered_cases f false o x p q m = inr (λ _ h _. false≢true h, refl)
entered_cases f true none x p q m =
    inr
    (λ _ _ h. false≢true (sym (ap is_none h)), ⊎_elim (λ h. ap (λ (z : Bool). cond z (f p) (f q) m) h ∙ ap (λ (z : ℕ). f z m) (sym (eqb-true _ _ h))) (λ h. ap (λ (z : Bool). cond z (f p) (f q) m) h) (decide (eqb q p)))
entered_cases f true (some n) x p q m =
    ⊎_elim (λ h. inl (h.0, refl, ap some (sym h.1), h.2 ∙ ap₂ (λ (y z : ℕ). f y z ++ (x ∷ [])) (sym h.0) (sym h.1)))
    (λ h. inr (λ y _ z. h.0 (y, sym (ap or_zero z)), h.1))
    (put2_cases f p n (f p n ++ (x ∷ [])) q m)

-- and to memory
pub stored_cases : (f : ℕ → ℕ) (w : Bool) (o : Option ℕ) (x : Store) (l : ℕ)
    → ((w ≡ true) × (o ≡ none) × (l ≡ x.loc) × (cond w (in_memory o f x) f l ≡ x.value))
    ⊎ ((w ≡ true → o ≡ none → l ≡ x.loc → ⊥) × (cond w (in_memory o f x) f l ≡ f l))
stored_cases f false o x l = inr (λ h _ _. false≢true h, refl)
stored_cases f true (some n) x l = inr (λ _ h _. false≢true (ap is_none h), refl)
stored_cases f true none x l =
    ⊎_elim (λ h. inl (refl, refl, eqb-true _ _ h, put_same f x.loc l x.value (eqb-true _ _ h)))
    (λ h. inr (λ _ _ e. eqb-false _ _ h e, put_other f x.loc l x.value (eqb-false _ _ h)))
    (decide (eqb l x.loc))

pub write_yields : (k : Buffering) (c : Case) (b : Board) (p : ℕ) (i : Instr) → writing (kind i) ≡ true → yields k c b p i ≡ operand k c b p 1
write_yields k c b p Empty h = absurd (false≢true h)
write_yields k c b p (Read d a) h = absurd (false≢true h)
write_yields k c b p (Write a v) h = refl
write_yields k c b p (Local d e) h = absurd (false≢true h)
write_yields k c b p (Branch a l) h = absurd (false≢true h)
write_yields k c b p (Goto l) h = absurd (false≢true h)
write_yields k c b p (Acquire a) h = absurd (false≢true h)
write_yields k c b p (Release a) h = absurd (false≢true h)
