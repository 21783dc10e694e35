-- What a commit reads: its inputs and the holder of its location. Assumes nothing.
use mathlib.Core.Path.{◌≡◌, refl, sym, ◌∙◌, ap}
use mathlib.Core.Logic.{⊎_elim}
use mathlib.Core.Bool.{Bool, true, false, cond, ◌&&◌, ◌||◌, not}
use mathlib.Core.List.{List, [], ◌∷◌}
use mathlib.Core.Option.{Option, none}
use Prim.Native.Nat.{ℕ, suc, ◌+◌, ◌-◌}
use native.Mathlib.Omega.{arith}
use lib.Dec.{eqb, ltb}
use lib.ListN.{length, get_or}
use borrow.Author.Tests.{lt-ltb, eq-eqb, ne_eqb, eqb-true, eqb-false}
use Rattle.words.specs.Small.{any, is_none, or_zero, is}
use Rattle.words.proofs.Bools.{decide, or_nothing}
use Rattle.cases.specs.declared.Case.{Case}
use Rattle.cases.specs.declared.Instr.{Instr}
use Rattle.cases.specs.declared.Instr.TheVariants.{Empty, Read, Write, Local, Branch, Goto, Acquire, Release}
use Rattle.cases.specs.declared.Expr.{Expr}
use Rattle.cases.specs.declared.Expr.TheVariants.{Constant, Sum, Difference, Equal}
use Rattle.rules.specs.Kinds.{reads, kind, branching, acquiring, syncs}
use Rattle.rules.specs.Order.{Order, joined_if}
use Rattle.rules.specs.State.{State, Name, start, value_of}
use Rattle.rules.specs.Commit.{barred}
use Rattle.machine.specs.Shown.{name_of, inputs_of, holder_of}
use Rattle.committing.specs.Committed.{result_by}

pub undefined_inputs : (c : Case) (f : Name → Bool) (l : List ℕ) (x y : ℕ) → ((ltb 0 (length l) && f (name_of c x)) || (ltb 1 (length l) && f (name_of c y))) ≡ any f (inputs_of c l x y)
undefined_inputs c f [] x y = refl
undefined_inputs c f (a ∷ []) x y = refl
undefined_inputs c f (a ∷ b ∷ more) x y = rw (lt-ltb 0 (suc (suc (length more))) (omega arith), lt-ltb 1 (suc (suc (length more))) (omega arith)) (ap (λ (b : Bool). f (name_of c x) || b) (sym (or_nothing (f (name_of c y)))))

pub unknown_is : (b n : Bool) → b ≡ not n → not b ≡ n
unknown_is b true h = rw h
unknown_is b false h = rw h

is_holder : (p h : ℕ) → eqb h (p + 1) ≡ is p (holder_of h)
is_holder p h = ⊎_elim free taken (decide (eqb h 0))
  where
    free : eqb h 0 ≡ true → eqb h (p + 1) ≡ is p (holder_of h)
    free e = rw e (ne_eqb h (p + 1) (λ q. omega (arith, eqb-true h 0 e)))

    taken : eqb h 0 ≡ false → eqb h (p + 1) ≡ is p (holder_of h)
    taken e = rw e (⊎_elim (λ q. q ∙ sym (eq-eqb (h - 1) p (omega (arith, eqb-true h (p + 1) q)))) (λ q. q ∙ sym (ne_eqb (h - 1) p (λ z. eqb-false h (p + 1) q (back z (eqb-false h 0 e))))) (decide (eqb h (p + 1))))
      where
        back : h - 1 ≡ p → (h ≡ 0 → ⊥) → h ≡ p + 1
        back z n = omega arith

no_holder : (h : ℕ) → eqb h 0 ≡ is_none (holder_of h)
no_holder h = ⊎_elim (λ e. e ∙ rw e) (λ e. e ∙ rw e) (decide (eqb h 0))

pub barred_is : (p k h w : ℕ) → w ≡ h → (((eqb k 6 && not (eqb w 0)) || eqb k 7) && not (eqb w (p + 1))) ≡ barred p k (holder_of h)
barred_is p k h w e =
    let u : eqb w 0 ≡ is_none (holder_of h) = ap (λ (n : ℕ). eqb n 0) e ∙ no_holder h in
    let v : eqb w (p + 1) ≡ is p (holder_of h) = ap (λ (n : ℕ). eqb n (p + 1)) e ∙ is_holder p h in
    λ j. ((eqb k 6 && not (u j)) || eqb k 7) && not (v j)

-- the two names of an entry stand for its inputs
module _ (c : Case) (s : State) (m n : ℕ) where
  -- input k of instruction i
  abbrev nth : Instr → ℕ → ℕ
  nth i k = or_zero (value_of s (get_or (inputs_of c (reads i) m n) k (start none)))

  abbrev x : ℕ
  x = or_zero (value_of s (name_of c m))

  abbrev y : ℕ
  y = or_zero (value_of s (name_of c n))

  pub branch_input : {A : Type 0} (f : ℕ → A) (d : A) (i : Instr) → cond (branching (kind i)) (f x) d ≡ cond (branching (kind i)) (f (nth i 0)) d
  branch_input f d Empty = refl
  branch_input f d (Read r a) = refl
  branch_input f d (Write a b) = refl
  branch_input f d (Local r e) = refl
  branch_input f d (Branch a l) = refl
  branch_input f d (Goto l) = refl
  branch_input f d (Acquire a) = refl
  branch_input f d (Release a) = refl

  pub sync_input : {A : Type 0} (f : ℕ → A) (d : A) (i : Instr) → cond (syncs (kind i)) (f x) d ≡ cond (syncs (kind i)) (f (nth i 0)) d
  sync_input f d Empty = refl
  sync_input f d (Read r a) = refl
  sync_input f d (Write a b) = refl
  sync_input f d (Local r e) = refl
  sync_input f d (Branch a l) = refl
  sync_input f d (Goto l) = refl
  sync_input f d (Acquire a) = refl
  sync_input f d (Release a) = refl

  pub sync_test : (f : ℕ → Bool) (i : Instr) → (syncs (kind i) && f x) ≡ (syncs (kind i) && f (nth i 0))
  sync_test f Empty = refl
  sync_test f (Read r a) = refl
  sync_test f (Write a b) = refl
  sync_test f (Local r e) = refl
  sync_test f (Branch a l) = refl
  sync_test f (Goto l) = refl
  sync_test f (Acquire a) = refl
  sync_test f (Release a) = refl

  pub barred_input : (p : ℕ) (h : ℕ → Option ℕ) (i : Instr) → barred p (kind i) (h x) ≡ barred p (kind i) (h (nth i 0))
  barred_input p h Empty = refl
  barred_input p h (Read d a) = refl
  barred_input p h (Write a b) = refl
  barred_input p h (Local d e) = refl
  barred_input p h (Branch a l) = refl
  barred_input p h (Goto l) = refl
  barred_input p h (Acquire a) = refl
  barred_input p h (Release a) = refl

  pub order_input : (R : Order) (j k : ℕ) (P : ℕ → ℕ → Bool) (i : Instr) → joined_if (acquiring (kind i)) R j k (P x) ≡ joined_if (acquiring (kind i)) R j k (P (nth i 0))
  unfolding joined_if
  order_input R j k P Empty = refl
  order_input R j k P (Read d a) = refl
  order_input R j k P (Write a b) = refl
  order_input R j k P (Local d e) = refl
  order_input R j k P (Branch a l) = refl
  order_input R j k P (Goto l) = refl
  order_input R j k P (Acquire a) = refl
  order_input R j k P (Release a) = refl

  expr_inputs : (v d : ℕ) (e : Expr) → result_by v x y (Local d e) ≡ result_by v (nth (Local d e) 0) (nth (Local d e) 1) (Local d e)
  expr_inputs v d (Constant k) = refl
  expr_inputs v d (Sum a b) = refl
  expr_inputs v d (Difference a b) = refl
  expr_inputs v d (Equal a b) = refl

  pub result_inputs : (v : ℕ) (i : Instr) → result_by v x y i ≡ result_by v (nth i 0) (nth i 1) i
  result_inputs v Empty = refl
  result_inputs v (Read d a) = refl
  result_inputs v (Write a b) = refl
  result_inputs v (Local d e) = expr_inputs v d e
  result_inputs v (Branch a l) = refl
  result_inputs v (Goto l) = refl
  result_inputs v (Acquire a) = refl
  result_inputs v (Release a) = refl
