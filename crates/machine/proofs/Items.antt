-- Items: the eight initial writes, then one for each action. Assumes nothing.
use mathlib.Core.Path.{◌≡◌, refl, sym, ◌∙◌, ap, subst, fun_ext}
use mathlib.Core.Logic.{⊎_elim}
use mathlib.Core.Bool.{Bool, true, false, not, cond, false≢true}
use Prim.Native.Nat.{ℕ, ◌+◌, ◌-◌, ◌^◌, ◌<◌}
use native.Mathlib.Omega.{arith}
use native.Mathlib.Decide.{dec_lt}
use lib.Dec.{eqb, ltb}
use borrow.Author.Tests.{lt-ltb, le-ltb, ltb-true, eqb-false, ne_eqb, not-true}
use Rattle.words.specs.Small.{some_below, is_none, put}
use Rattle.words.proofs.Bools.{decide, below_cases, below_make, and_both, and_make, put_same, put_other}
use Rattle.words.specs.Sets.{has}
use Rattle.words.proofs.Lists.{all_below}
use Rattle.words.proofs.Sets.{has_one, has_zero, has_high}
use Rattle.rules.specs.State.{State, Action, item_is, waiting}
use Rattle.orders.specs.Rows.{SetOf}
use Rattle.orders.proofs.Bits.{some_bit}
use Rattle.machine.specs.Kept.{queued, has_value}
use Rattle.cases.specs.declared.Case.{Case}

-- the set of the eight initial writes
pub eight : (e : ℕ) → has 255 e ≡ ltb e 8
eight e = elim (dec_lt e 64) [ yes h ↦ same (has 255 e) (ltb e 8) (all_below (λ k. cond (ltb k 8) (has 255 k) (not (has 255 k))) 64 refl e h) | no h ↦ has_high 255 e (omega arith) (omega arith) ∙ sym (le-ltb e 8 (omega arith)) ]
  where
    same : (a b : Bool) → cond b a (not a) ≡ true → a ≡ b
    same a true h = h
    same a false h = not-true a h

module _ (f : Action → Bool) (s : State) where
  -- the item of action k
  pub item_is_lem : (b : Bool) (k : ℕ) → item_is b f s (8 + k) ≡ f (s.actions k)
  item_is_lem b k = let q : 8 + k - 8 ≡ k = omega arith in rw (le-ltb (8 + k) 8 (omega arith), q)

  -- of the initial writes, that of location l alone
  pub first_item : (l : ℕ) → l < 8 → SetOf 8 (λ e. item_is (eqb e l) f s e) (2 ^ l)
  first_item l h e = has_one l e ∙ elim (dec_lt e 8) [ yes k ↦ rw (lt-ltb e 8 k) | no k ↦ rw (le-ltb e 8 (omega arith)) (ne_eqb e l (λ q. omega arith)) ]

  -- none of the initial writes
  pub no_item : SetOf 8 (λ e. item_is false f s e) 0
  no_item e = has_zero e ∙ elim (dec_lt e 8) [ yes k ↦ rw (lt-ltb e 8 k) | no k ↦ rw (le-ltb e 8 (omega arith)) ]

-- the items with a value: the initial writes, and those of the committed actions
pub values_are : (c : Case) (s : State) → has_value c s ≡ (λ e. item_is true (λ a. not (is_none a.result)) s e)
values_are c s = fun_ext (λ (e : ℕ). elim (dec_lt e 8) [ yes k ↦ rw (lt-ltb e 8 k) | no k ↦ rw (le-ltb e 8 (omega arith)) ])

-- items where action k becomes a: its own, and any other
module _ (s t : State) (k : ℕ) (a : Action) (acts : t.actions ≡ put s.actions k a) (f : Action → Bool) where
  pub item_put : (b : Bool) → item_is b f t (8 + k) ≡ f a
  item_put b = item_is_lem f t b k ∙ ap f (ap (λ (A : ℕ → Action). A k) acts ∙ put_same s.actions k k a refl)

  pub item_other : (b : Bool) (e : ℕ) → (e ≡ 8 + k → ⊥) → item_is b f s e ≡ item_is b f t e
  item_other b e n = elim (dec_lt e 8) [ yes h ↦ rw (lt-ltb e 8 h) | no h ↦ rw (le-ltb e 8 (omega arith)) (ap f (sym (ap (λ (A : ℕ → Action). A (e - 8)) acts ∙ put_other s.actions k (e - 8) a (λ q. n (omega arith))))) ]

-- a queue that is 0 is empty
module _ (s : State) (p x : ℕ) (h : SetOf (8 + s.count) (queued s p) x) where
  abbrev waits : ℕ → Bool
  waits k = waiting p (s.actions k)

  in_queue_lem : (k : ℕ) → k < s.count → waits k ≡ true → has x (8 + k) ≡ true
  in_queue_lem k l w = h (8 + k) ∙ and_make (ltb (8 + k) (8 + s.count)) (queued s p (8 + k)) (lt-ltb (8 + k) (8 + s.count) (omega arith)) (item_is_lem (waiting p) s false k ∙ w)

  of_queue : (e : ℕ) → has x e ≡ true → some_below s.count waits ≡ true
  of_queue e t =
      let b = and_both (ltb e (8 + s.count)) (queued s p e) (sym (h e) ∙ t) in
      elim (dec_lt e 8) [
        | yes l ↦ absurd (false≢true (rw (lt-ltb e 8 l) at b.1))
        | no l ↦ below_make s.count waits (e - 8) (omega (arith, ltb-true e (8 + s.count) b.0)) (rw (le-ltb e 8 (omega arith)) at b.1)
      ]

  pub queue_empty : eqb x 0 ≡ not (some_below s.count waits)
  queue_empty = ⊎_elim empty taken (decide (some_below s.count waits))
    where
      empty : some_below s.count waits ≡ true → eqb x 0 ≡ not (some_below s.count waits)
      empty t =
          let r = below_cases s.count waits t in
          ne_eqb x 0 (λ z. false≢true (sym (has_zero (8 + r.0)) ∙ subst (λ (y : ℕ). has y (8 + r.0) ≡ true) z (in_queue_lem r.0 r.1 r.2))) ∙ sym (ap not t)

      taken : some_below s.count waits ≡ false → eqb x 0 ≡ not (some_below s.count waits)
      taken t = ⊎_elim
          (λ z. z ∙ sym (ap not t))
          (λ z. let r = some_bit x x (omega arith) (eqb-false x 0 z) in absurd (false≢true (sym t ∙ of_queue r.0 r.1)))
          (decide (eqb x 0))
