-- Items by their actions, and an order with an item put in. Assumes nothing.
use mathlib.Core.Path.{◌≡◌, refl}
use mathlib.Core.Logic.{◌⊎◌, inl, inr, ⊎_elim}
use mathlib.Core.Bool.{Bool, true, false, ◌&&◌, false≢true}
use Prim.Native.Nat.{ℕ, ◌+◌, ◌-◌, ◌<◌}
use native.Mathlib.Omega.{arith}
use lib.Dec.{ltb}
use borrow.Author.Tests.{ltb-true, ltb-false, lt-ltb}
use Rattle.words.specs.Small.{is}
use Rattle.words.proofs.Bools.{decide, and_both, cond-true}
use Rattle.cases.specs.declared.Case.{Case}
use Rattle.rules.specs.Kinds.{releasing}
use Rattle.rules.specs.Order.{Order, joined_if}
use Rattle.rules.specs.State.{State, Action, kind_of, item_is}
use Rattle.rules.specs.Issue.{issued}
use Rattle.rules.specs.Commit.{released}
use Rattle.rules.proofs.Closed.{Via, joined_cases, joined_via}
use Rattle.rules.proofs.Actions.{issued_old, item_high, item_cases}

-- the test of an action's item is that of the action
pub item_at : (b : Bool) (f : Action → Bool) (s : State) (j : ℕ) → item_is b f s (8 + j) ≡ f (s.actions j)
item_at b f s j = item_high b f s j (8 + j) refl

pub item_start : (b : Bool) (f : Action → Bool) (s : State) (e : ℕ) → e < 8 → item_is b f s e ≡ b
item_start b f s e h = cond-true (ltb e 8) b _ (lt-ltb e 8 h)

-- an initial write's item, or an action's
pub split : (e : ℕ) → (e < 8) ⊎ ((j : ℕ) × (e ≡ 8 + j))
split e = ⊎_elim (λ q. inl (ltb-true e 8 q)) (λ q. inr (e - 8, omega (arith, ltb-false e 8 q))) (decide (ltb e 8))

-- a committed release item is that of an action
pub released_cases : (c : Case) (s : State) (p k e l i : ℕ) → released c s p k e l i ≡ true → (m : ℕ) × (i ≡ 8 + m) × (releasing (kind_of (s.actions m)) ≡ true) × (is l (s.actions m).result ≡ true)
released_cases c s p k e l i h = step (item_cases false (λ a. releasing (kind_of a) && is l a.result) s i h)
  where
    step : ((i < 8) × (false ≡ true)) ⊎ ((j : ℕ) × (i ≡ 8 + j) × ((releasing (kind_of (s.actions j)) && is l (s.actions j).result) ≡ true)) → (m : ℕ) × (i ≡ 8 + m) × (releasing (kind_of (s.actions m)) ≡ true) × (is l (s.actions m).result ≡ true)
    step (inl q) = absurd (false≢true q.1)
    step (inr (j, q, r)) = let b = and_both (releasing (kind_of (s.actions j))) (is l (s.actions j).result) r in (j, q, b.0, b.1)

-- an issue changes no action before it
pub issued_kept : (c : Case) (s : State) (p k : ℕ) → k < s.count → (issued c s p).actions k ≡ s.actions k
issued_kept c s p k h = issued_old c s p k (λ e. omega arith)

-- an order with an item put in: an edge is an old one, or goes over the new item where there was one
pub joined_if_ways : (x : Bool) (R : Order) (i n : ℕ) (P : ℕ → Bool) (a b : ℕ) → joined_if x R i n P a b ≡ true → (R a b ≡ true) ⊎ ((x ≡ true) × Via R i n P a b)
unfolding joined_if
joined_if_ways true R i n P a b h = ⊎_elim (λ e. inl e) (λ w. inr (refl, w)) (joined_cases R i n P a b h)
joined_if_ways false R i n P a b h = inl h

pub joined_if_via : (x : Bool) (R : Order) (i n : ℕ) (P : ℕ → Bool) (a b : ℕ) → x ≡ true → Via R i n P a b → joined_if x R i n P a b ≡ true
unfolding joined_if
joined_if_via true R i n P a b e w = joined_via R i n P a b w
joined_if_via false R i n P a b e w = absurd (false≢true e)
