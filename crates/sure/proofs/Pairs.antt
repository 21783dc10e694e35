-- Two issues in either order: the new actions get each other's number. Assumes nothing.
use mathlib.Core.Path.{◌≡◌, refl, sym, ◌∙◌, ap, ap₂, subst, fun_ext}
use mathlib.Core.Logic.{⊎_elim}
use mathlib.Core.Bool.{Bool, true, false, cond, ◌&&◌}
use mathlib.Core.List.{List, [], ◌∷◌, map}
use mathlib.Core.Option.{Option, none, some}
use Prim.Native.Nat.{ℕ, suc, ◌+◌, ◌<◌}
use native.Mathlib.Omega.{arith}
use lib.Dec.{eqb, ltb, leb}
use borrow.Author.Tests.{eqb-true, eqb-false}
use Rattle.words.specs.Small.{put, or_zero}
use Rattle.words.proofs.Bools.{put_same, put_other, and_both, decide, put_swap}
use Rattle.cases.specs.declared.Instr.{Instr}
use Rattle.cases.specs.declared.Case.{Case}
use Rattle.rules.specs.Kinds.{assigns, reads}
use Rattle.rules.specs.State.{given, Action, State, start, stands_at, Name}
use Rattle.rules.specs.Issue.{new_action, place_after, renamed, issued, earlier, here, next}
use Rattle.rules.specs.Order.{joined_if, Order}
use Rattle.rules.proofs.Orders.{joined_if_swap, joined_if_ext}
use Rattle.rules.proofs.Accepted.{CanIssue}
use Rattle.sure.proofs.Kept.{values_put, issued_new}
use Rattle.sure.proofs.Good.{Good, Below, AllBelow, all_map}
use Rattle.sure.proofs.Commits.{joins}
use Rattle.sure.proofs.Issues.{Stays, next_same, carry_issue, new_same, item_high, item_old}
use Rattle.sure.proofs.Swap.{swap, View, up, down, stay, view, swap_small, swap_at, swap_next, swap_order, swap_order_low, joined_if_swapped}
use Rattle.sure.proofs.Renumber.{swap_name, swap_action, swapped}

-- what is named below n keeps its name
name_low : (n : ℕ) (x : Name) → Below n x → swap_name n x ≡ x
name_low n (start v) b = refl
name_low n (given k) b = ap given (swap_small n k b)

names-low : (n : ℕ) (l : List Name) → AllBelow n l → map (swap_name n) l ≡ l
names-low n [] b = refl
names-low n (x ∷ l) b = ap₂ (λ (y : Name) (m : List Name). y ∷ m) (name_low n x b.0) (names-low n l b.1)

action_low : (n : ℕ) (a : Action) → AllBelow n a.inputs → swap_action n a ≡ a
action_low n a b =
    λ i. record { proc = a.proc; place = a.place; instr = a.instr; inputs = names-low n a.inputs b i; loc = a.loc; result = a.result }

renamed_to : (n i j : ℕ) → swap n i ≡ j → (f : ℕ → Name) → ((k : ℕ) → Below n (f k)) → (o : Option ℕ) (k : ℕ)
    → renamed f o (given j) k ≡ swap_name n (renamed f o (given i) k)
renamed_to n i j e f b none k = sym (name_low n (f k) (b k))
renamed_to n i j e f b (some d) k = step (eqb k d)
  where
    step : (x : Bool) → cond x (given j) (f k) ≡ swap_name n (cond x (given i) (f k))
    step true = ap given (sym e)
    step false = sym (name_low n (f k) (b k))

-- q issues after p
module _ (c : Case) (s : State) (p q : ℕ) (G : Good s) (I : CanIssue c s p) (J : CanIssue c s q) (d : p ≡ q → ⊥) where
  pub stays : Stays s (issued c s p) q
  unfolding issued
  stays = record {
    places = put_other s.places p q _ (λ e. d (sym e));
    names = put_other s.names p q _ (λ e. d (sym e));
    values = values_put s (issued c s p) s.count (new_action c s p) refl (G.fresh s.count (omega arith));
  }

  pub issue_issue : leb 48 (suc s.count) ≡ false → CanIssue c (issued c s p) q
  unfolding issued
  issue_issue r = carry_issue c s (issued c s p) q stays J r

  new : new_action c (issued c s p) q ≡ new_action c s q
  new = new_same c s (issued c s p) q stays J

  pub at_second : (issued c (issued c s p) q).actions (suc s.count) ≡ new_action c s q
  unfolding issued
  at_second = put_same (issued c s p).actions (suc s.count) (suc s.count) (new_action c (issued c s p) q) refl ∙ new

  pub at_first : (issued c (issued c s p) q).actions s.count ≡ new_action c s p
  unfolding issued
  at_first = put_other (issued c s p).actions (suc s.count) s.count (new_action c (issued c s p) q) (λ e. omega arith) ∙ issued_new c s p

  at_old : (k : ℕ) → (k ≡ s.count → ⊥) → (k ≡ suc s.count → ⊥) → (issued c (issued c s p) q).actions k ≡ s.actions k
  unfolding issued
  at_old k x y = put_other (issued c s p).actions (suc s.count) k (new_action c (issued c s p) q) y ∙ put_other s.actions s.count k (new_action c s p) x

  names-second : (issued c (issued c s p) q).names q ≡ renamed (s.names q) (assigns (next c s q)) (given (suc s.count))
  unfolding issued
  names-second =
      put_same (issued c s p).names q q _ refl
      ∙ ap₂ (λ (f : ℕ → Name) (i : Instr). renamed f (assigns i) (given (suc s.count))) stays.names (next_same c s (issued c s p) q stays J)

  names_first : (issued c (issued c s p) q).names p ≡ renamed (s.names p) (assigns (next c s p)) (given s.count)
  unfolding issued
  names_first = put_other (issued c s p).names q p _ d ∙ put_same s.names p p _ refl

  names_old : (r : ℕ) → (r ≡ p → ⊥) → (r ≡ q → ⊥) → (issued c (issued c s p) q).names r ≡ s.names r
  unfolding issued
  names_old r x y = put_other (issued c s p).names q r _ y ∙ put_other s.names p r _ x

  earlier_kept : (l e : ℕ) → e < 8 + suc s.count → earlier c (issued c s p) q l e ≡ true → (e < 8 + s.count) × (earlier c s q l e ≡ true)
  earlier_kept l e h r =
      ⊎_elim (λ x. absurd (mine (eqb-true _ _ x)))
      (λ x. (omega (arith, eqb-false e (8 + s.count) x), sym (item_old c s p (eqb e l) f e (eqb-false _ _ x)) ∙ r))
      (decide (eqb e (8 + s.count)))
    where
      f : Action → Bool
      f a = eqb a.proc q && stands_at l a

      mine : e ≡ 8 + s.count → ⊥
      mine x =
          d
          (eqb-true p q (and_both (eqb p q) (stands_at l (new_action c s p)) (ap f (sym (issued_new c s p)) ∙ sym (item_high (eqb e l) f (issued c s p) s.count e x) ∙ r)).0)

  -- the order after both
  orders_after : (l : ℕ)
      → (issued c (issued c s p) q).orders l ≡ joins c l (new_action c s q) (joins c l (new_action c s p) (s.orders l) (8 + s.count) (8 + s.count) (earlier c s p l)) (8 + suc s.count) (8 + s.count) (earlier c s q l)
  unfolding issued
  orders_after l =
      ap (λ (a : Action). joins c l a ((issued c s p).orders l) (8 + suc s.count) (8 + suc s.count) (earlier c (issued c s p) q l)) new
      ∙ joined_if_ext (ltb l c.locs && stands_at l (new_action c s q)) ((issued c s p).orders l) (8 + suc s.count) (8 + suc s.count) (8 + s.count)
      (earlier c (issued c s p) q l) (earlier c s q l) (earlier_kept l)
      (λ e h r. (omega arith, item_old c s p (eqb e l) (λ a. eqb a.proc q && stands_at l a) e (λ x. omega arith) ∙ r))

module _ (c : Case) (s : State) (p q : ℕ) (G : Good s) (I : CanIssue c s p) (J : CanIssue c s q) (d : p ≡ q → ⊥) where
  d' : q ≡ p → ⊥
  d' e = d (sym e)

  inputs_new : (r : ℕ) → AllBelow s.count (new_action c s r).inputs
  inputs_new r = all_map s.count (s.names r) (G.named r) (reads (next c s r))

  same_actions : (k : ℕ) → (issued c (issued c s p) q).actions k ≡ swap_action s.count ((issued c (issued c s q) p).actions (swap s.count k))
  same_actions k = step (view s.count k)
    where
      other : (j : ℕ) (a : Action) → swap s.count k ≡ j → (issued c (issued c s q) p).actions j ≡ a → AllBelow s.count a.inputs
          → swap_action s.count ((issued c (issued c s q) p).actions (swap s.count k)) ≡ a
      other j a e h b =
          ap (λ (i : ℕ). swap_action s.count ((issued c (issued c s q) p).actions i)) e ∙ ap (swap_action s.count) h ∙ action_low s.count a b

      step : View s.count k (swap s.count k)
          → (issued c (issued c s p) q).actions k ≡ swap_action s.count ((issued c (issued c s q) p).actions (swap s.count k))
      step (up a b) =
          ap (issued c (issued c s p) q).actions a
          ∙ at_first c s p q G I J d
          ∙ sym (other (suc s.count) (new_action c s p) b (at_second c s q p G J I d') (inputs_new p))
      step (down a b) =
          ap (issued c (issued c s p) q).actions a
          ∙ at_second c s p q G I J d
          ∙ sym (other s.count (new_action c s q) b (at_first c s q p G J I d') (inputs_new q))
      step (stay x y b) = at_old c s p q G I J d k x y ∙ sym (other k (s.actions k) b (at_old c s q p G J I d' k x y) (G.inputs k))

  same-places : (issued c (issued c s p) q).places ≡ (issued c (issued c s q) p).places
  unfolding issued
  same-places =
      ap₂ (λ (i : Instr) (o : Option ℕ). put (issued c s p).places q (place_after i (or_zero o))) (next_same c s (issued c s p) q (stays c s p q G I J d) J) (stays c s p q G I J d).places
      ∙ put_swap s.places p q (place_after (next c s p) (here c s p)) (place_after (next c s q) (here c s q)) d
      ∙ sym
      (ap₂ (λ (i : Instr) (o : Option ℕ). put (issued c s q).places p (place_after i (or_zero o))) (next_same c s (issued c s q) p (stays c s q p G J I d') I) (stays c s q p G J I d').places)

  same_names : (r k : ℕ) → (issued c (issued c s p) q).names r k ≡ swap_name s.count ((issued c (issued c s q) p).names r k)
  same_names r k =
      ⊎_elim (λ x. at_p (eqb-true r p x))
      (λ x. ⊎_elim (λ y. at_q (eqb-true r q y)) (λ y. at_r (eqb-false r p x) (eqb-false r q y)) (decide (eqb r q)))
      (decide (eqb r p))
    where
      Goal : ℕ → Type 0
      Goal r = (issued c (issued c s p) q).names r k ≡ swap_name s.count ((issued c (issued c s q) p).names r k)

      at_p : r ≡ p → Goal r
      at_p e =
          subst Goal (sym e)
          (ap (λ (f : ℕ → Name). f k) (names_first c s p q G I J d) ∙ renamed_to s.count (suc s.count) s.count (swap_next s.count (suc s.count) refl) (s.names p) (G.named p) (assigns (next c s p)) k ∙ ap (λ (f : ℕ → Name). swap_name s.count (f k)) (sym (names-second c s q p G J I d')))

      at_q : r ≡ q → Goal r
      at_q e =
          subst Goal (sym e)
          (ap (λ (f : ℕ → Name). f k) (names-second c s p q G I J d) ∙ renamed_to s.count s.count (suc s.count) (swap_at s.count s.count refl) (s.names q) (G.named q) (assigns (next c s q)) k ∙ ap (λ (f : ℕ → Name). swap_name s.count (f k)) (sym (names_first c s q p G J I d')))

      at_r : (r ≡ p → ⊥) → (r ≡ q → ⊥) → Goal r
      at_r x y =
          ap (λ (f : ℕ → Name). f k) (names_old c s p q G I J d r x y)
          ∙ sym (name_low s.count (s.names r k) (G.named r k))
          ∙ ap (λ (f : ℕ → Name). swap_name s.count (f k)) (sym (names_old c s q p G J I d' r y x))

  same_orders : (l : ℕ) → (issued c (issued c s p) q).orders l ≡ swap_order (8 + s.count) ((issued c (issued c s q) p).orders l)
  same_orders l =
      orders_after c s p q G I J d l
      ∙ joined_if_swap Sp Sq R m m Ep (8 + suc s.count) m Eq (G.ordered l)
      ∙ ap₂ (λ (Q : Order) (i : ℕ). joined_if Sp Q i m Ep) (sym inner) (sym (swap_next m (8 + suc s.count) (omega arith)))
      ∙ joined_if_swapped Sp m (joined_if Sq R m m Eq) (8 + suc s.count) m Ep Ep small (λ e h. ap Ep (sym (swap_small m e h)))
      ∙ ap (swap_order m) (sym (orders_after c s q p G J I d' l))
    where
      m : ℕ
      m = 8 + s.count

      R : Order
      R = s.orders l

      Sp : Bool
      Sp = ltb l c.locs && stands_at l (new_action c s p)

      Sq : Bool
      Sq = ltb l c.locs && stands_at l (new_action c s q)

      Ep : ℕ → Bool
      Ep = earlier c s p l

      Eq : ℕ → Bool
      Eq = earlier c s q l

      small : (k : ℕ) → k < m → swap m k < m
      small k h = subst (λ (x : ℕ). x < m) (sym (swap_small m k h)) h

      inner : swap_order m (joined_if Sq R m m Eq) ≡ joined_if Sq R (8 + suc s.count) m Eq
      inner =
          sym (joined_if_swapped Sq m R m m Eq Eq small (λ e h. ap Eq (sym (swap_small m e h))))
          ∙ ap₂ (λ (Q : Order) (i : ℕ). joined_if Sq Q i m Eq) (swap_order_low m R (G.bounded l)) (swap_at m m refl ∙ next_item)
        where
          next_item : suc (8 + s.count) ≡ 8 + suc s.count
          next_item = omega arith

  pub issues_meet : issued c (issued c s p) q ≡ swapped s.count (issued c (issued c s q) p)
  unfolding issued swapped
  issues_meet = λ i. record {
    count = suc (suc s.count);
    actions = fun_ext same_actions i;
    places = same-places i;
    names = fun_ext (λ r. fun_ext (same_names r)) i;
    holders = s.holders;
    orders = fun_ext same_orders i;
  }
