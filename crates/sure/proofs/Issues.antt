-- An issue and a commit, in either order. Assumes nothing.
use mathlib.Core.Path.{◌≡◌, refl, sym, ◌∙◌, ap, ap₂, subst, fun_ext}
use mathlib.Core.Logic.{◌⊎◌, inl, inr, ⊎_elim}
use mathlib.Core.Bool.{Bool, true, false, not, cond, ◌&&◌, false≢true}
use mathlib.Core.List.{List, map}
use mathlib.Core.Option.{Option, none, some}
use Prim.Native.Nat.{ℕ, suc, ◌+◌, ◌-◌, ◌<◌}
use native.Mathlib.Omega.{arith}
use lib.Dec.{eqb, ltb, leb}
use lib.ListN.{get_or}
use borrow.Author.Tests.{le-ltb, ltb-false, eqb-true, eqb-false}
use Rattle.words.specs.Small.{is, some_below, put, or_zero, is_none}
use Rattle.words.proofs.Bools.{below_cases, decide, and_make, below_make, put_swap, put_other, and_both, cond-false, fails}
use Rattle.cases.specs.Case.{instr_at, word_of, count_of}
use Rattle.cases.specs.declared.Instr.{Instr}
use Rattle.cases.specs.declared.Case.{Case}
use Rattle.rules.specs.Kinds.{kind, acquiring, accesses, branching, assigns, writing, releasing, reads, reading, label_of}
use Rattle.rules.specs.Commit.{visible, committed, writes}
use Rattle.rules.specs.State.{item_is, Action, given, State, start, Name, kind_of, value_of, stands_at}
use Rattle.rules.specs.Issue.{address, earlier, issued, here, next, place_after, new_action, bound, renamed}
use Rattle.rules.proofs.Orders.{joined_if_old, joined_if_swap, joined_if_ext}
use Rattle.rules.proofs.Accepted.{visible_make, CanIssue, Visible, between}
use Rattle.sure.proofs.Kept.{issued_new, Kept, kept_commit, kept_issue, input_same, item_kept, carry, settled_same}
use Rattle.sure.proofs.Commits.{acquired, joins, cond_put_swap, places_by, holders_by, item_test}
use Rattle.sure.proofs.Good.{turning_at, Good}
use Rattle.sure.proofs.Commit.{settled_by, sees_take, self, CanTake, Commit, item, releases, input, committed_by}

-- a step that leaves processor p's place and names as they are
pub record Stays (s s' : State) (p : ℕ) : Type 0 where
  pub places : s'.places p ≡ s.places p
  pub names : s'.names p ≡ s.names p
  pub values : (n : Name) → is_none (value_of s n) ≡ false → value_of s' n ≡ value_of s n

module _ (c : Case) (s s' : State) (p : ℕ) (S : Stays s s' p) (I : CanIssue c s p) where
  pub next_same : next c s' p ≡ next c s p
  next_same = ap (λ (o : Option ℕ). instr_at c p (or_zero o)) S.places

  bound-same : bound c s' p ≡ bound c s p
  bound-same = ap₂ (λ (f : ℕ → Name) (i : Instr). map f (reads i)) S.names next_same

  address_same : accesses (kind (next c s p)) ≡ true → address c s' p ≡ address c s p
  address_same e =
      ap (λ (b : List Name). value_of s' (get_or b 0 (start none))) bound-same
      ∙ S.values (get_or (bound c s p) 0 (start none)) (subst (λ (b : Bool). (b && is_none (address c s p)) ≡ false) e I.known)

  -- what looks at the address only for a read or a write
  by_address : {A : Type 0} (f : Bool → Option ℕ → A) → ((o o' : Option ℕ) → f false o ≡ f false o')
      → f (accesses (kind (next c s' p))) (address c s' p) ≡ f (accesses (kind (next c s p))) (address c s p)
  by_address f h = ap (λ (i : Instr). f (accesses (kind i)) (address c s' p)) next_same ∙ step (accesses (kind (next c s p))) refl
    where
      step : (b : Bool) → accesses (kind (next c s p)) ≡ b → f b (address c s' p) ≡ f b (address c s p)
      step true e = ap (f true) (address_same e)
      step false e = h (address c s' p) (address c s p)

  pub carry_issue : leb 48 s'.count ≡ false → CanIssue c s' p
  carry_issue r =
      record {
        proc = I.proc;
        place = ap is_none S.places ∙ I.place;
        inside = ap (λ (o : Option ℕ). leb (count_of c p) (or_zero o)) S.places ∙ I.inside;
        room = r;
        known = by_address (λ (b : Bool) (o : Option ℕ). b && is_none o) (λ o o'. refl) ∙ I.known;
        low = by_address (λ (b : Bool) (o : Option ℕ). b && leb c.locs (or_zero o)) (λ o o'. refl) ∙ I.low;
      }

  pub new_same : new_action c s' p ≡ new_action c s p
  new_same = λ i. record {
    proc = p;
    place = or_zero (S.places i);
    instr = next_same i;
    inputs = bound-same i;
    loc = by_address (λ (b : Bool) (o : Option ℕ). cond b (or_zero o) 0) (λ o o'. refl) i;
    result = none;
  }

and_false : (x : Bool) → (x && false) ≡ false
and_false true = refl
and_false false = refl

-- the item of action k
pub item_high : (b : Bool) (f : Action → Bool) (s : State) (k e : ℕ) → e ≡ 8 + k → item_is b f s e ≡ f (s.actions k)
item_high b f s k e h = cond-false (ltb e 8) b _ (le-ltb e 8 (omega arith)) ∙ ap (λ (j : ℕ). f (s.actions j)) (omega arith)

-- a test of items that the issue does not change
pub item_old : (c : Case) (s : State) (p : ℕ) (b : Bool) (f : Action → Bool) (e : ℕ) → (e ≡ 8 + s.count → ⊥)
    → item_is b f (issued c s p) e ≡ item_is b f s e
unfolding issued
item_old c s p b f e d = step (ltb e 8) refl
  where
    step : (q : Bool) → ltb e 8 ≡ q → cond q b (f (put s.actions s.count (new_action c s p) (e - 8))) ≡ cond q b (f (s.actions (e - 8)))
    step true q = refl
    step false q = ap f (put_other s.actions s.count (e - 8) (new_action c s p) (λ x. d (omega (arith, ltb-false e 8 q))))

module _ (c : Case) (s : State) (p : ℕ) (u : Commit) (G : Good s) (I : CanIssue c s p) (U : CanTake c s u) where
  -- the issue after the commit

  places-kept : (committed_by c s u).places p ≡ s.places p
  unfolding committed
  places-kept = step (branching (kind_of (self s u))) refl
    where
      step : (b : Bool) → branching (kind_of (self s u)) ≡ b
          → cond b (put s.places u.proc (some (cond (eqb (input s u 0) 0) (suc (self s u).place) (label_of (self s u).instr)))) s.places p ≡ s.places p
      step true e =
          put_other s.places u.proc p _
          λ q. false≢true (sym I.place ∙ G.halts p u.action (turning_at c s u U p (sym q) e))
      step false e = refl

  stays : Stays s (committed_by c s u) p
  unfolding committed
  stays = record { places = places-kept; names = refl; values = (kept_commit c s u s.count U (λ e. omega (arith, U.there))).values }

  pub issue_after : CanIssue c (committed_by c s u) p
  unfolding committed
  issue_after = carry_issue c s (committed_by c s u) p stays I I.room

  -- the commit after the issue

  kept : Kept s (issued c s p) u.action
  kept = kept_issue c s p u.action (G.fresh s.count (omega arith)) U.there

  unordered : (l b : ℕ) → s.orders l (8 + s.count) b ≡ false
  unordered l b = ⊎_elim (λ e. absurd (omega (arith, (G.bounded l _ _ e).0))) (λ e. e) (decide (s.orders l (8 + s.count) b))

  order_old : (l a b : ℕ) → (b ≡ 8 + s.count → ⊥) → (issued c s p).orders l a b ≡ s.orders l a b
  unfolding issued
  order_old l a b d = joined_if_old _ _ _ _ _ a b (unordered l b) d

  visible-kept : (l i e : ℕ) → (i ≡ 8 + s.count → ⊥) → Visible c s l i e → Visible c (issued c s p) l i e
  visible-kept l i e d v =
      record {
        one = item_old c s p (eqb e l) (λ a. writing (kind_of a) && eqb a.loc l) e new ∙ v.one;
        known = rw (item_kept c s (issued c s p) u kept U e v.known) v.known;
        newest = fails (some_below (8 + s.count) (between s l i e)) _ still v.newest;
        before = order_old l i e new ∙ v.before;
      }
    where
      new : e ≡ 8 + s.count → ⊥
      new q =
          false≢true
          (sym v.known ∙ ap is_none (cond-false (ltb e 8) (some (word_of c e)) (s.actions (e - 8)).result (le-ltb e 8 (omega arith)) ∙ G.fresh (e - 8) (omega arith)))

      still : some_below (8 + (issued c s p).count) (between (issued c s p) l i e) ≡ true → some_below (8 + s.count) (between s l i e) ≡ true
      still h =
          let r = below_cases (8 + (issued c s p).count) (between (issued c s p) l i e) h in
          let w = r.0 in
          let x = and_both (writes (issued c s p) l w) _ r.2 in
          let y = and_both ((issued c s p).orders l e w) ((issued c s p).orders l w i) x.1 in
          let k = sym (order_old l w i d) ∙ y.1 in
          let z : w < 8 + s.count = (G.bounded l w i k).0 in
          let n : w ≡ 8 + s.count → ⊥ = λ q. omega arith in
          below_make (8 + s.count) (between s l i e) w z (and_make _ _ (sym (item_old c s p (eqb w l) (λ a. writing (kind_of a) && eqb a.loc l) w n) ∙ x.0) (and_make _ _ (sym (order_old l e w n) ∙ y.0) k))

  pub commit_after : CanTake c (issued c s p) u
  unfolding issued
  commit_after = carry c s (issued c s p) u kept U U.allowed (sees (decide (reading (kind_of (self s u)))))
    where
      sees : (reading (kind_of (self s u)) ≡ true) ⊎ (reading (kind_of (self s u)) ≡ false)
          → (reading (kind_of (self s u)) && not (visible c (issued c s p) (self s u).loc (item u) u.source)) ≡ false
      sees (inl r) =
          rw
          (r, visible_make c (issued c s p) (self s u).loc (item u) u.source (visible-kept _ _ _ (λ e. omega (arith, U.there)) (sees_take c s u U r)))
          refl
      sees (inr r) = rw r

  -- the two orders meet

  new : new_action c (committed_by c s u) p ≡ new_action c s p
  new = new_same c s (committed_by c s u) p stays I

  nextly : next c (committed_by c s u) p ≡ next c s p
  nextly = next_same c s (committed_by c s u) p stays I

  same_actions : (committed_by c (issued c s p) u).actions ≡ (issued c (committed_by c s u) p).actions
  unfolding committed issued
  same_actions =
      ap (λ (a : Action). put (put s.actions s.count (new_action c s p)) u.action a) (settled_same c s (issued c s p) u kept U)
      ∙ put_swap s.actions s.count u.action (new_action c s p) (settled_by c s u) (λ e. omega (arith, U.there))
      ∙ ap (λ (a : Action). put (put s.actions u.action (settled_by c s u)) s.count a) (sym new)

  same-places : (committed_by c (issued c s p) u).places ≡ (issued c (committed_by c s u) p).places
  unfolding committed issued
  same-places =
      ap₂ (λ (a : Action) (x : ℕ). places_by a u.proc x (issued c s p).places) kept.same (input_same c s (issued c s p) u kept U 0)
      ∙ cond_put_swap (branching (kind_of (self s u))) true s.places u.proc p _ (place_after (next c s p) (here c s p)) lone
      ∙ sym (ap₂ (λ (i : Instr) (o : Option ℕ). put (committed_by c s u).places p (place_after i (or_zero o))) nextly places-kept)
    where
      lone : branching (kind_of (self s u)) ≡ true → true ≡ true → u.proc ≡ p → ⊥
      lone e z q =
          false≢true
          (sym I.place ∙ G.halts p u.action (turning_at c s u U p q e))

  same_names : (committed_by c (issued c s p) u).names ≡ (issued c (committed_by c s u) p).names
  unfolding committed issued
  same_names = ap (λ (i : Instr). put s.names p (renamed (s.names p) (assigns i) (given s.count))) (sym nextly)

  same_holders : (committed_by c (issued c s p) u).holders ≡ (issued c (committed_by c s u) p).holders
  unfolding committed issued
  same_holders = ap₂ (λ (a : Action) (x : ℕ). holders_by a u.proc x s.holders) kept.same (input_same c s (issued c s p) u kept U 0)

  -- the new action is no committed release
  released-kept : (m e : ℕ) → releases (issued c s p) m e ≡ releases s m e
  released-kept m e =
      ⊎_elim here_it
      (λ q. item_old c s p false (λ a. releasing (kind_of a) && is m a.result) e (eqb-false e (8 + s.count) q))
      (decide (eqb e (8 + s.count)))
    where
      fresh : (s.actions s.count).result ≡ none
      fresh = G.fresh s.count (omega arith)

      here_it : eqb e (8 + s.count) ≡ true → releases (issued c s p) m e ≡ releases s m e
      here_it q =
          item_high false (λ a. releasing (kind_of a) && is m a.result) (issued c s p) s.count e (eqb-true _ _ q)
          ∙ ap (λ (a : Action). releasing (kind_of a) && is m a.result) (issued_new c s p)
          ∙ and_false (releasing (kind (next c s p)))
          ∙ sym (and_false (releasing (kind_of (s.actions s.count))))
          ∙ ap (λ (o : Option ℕ). releasing (kind_of (s.actions s.count)) && is m o) (sym fresh)
          ∙ sym (item_high false (λ a. releasing (kind_of a) && is m a.result) s s.count e (eqb-true _ _ q))

  same_orders : (l : ℕ) → (committed_by c (issued c s p) u).orders l ≡ (issued c (committed_by c s u) p).orders l
  unfolding committed issued
  same_orders l =
      ap₂ (λ (a : Action) (x : ℕ). acquired c l a ((issued c s p).orders l) (item u) (8 + suc s.count) (releases (issued c s p) x)) kept.same (input_same c s (issued c s p) u kept U 0)
      ∙ joined_if_ext (ltb l c.locs && acquiring (kind_of (self s u))) ((issued c s p).orders l) (item u) (8 + suc s.count) (8 + s.count)
      (releases (issued c s p) m) (releases s m)
      (λ e h r. low e h (sym (released-kept m e) ∙ r))
      (λ e h r. (omega arith, released-kept m e ∙ r))
      ∙ joined_if_swap (ltb l c.locs && stands_at l (new_action c s p)) (ltb l c.locs && acquiring (kind_of (self s u))) (s.orders l) (8 + s.count)
      (8 + s.count) (earlier c s p l) (item u) (8 + s.count) (releases s m)
      (G.ordered l)
      ∙ sym
      (ap₂ (λ (a : Action) (P : ℕ → Bool). joins c l a ((committed_by c s u).orders l) (8 + s.count) (8 + s.count) P) new (fun_ext λ e. item_test c s u (eqb e l) (λ a. eqb a.proc p && stands_at l a) refl e))
    where
      m : ℕ
      m = input s u 0

      low : (e : ℕ) → e < 8 + suc s.count → releases s m e ≡ true → (e < 8 + s.count) × (releases s m e ≡ true)
      low e h r = (⊎_elim (λ q. absurd (false≢true (sym (at (eqb-true _ _ q)) ∙ r))) (λ q. omega (arith, eqb-false e (8 + s.count) q)) (decide (eqb e (8 + s.count))), r)
        where
          at : e ≡ 8 + s.count → releases s m e ≡ false
          at q =
              item_high false (λ a. releasing (kind_of a) && is m a.result) s s.count e q
              ∙ ap (λ (o : Option ℕ). releasing (kind_of (s.actions s.count)) && is m o) (G.fresh s.count (omega arith))
              ∙ and_false (releasing (kind_of (s.actions s.count)))

  pub issue_meets : committed_by c (issued c s p) u ≡ issued c (committed_by c s u) p
  unfolding committed issued
  issue_meets = λ i. record {
    count = suc s.count;
    actions = same_actions i;
    places = same-places i;
    names = same_names i;
    holders = same_holders i;
    orders = fun_ext same_orders i;
  }
