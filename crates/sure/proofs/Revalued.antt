-- Two states that differ in the values of reads and locals that nothing looks at have the same runs. Assumes nothing.
use mathlib.Core.Path.{◌≡◌, refl, sym, ◌∙◌, ap, ap₂, subst, fun_ext}
use mathlib.Core.Logic.{◌⊎◌, inl, inr, ⊎_elim}
use mathlib.Core.Bool.{Bool, true, false, not, cond, ◌&&◌, ◌||◌, false≢true}
use mathlib.Core.List.{List, [], ◌∷◌}
use mathlib.Core.Option.{Option, none, some}
use Prim.Native.Nat.{ℕ, zero, suc, ◌+◌, ◌-◌}
use lib.Dec.{eqb, ltb, leb}
use lib.ListN.{get_or}
use borrow.Author.Tests.{eqb-true}
use Rattle.words.specs.Small.{is_none, is, any, all, or_zero, put, counting, concat_map}
use Rattle.words.proofs.Bools.{decide, or_none, or_false, and_both, and_left, and_right, below-same, cond-false}
use Rattle.cases.specs.Case.{word_of, count_of}
use Rattle.cases.specs.declared.Instr.{Instr}
use Rattle.cases.specs.declared.Instr.TheVariants.{Empty, Read, Write, Local, Branch, Goto, Acquire, Release}
use Rattle.cases.specs.declared.Case.{Case}
use Rattle.rules.specs.Kinds.{kind, reading, writing, branching, acquiring, releasing, accesses, syncs, reads, assigns, evaluate, held_by}
use Rattle.rules.specs.Commit.{barred, committed, visible, writes}
use Rattle.rules.specs.Issue.{address, bound, here, issued, new_action, next, place_after, renamed}
use Rattle.rules.specs.Result.{finished, register_bytes, registers}
use Rattle.rules.specs.State.{Action, Name, State, given, item_is, item_value, kind_of, stands_at, start, value_of, waiting}
use Rattle.rules.specs.Step.{Step, after, commit, issue, neither, step_code}
use Rattle.rules.proofs.Orders.{joined_if-false}
use Rattle.rules.proofs.Accepted.{CanIssue, after_issue, between, can_issue, issue_ok, neither_no}
use Rattle.sure.specs.Told.{Done, Open}
use Rattle.sure.proofs.Commit.{CanTake, Commit, after-take, can_take, committed_by, holds, input, item, releases, result_by, sees_take, self, settled_by, take_ok, the}
use Rattle.sure.proofs.Commits.{acquired, holders_by, joins, places_by, unbarred}
use Rattle.sure.proofs.Kept.{waits-none}
use Rattle.sure.proofs.Veiled.{Veiled, inside, ignorable_only, unnamed_all, new_out, veiled_step}

abbrev with_result : ℕ → Action → Action
with_result v a = record { proc = a.proc; place = a.place; instr = a.instr; inputs = a.inputs; loc = a.loc; result = some v }

-- the action, with the value v if it is of the set and committed
abbrev veil : Bool → ℕ → Action → Action
veil b v a = cond (b && not (is_none a.result)) (with_result v a) a

-- the state where the committed actions of the set gave other values
unfoldable pub revalued : (ℕ → Bool) → (ℕ → ℕ) → State → State
revalued D W s =
    record {
      count = s.count;
      actions = λ k. veil (D k) (W k) (s.actions k);
      places = s.places;
      names = s.names;
      holders = s.holders;
      orders = s.orders;
    }

module _ (D : ℕ → Bool) (W : ℕ → ℕ) (s : State) (U : Veiled s D) where
  abbrev other : State
  other = revalued D W s

  field_at : {X : Type 0} (f : Action → X) (j : ℕ) → (D j ≡ true → is_none (s.actions j).result ≡ false → f (with_result (W j) (s.actions j)) ≡ f (s.actions j)) → f (other.actions j) ≡ f (s.actions j)
  unfolding revalued
  field_at f j h = step (D j) (is_none (s.actions j).result) refl refl
    where
      step : (b d : Bool) → D j ≡ b → is_none (s.actions j).result ≡ d → f (cond (b && not d) (with_result (W j) (s.actions j)) (s.actions j)) ≡ f (s.actions j)
      step true true p q = refl
      step true false p q = h p q
      step false d p q = refl

  away : (j : ℕ) → D j ≡ false → other.actions j ≡ s.actions j
  unfolding revalued
  away j d = ap (λ (b : Bool). veil b (W j) (s.actions j)) d

  idle_same : (j : ℕ) → (s.actions j).result ≡ none → other.actions j ≡ s.actions j
  idle_same j w = field_at (λ a. a) j (λ d q. absurd (false≢true (sym q ∙ ap is_none w)))

  none_at : (j : ℕ) → is_none (other.actions j).result ≡ is_none (s.actions j).result
  none_at j = field_at (λ a. is_none a.result) j (λ d q. sym q)

  waits-same : (p j : ℕ) → waiting p (other.actions j) ≡ waiting p (s.actions j)
  waits-same p j = field_at (λ a. waiting p a) j (λ d q. ap (λ (b : Bool). eqb (s.actions j).proc p && b) (sym q))

  value_same : (n : Name) → inside D n ≡ false → value_of other n ≡ value_of s n
  value_same (start w) h = refl
  value_same (given j) h = ap (λ (a : Action). a.result) (away j h)

  none-same : (n : Name) → is_none (value_of other n) ≡ is_none (value_of s n)
  none-same (start w) = refl
  none-same (given j) = none_at j

  value_at : (l : List Name) (i : ℕ) → any (inside D) l ≡ false → value_of other (get_or l i (start none)) ≡ value_of s (get_or l i (start none))
  value_at [] i h = refl
  value_at (n ∷ l) zero h = value_same n (or_none (inside D n) _ h).0
  value_at (n ∷ l) (suc i) h = value_at l i (or_none (inside D n) _ h).1

  ready_same : (l : List Name) → any (λ n. is_none (value_of other n)) l ≡ any (λ n. is_none (value_of s n)) l
  ready_same [] = refl
  ready_same (n ∷ l) = ap₂ (λ (x y : Bool). x || y) (none-same n) (ready_same l)

  item_same : (b : Bool) (f : Action → Bool) (e : ℕ) → (D (e - 8) ≡ true → is_none (s.actions (e - 8)).result ≡ false → f (with_result (W (e - 8)) (s.actions (e - 8))) ≡ f (s.actions (e - 8))) → item_is b f other e ≡ item_is b f s e
  item_same b f e h = ap (λ (x : Bool). cond (ltb e 8) b x) (field_at f (e - 8) h)

  known_same : (c : Case) (e : ℕ) → is_none (item_value c other e) ≡ is_none (item_value c s e)
  known_same c e = step (ltb e 8)
    where
      step : (b : Bool) → is_none (cond b (some (word_of c e)) (other.actions (e - 8)).result) ≡ is_none (cond b (some (word_of c e)) (s.actions (e - 8)).result)
      step true = refl
      step false = none_at (e - 8)

  writes-same : (l e : ℕ) → writes other l e ≡ writes s l e
  writes-same l e = item_same (eqb e l) (λ a. writing (kind_of a) && eqb a.loc l) e (λ d q. refl)

  written_same : (c : Case) (l e : ℕ) → writes s l e ≡ true → item_value c other e ≡ item_value c s e
  written_same c l e = step (ltb e 8)
    where
      apart : (writing (kind_of (s.actions (e - 8))) && eqb (s.actions (e - 8)).loc l) ≡ true → D (e - 8) ≡ true → ⊥
      apart h d = false≢true (sym (ignorable_only (kind_of (s.actions (e - 8))) (U.kinds (e - 8) d)).3 ∙ (and_both (writing (kind_of (s.actions (e - 8)))) _ h).0)

      step : (b : Bool) → cond b (eqb e l) (writing (kind_of (s.actions (e - 8))) && eqb (s.actions (e - 8)).loc l) ≡ true
          → cond b (some (word_of c e)) (other.actions (e - 8)).result ≡ cond b (some (word_of c e)) (s.actions (e - 8)).result
      step true h = refl
      step false h = field_at (λ a. a.result) (e - 8) (λ d q. absurd (apart h d))

  releases-same : (l e : ℕ) → releases other l e ≡ releases s l e
  releases-same l e =
      item_same false (λ a. releasing (kind_of a) && is l a.result) e
      (λ d q.
      let r = (ignorable_only (kind_of (s.actions (e - 8))) (U.kinds (e - 8) d)).2 in
      ap (λ (b : Bool). b && is l (some (W (e - 8)))) r ∙ ap (λ (b : Bool). b && is l (s.actions (e - 8)).result) (sym r))

  module _ (c : Case) where
    visible-same : (l i e : ℕ) → visible c other l i e ≡ visible c s l i e
    unfolding visible revalued
    visible-same l i e =
        ap₂ (λ (x y : Bool). x && y && not (s.orders l i e))
        (ap₂ (λ (x y : Bool). x && not y) (writes-same l e) (known_same c e))
        (ap not (below-same (8 + s.count) (between other l i e) (between s l i e) (λ w z. ap (λ (x : Bool). x && (s.orders l e w && s.orders l w i)) (writes-same l w))))

    -- an issue

    module _ (p : ℕ) where
      address_same : address c other p ≡ address c s p
      unfolding revalued
      address_same = value_at (bound c s p) 0 (unnamed_all D (s.names p) (U.unnamed p) (reads (next c s p)))

      can_issue_same : CanIssue c s p → CanIssue c other p
      unfolding revalued
      can_issue_same h =
          record {
            proc = h.proc;
            place = h.place;
            inside = h.inside;
            room = h.room;
            known = ap (λ (o : Option ℕ). accesses (kind (next c s p)) && is_none o) address_same ∙ h.known;
            low = ap (λ (o : Option ℕ). accesses (kind (next c s p)) && leb c.locs (or_zero o)) address_same ∙ h.low;
          }

      new_same : new_action c other p ≡ new_action c s p
      unfolding revalued
      new_same = λ i. record {
        proc = p;
        place = here c s p;
        instr = next c s p;
        inputs = bound c s p;
        loc = cond (accesses (kind (next c s p))) (or_zero (address_same i)) 0;
        result = none;
      }

      issued_same : issued c other p ≡ revalued D W (issued c s p)
      unfolding issued revalued
      issued_same = λ i. record {
        count = suc s.count;
        actions = fun_ext actions i;
        places = put s.places p (place_after (next c s p) (here c s p));
        names = put s.names p (renamed (s.names p) (assigns (next c s p)) (given s.count));
        holders = s.holders;
        orders = fun_ext orders i;
      }
        where
          step : (j : ℕ) (b : Bool) → eqb j s.count ≡ b → cond b (new_action c s p) (veil (D j) (W j) (s.actions j)) ≡ veil (D j) (W j) (cond b (new_action c s p) (s.actions j))
          step j true e = ap (λ (d : Bool). veil d (W j) (new_action c s p)) (sym (ap D (eqb-true j s.count e) ∙ new_out c s D U))
          step j false e = refl

          actions : (j : ℕ) → put (λ k. veil (D k) (W k) (s.actions k)) s.count (new_action c other p) j ≡ veil (D j) (W j) (put s.actions s.count (new_action c s p) j)
          actions j = ap (λ (a : Action). put (λ k. veil (D k) (W k) (s.actions k)) s.count a j) new_same ∙ step j (eqb j s.count) refl

          orders : (l : ℕ) → (issued c other p).orders l ≡ (issued c s p).orders l
          orders l =
              ap₂ (λ (a : Action) (P : ℕ → Bool). joins c l a (s.orders l) (8 + s.count) (8 + s.count) P) new_same
              (fun_ext λ e. item_same (eqb e l) (λ a. eqb a.proc p && stands_at l a) e (λ d q. refl))

    -- a commit

    module _ (t : Commit) (T : CanTake c s t) where
      idle : (self s t).result ≡ none
      idle = waits-none t.proc (self s t) T.waits

      self_same : self other t ≡ self s t
      self_same = idle_same t.action idle

      holds_same : (j : ℕ) → holds other t j ≡ holds s t j
      holds_same j =
          ap₂ (λ (b : Bool) (a : Action). b && held_by (kind_of a) (kind_of (other.actions j)) (eqb (other.actions j).loc a.loc)) (waits-same t.proc j) self_same
          ∙ ap (λ (b : Bool). waiting t.proc (s.actions j) && b) (field_at (λ a. held_by (kind_of (self s t)) (kind_of a) (eqb a.loc (self s t).loc)) j (λ d q. refl))

      -- its inputs are the same, or it is of the set
      input_cases : (D t.action ≡ true) ⊎ ((D t.action ≡ false) × ((i : ℕ) → input other t i ≡ input s t i))
      input_cases =
          ⊎_elim (λ d. inl d)
          (λ d. inr (d, λ i. ap (λ (a : Action). or_zero (value_of other (get_or a.inputs i (start none)))) self_same ∙ ap or_zero (value_at (self s t).inputs i (U.unused t.action T.there idle d))))
          (decide (D t.action))

      only : D t.action ≡ true → (branching (kind_of (self s t)) ≡ false) × (acquiring (kind_of (self s t)) ≡ false) × (releasing (kind_of (self s t)) ≡ false) × (writing (kind_of (self s t)) ≡ false)
      only d = ignorable_only (kind_of (self s t)) (U.kinds t.action d)

      -- what a read or a local does not ask hangs on the inputs of no action of the set
      unasked : {X : Type 0} (f : ℕ → X) → (D t.action ≡ true → (x : ℕ) → f x ≡ f 0) → f (input other t 0) ≡ f (input s t 0)
      unasked f g = ⊎_elim (λ d. g d (input other t 0) ∙ sym (g d (input s t 0))) (λ w. ap f (w.1 0)) input_cases

      unlocked : D t.action ≡ true → syncs (kind_of (self s t)) ≡ false
      unlocked d = or_false (acquiring (kind_of (self s t))) (releasing (kind_of (self s t))) (only d).1 (only d).2

      low_same : (syncs (kind_of (self s t)) && leb c.locs (input other t 0)) ≡ (syncs (kind_of (self s t)) && leb c.locs (input s t 0))
      low_same =
          unasked (λ x. syncs (kind_of (self s t)) && leb c.locs x)
          (λ d x. and_left (syncs (kind_of (self s t))) _ (unlocked d) ∙ sym (and_left (syncs (kind_of (self s t))) _ (unlocked d)))

      bars_same : barred t.proc (kind_of (self s t)) (s.holders (input other t 0)) ≡ barred t.proc (kind_of (self s t)) (s.holders (input s t 0))
      bars_same =
          unasked (λ x. barred t.proc (kind_of (self s t)) (s.holders x))
          (λ d x. unbarred t.proc (kind_of (self s t)) (s.holders x) (unlocked d) ∙ sym (unbarred t.proc (kind_of (self s t)) (s.holders 0) (unlocked d)))

      can_take-same : CanTake c other t
      unfolding revalued
      can_take-same =
          record {
            proc = T.proc;
            there = T.there;
            waits = waits-same t.proc t.action ∙ T.waits;
            plain = ap (λ (a : Action). not (eqb t.source 0) && not (reading (kind_of a))) self_same ∙ T.plain;
            free = below-same t.action (holds other t) (holds s t) (λ j l. holds_same j) ∙ T.free;
            ready = ap (λ (a : Action). any (λ n. is_none (value_of other n)) a.inputs) self_same ∙ ready_same (self s t).inputs ∙ T.ready;
            low = ap (λ (a : Action). syncs (kind_of a) && leb c.locs (input other t 0)) self_same ∙ low_same ∙ T.low;
            allowed = ap (λ (a : Action). barred t.proc (kind_of a) (s.holders (input other t 0))) self_same ∙ bars_same ∙ T.allowed;
            sees = ap (λ (a : Action). reading (kind_of a) && not (visible c other a.loc (item t) t.source)) self_same ∙ ap (λ (b : Bool). reading (kind_of (self s t)) && not b) (visible-same (self s t).loc (item t) t.source) ∙ T.sees;
          }

      -- the values after it

      result_at : ((i : ℕ) → input other t i ≡ input s t i) → (i : Instr) → (reading (kind i) ≡ true → item_value c other t.source ≡ item_value c s t.source) → result_by c other t i ≡ result_by c s t i
      result_at x Empty f = refl
      result_at x (Read d a) f = ap or_zero (f refl)
      result_at x (Write a b) f = x 1
      result_at x (Local d e) f = ap₂ (evaluate e) (x 0) (x 1)
      result_at x (Branch a l) f = refl
      result_at x (Goto l) f = refl
      result_at x (Acquire a) f = x 0
      result_at x (Release a) f = x 0

      -- what it gives there
      abbrev given_there : ℕ
      given_there = result_by c other t (self s t).instr

      settled_there : settled_by c other t ≡ with_result given_there (self s t)
      settled_there = λ i. record {
        proc = (self_same i).proc;
        place = (self_same i).place;
        instr = (self_same i).instr;
        inputs = (self_same i).inputs;
        loc = (self_same i).loc;
        result = some (result_by c other t (self_same i).instr);
      }

      -- as a value of the set, or as it is
      lands : committed_by c other t ≡ revalued D (put W t.action given_there) (committed_by c s t)
      unfolding committed revalued
      lands = λ i. record {
        count = s.count;
        actions = fun_ext actions i;
        places = places i;
        names = s.names;
        holders = holders i;
        orders = fun_ext orders i;
      }
        where
          here : (b : Bool) → D t.action ≡ b → with_result given_there (self s t) ≡ veil b given_there (settled_by c s t)
          here true d = refl
          here false d =
              let x = ⊎_elim (λ e. absurd (false≢true (sym d ∙ e))) (λ w. w.1) input_cases in
              λ i. record {
                proc = (self s t).proc;
                place = (self s t).place;
                instr = (self s t).instr;
                inputs = (self s t).inputs;
                loc = (self s t).loc;
                result = some (result_at x (self s t).instr (λ r. written_same c (self s t).loc t.source (sees_take c s t T r).one) i);
              }

          step : (j : ℕ) (b : Bool) → eqb j t.action ≡ b
              → cond b (with_result given_there (self s t)) (veil (D j) (W j) (s.actions j)) ≡ veil (D j) (cond b given_there (W j)) (cond b (settled_by c s t) (s.actions j))
          step j true e = here (D t.action) refl ∙ ap (λ (k : ℕ). veil (D k) given_there (settled_by c s t)) (sym (eqb-true j t.action e))
          step j false e = refl

          actions : (j : ℕ) → put (λ k. veil (D k) (W k) (s.actions k)) t.action (settled_by c other t) j ≡ veil (D j) (put W t.action given_there j) (put s.actions t.action (settled_by c s t) j)
          actions j = ap (λ (a : Action). put (λ k. veil (D k) (W k) (s.actions k)) t.action a j) settled_there ∙ step j (eqb j t.action) refl

          places : (committed_by c other t).places ≡ (committed_by c s t).places
          places =
              ap (λ (a : Action). places_by a t.proc (input other t 0) s.places) self_same
              ∙ unasked (λ x. places_by (self s t) t.proc x s.places)
              (λ d x. cond-false (branching (kind_of (self s t))) _ _ (only d).0 ∙ sym (cond-false (branching (kind_of (self s t))) _ _ (only d).0))

          holders : (committed_by c other t).holders ≡ (committed_by c s t).holders
          holders =
              ap (λ (a : Action). holders_by a t.proc (input other t 0) s.holders) self_same
              ∙ unasked (λ x. holders_by (self s t) t.proc x s.holders)
              (λ d x. cond-false (syncs (kind_of (self s t))) _ _ (unlocked d) ∙ sym (cond-false (syncs (kind_of (self s t))) _ _ (unlocked d)))

          orders : (l : ℕ) → (committed_by c other t).orders l ≡ (committed_by c s t).orders l
          orders l =
              ap (λ (a : Action). acquired c l a (s.orders l) (item t) (8 + s.count) (releases other (input other t 0))) self_same
              ∙ ap (acquired c l (self s t) (s.orders l) (item t) (8 + s.count)) (fun_ext λ e. releases-same (input other t 0) e)
              ∙ unasked (λ x. acquired c l (self s t) (s.orders l) (item t) (8 + s.count) (releases s x))
              (λ d x. let z = and_right (ltb l c.locs) _ (only d).1 in joined_if-false _ _ _ _ _ z ∙ sym (joined_if-false _ _ _ _ _ z))

    finished-same : finished c other ≡ finished c s
    unfolding finished revalued
    finished-same =
        ap (λ (f : ℕ → Bool). all f (counting 0 c.procs))
        (fun_ext λ p. ap (λ (b : Bool). not b && is (count_of c p) (s.places p)) (below-same s.count (λ j. waiting p (other.actions j)) (λ j. waiting p (s.actions j)) (λ j l. waits-same p j)))

    registers-same : registers c other ≡ registers c s
    unfolding registers revalued
    registers-same =
        ap
        (λ (f : ℕ → ℕ → Option ℕ). concat_map (λ p. concat_map (λ r. register_bytes (cond (ltb p c.procs) (f p r) none)) (counting 0 8)) (counting 0 4))
        (fun_ext λ p. fun_ext λ r. value_same (s.names p r) (U.unnamed p r))

-- a step at one is a step at the other, and leads to two that differ so
record Image (c : Case) (D : ℕ → Bool) (W : ℕ → ℕ) (s : State) (t : Step) : Type 0 where
  values : ℕ → ℕ
  fits : step_code c (revalued D W s) t ≡ 0
  meets : after c (revalued D W s) t ≡ revalued D values (after c s t)

image : (c : Case) (D : ℕ → Bool) (W : ℕ → ℕ) (s : State) → Veiled s D → (t : Step) → step_code c s t ≡ 0 → Image c D W s t
image c D W s U (issue p) h =
    record {
      values = W;
      fits = issue_ok c (revalued D W s) p (can_issue_same D W s U c p (can_issue c s p h));
      meets = after_issue c (revalued D W s) p ∙ issued_same D W s U c p ∙ ap (revalued D W) (sym (after_issue c s p));
    }
image c D W s U (commit p j e) h =
    let t = the p j e in
    let T = can_take c s t h in
    record {
      values = _;
      fits = take_ok c (revalued D W s) t (can_take-same D W s U c t T);
      meets = after-take c (revalued D W s) t ∙ lands D W s U c t T ∙ ap (revalued D _) (sym (after-take c s t));
    }
image c D W s U neither h = absurd (neither_no c s h)

-- THE THEOREM: the runs of the two leave the same
pub done_revalued : (c : Case) (D : ℕ → Bool) {n : ℕ} {s : State} {r : List ℕ} (W : ℕ → ℕ) → Veiled s D → Done c s n r → Done c (revalued D W s) n r
done_revalued c D {n} {s} {r} W U (Done.now f g) = Done.now (finished-same D W s U c ∙ f) (registers-same D W s U c ∙ g)
done_revalued c D {n} {s} {r} W U (Done.later {n = m} t h d) =
    let i = image c D W s U t h in
    Done.later t i.fits (subst (λ (x : State). Done c x m r) (sym i.meets) (done_revalued c D i.values (veiled_step c s D U t h) d))

pub open_revalued : (c : Case) (D : ℕ → Bool) {n : ℕ} {s : State} (W : ℕ → ℕ) → Veiled s D → Open c s n → Open c (revalued D W s) n
open_revalued c D {n} {s} W U (Open.now f) = Open.now (finished-same D W s U c ∙ f)
open_revalued c D {n} {s} W U (Open.later {n = m} t h d) =
    let i = image c D W s U t h in
    Open.later t i.fits (subst (λ (x : State). Open c x m) (sym i.meets) (open_revalued c D i.values (veiled_step c s D U t h) d))

-- the commit of an action of the set from two sources leads to two that differ so
pub two_sources : (c : Case) (D : ℕ → Bool) (s : State) (p k e f : ℕ) → D k ≡ true
    → (W : ℕ → ℕ) × (after c s (commit p k f) ≡ revalued D W (after c s (commit p k e)))
unfolding committed revalued
two_sources c D s p k e f d = (values, after-take c s (the p k f) ∙ lands_at ∙ ap (revalued D values) (sym (after-take c s (the p k e))))
  where
    values : ℕ → ℕ
    values = put (λ j. or_zero (s.actions j).result) k (result_by c s (the p k f) (s.actions k).instr)

    kept : (b : Bool) (a : Action) (o : Option ℕ) → a.result ≡ o → a ≡ cond (b && not (is_none o)) (with_result (or_zero o) a) a
    kept true a none q = refl
    kept true a (some v) q = λ i. record { proc = a.proc; place = a.place; instr = a.instr; inputs = a.inputs; loc = a.loc; result = q i }
    kept false a o q = refl

    step : (j : ℕ) (b : Bool) → eqb j k ≡ b → cond b (settled_by c s (the p k f)) (s.actions j) ≡ veil (D j) (cond b (result_by c s (the p k f) (s.actions k).instr) (or_zero (s.actions j).result)) (cond b (settled_by c s (the p k e)) (s.actions j))
    step j true q = ap (λ (b : Bool). veil b (result_by c s (the p k f) (s.actions k).instr) (settled_by c s (the p k e))) (sym (ap D (eqb-true j k q) ∙ d))
    step j false q = kept (D j) (s.actions j) (s.actions j).result refl

    lands_at : committed_by c s (the p k f) ≡ revalued D values (committed_by c s (the p k e))
    lands_at = λ i. record {
      count = s.count;
      actions = fun_ext (λ j. step j (eqb j k) refl) i;
      places = (committed_by c s (the p k e)).places;
      names = s.names;
      holders = (committed_by c s (the p k e)).holders;
      orders = (committed_by c s (the p k e)).orders;
    }
