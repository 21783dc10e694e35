-- 'Actions are numbered as they are issued': two adjacent ones of different processors may change numbers. Assumes nothing.
use mathlib.Core.Path.{◌≡◌, refl, sym, ◌∙◌, ap, ap₂, subst, fun_ext}
use mathlib.Core.Logic.{⊎_elim}
use mathlib.Core.Bool.{Bool, true, false, not, cond, ◌&&◌, ◌||◌}
use mathlib.Core.List.{List, [], ◌∷◌, map}
use mathlib.Core.Option.{Option, none, some}
use Prim.Native.Nat.{ℕ, zero, suc, ◌+◌, ◌-◌, ◌<◌}
use native.Mathlib.Omega.{arith}
use lib.Dec.{eqb, ltb, leb}
use lib.ListN.{get_or}
use borrow.Author.Tests.{ltb-true, le-ltb, ltb-false}
use Rattle.words.specs.Small.{some_below, is_none, is, put, counting, concat_map, or_zero, all, any}
use Rattle.words.proofs.Bools.{cond-false, below_cases, decide, fails, cond-true, and_both, below_make}
use Rattle.cases.specs.Case.{word_of, count_of}
use Rattle.cases.specs.declared.Instr.TheVariants.{Empty, Read, Write, Local, Branch, Goto, Acquire, Release}
use Rattle.cases.specs.declared.Instr.{Instr}
use Rattle.cases.specs.declared.Case.{Case}
use Rattle.rules.specs.Kinds.{evaluate, writing, releasing, reading, accesses, syncs, acquiring, reads, kind, assigns, held_by}
use Rattle.rules.specs.Commit.{visible, writes, barred, committed}
use Rattle.rules.specs.Result.{finished, register_bytes, registers}
use Rattle.rules.specs.State.{Action, stands_at, item_value, State, value_of, given, kind_of, Name, waiting, start}
use Rattle.rules.specs.Step.{neither, commit, step_code, after, issue, Step}
use Rattle.rules.specs.Issue.{earlier, address, next, place_after, renamed, here, issued, bound, new_action}
use Rattle.rules.proofs.Accepted.{between, neither_no, can_issue, CanIssue, issue_ok, after_issue}
use Rattle.sure.specs.Told.{Done, Open}
use Rattle.sure.proofs.Kept.{issued_old, committed_field, waits_proc}
use Rattle.sure.proofs.Commits.{acquired, joins, places_by, holders_by}
use Rattle.sure.proofs.Swap.{swap, swap_twice, swap_low, swap_high, swap_small, swap_eqb, swap_item, swap_before, below_swap, put_swapped, swap_order, joined_if_swapped}
use Rattle.sure.proofs.Commit.{self, result_by, CanTake, item, holds, as_step, settled_by, Commit, can_take, the, committed_by, releases, take_ok, after-take, input}

abbrev pub swap_name : ℕ → Name → Name
swap_name n (start v) = start v
swap_name n (given k) = given (swap n k)

abbrev pub swap_action : ℕ → Action → Action
swap_action n a =
    record {
      proc = a.proc;
      place = a.place;
      instr = a.instr;
      inputs = map (swap_name n) a.inputs;
      loc = a.loc;
      result = a.result;
    }

-- the state with actions n and n + 1 changed about
unfoldable pub swapped : ℕ → State → State
swapped n s =
    record {
      count = s.count;
      actions = λ k. swap_action n (s.actions (swap n k));
      places = s.places;
      names = λ p k. swap_name n (s.names p k);
      holders = s.holders;
      orders = λ l. swap_order (8 + n) (s.orders l);
    }

-- the commit with the numbers changed about
abbrev pub swap_commit : ℕ → Commit → Commit
swap_commit n t = record { proc = t.proc; action = swap n t.action; source = swap (8 + n) t.source }

-- both are issued, by different processors
pub record Pair (n : ℕ) (s : State) : Type 0 where
  pub there : suc n < s.count
  pub differ : (s.actions n).proc ≡ (s.actions (suc n)).proc → ⊥

map-map : {A B C : Type 0} (f : B → C) (g : A → B) (l : List A) → map (λ x. f (g x)) l ≡ map f (map g l)
map-map f g [] = refl
map-map f g (x ∷ l) = ap (λ m. f (g x) ∷ m) (map-map f g l)

module _ (n : ℕ) (s : State) where
  get_d_swap : (l : List Name) (i : ℕ) → get_or (map (swap_name n) l) i (start none) ≡ swap_name n (get_or l i (start none))
  get_d_swap [] i = refl
  get_d_swap (x ∷ l) zero = refl
  get_d_swap (x ∷ l) (suc i) = get_d_swap l i

  value_swap : (m : Name) → value_of (swapped n s) (swap_name n m) ≡ value_of s m
  unfolding swapped
  value_swap (start v) = refl
  value_swap (given k) = ap (λ (j : ℕ). (s.actions j).result) (swap_twice n k)

  value_at : (l : List Name) (i : ℕ) → value_of (swapped n s) (get_or (map (swap_name n) l) i (start none)) ≡ value_of s (get_or l i (start none))
  value_at l i = ap (value_of (swapped n s)) (get_d_swap l i) ∙ value_swap (get_or l i (start none))

  ready_swap : (l : List Name) → any (λ m. is_none (value_of (swapped n s) m)) (map (swap_name n) l) ≡ any (λ m. is_none (value_of s m)) l
  ready_swap [] = refl
  ready_swap (x ∷ l) = ap₂ (λ (o : Option ℕ) (b : Bool). is_none o || b) (value_swap x) (ready_swap l)

  -- an initial write keeps its number
  item_by : {A : Type 0} (g : ℕ → A) (f : Action → A) → ((a : Action) → f (swap_action n a) ≡ f a) → (e : ℕ)
      → cond (ltb e 8) (g e) (f ((swapped n s).actions (e - 8))) ≡ cond (ltb (swap (8 + n) e) 8) (g (swap (8 + n) e)) (f (s.actions (swap (8 + n) e - 8)))
  unfolding swapped
  item_by g f h e = ⊎_elim small large (decide (ltb e 8))
    where
      small : ltb e 8 ≡ true
          → cond (ltb e 8) (g e) (f (swap_action n (s.actions (swap n (e - 8))))) ≡ cond (ltb (swap (8 + n) e) 8) (g (swap (8 + n) e)) (f (s.actions (swap (8 + n) e - 8)))
      small q =
          let k = swap_small (8 + n) e (omega (arith, ltb-true e 8 q)) in
          cond-true (ltb e 8) _ _ q ∙ ap g (sym k) ∙ sym (cond-true (ltb (swap (8 + n) e) 8) _ _ (ap (λ (x : ℕ). ltb x 8) k ∙ q))

      large : ltb e 8 ≡ false
          → cond (ltb e 8) (g e) (f (swap_action n (s.actions (swap n (e - 8))))) ≡ cond (ltb (swap (8 + n) e) 8) (g (swap (8 + n) e)) (f (s.actions (swap (8 + n) e - 8)))
      large q =
          let j : e ≡ 8 + (e - 8) = omega (arith, ltb-false e 8 q) in
          let k : swap (8 + n) e ≡ 8 + swap n (e - 8) = ap (swap (8 + n)) j ∙ swap_item n (e - 8) in
          let i : swap n (e - 8) ≡ swap (8 + n) e - 8 = omega arith in
          cond-false (ltb e 8) _ _ q ∙ h (s.actions (swap n (e - 8))) ∙ ap (λ (x : ℕ). f (s.actions x)) i ∙ sym (cond-false (ltb (swap (8 + n) e) 8) _ _ (le-ltb (swap (8 + n) e) 8 (omega (arith, k))))

  pub writes_swap : (l e : ℕ) → writes (swapped n s) l e ≡ writes s l (swap (8 + n) e)
  writes_swap l e = item_by (λ x. eqb x l) (λ a. writing (kind_of a) && eqb a.loc l) (λ a. refl) e

  value_item : (c : Case) (e : ℕ) → item_value c (swapped n s) e ≡ item_value c s (swap (8 + n) e)
  value_item c e = item_by (λ x. some (word_of c x)) (λ a. a.result) (λ a. refl) e

  module _ (there : suc n < s.count) where
    low : (k : ℕ) → k < 8 + s.count → swap (8 + n) k < 8 + s.count
    low k h = swap_low (8 + n) k (8 + s.count) h (omega arith)

    visible_swap : (c : Case) (l i e : ℕ) → visible c (swapped n s) l i e ≡ visible c s l (swap (8 + n) i) (swap (8 + n) e)
    unfolding visible swapped
    visible_swap c l i e =
        ap₂ (λ (x y : Bool). x && y && not (s.orders l (swap (8 + n) i) (swap (8 + n) e)))
        (ap₂ (λ (x : Bool) (o : Option ℕ). x && not (is_none o)) (writes_swap l e) (value_item c e))
        (ap not (between_swap l i e))
      where
        between_swap : (l i e : ℕ)
            → some_below (8 + s.count) (between (swapped n s) l i e) ≡ some_below (8 + s.count) (between s l (swap (8 + n) i) (swap (8 + n) e))
        between_swap l i e =
            below_swap (8 + n) (8 + s.count) (between (swapped n s) l i e) (between s l (swap (8 + n) i) (swap (8 + n) e)) low
            (λ w z. ap (λ (x : Bool). x && (s.orders l (swap (8 + n) e) (swap (8 + n) w) && s.orders l (swap (8 + n) w) (swap (8 + n) i))) (writes_swap l w))

    module _ (c : Case) (p : ℕ) where
      address_swap : address c (swapped n s) p ≡ address c s p
      unfolding swapped
      address_swap =
          ap (λ (l : List Name). value_of (swapped n s) (get_or l 0 (start none))) (map-map (swap_name n) (s.names p) (reads (next c s p)))
          ∙ value_at (bound c s p) 0

      pub issue_swap : CanIssue c s p → CanIssue c (swapped n s) p
      unfolding swapped
      issue_swap h =
          record {
            proc = h.proc;
            place = h.place;
            inside = h.inside;
            room = h.room;
            known = ap (λ (o : Option ℕ). accesses (kind (next c s p)) && is_none o) address_swap ∙ h.known;
            low = ap (λ (o : Option ℕ). accesses (kind (next c s p)) && leb c.locs (or_zero o)) address_swap ∙ h.low;
          }

      new_swap : new_action c (swapped n s) p ≡ swap_action n (new_action c s p)
      unfolding swapped
      new_swap = λ i. record {
        proc = p;
        place = here c s p;
        instr = next c s p;
        inputs = map-map (swap_name n) (s.names p) (reads (next c s p)) i;
        loc = cond (accesses (kind (next c s p))) (or_zero (address_swap i)) 0;
        result = none;
      }

      renamed_swap : (f : ℕ → Name) (o : Option ℕ) (k : ℕ)
          → renamed (λ j. swap_name n (f j)) o (given s.count) k ≡ swap_name n (renamed f o (given s.count) k)
      renamed_swap f none k = refl
      renamed_swap f (some d) k = step (eqb k d)
        where
          step : (b : Bool) → cond b (given s.count) (swap_name n (f k)) ≡ swap_name n (cond b (given s.count) (f k))
          step true = ap given (sym (swap_high n s.count there))
          step false = refl

      pub issued_swap : issued c (swapped n s) p ≡ swapped n (issued c s p)
      unfolding issued swapped
      issued_swap = λ i. record {
        count = suc s.count;
        actions = fun_ext actions i;
        places = put s.places p (place_after (next c s p) (here c s p));
        names = fun_ext (λ q. fun_ext λ k. names q k (eqb q p)) i;
        holders = s.holders;
        orders = fun_ext orders i;
      }
        where
          actions : (k : ℕ)
              → put (λ k. swap_action n (s.actions (swap n k))) s.count (new_action c (swapped n s) p) k ≡ swap_action n (put s.actions s.count (new_action c s p) (swap n k))
          actions k =
              ap₂ (λ (j : ℕ) (a : Action). put (λ k. swap_action n (s.actions (swap n k))) j a k) (sym (swap_high n s.count there)) new_swap
              ∙ put_swapped n s.actions (swap_action n) s.count (new_action c s p) k

          names : (q k : ℕ) (b : Bool)
              → cond b (renamed (λ j. swap_name n (s.names p j)) (assigns (next c s p)) (given s.count)) (λ j. swap_name n (s.names q j)) k ≡ swap_name n (cond b (renamed (s.names p) (assigns (next c s p)) (given s.count)) (s.names q) k)
          names q k true = renamed_swap (s.names p) (assigns (next c s p)) k
          names q k false = refl

          orders : (l : ℕ) → (issued c (swapped n s) p).orders l ≡ (swapped n (issued c s p)).orders l
          orders l =
              ap₂ (λ (a : Action) (i : ℕ). joins c l a (swap_order (8 + n) (s.orders l)) i (8 + s.count) (earlier c (swapped n s) p l)) new_swap (sym (swap_high (8 + n) (8 + s.count) (omega arith)))
              ∙ joined_if_swapped (ltb l c.locs && stands_at l (new_action c s p)) (8 + n) (s.orders l) (8 + s.count) (8 + s.count) (earlier c s p l)
              (earlier c (swapped n s) p l) low
              (λ e z. item_by (λ x. eqb x l) (λ a. eqb a.proc p && stands_at l a) (λ a. refl) e)

  module _ (pair : Pair n s) (c : Case) (t : Commit) (T : CanTake c s t) where
    self_swap : self (swapped n s) (swap_commit n t) ≡ swap_action n (self s t)
    unfolding swapped
    self_swap = ap (λ (k : ℕ). swap_action n (s.actions k)) (swap_twice n t.action)

    input_swap : (i : ℕ) → input (swapped n s) (swap_commit n t) i ≡ input s t i
    input_swap i =
        ap (λ (a : Action). or_zero (value_of (swapped n s) (get_or a.inputs i (start none)))) self_swap ∙ ap or_zero (value_at (self s t).inputs i)

    source_swap : eqb (swap (8 + n) t.source) 0 ≡ eqb t.source 0
    source_swap = swap_eqb (8 + n) t.source 0 ∙ ap (λ (x : ℕ). eqb t.source x) (swap_small (8 + n) 0 (omega arith))

    holds_swap : (j : ℕ) → holds (swapped n s) (swap_commit n t) j ≡ holds s t (swap n j)
    unfolding swapped
    holds_swap j =
        ap
        (λ (a : Action). waiting t.proc (s.actions (swap n j)) && held_by (kind_of a) (kind_of (s.actions (swap n j))) (eqb (s.actions (swap n j)).loc a.loc))
        self_swap

    free_swap : some_below (swap n t.action) (holds (swapped n s) (swap_commit n t)) ≡ false
    free_swap = fails (some_below t.action (holds s t)) _ back T.free
      where
        back : some_below (swap n t.action) (holds (swapped n s) (swap_commit n t)) ≡ true → some_below t.action (holds s t) ≡ true
        back h =
            ⊎_elim
            (λ l. below_make t.action (holds s t) (swap n r.0) l k)
            (λ e. absurd (pair.differ (proc_of t.action n T.waits e.0 ∙ sym (proc_of (swap n r.0) (suc n) (and_both _ _ k).0 e.2))))
            (swap_before n r.0 t.action r.1)
          where
            r : (j : ℕ) × (j < swap n t.action) × (holds (swapped n s) (swap_commit n t) j ≡ true)
            r = below_cases (swap n t.action) (holds (swapped n s) (swap_commit n t)) h

            k : holds s t (swap n r.0) ≡ true
            k = sym (holds_swap r.0) ∙ r.2

            proc_of : (i j : ℕ) → waiting t.proc (s.actions i) ≡ true → i ≡ j → (s.actions j).proc ≡ t.proc
            proc_of i j w e = ap (λ (x : ℕ). (s.actions x).proc) (sym e) ∙ waits_proc t.proc (s.actions i) w

    pub commit_swap : CanTake c (swapped n s) (swap_commit n t)
    unfolding swapped
    commit_swap =
        record {
          proc = T.proc;
          there = swap_low n t.action s.count T.there pair.there;
          waits = ap (waiting t.proc) self_swap ∙ T.waits;
          plain = ap₂ (λ (b : Bool) (a : Action). not b && not (reading (kind_of a))) source_swap self_swap ∙ T.plain;
          free = free_swap;
          ready = ap (λ (a : Action). any (λ m. is_none (value_of (swapped n s) m)) a.inputs) self_swap ∙ ready_swap (self s t).inputs ∙ T.ready;
          low = ap₂ (λ (a : Action) (x : ℕ). syncs (kind_of a) && leb c.locs x) self_swap (input_swap 0) ∙ T.low;
          allowed = ap₂ (λ (a : Action) (x : ℕ). barred t.proc (kind_of a) (s.holders x)) self_swap (input_swap 0) ∙ T.allowed;
          sees = ap₂ (λ (a : Action) (b : Bool). reading (kind_of a) && not b) self_swap sees ∙ T.sees;
        }
      where
        sees : visible c (swapped n s) (self (swapped n s) (swap_commit n t)).loc (item (swap_commit n t)) (swap (8 + n) t.source) ≡ visible c s (self s t).loc (item t) t.source
        sees =
            ap (λ (a : Action). visible c (swapped n s) a.loc (item (swap_commit n t)) (swap (8 + n) t.source)) self_swap
            ∙ visible_swap pair.there c (self s t).loc (8 + swap n t.action) (swap (8 + n) t.source)
            ∙ ap₂ (visible c s (self s t).loc)
            (ap (swap (8 + n)) (sym (swap_item n t.action)) ∙ swap_twice (8 + n) (8 + t.action))
            (swap_twice (8 + n) t.source)

    result_swap : (i : Instr) → result_by c (swapped n s) (swap_commit n t) i ≡ result_by c s t i
    result_swap Empty = refl
    result_swap (Read d a) = ap or_zero (value_item c (swap (8 + n) t.source) ∙ ap (item_value c s) (swap_twice (8 + n) t.source))
    result_swap (Write a b) = input_swap 1
    result_swap (Local d e) = ap₂ (evaluate e) (input_swap 0) (input_swap 1)
    result_swap (Branch a l) = refl
    result_swap (Goto l) = refl
    result_swap (Acquire a) = input_swap 0
    result_swap (Release a) = input_swap 0

    settled_swap : settled_by c (swapped n s) (swap_commit n t) ≡ swap_action n (settled_by c s t)
    settled_swap = λ i. record {
      proc = (self_swap i).proc;
      place = (self_swap i).place;
      instr = (self_swap i).instr;
      inputs = (self_swap i).inputs;
      loc = (self_swap i).loc;
      result = some ((ap (λ (a : Action). result_by c (swapped n s) (swap_commit n t) a.instr) self_swap ∙ result_swap (self s t).instr) i);
    }

    pub committed_swap : committed_by c (swapped n s) (swap_commit n t) ≡ swapped n (committed_by c s t)
    unfolding committed swapped
    committed_swap = λ i. record {
      count = s.count;
      actions = fun_ext actions i;
      places = places_by (self_swap i) t.proc (input_swap 0 i) s.places;
      names = λ p k. swap_name n (s.names p k);
      holders = holders_by (self_swap i) t.proc (input_swap 0 i) s.holders;
      orders = fun_ext orders i;
    }
      where
        actions : (k : ℕ)
            → put (λ k. swap_action n (s.actions (swap n k))) (swap n t.action) (settled_by c (swapped n s) (swap_commit n t)) k ≡ swap_action n (put s.actions t.action (settled_by c s t) (swap n k))
        actions k =
            ap (λ (a : Action). put (λ k. swap_action n (s.actions (swap n k))) (swap n t.action) a k) settled_swap
            ∙ put_swapped n s.actions (swap_action n) t.action (settled_by c s t) k

        orders : (l : ℕ) → (committed_by c (swapped n s) (swap_commit n t)).orders l ≡ (swapped n (committed_by c s t)).orders l
        orders l =
            ap₂ (λ (a : Action) (x : ℕ). acquired c l a (swap_order (8 + n) (s.orders l)) (8 + swap n t.action) (8 + s.count) (releases (swapped n s) x)) self_swap (input_swap 0)
            ∙ ap
            (λ (i : ℕ). acquired c l (self s t) (swap_order (8 + n) (s.orders l)) i (8 + s.count) (releases (swapped n s) (input s t 0)))
            (sym (swap_item n t.action))
            ∙ joined_if_swapped (ltb l c.locs && acquiring (kind_of (self s t))) (8 + n) (s.orders l) (8 + t.action) (8 + s.count)
            (releases s (input s t 0)) (releases (swapped n s) (input s t 0))
            (low pair.there)
            (λ e z. item_by (λ x. false) (λ a. releasing (kind_of a) && is (input s t 0) a.result) (λ a. refl) e)

  pub finished_swap : suc n < s.count → (c : Case) → finished c (swapped n s) ≡ finished c s
  unfolding finished swapped
  finished_swap h c =
      ap (λ (f : ℕ → Bool). all f (counting 0 c.procs))
      (fun_ext λ p. ap (λ (b : Bool). not b && is (count_of c p) (s.places p)) (below_swap n s.count (λ k. waiting p (s.actions (swap n k))) (λ k. waiting p (s.actions k)) (λ k l. swap_low n k s.count l h) (λ k l. refl)))

  pub registers_swap : (c : Case) → registers c (swapped n s) ≡ registers c s
  unfolding registers swapped
  registers_swap c =
      ap
      (λ (f : ℕ → ℕ → Option ℕ). concat_map (λ p. concat_map (λ k. register_bytes (cond (ltb p c.procs) (f p k) none)) (counting 0 8)) (counting 0 4))
      (fun_ext λ p. fun_ext λ k. value_swap (s.names p k))

-- the pair stays
pair_issue : (n : ℕ) (c : Case) (s : State) (p : ℕ) → Pair n s → Pair n (issued c s p)
unfolding issued
pair_issue n c s p h =
    record {
      there = omega (arith, h.there);
      differ = λ e. h.differ (sym (old n (omega (arith, h.there))) ∙ e ∙ old (suc n) (omega (arith, h.there)));
    }
  where
    old : (k : ℕ) → k < s.count → ((issued c s p).actions k).proc ≡ (s.actions k).proc
    old k l = ap (λ (a : Action). a.proc) (issued_old c s p k l)

pair_commit : (n : ℕ) (c : Case) (s : State) (t : Commit) → Pair n s → Pair n (committed_by c s t)
unfolding committed
pair_commit n c s t h =
    let old = committed_field c s t (λ a. a.proc) refl in record { there = h.there; differ = λ e. h.differ (sym (old n) ∙ e ∙ old (suc n)) }

-- a step and its image
pub record Image (n : ℕ) (c : Case) (s : State) (t : Step) : Type 0 where
  pub step : Step
  pub fits : step_code c (swapped n s) step ≡ 0
  pub meets : after c (swapped n s) step ≡ swapped n (after c s t)
  pub pair : Pair n (after c s t)

pub image : (n : ℕ) (c : Case) (s : State) (t : Step) → Pair n s → step_code c s t ≡ 0 → Image n c s t
image n c s (issue p) h k =
    record {
      step = issue p;
      fits = issue_ok c (swapped n s) p (issue_swap n s h.there c p (can_issue c s p k));
      meets = after_issue c (swapped n s) p ∙ issued_swap n s h.there c p ∙ ap (swapped n) (sym (after_issue c s p));
      pair = rw (after_issue c s p) (pair_issue n c s p h);
    }
image n c s (commit p j e) h k =
    let t = the p j e in
    let T = can_take c s t k in
    record {
      step = as_step (swap_commit n t);
      fits = take_ok c (swapped n s) (swap_commit n t) (commit_swap n s h c t T);
      meets = after-take c (swapped n s) (swap_commit n t) ∙ committed_swap n s h c t T ∙ ap (swapped n) (sym (after-take c s t));
      pair = rw (after-take c s t) (pair_commit n c s t h);
    }
image n c s neither h k = absurd (neither_no c s k)

pub done_swap : (n : ℕ) (c : Case) {m : ℕ} {s : State} {r : List ℕ} → Pair n s → Done c s m r → Done c (swapped n s) m r
done_swap n c {m} {s} {r} h (Done.now f g) = Done.now (finished_swap n s h.there c ∙ f) (registers_swap n s c ∙ g)
done_swap n c {m} {s} {r} h (Done.later {n = k} t e d) =
    let i = image n c s t h e in
    Done.later i.step i.fits (subst (λ (x : State). Done c x k r) (sym i.meets) (done_swap n c i.pair d))

pub open_swap : (n : ℕ) (c : Case) {m : ℕ} {s : State} → Pair n s → Open c s m → Open c (swapped n s) m
open_swap n c {m} {s} h (Open.now f) = Open.now (finished_swap n s h.there c ∙ f)
open_swap n c {m} {s} h (Open.later {n = k} t e d) =
    let i = image n c s t h e in
    Open.later i.step i.fits (subst (λ (x : State). Open c x k) (sym i.meets) (open_swap n c i.pair d))
