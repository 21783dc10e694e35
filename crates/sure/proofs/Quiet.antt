-- A read whose sources cannot grow may be taken at once with each of them: outcome-quiet, cut-quiet. Assumes nothing.
use mathlib.Core.Path.{◌≡◌, refl, sym, ◌∙◌, ap, ap₂, subst, fun_ext}
use mathlib.Core.Logic.{◌⊎◌, inl, inr, ⊎_elim, ◌↔◌}
use mathlib.Core.Bool.{Bool, true, false, not, cond, ◌&&◌, false≢true}
use mathlib.Core.List.{List}
use mathlib.Core.Option.{Option, none, some}
use Prim.Native.Nat.{ℕ, zero, suc, ◌+◌, ◌-◌, ◌<◌}
use native.Mathlib.Omega.{arith}
use lib.Dec.{eqb, ltb}
use borrow.Author.Tests.{leb-false, eqb-true, eqb-false, eq-eqb, not-true}
use Rattle.words.specs.Small.{is_none, is, or_zero, put, any}
use Rattle.words.proofs.Bools.{fails, below-same, and_make, put_other, decide, put_swap, below_make, all_at, cond-false, below_fewer, and_right, and_both}
use Rattle.cases.specs.Case.{count_of, word_of}
use Rattle.cases.specs.declared.Instr.TheVariants.{Empty, Read, Write, Local, Branch, Goto, Acquire, Release}
use Rattle.cases.specs.declared.Instr.{Instr}
use Rattle.cases.specs.declared.Case.{Case}
use Rattle.runs.specs.Outcome.{CutFrom, OutcomeFrom, Leads}
use Rattle.runs.proofs.Walk.{walk}
use Rattle.rules.specs.Kinds.{reading, label_of, acquiring, branching, syncs, releasing, kind, writing}
use Rattle.rules.specs.Commit.{committed, visible, writes, held_back}
use Rattle.rules.specs.Result.{finished}
use Rattle.rules.specs.State.{Action, value_of, item_value, State, item_is, waiting, kind_of, initial}
use Rattle.rules.specs.Step.{after, commit, issue, neither, step_code, Step}
use Rattle.rules.specs.Womm.{womm}
use Rattle.rules.specs.Order.{joined_if}
use Rattle.rules.proofs.Closed.{joined_keeps}
use Rattle.rules.proofs.Orders.{joined_if-false}
use Rattle.rules.proofs.Accepted.{still, after_commit, Visible, can_issue, visible_make, can_commit, neither_no, counting_mem, finished_still, between}
use Rattle.sure.specs.Quiet.{ended, pending, quiet}
use Rattle.sure.specs.Told.{Done, Open}
use Rattle.sure.proofs.Kept.{holds_kept, ready_kept, queue_put, values_put, Kept, kept_commit, waits-none, waits_proc, input_same, item_kept, carry, settled_same}
use Rattle.sure.proofs.Good.{turning_at, good, good_initial, Good, good_step}
use Rattle.sure.proofs.Commits.{acquired, unbarred, places_by, holders_by, item_test}
use Rattle.sure.proofs.Reduce.{done_from, done_to, open_from, open_to}
use Rattle.sure.proofs.Commit.{settled_by, Commit, input, CanTake, releases, can_take, as_step, result_by, sees_take, the, self, committed_by, take_ok, item, holds, after-take}
use Rattle.sure.proofs.Held.{read_only}

read_result : (c : Case) (s : State) (t : Commit) (i : Instr) → reading (kind i) ≡ true → result_by c s t i ≡ or_zero (item_value c s t.source)
read_result c s t Empty h = absurd (false≢true h)
read_result c s t (Read d a) h = refl
read_result c s t (Write a b) h = absurd (false≢true h)
read_result c s t (Local d e) h = absurd (false≢true h)
read_result c s t (Branch a l) h = absurd (false≢true h)
read_result c s t (Goto l) h = absurd (false≢true h)
read_result c s t (Acquire a) h = absurd (false≢true h)
read_result c s t (Release a) h = absurd (false≢true h)

-- the action with the value v
abbrev pub valued : ℕ → Action → Action
valued v a = record { proc = a.proc; place = a.place; instr = a.instr; inputs = a.inputs; loc = a.loc; result = some v }

-- the state with the value v for action k
pub forced : ℕ → ℕ → State → State
forced k v s =
    record {
      count = s.count;
      actions = put s.actions k (valued v (s.actions k));
      places = s.places;
      names = s.names;
      holders = s.holders;
      orders = s.orders;
    }

-- the commit of action k, a read of processor p, is accepted but for its source
pub record Poised (c : Case) (s : State) (p k : ℕ) : Type 0 where
  pub proc : p < c.procs
  pub there : k < s.count
  pub waits : waiting p (s.actions k) ≡ true
  pub reads : reading (kind_of (s.actions k)) ≡ true
  pub free : held_back c s p k 0 ≡ false
  pub ready : any (λ n. is_none (value_of s n)) (s.actions k).inputs ≡ false

module _ (c : Case) (s : State) (p k : ℕ) where
  -- a source that it sees is accepted
  pub can_of : Poised c s p k → (e : ℕ) → Visible c s (s.actions k).loc (8 + k) e → CanTake c s (the p k e)
  can_of P e v =
      let o = read_only (kind_of (s.actions k)) P.reads in
      record {
        proc = P.proc;
        there = P.there;
        waits = P.waits;
        plain = rw P.reads (and_right (not (eqb e 0)) false refl);
        free = P.free;
        ready = P.ready;
        low = rw (o.1, o.2) refl;
        allowed = unbarred p (kind_of (s.actions k)) (s.holders (input s (the p k e) 0)) (rw (o.1, o.2) refl);
        sees = rw (P.reads, visible_make c s (s.actions k).loc (8 + k) e v) refl;
      }

  pub poised_of : (e : ℕ) → reading (kind_of (s.actions k)) ≡ true → CanTake c s (the p k e) → Poised c s p k
  poised_of e r h = record { proc = h.proc; there = h.there; waits = h.waits; reads = r; free = h.free; ready = h.ready }

  poised_kept : (s' : State) → Kept s s' k → Poised c s p k → Poised c s' p k
  poised_kept s' K P =
      record {
        proc = P.proc;
        there = omega (arith, P.there, K.more);
        waits = rw K.same P.waits;
        reads = rw K.same P.reads;
        free = below_fewer k (holds s (the p k 0)) (holds s' (the p k 0)) (holds_kept s s' (the p k 0) K) P.free;
        ready = rw K.same (ready_kept s s' k K (s.actions k).inputs P.ready);
      }

-- a value for action k, a read in the queue, hinders no other commit
module _ (c : Case) (s : State) (k v : ℕ) (w : (s.actions k).result ≡ none) (r : reading (kind_of (s.actions k)) ≡ true) where
  forced_test : (b : Bool) (f : Action → Bool) → f (valued v (s.actions k)) ≡ f (s.actions k) → (e : ℕ)
      → item_is b f (forced k v s) e ≡ item_is b f s e
  unfolding forced
  forced_test b f h e = ap (λ (x : Bool). cond (ltb e 8) b x) (step (eqb (e - 8) k) refl)
    where
      step : (q : Bool) → eqb (e - 8) k ≡ q → f (cond q (valued v (s.actions k)) (s.actions (e - 8))) ≡ f (s.actions (e - 8))
      step true q = h ∙ ap (λ (j : ℕ). f (s.actions j)) (sym (eqb-true _ _ q))
      step false q = refl

  module _ (u : Commit) (U : CanTake c s u) (d : u.action ≡ k → ⊥) where
    kept : Kept s (forced k v s) u.action
    unfolding forced
    kept =
        record {
          more = omega arith;
          same = put_other s.actions k u.action (valued v (s.actions k)) d;
          values = values_put s (forced k v s) k (valued v (s.actions k)) refl w;
          queue = λ p j l. queue_put s.actions k (valued v (s.actions k)) v refl p j;
        }

    writes-same : (l e : ℕ) → writes (forced k v s) l e ≡ writes s l e
    writes-same l e = forced_test (eqb e l) (λ a. writing (kind_of a) && eqb a.loc l) refl e

    visible-same : (l i e : ℕ) → Visible c s l i e → Visible c (forced k v s) l i e
    unfolding forced
    visible-same l i e x =
        record {
          one = writes-same l e ∙ x.one;
          known = rw (item_kept c s (forced k v s) u kept U e x.known) x.known;
          newest =
              below-same (8 + s.count) (between (forced k v s) l i e) (between s l i e)
              (λ z q. ap (λ (b : Bool). b && (s.orders l e z && s.orders l z i)) (writes-same l z))
              ∙ x.newest;
          before = x.before;
        }

    pub forced_can : CanTake c (forced k v s) u
    unfolding forced
    forced_can = carry c s (forced k v s) u kept U U.allowed (sees (decide (reading (kind_of (self s u)))))
      where
        sees : (reading (kind_of (self s u)) ≡ true) ⊎ (reading (kind_of (self s u)) ≡ false)
            → (reading (kind_of (self s u)) && not (visible c (forced k v s) (self s u).loc (item u) u.source)) ≡ false
        sees (inl r) = rw (r, visible_make c (forced k v s) (self s u).loc (item u) u.source (visible-same _ _ _ (sees_take c s u U r))) refl
        sees (inr r) = rw r

    pub forced_meets : committed_by c (forced k v s) u ≡ forced k v (committed_by c s u)
    unfolding forced committed
    forced_meets = λ i. record {
      count = s.count;
      actions = actions i;
      places = places_by (kept.same i) u.proc (input_same c s (forced k v s) u kept U 0 i) s.places;
      names = s.names;
      holders = holders_by (kept.same i) u.proc (input_same c s (forced k v s) u kept U 0 i) s.holders;
      orders = fun_ext orders i;
    }
      where
        actions : put (put s.actions k (valued v (s.actions k))) u.action (settled_by c (forced k v s) u) ≡ put (put s.actions u.action (settled_by c s u)) k (valued v (put s.actions u.action (settled_by c s u) k))
        actions =
            ap (λ (a : Action). put (put s.actions k (valued v (s.actions k))) u.action a) (settled_same c s (forced k v s) u kept U)
            ∙ put_swap s.actions k u.action (valued v (s.actions k)) (settled_by c s u) (λ e. d (sym e))
            ∙ ap
            (λ (a : Action). put (put s.actions u.action (settled_by c s u)) k (valued v a))
            (sym (put_other s.actions u.action k (settled_by c s u) (λ e. d (sym e))))

        orders : (l : ℕ) → (committed_by c (forced k v s) u).orders l ≡ (committed_by c s u).orders l
        orders l =
            ap₂ (λ (a : Action) (x : ℕ). acquired c l a (s.orders l) (item u) (8 + s.count) (releases (forced k v s) x)) kept.same (input_same c s (forced k v s) u kept U 0)
            ∙ ap
            (acquired c l (self s u) (s.orders l) (item u) (8 + s.count))
            (fun_ext λ e. forced_test false (λ a. releasing (kind_of a) && is (input s u 0) a.result) (rw (read_only (kind_of (s.actions k)) r).2 refl) e)

-- an accepted commit of the read gives it the source's value
forced_by : (c : Case) (s : State) (t : Commit) → reading (kind_of (self s t)) ≡ true
    → committed_by c s t ≡ forced t.action (or_zero (item_value c s t.source)) s
unfolding forced committed
forced_by c s t r =
    let k = read_only (kind_of (self s t)) r in
    λ i. record {
      count = s.count;
      actions = put s.actions t.action (valued (read_result c s t (self s t).instr r i) (self s t));
      places =
          cond-false (branching (kind_of (self s t)))
          (put s.places t.proc (some (cond (eqb (input s t 0) 0) (suc (self s t).place) (label_of (self s t).instr))))
          s.places k.0 i;
      names = s.names;
      holders =
          cond-false (syncs (kind_of (self s t)))
          (put s.holders (input s t 0) (cond (acquiring (kind_of (self s t))) (some t.proc) none))
          s.holders (rw (k.1, k.2) refl) i;
      orders =
          fun_ext
          {f = λ l. acquired c l (self s t) (s.orders l) (item t) (8 + s.count) (releases s (input s t 0))}
          {g = s.orders}
          (λ l. joined_if-false (ltb l c.locs && acquiring (kind_of (self s t))) (s.orders l) (item t) (8 + s.count) (releases s (input s t 0)) (and_right (ltb l c.locs) _ k.1))
          i;
    }

-- the read's sources cannot grow: nothing is issued any more, and no write to its location waits
pub record Quiet (c : Case) (s : State) (p k : ℕ) : Type 0 where
  pub poised : Poised c s p k
  pub ended : (q : ℕ) → q < c.procs → s.places q ≡ some (count_of c q)
  pub silent : (j : ℕ) → j < s.count → (s.actions j).result ≡ none → writing (kind_of (s.actions j)) ≡ true → (s.actions j).loc ≡ (s.actions k).loc
      → ⊥

-- an accepted read that passes the test `quiet`
pub quiet_cases : (c : Case) (s : State) (p k e : ℕ) → step_code c s (commit p k e) ≡ 0 → quiet c s k ≡ true → Quiet c s p k
unfolding quiet ended
quiet_cases c s p k e h q =
    let a = and_both (reading (kind_of (s.actions k))) _ q in
    let b = and_both (ended c s) _ a.1 in
    record {
      poised = poised_of c s p k e a.0 (can_commit c s p k e h);
      ended = λ r l. is_some (count_of c r) (s.places r) (all_at (λ r. is (count_of c r) (s.places r)) (counting_mem c.procs 0 r (omega arith) (omega arith)) b.0);
      silent = λ j l x y z.
          false≢true
          (sym (not-true _ b.1) ∙ below_make s.count (λ j. pending (s.actions k).loc (s.actions j)) j l (and_make (is_none (s.actions j).result) _ (ap is_none x) (and_make (writing (kind_of (s.actions j))) _ y (eq-eqb _ _ z))));
    }
  where
    is_some : (n : ℕ) (o : Option ℕ) → is n o ≡ true → o ≡ some n
    is_some n none q = absurd (false≢true q)
    is_some n (some m) q = ap some (eqb-true m n q)

module _ (c : Case) (s : State) (p k : ℕ) (G : Good s) (Q : Quiet c s p k) where
  no_issue : (q : ℕ) → step_code c s (issue q) ≡ 0 → ⊥
  no_issue q h =
      let I = can_issue c s q h in omega (arith, leb-false (count_of c q) (or_zero (s.places q)) I.inside, ap or_zero (Q.ended q I.proc))

  -- the read waits: the machine is not finished
  unfinished : finished c s ≡ true → ⊥
  unfinished f =
      false≢true
      (sym (still c s f p Q.poised.proc).0 ∙ below_make s.count (λ j. waiting p (s.actions j)) k Q.poised.there Q.poised.waits)

  module _ (u : Commit) (U : CanTake c s u) (d : k ≡ u.action → ⊥) where
    K : Kept s (committed_by c s u) (k)
    K = kept_commit c s u (k) U d

    places_same : (p : ℕ) → p < c.procs → (committed_by c s u).places p ≡ s.places p
    unfolding committed
    places_same p l = step (branching (kind_of (self s u))) refl
      where
        step : (b : Bool) → branching (kind_of (self s u)) ≡ b
            → cond b (put s.places u.proc (some (cond (eqb (input s u 0) 0) (suc (self s u).place) (label_of (self s u).instr)))) s.places p ≡ s.places p
        step true e =
            put_other s.places u.proc p _
            λ q. false≢true (sym (ap is_none (Q.ended p l)) ∙ G.halts p u.action (turning_at c s u U p (sym q) e))
        step false e = refl

    silent_kept : (j : ℕ) → j < s.count → ((committed_by c s u).actions j).result ≡ none → writing (kind_of ((committed_by c s u).actions j)) ≡ true
        → ((committed_by c s u).actions j).loc ≡ (s.actions k).loc → ⊥
    unfolding committed
    silent_kept j l = step (eqb j u.action)
      where
        step : (b : Bool) → (cond b (settled_by c s u) (s.actions j)).result ≡ none → writing (kind_of (cond b (settled_by c s u) (s.actions j))) ≡ true
            → (cond b (settled_by c s u) (s.actions j)).loc ≡ (s.actions k).loc → ⊥
        step true x y z = false≢true (ap is_none x)
        step false x y z = Q.silent j l x y z

    quiet-kept : Quiet c (committed_by c s u) p k
    unfolding committed
    quiet-kept =
        record {
          poised = poised_kept c s p k (committed_by c s u) K Q.poised;
          ended = λ p l. places_same p l ∙ Q.ended p l;
          silent = λ j l x y z. silent_kept j l x y (z ∙ ap (λ (a : Action). a.loc) K.same);
        }

    grows : (l a b : ℕ) → s.orders l a b ≡ true → (committed_by c s u).orders l a b ≡ true
    unfolding committed joined_if
    grows l a b h = step (ltb l c.locs && acquiring (kind_of (self s u)))
      where
        step : (x : Bool) → joined_if x (s.orders l) (item u) (8 + s.count) (releases s (input s u 0)) a b ≡ true
        step true = joined_keeps (s.orders l) (item u) (8 + s.count) (releases s (input s u 0)) a b h
        step false = h

    writes-back : (l e : ℕ) → writes (committed_by c s u) l e ≡ writes s l e
    writes-back l e = item_test c s u (eqb e l) (λ a. writing (kind_of a) && eqb a.loc l) refl e

    visible-back : (i e : ℕ) → Visible c (committed_by c s u) (s.actions k).loc i e → Visible c s (s.actions k).loc i e
    unfolding committed
    visible-back i e v =
        record {
          one = sym (writes-back (s.actions k).loc e) ∙ v.one;
          known = known (ltb e 8) refl v.known;
          newest = below_fewer (8 + s.count) (between (committed_by c s u) (s.actions k).loc i e) (between s (s.actions k).loc i e) fewer v.newest;
          before = fails ((committed_by c s u).orders (s.actions k).loc i e) (s.orders (s.actions k).loc i e) (grows (s.actions k).loc i e) v.before;
        }
      where
        -- u gives a value to no write of this location
        other : ltb e 8 ≡ false → e - 8 ≡ u.action → ⊥
        other q x =
            let f = sym (cond-false (ltb e 8) (eqb e (s.actions k).loc) (writing (kind_of (s.actions (e - 8))) && eqb (s.actions (e - 8)).loc (s.actions k).loc) q) ∙ sym (writes-back (s.actions k).loc e) ∙ v.one in
            let w = and_both (writing (kind_of (s.actions (e - 8)))) (eqb (s.actions (e - 8)).loc (s.actions k).loc) f in
            Q.silent (e - 8) (omega (arith, U.there)) (ap (λ (j : ℕ). (s.actions j).result) x ∙ waits-none u.proc (self s u) U.waits) w.0 (eqb-true _ _ w.1)

        known : (b : Bool) → ltb e 8 ≡ b
            → is_none (cond b (some (word_of c e)) (put s.actions u.action (settled_by c s u) (e - 8)).result) ≡ false
            → is_none (cond b (some (word_of c e)) (s.actions (e - 8)).result) ≡ false
        known true q h = refl
        known false q h = ap (λ (a : Action). is_none a.result) (sym (put_other s.actions u.action (e - 8) (settled_by c s u) (other q))) ∙ h

        fewer : (w : ℕ) → w < 8 + s.count → between s (s.actions k).loc i e w ≡ true → between (committed_by c s u) (s.actions k).loc i e w ≡ true
        fewer w l h =
            let x = and_both (writes s (s.actions k).loc w) _ h in
            let y = and_both (s.orders (s.actions k).loc e w) (s.orders (s.actions k).loc w i) x.1 in
            and_make _ _ (writes-back (s.actions k).loc w ∙ x.0) (and_make _ _ (grows _ e w y.0) (grows _ w i y.1))

module _ (c : Case) where
  -- the read takes one source, and then P
  pub record Taken (P : State → Type 0) (s : State) (p k : ℕ) : Type 0 where
    pub source : ℕ
    pub fits : step_code c s (commit p k source) ≡ 0
    pub then' : P (after c s (commit p k source))

  -- the read, with source e, is committed
  read_after : (s : State) (p k e : ℕ) → Quiet c s p k → after c s (commit p k e) ≡ forced k (or_zero (item_value c s e)) s
  read_after s p k e Q = after_commit c s p k e ∙ forced_by c s (the p k e) Q.poised.reads

  -- the commit u of another action
  module _ (s : State) (p k : ℕ) (u : Commit) (G : Good s) (Q : Quiet c s p k) (h : step_code c s (as_step u) ≡ 0) (d : k ≡ u.action → ⊥) where
    U : CanTake c s u
    U = can_take c s u h

    d' : u.action ≡ k → ⊥
    d' e = d (sym e)

    waits : (s.actions k).result ≡ none
    waits = waits-none p (s.actions k) Q.poised.waits

    -- u at the state with the read's value v
    forced_fits : (v : ℕ) → step_code c (forced k v s) (as_step u) ≡ 0
    forced_fits v = take_ok c (forced k v s) u (forced_can c s k v waits Q.poised.reads u U d')

    forced_after : (v : ℕ) → after c (forced k v s) (as_step u) ≡ forced k v (after c s (as_step u))
    forced_after v = after-take c (forced k v s) u ∙ forced_meets c s k v waits Q.poised.reads u U d' ∙ ap (forced k v) (sym (after-take c s u))

    -- the read after u moves to the front
    front : (P : State → Type 0) (R : State → Type 0) → ((x : State) → step_code c x (as_step u) ≡ 0 → P (after c x (as_step u)) → R x)
        → Taken P (after c s (as_step u)) p k → Taken R s p k
    front P R more o =
        record {
          source = e;
          fits = take_ok c s (the p k e) C;
          then' = subst R (sym (read_after s p k e Q)) (more (forced k v s) (forced_fits v) (subst P path o.then'));
        }
      where
        e : ℕ
        e = o.source

        su : State
        su = committed_by c s u

        Q' : Quiet c su p k
        Q' = quiet-kept c s p k G Q u U d

        C' : CanTake c su (the p k e)
        C' = can_take c su (the p k e) (subst (λ (x : State). step_code c x (commit p k e) ≡ 0) (after-take c s u) o.fits)

        sight : Visible c s (s.actions k).loc (8 + k) e
        sight =
            visible-back c s p k G Q u U d (8 + k) e
            (subst (λ (a : Action). Visible c su a.loc (8 + k) e) (K c s p k G Q u U d).same (sees_take c su (the p k e) C' Q'.poised.reads))

        C : CanTake c s (the p k e)
        C = can_of c s p k Q.poised e sight

        v : ℕ
        v = or_zero (item_value c s e)

        path : after c (after c s (as_step u)) (commit p k e) ≡ after c (forced k v s) (as_step u)
        path =
            ap (λ (x : State). after c x (commit p k e)) (after-take c s u)
            ∙ read_after su p k e Q'
            ∙ ap (λ (o : Option ℕ). forced k (or_zero o) su) (item_kept c s su (the p k e) (K c s p k G Q u U d) C e sight.known)
            ∙ ap (forced k v) (sym (after-take c s u))
            ∙ sym (forced_after v)

    quiet-after : Quiet c (after c s (as_step u)) p k
    quiet-after = subst (λ (x : State). Quiet c x p k) (sym (after-take c s u)) (quiet-kept c s p k G Q u U d)

  -- a step from s is the read with some source, or the commit of another action
  data Splits (s : State) (p k : ℕ) : Step → Type 0 where
    this : (e : ℕ) → Splits s p k (commit p k e)
    that : (u : Commit) → (k ≡ u.action → ⊥) → Splits s p k (as_step u)

  split : (s : State) (p k : ℕ) (u : Step) → Good s → Quiet c s p k → step_code c s u ≡ 0 → Splits s p k u
  split s p k (issue q) G Q h = absurd (no_issue c s p k G Q q h)
  split s p k (commit q j e) G Q h = ⊎_elim same (λ x. that (the q j e) (eqb-false k j x)) (decide (eqb k j))
    where
      same : eqb k j ≡ true → Splits s p k (commit q j e)
      same x =
          let i = eqb-true k j x in
          let o : q ≡ p = sym (waits_proc q (s.actions j) (can_commit c s q j e h).waits) ∙ ap (λ (i : ℕ). (s.actions i).proc) (sym i) ∙ waits_proc p (s.actions k) Q.poised.waits in
          subst (Splits s p k) (λ z. commit (sym o z) (i z) e) (this e)
  split s p k neither G Q h = absurd (neither_no c s h)

  -- each finished run takes the read with one of its sources at s, and may take it first
  read_done : (n : ℕ) (s : State) (p k : ℕ) (r : List ℕ) → Good s → Quiet c s p k → Done c s (suc n) r → Taken (λ x. Done c x n r) s p k
  read_done n s p k r G Q (Done.now f e) = absurd (unfinished c s p k G Q f)
  read_done zero s p k r G Q (Done.later u h d) = step u h d (split s p k u G Q h)
    where
      end : (x : State) → Done c x zero r → finished c x ≡ true
      end x (Done.now f e) = f

      step : (u : Step) → step_code c s u ≡ 0 → Done c (after c s u) zero r → Splits s p k u → Taken (λ x. Done c x zero r) s p k
      step u h d (this e) = record { source = e; fits = h; then' = d }
      step u h d (that v x) =
          absurd (unfinished c (after c s (as_step v)) p k (good_step c s G (as_step v) h) (quiet-after s p k v G Q h x) (end (after c s (as_step v)) d))
  read_done (suc n) s p k r G Q (Done.later u h d) = step u h d (λ G' Q'. read_done n (after c s u) p k r G' Q' d) (split s p k u G Q h)
    where
      step : (u : Step) → step_code c s u ≡ 0 → Done c (after c s u) (suc n) r
          → (Good (after c s u) → Quiet c (after c s u) p k → Taken (λ x. Done c x n r) (after c s u) p k) → Splits s p k u
          → Taken (λ x. Done c x (suc n) r) s p k
      step u h d more (this e) = record { source = e; fits = h; then' = d }
      step u h d more (that v x) =
          front s p k v G Q h x (λ x. Done c x n r) (λ x. Done c x (suc n) r) (λ x a b. Done.later (as_step v) a b)
          (more (good_step c s G (as_step v) h) (quiet-after s p k v G Q h x))

  -- an unfinished run takes the read, or runs as well with any value v for it
  read_open : (n : ℕ) (s : State) (p k v : ℕ) → Good s → Quiet c s p k → Open c s (suc n) → Taken (λ x. Open c x n) s p k ⊎ Open c (forced k v s) n
  read_open zero s p k v G Q (Open.later u h d) = step u h d (split s p k u G Q h)
    where
      stands : (u : Step) → step_code c (forced k v s) u ≡ 0 → Open c (forced k v s) zero
      stands u q = ⊎_elim (λ f. absurd (finished_still c (forced k v s) f u q)) (λ f. Open.now f) (decide (finished c (forced k v s)))

      step : (u : Step) → step_code c s u ≡ 0 → Open c (after c s u) zero → Splits s p k u
          → Taken (λ x. Open c x zero) s p k ⊎ Open c (forced k v s) zero
      step u h d (this e) = inl (record { source = e; fits = h; then' = d })
      step u h d (that w x) = inr (stands (as_step w) (forced_fits s p k w G Q h x v))
  read_open (suc n) s p k v G Q (Open.later u h d) = step u h d (λ G' Q'. read_open n (after c s u) p k v G' Q' d) (split s p k u G Q h)
    where
      step : (u : Step) → step_code c s u ≡ 0 → Open c (after c s u) (suc n)
          → (Good (after c s u) → Quiet c (after c s u) p k → Taken (λ x. Open c x n) (after c s u) p k ⊎ Open c (forced k v (after c s u)) n)
          → Splits s p k u
          → Taken (λ x. Open c x (suc n)) s p k ⊎ Open c (forced k v s) (suc n)
      step u h d more (this e) = inl (record { source = e; fits = h; then' = d })
      step u h d more (that w x) =
          ⊎_elim
          (λ o. inl (front s p k w G Q h x (λ x. Open c x n) (λ x. Open c x (suc n)) (λ x a b. Open.later (as_step w) a b) o))
          (λ o. inr (Open.later (as_step w) (forced_fits s p k w G Q h x v) (subst (λ (x : State). Open c x n) (sym (forced_after s p k w G Q h x v)) o)))
          (more (good_step c s G (as_step w) h) (quiet-after s p k w G Q h x))

  -- the same of runs, at a good state
  module _ (s : State) (p k e : ℕ) (G : Good s) (h : step_code c s (commit p k e) ≡ 0) (q : quiet c s k ≡ true) where
    Q : Quiet c s p k
    Q = quiet_cases c s p k e h q

    pub done_read : (n : ℕ) (r : List ℕ) → Done c s (suc n) r → Taken (λ x. Done c x n r) s p k
    done_read n r d = read_done n s p k r G Q d

    pub open_read : (n : ℕ) → Open c s (suc n) → Taken (λ x. Open c x n) s p k
    open_read n d =
        ⊎_elim (λ o. o)
        (λ o. record { source = e; fits = h; then' = subst (λ (x : State). Open c x n) (sym (read_after s p k e Q)) o })
        (read_open n s p k (or_zero (item_value c s e)) G Q d)

  -- THE THEOREM: at a state that an accepted schedule leads to, an accepted quiet read may be taken at once, with each of its sources
  -- and nothing else, for outcomes and for the cut.
  module _ (s : State) (ts : List Step) (w : Leads (womm c) (initial c) ts s) (p k e : ℕ) (h : step_code c s (commit p k e) ≡ 0) (q : quiet c s k ≡ true) (n : ℕ) where
    G : Good s
    G = good c (walk (womm c) ts (initial c) s w) (good_initial c)

    pub outcome_quiet : (r : List ℕ) → OutcomeFrom (womm c) s (suc n) r ↔ Taken (λ x. OutcomeFrom (womm c) x n r) s p k
    outcome_quiet r = (
      λ o. let x =
          done_read s p k e G h q n r (done_to c (suc n) s r o) in record { source = x.source; fits = x.fits; then' = done_from c n x.then' },
      λ x. done_from c (suc n) (Done.later (commit p k x.source) x.fits (done_to c n (after c s (commit p k x.source)) r x.then')),
    )

    pub cut_quiet : CutFrom (womm c) s (suc n) ↔ Taken (λ x. CutFrom (womm c) x n) s p k
    cut_quiet = (
      λ o. let x = open_read s p k e G h q n (open_to c (suc n) s o) in record { source = x.source; fits = x.fits; then' = open_from c x.then' },
      λ x. open_from c (Open.later (commit p k x.source) x.fits (open_to c n (after c s (commit p k x.source)) x.then')),
    )
