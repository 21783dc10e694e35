-- A read whose sources cannot grow, since nothing that is queued or may still be issued writes its location, may be taken at once with each of
-- them: outcome-wide, cut-wide, told-wide. Assumes nothing.
use mathlib.Core.Path.{◌≡◌, refl, sym, ◌∙◌, ap, subst}
use mathlib.Core.Logic.{◌⊎◌, inl, inr, ⊎_elim, ◌↔◌}
use mathlib.Core.Bool.{Bool, true, false, not, cond, ◌&&◌, ◌||◌, false≢true}
use mathlib.Core.List.{List, map}
use mathlib.Core.Option.{Option, none, some}
use Prim.Native.Nat.{ℕ, zero, suc, ◌+◌, ◌-◌, ◌<◌}
use native.Mathlib.Omega.{arith}
use lib.Dec.{eqb, ltb}
use lib.ListN.{get_or}
use borrow.Author.Tests.{eqb-true, eqb-false, eq-eqb, le-ltb, ltb-false, not-true}
use Rattle.words.specs.Small.{is_none, or_zero, is, put, some_below}
use Rattle.words.proofs.Bools.{decide, or_left, or_right, and_both, and_make, and_rest, fails, below_cases, below_make, below_fewer, cond-true, cond-false, put_other}
use Rattle.cases.specs.Case.{count_of, instr_at, preset_of, word_of}
use Rattle.cases.specs.declared.Instr.TheVariants.{Empty, Read, Write, Local, Branch, Goto, Acquire, Release}
use Rattle.cases.specs.declared.Instr.{Instr}
use Rattle.cases.specs.declared.Case.{Case}
use Rattle.runs.specs.Outcome.{OutcomeFrom, CutFrom}
use Rattle.runs.specs.Reachable.{Reachable}
use Rattle.runs.specs.Wanted.{Wish}
use Rattle.runs.proofs.Reachable.{reachable_step}
use Rattle.rules.specs.Kinds.{kind, reading, writing, accesses, acquiring, reads, assigns}
use Rattle.rules.specs.Commit.{committed, writes}
use Rattle.rules.specs.Issue.{issued, new_action, next, address, earlier}
use Rattle.rules.specs.Order.{joined_if}
use Rattle.rules.specs.Origin.{Sets}
use Rattle.rules.specs.Result.{finished}
use Rattle.rules.specs.State.{State, Action, Name, start, kind_of, waiting, value_of, item_value, stands_at}
use Rattle.rules.specs.Step.{Step, issue, commit, neither, step_code, after}
use Rattle.rules.specs.Womm.{womm}
use Rattle.rules.proofs.Accepted.{CanIssue, can_issue, after_issue, Visible, between, neither_no, finished_still}
use Rattle.rules.proofs.Closed.{joined_keeps}
use Rattle.rules.proofs.Origins.{Named, untouched, newest, Bound}
use Rattle.sure.specs.Ahead.{assigned, may_name}
use Rattle.sure.specs.Quiet.{pending}
use Rattle.sure.specs.Spent.{Spent, step_by, taking}
use Rattle.sure.specs.Sure.{Sized}
use Rattle.sure.specs.Told.{Done, Open, Question, outcome, cut, Run, Told}
use Rattle.sure.specs.Wide.{may_write, wide}
use Rattle.sure.proofs.Ahead.{Barren, barren_of, barren_next, barren_step, place-some}
use Rattle.sure.proofs.Kept.{issued_old, issued_new, kept_commit, waits-none, waits_proc}
use Rattle.sure.proofs.Good.{Good}
use Rattle.sure.proofs.Issues.{item_old}
use Rattle.sure.proofs.Commits.{item_test}
use Rattle.sure.proofs.Reduce.{done_from, done_to, open_from, open_to}
use Rattle.sure.proofs.Known.{Known, known}
use Rattle.sure.proofs.Moves.{Moves}
use Rattle.sure.proofs.Quiet.{Poised, poised_of, can_of, Taken}
use Rattle.sure.proofs.Spent.{Elsewhere, read_moves}
use Rattle.sure.proofs.Sweep.{Sweep, Tested}
use Rattle.sure.proofs.Commit.{Commit, CanTake, the, as_step, self, input, releases, item, settled_by, committed_by, can_take, take_ok, after-take, sees_take}

-- the address register of a write
write_address : (x : Instr) (f : ℕ → Name) → writing (kind x) ≡ true → get_or (map f (reads x)) 0 (start none) ≡ f (get_or (reads x) 0 0)
write_address Empty f h = absurd (false≢true h)
write_address (Read d a) f h = absurd (false≢true h)
write_address (Write a b) f h = refl
write_address (Local d e) f h = absurd (false≢true h)
write_address (Branch a l) f h = absurd (false≢true h)
write_address (Goto l) f h = absurd (false≢true h)
write_address (Acquire a) f h = absurd (false≢true h)
write_address (Release a) f h = absurd (false≢true h)

-- a register that has the value l is assigned, or starts with l
named_value : (c : Case) (s : State) → Bound c s → (p r l : ℕ) {x : Name} → Named c s s.count p r x → value_of s x ≡ some l
    → (assigned c p r || is l (preset_of c p r)) ≡ true
unfolding assigned
named_value c s B p r l (untouched u) e =
    or_right (some_below (count_of c p) (λ i. is r (assigns (instr_at c p i)))) (is l (preset_of c p r)) (ap (is l) e ∙ eq-eqb l l refl)
named_value c s B p r l (newest k h y u) e =
    let R = B.actions k h in
    let o = y.proc in
    let inside : (s.actions k).place < count_of c p = subst (λ (q : ℕ). (s.actions k).place < count_of c q) o R.place in
    let there : is r (assigns (instr_at c p (s.actions k).place)) ≡ true = ap (λ (q : ℕ). is r (assigns (instr_at c q (s.actions k).place))) (sym o) ∙ ap (λ (x : Instr). is r (assigns x)) (sym R.instr) ∙ ap (is r) y.sets ∙ eq-eqb r r refl in
    or_left (some_below (count_of c p) (λ i. is r (assigns (instr_at c p i)))) (is l (preset_of c p r)) (below_make (count_of c p) (λ i. is r (assigns (instr_at c p i))) (s.actions k).place inside there)

-- a write that is issued is to a location that its instruction may write
may_write_lem : (c : Case) (s : State) → Bound c s → (q l : ℕ) → CanIssue c s q → writing (kind (next c s q)) ≡ true → (new_action c s q).loc ≡ l
    → may_write c l q (next c s q) ≡ true
may_write_lem c s B q l I w e =
    let a : accesses (kind (next c s q)) ≡ true = or_right (reading (kind (next c s q))) (writing (kind (next c s q))) w in
    let v = place-some (address c s q) (and_rest (accesses (kind (next c s q))) (is_none (address c s q)) I.known a) in
    let loc : or_zero (address c s q) ≡ l = sym (cond-true (accesses (kind (next c s q))) (or_zero (address c s q)) 0 a) ∙ e in
    let value : value_of s (s.names q (get_or (reads (next c s q)) 0 0)) ≡ some l = ap (value_of s) (sym (write_address (next c s q) (s.names q) w)) ∙ v ∙ ap some loc in
    and_make (writing (kind (next c s q))) (may_name c l q (next c s q)) w (named_value c s B q (get_or (reads (next c s q)) 0 0) l (B.registers q (get_or (reads (next c s q)) 0 0)) value)

-- what is known with n steps to go: action k is a read of location l whose sources cannot grow
record Calm (c : Case) (k l n : ℕ) (s : State) : Type 0 where
  reached : Reachable (womm c) s
  there : k < s.count
  at : (s.actions k).loc ≡ l
  reads : reading (kind_of (s.actions k)) ≡ true
  silent : (j : ℕ) → j < s.count → (s.actions j).result ≡ none → writing (kind_of (s.actions j)) ≡ true → (s.actions j).loc ≡ l → ⊥
  barren : Barren c (may_write c l) n s

calm_of : (c : Case) (n : ℕ) (s : State) (p k e : ℕ) → Reachable (womm c) s → step_code c s (commit p k e) ≡ 0 → wide c n s k ≡ true
    → Calm c k (s.actions k).loc n s
unfolding wide
calm_of c n s p k e R h w =
    let a = and_both (reading (kind_of (s.actions k))) _ w in
    let b = and_both (not (some_below s.count (λ j. pending (s.actions k).loc (s.actions j)))) _ a.1 in
    record {
      reached = R;
      there = (can_take c s (the p k e) h).there;
      at = refl;
      reads = a.0;
      silent = λ j l x y z.
          false≢true
          (sym (not-true _ b.0) ∙ below_make s.count (λ j. pending (s.actions k).loc (s.actions j)) j l (and_make (is_none (s.actions j).result) _ (ap is_none x) (and_make (writing (kind_of (s.actions j))) _ y (eq-eqb _ _ z))));
      barren = barren_of c (may_write c (s.actions k).loc) n s (not-true _ b.1);
    }

-- after another step
module _ (c : Case) (k l n : ℕ) (s : State) (C : Calm c k l (suc n) s) where
  -- a queued write to l
  abbrev Writes : Action → Type 0
  Writes a = a.result ≡ none → writing (kind_of a) ≡ true → a.loc ≡ l → ⊥

  calm_issue : (q : ℕ) → step_code c s (issue q) ≡ 0 → Calm c k l n (issued c s q)
  unfolding issued
  calm_issue q h =
      let I = can_issue c s q h in
      record {
        reached = subst (Reachable (womm c)) (after_issue c s q) (reachable_step (womm c) C.reached (issue q) h);
        there = omega (arith, C.there);
        at = ap (λ (a : Action). a.loc) (issued_old c s q k C.there) ∙ C.at;
        reads = ap (λ (a : Action). reading (kind_of a)) (issued_old c s q k C.there) ∙ C.reads;
        silent = λ j m.
            ⊎_elim
            (λ e. subst (λ (i : ℕ). Writes ((issued c s q).actions i)) (sym (eqb-true j s.count e)) (subst Writes (sym (issued_new c s q)) (λ x y z. false≢true (sym (barren_next c (may_write c l) n s C.barren q I) ∙ may_write_lem c s (known C.reached).names q l I y z))))
            (λ e. let i : j < s.count = omega (arith, eqb-false j s.count e) in subst Writes (sym (issued_old c s q j i)) (C.silent j i))
            (decide (eqb j s.count));
        barren = subst (Barren c (may_write c l) n) (after_issue c s q) (barren_step c (may_write c l) n s C.barren (issue q) h);
      }

  calm_commit : (u : Commit) → step_code c s (as_step u) ≡ 0 → (k ≡ u.action → ⊥) → Calm c k l n (committed_by c s u)
  unfolding committed
  calm_commit u h d =
      let K = kept_commit c s u k (can_take c s u h) d in
      record {
        reached = subst (Reachable (womm c)) (after-take c s u) (reachable_step (womm c) C.reached (as_step u) h);
        there = C.there;
        at = ap (λ (a : Action). a.loc) K.same ∙ C.at;
        reads = ap (λ (a : Action). reading (kind_of a)) K.same ∙ C.reads;
        silent = λ j m. silent j m (eqb j u.action);
        barren = subst (Barren c (may_write c l) n) (after-take c s u) (barren_step c (may_write c l) n s C.barren (as_step u) h);
      }
    where
      silent : (j : ℕ) → j < s.count → (b : Bool) → Writes (cond b (settled_by c s u) (s.actions j))
      silent j m true x y z = false≢true (ap is_none x)
      silent j m false x y z = C.silent j m x y z

  calm_step : (u : Step) → step_code c s u ≡ 0 → Elsewhere k u → Calm c k l n (after c s u)
  calm_step (issue q) h d = rw (after_issue c s q) (calm_issue q h)
  calm_step (commit q j e) h d = rw (after-take c s (the q j e)) (calm_commit (the q j e) h d)
  calm_step neither h d = absurd (neither_no c s h)

  -- a source that the read sees after an issue, it saw before
  module _ (q i e : ℕ) (v : Visible c (issued c s q) l i e) where
    -- the new action has no value
    not_new : e ≡ 8 + s.count → ⊥
    not_new x =
        false≢true
        (sym v.known ∙ ap is_none (cond-false (ltb e 8) (some (word_of c e)) ((issued c s q).actions (e - 8)).result (le-ltb e 8 (omega arith)) ∙ ap (λ (j : ℕ). ((issued c s q).actions j).result) (omega arith) ∙ ap (λ (a : Action). a.result) (issued_new c s q)))

    value_old : item_value c (issued c s q) e ≡ item_value c s e
    unfolding issued
    value_old = step (ltb e 8) refl
      where
        step : (b : Bool) → ltb e 8 ≡ b
            → cond b (some (word_of c e)) (put s.actions s.count (new_action c s q) (e - 8)).result ≡ cond b (some (word_of c e)) (s.actions (e - 8)).result
        step true z = refl
        step false z =
            ap (λ (a : Action). a.result) (put_other s.actions s.count (e - 8) (new_action c s q) (λ x. not_new (omega (arith, ltb-false e 8 z))))

    issue_grows : (a b : ℕ) → s.orders l a b ≡ true → (issued c s q).orders l a b ≡ true
    unfolding issued joined_if
    issue_grows a b h = step (ltb l c.locs && stands_at l (new_action c s q))
      where
        step : (x : Bool) → joined_if x (s.orders l) (8 + s.count) (8 + s.count) (earlier c s q l) a b ≡ true
        step true = joined_keeps (s.orders l) (8 + s.count) (8 + s.count) (earlier c s q l) a b h
        step false = h

    writes_old : (w : ℕ) → (w ≡ 8 + s.count → ⊥) → writes (issued c s q) l w ≡ writes s l w
    writes_old w d = item_old c s q (eqb w l) (λ a. writing (kind_of a) && eqb a.loc l) w d

    issue_sight : Visible c s l i e
    unfolding issued
    issue_sight =
        record {
          one = sym (writes_old e not_new) ∙ v.one;
          known = ap is_none (sym value_old) ∙ v.known;
          newest =
              fails (some_below (8 + suc s.count) (between (issued c s q) l i e)) (some_below (8 + s.count) (between s l i e))
              (λ h. let r = below_cases (8 + s.count) (between s l i e) h in below_make (8 + suc s.count) (between (issued c s q) l i e) r.0 (omega (arith, r.1)) (more r.0 r.1 r.2))
              v.newest;
          before = fails ((issued c s q).orders l i e) (s.orders l i e) (issue_grows i e) v.before;
        }
      where
        more : (w : ℕ) → w < 8 + s.count → between s l i e w ≡ true → between (issued c s q) l i e w ≡ true
        more w m h =
            let x = and_both (writes s l w) (s.orders l e w && s.orders l w i) h in
            let y = and_both (s.orders l e w) (s.orders l w i) x.1 in
            and_make (writes (issued c s q) l w) ((issued c s q).orders l e w && (issued c s q).orders l w i) (writes_old w (λ z. omega arith) ∙ x.0)
            (and_make ((issued c s q).orders l e w) ((issued c s q).orders l w i) (issue_grows e w y.0) (issue_grows w i y.1))

  -- the same of the commit of another action
  module _ (u : Commit) (U : CanTake c s u) (i e : ℕ) (v : Visible c (committed_by c s u) l i e) where
    commit_grows : (a b : ℕ) → s.orders l a b ≡ true → (committed_by c s u).orders l a b ≡ true
    unfolding committed joined_if
    commit_grows a b h = step (ltb l c.locs && acquiring (kind_of (self s u)))
      where
        step : (x : Bool) → joined_if x (s.orders l) (item u) (8 + s.count) (releases s (input s u 0)) a b ≡ true
        step true = joined_keeps (s.orders l) (item u) (8 + s.count) (releases s (input s u 0)) a b h
        step false = h

    writes-same : (w : ℕ) → writes (committed_by c s u) l w ≡ writes s l w
    writes-same w = item_test c s u (eqb w l) (λ a. writing (kind_of a) && eqb a.loc l) refl w

    commit_sight : Visible c s l i e
    unfolding committed
    commit_sight =
        record {
          one = sym (writes-same e) ∙ v.one;
          known = value (ltb e 8) refl v.known;
          newest = below_fewer (8 + s.count) (between (committed_by c s u) l i e) (between s l i e) more v.newest;
          before = fails ((committed_by c s u).orders l i e) (s.orders l i e) (commit_grows i e) v.before;
        }
      where
        -- u gives a value to no write of this location
        other : ltb e 8 ≡ false → e - 8 ≡ u.action → ⊥
        other z x =
            let f = sym (cond-false (ltb e 8) (eqb e l) (writing (kind_of (s.actions (e - 8))) && eqb (s.actions (e - 8)).loc l) z) ∙ sym (writes-same e) ∙ v.one in
            let w = and_both (writing (kind_of (s.actions (e - 8)))) (eqb (s.actions (e - 8)).loc l) f in
            C.silent (e - 8) (omega (arith, U.there)) (ap (λ (j : ℕ). (s.actions j).result) x ∙ waits-none u.proc (self s u) U.waits) w.0 (eqb-true _ _ w.1)

        value : (b : Bool) → ltb e 8 ≡ b → is_none (cond b (some (word_of c e)) (put s.actions u.action (settled_by c s u) (e - 8)).result) ≡ false
            → is_none (cond b (some (word_of c e)) (s.actions (e - 8)).result) ≡ false
        value true z h = refl
        value false z h = ap (λ (a : Action). is_none a.result) (sym (put_other s.actions u.action (e - 8) (settled_by c s u) (other z))) ∙ h

        more : (w : ℕ) → w < 8 + s.count → between s l i e w ≡ true → between (committed_by c s u) l i e w ≡ true
        more w m h =
            let x = and_both (writes s l w) (s.orders l e w && s.orders l w i) h in
            let y = and_both (s.orders l e w) (s.orders l w i) x.1 in
            and_make (writes (committed_by c s u) l w) ((committed_by c s u).orders l e w && (committed_by c s u).orders l w i) (writes-same w ∙ x.0)
            (and_make ((committed_by c s u).orders l e w) ((committed_by c s u).orders l w i) (commit_grows e w y.0) (commit_grows w i y.1))

  -- a source that is accepted after another step is accepted before it
  module _ (p e₀ : ℕ) (h₀ : step_code c s (commit p k e₀) ≡ 0) where
    poised : Poised c s p k
    poised = poised_of c s p k e₀ C.reads (can_take c s (the p k e₀) h₀)

    sight : (s' : State) (e : ℕ) → (s'.actions k).loc ≡ l → reading (kind_of (s'.actions k)) ≡ true → step_code c s' (commit p k e) ≡ 0 → Visible c s' l (8 + k) e
    sight s' e a r h = subst (λ (x : ℕ). Visible c s' x (8 + k) e) a (sees_take c s' (the p k e) (can_take c s' (the p k e) h) r)

    front : (e : ℕ) → Visible c s l (8 + k) e → step_code c s (commit p k e) ≡ 0
    front e v = take_ok c s (the p k e) (can_of c s p k poised e (subst (λ (x : ℕ). Visible c s x (8 + k) e) (sym C.at) v))

    source_back : (u : Step) → step_code c s u ≡ 0 → Elsewhere k u → (e : ℕ) → step_code c (after c s u) (commit p k e) ≡ 0 → step_code c s (commit p k e) ≡ 0
    source_back (issue q) g d e h =
        let D = calm_issue q g in
        front e (issue_sight q (8 + k) e (sight (issued c s q) e D.at D.reads (subst (λ (x : State). step_code c x (commit p k e) ≡ 0) (after_issue c s q) h)))
    source_back (commit q j f) g d e h =
        let u = the q j f in
        let D = calm_commit u g d in
        front e (commit_sight u (can_take c s u g) (8 + k) e (sight (committed_by c s u) e D.at D.reads (subst (λ (x : State). step_code c x (commit p k e) ≡ 0) (after-take c s u) h)))
    source_back neither g d e h = absurd (neither_no c s g)

    moves : (e : ℕ) → step_code c s (commit p k e) ≡ 0 → (u : Step) → step_code c s u ≡ 0 → Elsewhere k u → Moves c s (commit p k e) u
    moves e h u g d = let K = known C.reached in read_moves c s K.reached.good K.firm (the p k e) h C.reads u g d

-- a step commits the read, or does not
data Splits (p k : ℕ) : Step → Type 0 where
  this : (e : ℕ) → Splits p k (commit p k e)
  that : {u : Step} → Elsewhere k u → Splits p k u

module _ (c : Case) (p k : ℕ) where
  split : (s : State) (e₀ : ℕ) → step_code c s (commit p k e₀) ≡ 0 → (u : Step) → step_code c s u ≡ 0 → Splits p k u
  split s e₀ h₀ (issue q) g = that tt
  split s e₀ h₀ (commit q j e) g = ⊎_elim same (λ x. that (eqb-false k j x)) (decide (eqb k j))
    where
      same : eqb k j ≡ true → Splits p k (commit q j e)
      same x =
          let i = eqb-true k j x in
          let o : q ≡ p = sym (waits_proc q (s.actions j) (can_take c s (the q j e) g).waits) ∙ ap (λ (i : ℕ). (s.actions i).proc) (sym i) ∙ waits_proc p (s.actions k) (can_take c s (the p k e₀) h₀).waits in
          subst (Splits p k) (λ z. commit (sym o z) (i z) e) (this e)
  split s e₀ h₀ neither g = that tt

  -- each finished run takes the read with one of its sources at s, and may take it first
  wide_done : (n : ℕ) (s : State) (l e₀ : ℕ) (r : List ℕ) → Calm c k l (suc n) s → step_code c s (commit p k e₀) ≡ 0 → Done c s (suc n) r
      → Taken c (λ x. Done c x n r) s p k
  wide_done n s l e₀ r C h (Done.now f e) = absurd (finished_still c s f (commit p k e₀) h)
  wide_done zero s l e₀ r C h (Done.later u g d) = step u g d (split s e₀ h u g)
    where
      step : (u : Step) → step_code c s u ≡ 0 → Done c (after c s u) zero r → Splits p k u → Taken c (λ x. Done c x zero r) s p k
      step u g d (this e) = record { source = e; fits = g; then' = d }
      step u g (Done.now f e) (that x) = absurd (finished_still c (after c s u) f (commit p k e₀) (moves c k l zero s C p e₀ h e₀ h u g x).still)
  wide_done (suc n) s l e₀ r C h (Done.later u g d) = step u g d (λ C' h'. wide_done n (after c s u) l e₀ r C' h' d) (split s e₀ h u g)
    where
      step : (u : Step) → step_code c s u ≡ 0 → Done c (after c s u) (suc n) r
          → (Calm c k l (suc n) (after c s u) → step_code c (after c s u) (commit p k e₀) ≡ 0 → Taken c (λ x. Done c x n r) (after c s u) p k)
          → Splits p k u → Taken c (λ x. Done c x (suc n) r) s p k
      step u g d more (this e) = record { source = e; fits = g; then' = d }
      step u g d more (that x) =
          let o = more (calm_step c k l (suc n) s C u g x) (moves c k l (suc n) s C p e₀ h e₀ h u g x).still in
          let b = source_back c k l (suc n) s C p e₀ h u g x o.source o.fits in
          let M = moves c k l (suc n) s C p e₀ h o.source b u g x in
          record { source = o.source; fits = b; then' = Done.later u M.fits (subst (λ (y : State). Done c y n r) M.meets o.then') }

  -- each unfinished run takes the read, or may take it first
  wide_open : (n : ℕ) (s : State) (l e₀ : ℕ) → Calm c k l (suc n) s → step_code c s (commit p k e₀) ≡ 0 → Open c s (suc n) → Taken c (λ x. Open c x n) s p k
  wide_open zero s l e₀ C h (Open.later u g d) = step u g d (split s e₀ h u g)
    where
      stands : (x : State) (u : Step) → step_code c x u ≡ 0 → Open c x zero
      stands x u g = ⊎_elim (λ f. absurd (finished_still c x f u g)) (λ f. Open.now f) (decide (finished c x))

      step : (u : Step) → step_code c s u ≡ 0 → Open c (after c s u) zero → Splits p k u → Taken c (λ x. Open c x zero) s p k
      step u g d (this e) = record { source = e; fits = g; then' = d }
      step u g d (that x) = record { source = e₀; fits = h; then' = stands (after c s (commit p k e₀)) u (moves c k l zero s C p e₀ h e₀ h u g x).fits }
  wide_open (suc n) s l e₀ C h (Open.later u g d) = step u g d (λ C' h'. wide_open n (after c s u) l e₀ C' h' d) (split s e₀ h u g)
    where
      step : (u : Step) → step_code c s u ≡ 0 → Open c (after c s u) (suc n)
          → (Calm c k l (suc n) (after c s u) → step_code c (after c s u) (commit p k e₀) ≡ 0 → Taken c (λ x. Open c x n) (after c s u) p k)
          → Splits p k u → Taken c (λ x. Open c x (suc n)) s p k
      step u g d more (this e) = record { source = e; fits = g; then' = d }
      step u g d more (that x) =
          let o = more (calm_step c k l (suc n) s C u g x) (moves c k l (suc n) s C p e₀ h e₀ h u g x).still in
          let b = source_back c k l (suc n) s C p e₀ h u g x o.source o.fits in
          let M = moves c k l (suc n) s C p e₀ h o.source b u g x in
          record { source = o.source; fits = b; then' = Open.later u M.fits (subst (λ (y : State). Open c y n) M.meets o.then') }

-- THE THEOREM: at a state that is reached, with n + 1 steps to go, an accepted read that is quiet in this sense may be taken at once, with each of its
-- sources and nothing else, for outcomes and for the cut.
module _ (c : Case) (s : State) (R : Reachable (womm c) s) (n p k e : ℕ) (h : step_code c s (commit p k e) ≡ 0) (w : wide c (suc n) s k ≡ true) where
  done_wide : (r : List ℕ) → Done c s (suc n) r → Taken c (λ x. Done c x n r) s p k
  done_wide r = wide_done c p k n s (s.actions k).loc e r (calm_of c (suc n) s p k e R h w) h

  open_wide : Open c s (suc n) → Taken c (λ x. Open c x n) s p k
  open_wide = wide_open c p k n s (s.actions k).loc e (calm_of c (suc n) s p k e R h w) h

  pub outcome_wide : (r : List ℕ) → OutcomeFrom (womm c) s (suc n) r ↔ Taken c (λ x. OutcomeFrom (womm c) x n r) s p k
  outcome_wide r = (
    λ o. let x = done_wide r (done_to c (suc n) s r o) in record { source = x.source; fits = x.fits; then' = done_from c n x.then' },
    λ x. done_from c (suc n) (Done.later (commit p k x.source) x.fits (done_to c n (after c s (commit p k x.source)) r x.then')),
  )

  pub cut_wide : CutFrom (womm c) s (suc n) ↔ Taken c (λ x. CutFrom (womm c) x n) s p k
  cut_wide = (
    λ o. let x = open_wide (open_to c (suc n) s o) in record { source = x.source; fits = x.fits; then' = open_from c x.then' },
    λ x. open_from c (Open.later (commit p k x.source) x.fits (open_to c n (after c s (commit p k x.source)) x.then')),
  )

  -- of either question
  runs_wide : (W : Wish) (q : Question) → Run c W q s (suc n) → Taken c (λ x. Run c W q x n) s p k
  runs_wide W (outcome r) d = let x = done_wide r d.0 in record { source = x.source; fits = x.fits; then' = (x.then', d.1) }
  runs_wide W cut d = open_wide d

-- THE THEOREM for code: its sources, each done with, are enough
pub told-wide : (c : Case) (W : Wish) (s : State) (sp : Spent) (R : Reachable (womm c) s) (n : ℕ) {now : Spent} {B X : Question → Type 0} → Sweep c W sp s n now B X → (k e : ℕ)
    → step_code c s (step_by s (taking k e)) ≡ 0 → wide c (suc n) s k ≡ true
    → ((e : ℕ) → step_code c s (step_by s (taking k e)) ≡ 0 → Tested c W sp s n X (step_by s (taking k e))) → Told c W sp s (suc n) B X
told-wide c W s sp R n S k e h w T =
    record {
      kept = S.kept;
      sound = S.sound;
      full = λ q d. let x = runs_wide c s R n (s.actions k).proc k e h w W q d in T x.source x.fits q x.then';
    }
