-- A release of a location that its processor does not hold, with no acquire before it, is never committed: no run finishes, and none commits all of 48
-- actions: outcome-futile, cut-futile, told-futile. Assumes nothing.
use mathlib.Core.Path.{◌≡◌, refl, sym, ◌∙◌, ap, subst}
use mathlib.Core.Logic.{◌⊎◌, inl, inr, ⊎_elim}
use mathlib.Core.Bool.{Bool, true, false, cond, not, ◌&&◌, ◌||◌, false≢true}
use mathlib.Core.List.{List, [], ◌∷◌}
use mathlib.Core.Option.{Option, none, some}
use Prim.Native.Nat.{ℕ, zero, suc, ◌+◌, ◌*◌, ◌≤◌, ◌<◌}
use native.Mathlib.Omega.{arith}
use native.Mathlib.Decide.{dec_lt}
use lib.Dec.{eqb, leb}
use lib.ListN.{get_or}
use borrow.Author.Tests.{leb-true, leb-false, eqb-true, eqb-false, eq-eqb, not-true}
use Rattle.words.specs.Small.{is_none, or_zero, is, put, any, some_below}
use Rattle.words.proofs.Bools.{decide, or_cases, or_right, or_none, and_both, and_make, below_cases, below_make, below_fewer, none_below, put_same, put_other}
use Rattle.cases.specs.declared.Case.{Case}
use Rattle.runs.specs.Outcome.{OutcomeFrom, CutFrom}
use Rattle.runs.specs.Reachable.{Reachable}
use Rattle.runs.specs.Wanted.{Wish}
use Rattle.runs.proofs.Reachable.{reachable_step}
use Rattle.rules.specs.Commit.{barred, committed}
use Rattle.rules.specs.Issue.{issued, new_action}
use Rattle.rules.specs.Kinds.{acquiring, releasing, syncs}
use Rattle.rules.specs.Result.{finished, how_many}
use Rattle.rules.specs.State.{State, Action, Name, start, kind_of, waiting, value_of, input_of}
use Rattle.rules.specs.Step.{Step, issue, commit, neither, step_code, after}
use Rattle.rules.specs.Womm.{womm}
use Rattle.rules.proofs.Accepted.{CanIssue, can_issue, after_issue, neither_no, still}
use Rattle.sure.specs.Futile.{acquires, futile, queued, drains, leaves}
use Rattle.sure.specs.Spent.{Spent, Else}
use Rattle.sure.specs.Told.{Done, Open, Question, outcome, cut, Run, Told}
use Rattle.sure.proofs.Good.{Good}
use Rattle.sure.proofs.Held.{sync_held}
use Rattle.sure.proofs.Known.{Known, known}
use Rattle.sure.proofs.Kept.{Kept, kept_issue, kept_commit, ready_kept, issued_old, issued_new, unheld, waits-none, waits_proc}
use Rattle.sure.proofs.Commits.{acquire_syncs}
use Rattle.sure.proofs.Reduce.{done_to, open_to}
use Rattle.sure.proofs.Commit.{Commit, the, as_step, self, input, settled_by, committed_by, CanTake, can_take, after-take}

-- action k is such a release
record Futile (s : State) (k : ℕ) : Type 0 where
  there : k < s.count
  waits : (s.actions k).result ≡ none
  releases : releasing (kind_of (s.actions k)) ≡ true
  known : any (λ n. is_none (value_of s n)) (s.actions k).inputs ≡ false
  free : is (s.actions k).proc (s.holders (input_of s (s.actions k) 0)) ≡ false
  first : some_below k (λ j. acquires (s.actions k).proc (s.actions j)) ≡ false

is_none_lem : (o : Option ℕ) → is_none o ≡ true → o ≡ none
is_none_lem none h = refl
is_none_lem (some v) h = absurd (false≢true h)

futile_of : (s : State) (k : ℕ) → k < s.count → futile s k ≡ true → Futile s k
futile_of s k l h =
    let a = and_both (is_none (s.actions k).result) _ h in
    let b = and_both (releasing (kind_of (s.actions k))) _ a.1 in
    let d = and_both (not (any (λ n. is_none (value_of s n)) (s.actions k).inputs)) _ b.1 in
    let e = and_both (barred (s.actions k).proc (kind_of (s.actions k)) (s.holders (input_of s (s.actions k) 0))) _ d.1 in
    let f = and_both ((acquiring (kind_of (s.actions k)) && not (is_none (s.holders (input_of s (s.actions k) 0)))) || releasing (kind_of (s.actions k))) (not (is (s.actions k).proc (s.holders (input_of s (s.actions k) 0)))) e.0 in
    record { there = l; waits = is_none_lem (s.actions k).result a.0; releases = b.0; known = not-true _ d.0; free = not-true _ f.1; first = not-true _ e.1 }

-- known inputs keep their values
input_kept : (s s' : State) → ((n : Name) → is_none (value_of s n) ≡ false → value_of s' n ≡ value_of s n) → (l : List Name) → any (λ n. is_none (value_of s n)) l ≡ false
    → or_zero (value_of s' (get_or l 0 (start none))) ≡ or_zero (value_of s (get_or l 0 (start none)))
input_kept s s' K [] h = refl
input_kept s s' K (x ∷ l) h = ap or_zero (K x (or_none (is_none (value_of s x)) (any (λ n. is_none (value_of s n)) l) h).0)

module _ (c : Case) (s : State) (k : ℕ) (F : Futile s k) where
  -- it stays so where the action and its queue stay, and its processor comes to hold nothing
  futile-kept : (s' : State) → Kept s s' k → is (s.actions k).proc (s'.holders (input_of s (s.actions k) 0)) ≡ false → Futile s' k
  futile-kept s' K h =
      let same = input_kept s s' K.values (s.actions k).inputs F.known in
      record {
        there = omega (arith, F.there, K.more);
        waits = ap (λ (a : Action). a.result) K.same ∙ F.waits;
        releases = ap (λ (a : Action). releasing (kind_of a)) K.same ∙ F.releases;
        known = ap (λ (a : Action). any (λ n. is_none (value_of s' n)) a.inputs) K.same ∙ ready_kept s s' k K (s.actions k).inputs F.known;
        free = ap (λ (a : Action). is a.proc (s'.holders (input_of s' a 0))) K.same ∙ ap (λ (x : ℕ). is (s.actions k).proc (s'.holders x)) same ∙ h;
        first =
            ap (λ (a : Action). some_below k (λ j. acquires a.proc (s'.actions j))) K.same
            ∙ below_fewer k (λ j. acquires (s.actions k).proc (s.actions j)) (λ j. acquires (s.actions k).proc (s'.actions j)) earlier F.first;
      }
    where
      earlier : (j : ℕ) → j < k → acquires (s.actions k).proc (s'.actions j) ≡ true → acquires (s.actions k).proc (s.actions j) ≡ true
      earlier j l h =
          let w = and_both (waiting (s.actions k).proc (s'.actions j)) (acquiring (kind_of (s'.actions j))) h in
          ap (acquires (s.actions k).proc) (sym (K.queue (s.actions k).proc j l w.0)) ∙ h

  futile_issue : (q : ℕ) → Good s → Futile (issued c s q) k
  unfolding issued
  futile_issue q G = futile-kept (issued c s q) (kept_issue c s q k (G.fresh s.count (omega arith)) F.there) F.free

  -- it is not committed
  not_it : (u : Commit) → CanTake c s u → k ≡ u.action → ⊥
  not_it u U e =
      let a : CanTake c s (the u.proc k u.source) = subst (λ (j : ℕ). CanTake c s (the u.proc j u.source)) (sym e) U in
      let p : (s.actions k).proc ≡ u.proc = waits_proc u.proc (s.actions k) a.waits in
      let bars = and_make ((acquiring (kind_of (s.actions k)) && not (is_none (s.holders (input_of s (s.actions k) 0)))) || releasing (kind_of (s.actions k))) (not (is u.proc (s.holders (input_of s (s.actions k) 0)))) (or_right (acquiring (kind_of (s.actions k)) && not (is_none (s.holders (input_of s (s.actions k) 0)))) (releasing (kind_of (s.actions k))) F.releases) (ap not (ap (λ (q : ℕ). is q (s.holders (input_of s (s.actions k) 0))) (sym p) ∙ F.free)) in
      false≢true (sym a.allowed ∙ bars)

  module _ (u : Commit) (U : CanTake c s u) where
    -- no acquire of its processor is committed before it
    other : acquiring (kind_of (self s u)) ≡ true → u.proc ≡ (s.actions k).proc → ⊥
    other a p =
        let d = not_it u U in
        elim (dec_lt u.action k) [
          | yes l ↦ false≢true (sym (none_below k (λ j. acquires (s.actions k).proc (s.actions j)) F.first u.action l) ∙ and_make (waiting (s.actions k).proc (self s u)) (acquiring (kind_of (self s u))) (ap (λ (q : ℕ). waiting q (self s u)) (sym p) ∙ U.waits) a)
          | no l ↦ unheld c s u U k (omega (arith, d)) (sym p) F.waits (sync_held (kind_of (self s u)) (kind_of (s.actions k)) (eqb (s.actions k).loc (self s u).loc) (acquire_syncs (kind_of (self s u)) a) F.releases)
        ]

    futile_commit : Futile (committed_by c s u) k
    unfolding committed
    futile_commit = futile-kept (committed_by c s u) (kept_commit c s u k U (not_it u U)) (step (syncs (kind_of (self s u))))
      where
        x : ℕ
        x = input_of s (s.actions k) 0

        by : (b : Bool) → acquiring (kind_of (self s u)) ≡ b → is (s.actions k).proc (cond b (some u.proc) none) ≡ false
        by true a = ⊎_elim (λ e. absurd (other a (eqb-true u.proc (s.actions k).proc e))) (λ e. e) (decide (eqb u.proc (s.actions k).proc))
        by false a = refl

        step : (b : Bool) → is (s.actions k).proc (cond b (put s.holders (input s u 0) (cond (acquiring (kind_of (self s u))) (some u.proc) none)) s.holders x) ≡ false
        step true =
            ⊎_elim
            (λ e. ap (is (s.actions k).proc) (put_same s.holders (input s u 0) x (cond (acquiring (kind_of (self s u))) (some u.proc) none) (eqb-true x (input s u 0) e)) ∙ by (acquiring (kind_of (self s u))) refl)
            (λ e. ap (is (s.actions k).proc) (put_other s.holders (input s u 0) x (cond (acquiring (kind_of (self s u))) (some u.proc) none) (eqb-false x (input s u 0) e)) ∙ F.free)
            (decide (eqb x (input s u 0)))
        step false = F.free

  futile_step : Good s → (t : Step) → step_code c s t ≡ 0 → Futile (after c s t) k
  futile_step G (issue q) h = rw (after_issue c s q) (futile_issue q G)
  futile_step G (commit q j e) h = rw (after-take c s (the q j e)) (futile_commit (the q j e) (can_take c s (the q j e) h))
  futile_step G neither h = absurd (neither_no c s h)

-- no run finishes
done_futile : (c : Case) (k : ℕ) (s : State) → Reachable (womm c) s → Futile s k → {n : ℕ} {r : List ℕ} → Done c s n r → ⊥
done_futile c k s R F (Done.now f e) =
    let p = ((known R).names.actions k F.there).proc in
    false≢true (sym (still c s f (s.actions k).proc p).0 ∙ below_make s.count (λ j. waiting (s.actions k).proc (s.actions j)) k F.there (and_make (eqb (s.actions k).proc (s.actions k).proc) (is_none (s.actions k).result) (eq-eqb (s.actions k).proc (s.actions k).proc refl) (ap is_none F.waits)))
done_futile c k s R F (Done.later t h d) = done_futile c k (after c s t) (reachable_step (womm c) R t h) (futile_step c s k F (known R).reached.good t h) d

-- how many are in the queues

abbrev one : Bool → ℕ
one b = cond b 1 0

many_same : (n : ℕ) (f g : ℕ → Bool) → ((k : ℕ) → k < n → f k ≡ g k) → how_many n f ≡ how_many n g
unfolding how_many
many_same zero f g h = refl
many_same (suc n) f g h = omega (arith, ap one (h n (omega arith)), many_same n f g (λ k l. h k (omega arith)))

many_one : (n : ℕ) (f : ℕ → Bool) (k : ℕ) → k < n → f k ≡ true → 1 ≤ how_many n f
unfolding how_many
many_one zero f k l h = absurd (omega arith)
many_one (suc n) f k l h =
    elim (dec_lt k n) [
      | yes m ↦ omega (arith, many_one n f k m h)
      | no m ↦ let e : k ≡ n = omega arith in omega (arith, ap one (sym (ap f e) ∙ h))
    ]

-- two that differ at i alone
many_but : (n : ℕ) (f g : ℕ → Bool) (i : ℕ) → i < n → f i ≡ true → g i ≡ false → ((k : ℕ) → (k ≡ i → ⊥) → f k ≡ g k) → how_many n f ≡ suc (how_many n g)
unfolding how_many
many_but zero f g i l x y h = absurd (omega arith)
many_but (suc n) f g i l x y h =
    ⊎_elim
    (λ e. let z = eqb-true n i e in omega (arith, ap one (ap f z ∙ x), ap one (ap g z ∙ y), many_same n f g (λ k m. h k (λ w. omega arith))))
    (λ e. let d = eqb-false n i e in omega (arith, ap one (h n d), many_but n f g i (omega arith) x y h))
    (decide (eqb n i))

queued_issue : (c : Case) (s : State) (q : ℕ) → queued (issued c s q) ≡ suc (queued s)
unfolding issued how_many
queued_issue c s q =
    let old = many_same s.count (λ k. is_none (put s.actions s.count (new_action c s q) k).result) (λ k. is_none (s.actions k).result) (λ k l. ap (λ (a : Action). is_none a.result) (put_other s.actions s.count k (new_action c s q) (λ e. omega arith))) in
    let new = ap (λ (a : Action). one (is_none a.result)) (put_same s.actions s.count s.count (new_action c s q) refl) in
    omega (arith, old, new)

queued_commit : (c : Case) (s : State) (u : Commit) → CanTake c s u → queued s ≡ suc (queued (committed_by c s u))
unfolding committed
queued_commit c s u U =
    many_but s.count (λ k. is_none (s.actions k).result) (λ k. is_none (put s.actions u.action (settled_by c s u) k).result) u.action U.there
    (ap is_none (waits-none u.proc (self s u) U.waits))
    (ap (λ (a : Action). is_none a.result) (put_same s.actions u.action u.action (settled_by c s u) refl))
    (λ k d. ap (λ (a : Action). is_none a.result) (sym (put_other s.actions u.action k (settled_by c s u) d)))

count_issue : (c : Case) (s : State) (q : ℕ) → (issued c s q).count ≡ suc s.count
unfolding issued
count_issue c s q = refl

count_commit : (c : Case) (s : State) (u : Commit) → (committed_by c s u).count ≡ s.count
unfolding committed
count_commit c s u = refl

-- no run commits all of 48 actions
open_futile : (c : Case) (k : ℕ) (s : State) → Reachable (womm c) s → s.count ≤ 48 → Futile s k → {n : ℕ} → Open c s n → n + 2 * s.count < 96 + queued s
open_futile c k s R m F (Open.now f) = omega (arith, many_one s.count (λ j. is_none (s.actions j).result) k F.there (ap is_none F.waits))
open_futile c k s R m F (Open.later (issue q) h d) =
    let room = leb-false 48 s.count (can_issue c s q h).room in
    let count = ap (λ (x : State). x.count) (after_issue c s q) ∙ count_issue c s q in
    let more = ap queued (after_issue c s q) ∙ queued_issue c s q in
    omega (arith, open_futile c k (after c s (issue q)) (reachable_step (womm c) R (issue q) h) (omega arith) (futile_step c s k F (known R).reached.good (issue q) h) d)
open_futile c k s R m F (Open.later (commit q j e) h d) =
    let u = the q j e in
    let count = ap (λ (x : State). x.count) (after-take c s u) ∙ count_commit c s u in
    let less = queued_commit c s u (can_take c s u h) ∙ ap (λ (x : State). suc (queued x)) (sym (after-take c s u)) in
    omega (arith, open_futile c k (after c s (as_step u)) (reachable_step (womm c) R (as_step u) h) (omega arith) (futile_step c s k F (known R).reached.good (as_step u) h) d)
open_futile c k s R m F (Open.later neither h d) = absurd (neither_no c s h)

-- THE THEOREM: at a state that is reached with such a release there is no outcome, and no run takes as many steps
module _ (c : Case) (s : State) (R : Reachable (womm c) s) (k : ℕ) (l : k < s.count) (h : futile s k ≡ true) (n : ℕ) where
  pub outcome_futile : (r : List ℕ) → OutcomeFrom (womm c) s n r → ⊥
  outcome_futile r o = done_futile c k s R (futile_of s k l h) (done_to c n s r o)

  pub cut_futile : s.count ≤ 48 → drains n s ≡ true → CutFrom (womm c) s n → ⊥
  cut_futile m d o = absurd (omega (arith, leb-true (96 + queued s) (n + 2 * s.count) d, open_futile c k s R m (futile_of s k l h) (open_to c n s o)))

-- THE THEOREM for code: where a search may leave, nothing is left to tell
pub told-futile : (c : Case) (W : Wish) (sp : Spent) (s : State) → Reachable (womm c) s → s.count ≤ 48 → (n : ℕ) (B : Question → Type 0) (marked : Bool) → (marked ≡ true → B cut)
    → leaves marked n s ≡ true → Told c W sp s n B B
unfolding leaves
told-futile c W sp s R m n B marked M h = record { kept = λ q b. b; sound = λ q b. inl b; full = full }
  where
    w : (k : ℕ) × (k < s.count) × (futile s k ≡ true)
    w = below_cases s.count (futile s) (and_both (some_below s.count (futile s)) (marked || drains n s) h).0

    F : Futile s w.0
    F = futile_of s w.0 w.1 w.2

    full : (q : Question) → Run c W q s n → B q ⊎ Else c sp (Run c W q) s n
    full (outcome r) d = absurd (done_futile c w.0 s R F d.0)
    full cut d =
        ⊎_elim (λ x. inl (M x))
        (λ x. absurd (omega (arith, leb-true (96 + queued s) (n + 2 * s.count) x, open_futile c w.0 s R m F d)))
        (or_cases marked (drains n s) (and_both (some_below s.count (futile s)) (marked || drains n s) h).1)
