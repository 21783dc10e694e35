-- A run that finishes takes at least `least` steps, so once the cut mark is set a search may leave a state with fewer to go: done-least, told-short.
-- Assumes nothing.
use mathlib.Core.Path.{◌≡◌, refl, sym, ◌∙◌, ap, subst}
use mathlib.Core.Logic.{◌⊎◌, inl, inr, ⊎_elim}
use mathlib.Core.Bool.{Bool, true, false, cond, not, ◌&&◌, false≢true}
use mathlib.Core.List.{List, [], ◌∷◌, map}
use mathlib.Core.Option.{Option, none, some}
use Prim.Native.Nat.{ℕ, zero, suc, ◌+◌, ◌*◌, ◌≤◌, ◌<◌}
use native.Mathlib.Omega.{arith}
use lib.Dec.{eqb, leb, ltb}
use borrow.Author.Tests.{leb-true, leb-false, le-ltb, ltb-true, eqb-true, eqb-false, eq-eqb}
use Rattle.words.specs.Small.{is_none, or_zero, put}
use Rattle.words.proofs.Bools.{decide, and_make, below_make, cond-true, cond-false, put_same, put_other}
use Rattle.cases.specs.Case.{count_of, instr_at}
use Rattle.cases.specs.declared.Instr.TheVariants.{Empty, Read, Write, Local, Branch, Goto, Acquire, Release}
use Rattle.cases.specs.declared.Instr.{Instr}
use Rattle.cases.specs.declared.Case.{Case}
use Rattle.runs.specs.Reachable.{Reachable}
use Rattle.runs.specs.Wanted.{Wish}
use Rattle.runs.proofs.Reachable.{reachable_step}
use Rattle.rules.specs.Kinds.{kind, branching, label_of}
use Rattle.rules.specs.Commit.{committed}
use Rattle.rules.specs.Issue.{place_after, new_action, here, issued, next}
use Rattle.rules.specs.Result.{finished}
use Rattle.rules.specs.State.{State, Action, kind_of, waiting}
use Rattle.rules.specs.Step.{Step, issue, commit, neither, step_code, after}
use Rattle.rules.specs.Womm.{womm}
use Rattle.rules.proofs.Accepted.{CanIssue, can_issue, after_issue, neither_no, still}
use Rattle.sure.specs.Ahead.{leads_to}
use Rattle.sure.specs.Least.{least_of, fewest, fewest_of, owes, total, least}
use Rattle.sure.specs.Spent.{Spent, Else}
use Rattle.sure.specs.Told.{Done, Question, outcome, cut, Run, Told}
use Rattle.sure.proofs.Ahead.{place-some}
use Rattle.sure.proofs.Good.{Good, turning_at}
use Rattle.sure.proofs.Known.{Known, known}
use Rattle.sure.proofs.Kept.{waits-none, waits_proc}
use Rattle.sure.proofs.Commit.{Commit, the, self, input, settled_by, committed_by, CanTake, can_take, after-take}

-- sums

total-same : (n : ℕ) (f g : ℕ → ℕ) → ((k : ℕ) → k < n → f k ≡ g k) → total n f ≡ total n g
unfolding total
total-same zero f g h = refl
total-same (suc n) f g h = omega (arith, h n (omega arith), total-same n f g (λ k l. h k (omega arith)))

-- two that differ at q alone
total_but : (n : ℕ) (f g : ℕ → ℕ) (q : ℕ) → q < n → ((k : ℕ) → (k ≡ q → ⊥) → f k ≡ g k) → total n f + g q ≡ total n g + f q
unfolding total
total_but zero f g q l h = absurd (omega arith)
total_but (suc n) f g q l h =
    ⊎_elim
    (λ e. let z = eqb-true n q e in omega (arith, ap f z, ap g z, total-same n f g (λ k m. h k (λ x. omega arith))))
    (λ e. let d = eqb-false n q e in omega (arith, h n d, total_but n f g q (omega arith) h))
    (decide (eqb n q))

total-none : (n : ℕ) (f : ℕ → ℕ) → ((k : ℕ) → k < n → f k ≡ 0) → total n f ≡ 0
unfolding total
total-none zero f h = refl
total-none (suc n) f h = omega (arith, h n (omega arith), total-none n f (λ k l. h k (omega arith)))

-- the lesser of two
lesser : (x y : ℕ) → (cond (leb x y) x y ≤ x) × (cond (leb x y) x y ≤ y)
lesser x y = step (leb x y) refl
  where
    step : (b : Bool) → leb x y ≡ b → (cond b x y ≤ x) × (cond b x y ≤ y)
    step true e = (omega arith, leb-true x y e)
    step false e = (let l = leb-false x y e in omega arith, omega arith)

lesser_more : (x y v w : ℕ) → x ≤ v → y ≤ w → cond (leb x y) x y ≤ cond (leb v w) v w
lesser_more x y v w h g = step (leb v w)
  where
    step : (b : Bool) → cond (leb x y) x y ≤ cond b v w
    step true = let l = (lesser x y).0 in omega arith
    step false = let l = (lesser x y).1 in omega arith

module _ (c : Case) (p : ℕ) where
  -- of every list that an instruction leads to
  leads_more : (f g : ℕ → ℕ) → ((i : ℕ) → f i ≤ g i) → (x : Instr) (i : ℕ) → least_of (map f (leads_to x i)) ≤ least_of (map g (leads_to x i))
  leads_more f g h Empty i = h (suc i)
  leads_more f g h (Read d a) i = h (suc i)
  leads_more f g h (Write a b) i = h (suc i)
  leads_more f g h (Local d e) i = h (suc i)
  leads_more f g h (Branch a l) i = lesser_more (f l) (f (suc i)) (g l) (g (suc i)) (h l) (h (suc i))
  leads_more f g h (Goto l) i = h l
  leads_more f g h (Acquire a) i = h (suc i)
  leads_more f g h (Release a) i = h (suc i)

  fewest_more : (m i : ℕ) → fewest c p m i ≤ fewest c p (suc m) i
  unfolding fewest
  fewest_more zero i = omega arith
  fewest_more (suc m) i = step (ltb i (count_of c p)) (leads_more (fewest c p m) (fewest c p (suc m)) (fewest_more m) (instr_at c p i) i)
    where
      step : (b : Bool) → least_of (map (fewest c p m) (leads_to (instr_at c p i) i)) ≤ least_of (map (fewest c p (suc m)) (leads_to (instr_at c p i) i))
          → cond b (suc (least_of (map (fewest c p m) (leads_to (instr_at c p i) i)))) 0 ≤ cond b (suc (least_of (map (fewest c p (suc m)) (leads_to (instr_at c p i) i)))) 0
      step true l = omega arith
      step false l = omega arith

  -- one instruction brings the end nearer by one at most
  fewest_next : (m i : ℕ) → fewest c p m i ≤ suc (least_of (map (fewest c p m) (leads_to (instr_at c p i) i)))
  unfolding fewest
  fewest_next zero i = omega arith
  fewest_next (suc m) i = step (ltb i (count_of c p))
    where
      step : (b : Bool) → cond b (suc (least_of (map (fewest c p m) (leads_to (instr_at c p i) i)))) 0 ≤ suc (least_of (map (fewest c p (suc m)) (leads_to (instr_at c p i) i)))
      step true = let l = leads_more (fewest c p m) (fewest c p (suc m)) (fewest_more m) (instr_at c p i) i in omega arith
      step false = omega arith

  fewest_end : (m i : ℕ) → count_of c p ≤ i → fewest c p m i ≡ 0
  unfolding fewest
  fewest_end zero i h = refl
  fewest_end (suc m) i h = cond-false (ltb i (count_of c p)) (suc (least_of (map (fewest c p m) (leads_to (instr_at c p i) i)))) 0 (le-ltb i (count_of c p) h)

  -- the issue of instruction x at place i: what it owes, and the way from there
  pays : (m : ℕ) (x : Instr) (i : ℕ) → least_of (map (fewest c p m) (leads_to x i)) ≤ cond (branching (kind x)) (least_of (map (fewest c p m) (leads_to x i))) 0 + fewest_of c p m (place_after x i)
  pays m Empty i = omega arith
  pays m (Read d a) i = omega arith
  pays m (Write a b) i = omega arith
  pays m (Local d e) i = omega arith
  pays m (Branch a l) i = omega arith
  pays m (Goto l) i = omega arith
  pays m (Acquire a) i = omega arith
  pays m (Release a) i = omega arith

  -- a branch goes where it leads
  goes : (m : ℕ) (x : Instr) (i : ℕ) → branching (kind x) ≡ true → (b : Bool) → least_of (map (fewest c p m) (leads_to x i)) ≤ fewest c p m (cond b (suc i) (label_of x))
  goes m Empty i h b = absurd (false≢true h)
  goes m (Read d a) i h b = absurd (false≢true h)
  goes m (Write a d) i h b = absurd (false≢true h)
  goes m (Local d e) i h b = absurd (false≢true h)
  goes m (Branch a l) i h true = (lesser (fewest c p m l) (fewest c p m (suc i))).1
  goes m (Branch a l) i h false = (lesser (fewest c p m l) (fewest c p m (suc i))).0
  goes m (Goto l) i h b = absurd (false≢true h)
  goes m (Acquire a) i h b = absurd (false≢true h)
  goes m (Release a) i h b = absurd (false≢true h)

module _ (c : Case) (m : ℕ) (s : State) (G : Good s) where
  least_issue : (q : ℕ) → CanIssue c s q → least c m s ≤ suc (least c m (issued c s q))
  unfolding least issued total
  least_issue q I =
      let i = here c s q in
      let x = next c s q in
      let old = total-same s.count (λ k. owes c m (put s.actions s.count (new_action c s q) k)) (λ k. owes c m (s.actions k)) (λ k l. ap (owes c m) (put_other s.actions s.count k (new_action c s q) (λ e. omega arith))) in
      let new = ap (owes c m) (put_same s.actions s.count s.count (new_action c s q) refl) in
      let ways = total_but c.procs (λ p. fewest_of c p m (s.places p)) (λ p. fewest_of c p m (put s.places q (place_after x i) p)) q I.proc (λ p d. ap (fewest_of c p m) (sym (put_other s.places q p (place_after x i) d))) in
      let here_to = ap (fewest_of c q m) (place-some (s.places q) I.place) in
      let there_to = ap (fewest_of c q m) (put_same s.places q q (place_after x i) refl) in
      let one = fewest_next c q m i in
      let two = pays c q m x i in
      omega (arith, old, new, ways, here_to, there_to, one, two)

  least_commit : (u : Commit) → CanTake c s u → least c m s ≤ suc (least c m (committed_by c s u))
  unfolding least committed
  least_commit u U = step (branching (kind_of (self s u))) refl
    where
      to : ℕ
      to = cond (eqb (input s u 0) 0) (suc (self s u).place) (label_of (self s u).instr)

      -- what the action owed, and owes no more
      paid : total s.count (λ k. owes c m (s.actions k)) + 0 ≡ total s.count (λ k. owes c m (put s.actions u.action (settled_by c s u) k)) + owes c m (self s u)
      paid =
          ap (λ (x : ℕ). total s.count (λ k. owes c m (s.actions k)) + x) (sym (ap (owes c m) (put_same s.actions u.action u.action (settled_by c s u) refl)))
          ∙ total_but s.count (λ k. owes c m (s.actions k)) (λ k. owes c m (put s.actions u.action (settled_by c s u) k)) u.action U.there (λ k d. ap (owes c m) (sym (put_other s.actions u.action k (settled_by c s u) d)))

      owed : (b : Bool) → branching (kind_of (self s u)) ≡ b
          → owes c m (self s u) ≡ suc (2 * cond b (least_of (map (fewest c (self s u).proc m) (leads_to (self s u).instr (self s u).place))) 0)
      owed b e =
          ap (λ (o : Option ℕ). cond (is_none o) (suc (2 * cond (branching (kind_of (self s u))) (least_of (map (fewest c (self s u).proc m) (leads_to (self s u).instr (self s u).place))) 0)) 0) (waits-none u.proc (self s u) U.waits)
          ∙ ap (λ (b : Bool). suc (2 * cond b (least_of (map (fewest c (self s u).proc m) (leads_to (self s u).instr (self s u).place))) 0)) e

      step : (b : Bool) → branching (kind_of (self s u)) ≡ b
          → total s.count (λ k. owes c m (s.actions k)) + 2 * total c.procs (λ p. fewest_of c p m (s.places p)) ≤ suc (total s.count (λ k. owes c m (put s.actions u.action (settled_by c s u) k)) + 2 * total c.procs (λ p. fewest_of c p m (cond b (put s.places u.proc (some to)) s.places p)))
      step false e = omega (arith, paid, owed false e)
      step true e =
          let o = waits_proc u.proc (self s u) U.waits in
          let ways = total_but c.procs (λ p. fewest_of c p m (s.places p)) (λ p. fewest_of c p m (put s.places u.proc (some to) p)) u.proc U.proc (λ p d. ap (fewest_of c p m) (sym (put_other s.places u.proc p (some to) d))) in
          let before : fewest_of c u.proc m (s.places u.proc) ≡ 0 = nowhere (s.places u.proc) (G.halts u.proc u.action (turning_at c s u U u.proc refl e)) in
          let after : fewest_of c u.proc m (put s.places u.proc (some to) u.proc) ≡ fewest c u.proc m to = ap (fewest_of c u.proc m) (put_same s.places u.proc u.proc (some to) refl) in
          let near = subst (λ (p : ℕ). least_of (map (fewest c (self s u).proc m) (leads_to (self s u).instr (self s u).place)) ≤ fewest c p m to) o (goes c (self s u).proc m (self s u).instr (self s u).place e (eqb (input s u 0) 0)) in
          omega (arith, paid, owed true e, ways, before, after, near)
        where
          nowhere : (o : Option ℕ) → is_none o ≡ true → fewest_of c u.proc m o ≡ 0
          nowhere none h = refl
          nowhere (some i) h = absurd (false≢true h)

  least_step : (t : Step) → step_code c s t ≡ 0 → least c m s ≤ suc (least c m (after c s t))
  least_step (issue q) h = rw (after_issue c s q) (least_issue q (can_issue c s q h))
  least_step (commit q k e) h = rw (after-take c s (the q k e)) (least_commit (the q k e) (can_take c s (the q k e) h))
  least_step neither h = absurd (neither_no c s h)

-- nothing is owed at the end
least_end : (c : Case) (m : ℕ) (s : State) → Known c s → finished c s ≡ true → least c m s ≡ 0
unfolding least
least_end c m s K f =
    let a = total-none s.count (λ k. owes c m (s.actions k)) done in
    let b = total-none c.procs (λ p. fewest_of c p m (s.places p)) (λ p l. at p (s.places p) (still c s f p l).1) in
    omega arith
  where
    at : (p : ℕ) (o : Option ℕ) → or_zero o ≡ count_of c p → fewest_of c p m o ≡ 0
    at p none e = refl
    at p (some i) e = fewest_end c p m i (omega arith)

    done : (k : ℕ) → k < s.count → owes c m (s.actions k) ≡ 0
    done k l =
        ⊎_elim
        (λ h. absurd (false≢true (sym (still c s f (s.actions k).proc (K.names.actions k l).proc).0 ∙ below_make s.count (λ j. waiting (s.actions k).proc (s.actions j)) k l (and_make (eqb (s.actions k).proc (s.actions k).proc) (is_none (s.actions k).result) (eq-eqb (s.actions k).proc (s.actions k).proc refl) h))))
        (λ h. cond-false (is_none (s.actions k).result) (suc (2 * cond (branching (kind_of (s.actions k))) (least_of (map (fewest c (s.actions k).proc m) (leads_to (s.actions k).instr (s.actions k).place))) 0)) 0 h)
        (decide (is_none (s.actions k).result))

-- THE THEOREM: a run that finishes takes as many steps at least
pub done_least : (c : Case) (m : ℕ) (s : State) → Reachable (womm c) s → {n : ℕ} {r : List ℕ} → Done c s n r → least c m s ≤ n
done_least c m s R {n} (Done.now f e) = omega (arith, least_end c m s (known R) f)
done_least c m s R (Done.later t h d) =
    omega (arith, least_step c m s (known R).reached.good t h, done_least c m (after c s t) (reachable_step (womm c) R t h) d)

-- where no run finishes, and the cut is told, a search may stop
pub told-left : (c : Case) (W : Wish) (sp : Spent) (s : State) (n : ℕ) (B : Question → Type 0) → B cut → ((r : List ℕ) → Done c s n r → ⊥) → Told c W sp s n B B
told-left c W sp s n B x N = record { kept = λ q b. b; sound = λ q b. inl b; full = full }
  where
    full : (q : Question) → Run c W q s n → B q ⊎ Else c sp (Run c W q) s n
    full (outcome r) d = absurd (N r d.0)
    full cut d = inl x

-- THE THEOREM for code: too few steps are left
pub told_short : (c : Case) (W : Wish) (sp : Spent) (m : ℕ) (s : State) → Reachable (womm c) s → (n : ℕ) (B : Question → Type 0) → B cut → ltb n (least c m s) ≡ true → Told c W sp s n B B
told_short c W sp m s R n B x l = told-left c W sp s n B x (λ r d. absurd (omega (arith, ltb-true n (least c m s) l, done_least c m s R d)))
