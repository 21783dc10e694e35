-- An issue and its commit at once, from a state with empty queues. Assumes nothing.
use mathlib.Core.Path.{◌≡◌, refl, sym, ◌∙◌, ap, subst}
use mathlib.Core.Logic.{◌⊎◌, inl, inr, ⊎_elim}
use mathlib.Core.Bool.{Bool, true, false, not, cond, ◌&&◌, false≢true}
use mathlib.Core.List.{List, [], ◌∷◌, map}
use mathlib.Core.Option.{Option, none, some}
use Prim.Native.Nat.{ℕ, zero, suc, ◌+◌, ◌-◌, ◌≤◌, ◌<◌}
use native.Mathlib.Omega.{arith}
use lib.Dec.{eqb, ltb, leb}
use lib.ListN.{get_or}
use borrow.Author.Tests.{ltb-true, ltb-false, eqb-true, eqb-false, eq-eqb}
use Rattle.words.specs.Small.{is_none, or_zero, is, any, some_below}
use Rattle.words.proofs.Bools.{decide, and_both, or_none, put_same, put_other, below_cases, fails}
use Rattle.cases.specs.declared.Case.{Case}
use Rattle.rules.specs.Kinds.{kind, reads, assigns, reading, acquiring, releasing, accesses, syncs, held_by}
use Rattle.rules.specs.Order.{Order, joined_if}
use Rattle.rules.specs.State.{Name, start, given, State, Action, kind_of, waiting, value_of, item_is, initial, stands_at}
use Rattle.rules.specs.Issue.{issued, new_action, next, here, bound, address, earlier, renamed}
use Rattle.rules.specs.Commit.{committed, input, released, result_of, barred, visible}
use Rattle.rules.proofs.Closed.{UpTo, Via, joined_cases}
use Rattle.rules.proofs.Accepted.{CanCommit}
use Rattle.rules.proofs.Actions.{issued_old, issued_new}

-- an item that passes a test is an initial write, or that of an action
pub item_which : (b : Bool) (f : Action → Bool) (s : State) (e : ℕ) → item_is b f s e ≡ true → ((e < 8) × (b ≡ true)) ⊎ ((8 ≤ e) × (f (s.actions (e - 8)) ≡ true))
item_which b f s e h = step (ltb e 8) refl h
  where
    step : (q : Bool) → ltb e 8 ≡ q → cond q b (f (s.actions (e - 8))) ≡ true → ((e < 8) × (b ≡ true)) ⊎ ((8 ≤ e) × (f (s.actions (e - 8)) ≡ true))
    step true q x = inl (ltb-true _ _ q, x)
    step false q x = inr (ltb-false _ _ q, x)

-- one that is there before an issue passes as before
pub item_old : (c : Case) (s : State) (p : ℕ) (b : Bool) (f : Action → Bool) (e : ℕ) → (e ≡ 8 + s.count → ⊥) → item_is b f (issued c s p) e ≡ item_is b f s e
item_old c s p b f e d = step (ltb e 8) refl
  where
    step : (q : Bool) → ltb e 8 ≡ q → cond q b (f ((issued c s p).actions (e - 8))) ≡ cond q b (f (s.actions (e - 8)))
    step true q = refl
    step false q = ap f (issued_old c s p (e - 8) (λ x. d (omega (arith, ltb-false e 8 q))))

joined_if_via : (x y : Bool) (R : Order) (i n : ℕ) (P : ℕ → Bool) (a b : ℕ) → joined_if (x && y) R i n P a b ≡ true → (R a b ≡ true) ⊎ ((y ≡ true) × Via R i n P a b)
unfolding joined_if
joined_if_via true true R i n P a b h = ⊎_elim (λ q. inl q) (λ v. inr (refl, v)) (joined_cases R i n P a b h)
joined_if_via true false R i n P a b h = inl h
joined_if_via false y R i n P a b h = inl h

-- the name refers to an action below n
abbrev pub Below : ℕ → Name → Type 0
Below n (start v) = Unit {0}
Below n (given k) = k < n

below_more : (n : ℕ) (x : Name) → Below n x → Below (suc n) x
below_more n (start v) b = tt
below_more n (given k) b = omega arith

-- item a is, or stands before, an earlier item of the processor or a release
pub record Reaches (c : Case) (s : State) (p l a : ℕ) : Type 0 where
  pub from : ℕ
  pub low : from < 8 + s.count
  pub one : (earlier c s p l from ≡ true) ⊎ ((8 ≤ from) × (releasing (kind_of (s.actions (from - 8))) ≡ true))
  pub up : UpTo (s.orders l) a from

-- all that is issued is committed, orders are of items and go by the numbers, names refer to actions
pub record Settled (s : State) : Type 0 where
  pub whole : (k : ℕ) → k < s.count → is_none (s.actions k).result ≡ false
  pub rising : (l a b : ℕ) → s.orders l a b ≡ true → a < b
  pub bounded : (l a b : ℕ) → s.orders l a b ≡ true → b < 8 + s.count
  pub named : (p k : ℕ) → Below s.count (s.names p k)

pub settled_initial : (c : Case) → Settled (initial c)
settled_initial c =
    record {
      whole = λ k h. absurd (omega arith);
      rising = λ l a b h. absurd (false≢true h);
      bounded = λ l a b h. absurd (false≢true h);
      named = λ p k. tt;
    }

-- the state after both
abbrev pub took : Case → State → ℕ → ℕ → State
took c s p e = committed c (issued c s p) p s.count e

not-both : (q : ℕ) → acquiring q ≡ true → releasing q ≡ true → ⊥
not-both q a r = absurd (omega (arith, eqb-true q 6 a, eqb-true q 7 r))

module _ (c : Case) (s : State) (D : Settled s) (p : ℕ) where
  -- a stands before b after the issue
  pub issue_order : (l a b : ℕ) → (issued c s p).orders l a b ≡ true → (s.orders l a b ≡ true) ⊎ ((b ≡ 8 + s.count) × Reaches c s p l a)
  unfolding issued
  issue_order l a b h = ⊎_elim (λ q. inl q) (λ v. inr (via v.1 v.1.down)) (joined_if_via (ltb l c.locs) (stands_at l (new_action c s p)) (s.orders l) _ _ _ a b h)
    where
      via : (v : Via (s.orders l) (8 + s.count) (8 + s.count) (earlier c s p l) a b) → UpTo (s.orders l) (8 + s.count) b → (b ≡ 8 + s.count) × Reaches c s p l a
      via v (inl q) = (sym q, record { from = v.from; low = v.low; one = inl v.one; up = v.up })
      via v (inr q) = absurd (omega (arith, D.rising l _ _ q, D.bounded l _ _ q))

  up_low : (l a b : ℕ) → UpTo (s.orders l) a b → a ≤ b
  up_low l a b (inl q) = omega arith
  up_low l a b (inr q) = omega (arith, D.rising l a b q)

  pub issue_rising : (l a b : ℕ) → (issued c s p).orders l a b ≡ true → a < b
  issue_rising l a b h = ⊎_elim (λ q. D.rising l a b q) (λ v. omega (arith, v.0, v.1.low, up_low l a v.1.from v.1.up)) (issue_order l a b h)

  named_issue : (q k : ℕ) → Below (suc s.count) ((issued c s p).names q k)
  unfolding issued
  named_issue q k = step (eqb q p)
    where
      old : (q k : ℕ) → Below (suc s.count) (s.names q k)
      old q k = below_more s.count (s.names q k) (D.named q k)

      new : (o : Option ℕ) → Below (suc s.count) (renamed (s.names p) o (given s.count) k)
      new none = old p k
      new (some d) = at (eqb k d)
        where
          at : (b : Bool) → Below (suc s.count) (cond b (given s.count) (s.names p k))
          at true = omega arith
          at false = old p k

      step : (b : Bool) → Below (suc s.count) (cond b (renamed (s.names p) (assigns (next c s p)) (given s.count)) (s.names q) k)
      step true = new (assigns (next c s p))
      step false = old q k

  module _ (e : ℕ) where
    abbrev first : State
    first = issued c s p

    pub took_old : (k : ℕ) → (k ≡ s.count → ⊥) → (took c s p e).actions k ≡ s.actions k
    unfolding committed
    took_old k d = put_other first.actions s.count k _ d ∙ issued_old c s p k d

    abbrev pub done_action : Action
    done_action =
        record {
          proc = p;
          place = here c s p;
          instr = next c s p;
          inputs = bound c s p;
          loc = cond (accesses (kind (next c s p))) (or_zero (address c s p)) 0;
          result = some (result_of c (issued c s p) p s.count e (next c s p));
        }

    pub took_new : (took c s p e).actions s.count ≡ done_action
    unfolding committed
    took_new =
        put_same first.actions s.count s.count _ refl
        ∙ ap (λ (a : Action). record { proc = a.proc; place = a.place; instr = a.instr; inputs = a.inputs; loc = a.loc; result = some (result_of c (issued c s p) p s.count e a.instr) }) (issued_new c s p)

    count1 : first.count ≡ suc s.count
    unfolding issued
    count1 = refl

    holders1 : first.holders ≡ s.holders
    unfolding issued
    holders1 = refl

    -- an acquire comes after a release that was there already
    module _ (l a b : ℕ) (q : acquiring (kind_of (first.actions s.count)) ≡ true)
        (v : Via (first.orders l) (8 + s.count) (8 + first.count) (released c first p s.count e (input c first p s.count e 0)) a b) where
      abbrev place : ℕ
      place = input c first p s.count e 0

      release_there : (8 ≤ v.from) × (releasing (kind_of (first.actions (v.from - 8))) ≡ true)
      release_there =
          ⊎_elim (λ x. absurd (false≢true x.1))
          (λ x. (x.0, (and_both (releasing (kind_of (first.actions (v.from - 8)))) _ x.1).0))
          (item_which false (λ k. releasing (kind_of k) && is place k.result) first v.from v.one)

      release_old : v.from - 8 ≡ s.count → ⊥
      release_old h = not-both (kind_of (first.actions s.count)) q (subst (λ (k : ℕ). releasing (kind_of (first.actions k)) ≡ true) h release_there.1)

      via_release : (b ≡ 8 + s.count) × Reaches c s p l a
      via_release =
          (to v.down, record { from = v.from; low = low; one = inr (release_there.0, subst (λ (x : Action). releasing (kind_of x) ≡ true) (issued_old c s p (v.from - 8) release_old) release_there.1); up = up v.up })
        where
          low : v.from < 8 + s.count
          low = omega (arith, v.low, count1, release_there.0, release_old)

          to : UpTo (first.orders l) (8 + s.count) b → b ≡ 8 + s.count
          to (inl y) = sym y
          to (inr y) = ⊎_elim (λ r. absurd (omega (arith, D.rising l _ _ r, D.bounded l _ _ r))) (λ r. r.0) (issue_order l _ b y)

          up : UpTo (first.orders l) a v.from → UpTo (s.orders l) a v.from
          up (inl y) = inl y
          up (inr y) = ⊎_elim (λ r. inr r) (λ r. absurd (omega (arith, r.0, low))) (issue_order l a _ y)

    pub took_order : (l a b : ℕ) → (took c s p e).orders l a b ≡ true → (s.orders l a b ≡ true) ⊎ ((b ≡ 8 + s.count) × Reaches c s p l a)
    unfolding committed
    took_order l a b h = ⊎_elim (issue_order l a b) (λ v. inr (via_release l a b v.0 v.1)) (joined_if_via (ltb l c.locs) (acquiring (kind_of (first.actions s.count))) (first.orders l) _ _ _ a b h)

    pub took_rising : (l a b : ℕ) → (took c s p e).orders l a b ≡ true → a < b
    took_rising l a b h = ⊎_elim (λ q. D.rising l a b q) (λ v. omega (arith, v.0, v.1.low, up_low l a v.1.from v.1.up)) (took_order l a b h)

    pub took-count : (took c s p e).count ≡ suc s.count
    unfolding committed issued
    took-count = refl

    took-names : (took c s p e).names ≡ first.names
    unfolding committed
    took-names = refl

    pub took_settled : Settled (took c s p e)
    took_settled =
        record {
          whole = λ k h. whole k h (decide (eqb k s.count));
          rising = took_rising;
          bounded = λ l a b h. ⊎_elim (λ q. omega (arith, took-count, D.bounded l a b q)) (λ v. omega (arith, took-count, v.0)) (took_order l a b h);
          named = named;
        }
      where
        whole : (k : ℕ) → k < (took c s p e).count → (eqb k s.count ≡ true) ⊎ (eqb k s.count ≡ false) → is_none ((took c s p e).actions k).result ≡ false
        whole k h (inl q) = ap (λ (j : ℕ). is_none ((took c s p e).actions j).result) (eqb-true _ _ q) ∙ ap (λ (a : Action). is_none a.result) took_new
        whole k h (inr q) = ap (λ (a : Action). is_none a.result) (took_old k (eqb-false _ _ q)) ∙ D.whole k (omega (arith, h, took-count, eqb-false k s.count q))

        named : (q k : ℕ) → Below (took c s p e).count ((took c s p e).names q k)
        named q k = rw (took-count, took-names) (named_issue q k)

    -- what has been named keeps its value
    value_issued : (n : Name) → Below s.count n → value_of first n ≡ value_of s n
    value_issued (start v) b = refl
    value_issued (given k) b = ap (λ (a : Action). a.result) (issued_old c s p k (λ h. omega arith))

    pub value-took : (n : Name) → Below s.count n → value_of (took c s p e) n ≡ value_of s n
    value-took (start v) b = refl
    value-took (given k) b = ap (λ (a : Action). a.result) (took_old k (λ h. omega arith))

    -- the commit, from what its last tests want; the queue is empty before it, so that nothing holds it back, whatever the table says
    module _ (f : ℕ → Option ℕ) (agree : (k : ℕ) → value_of s (s.names p k) ≡ f k) where
      operand_same : (rs : List ℕ) (n : ℕ) → value_of first (get_or (map (s.names p) rs) n (start none)) ≡ get_or (map f rs) n none
      operand_same [] n = refl
      operand_same (r ∷ rs) zero = value_issued (s.names p r) (D.named p r) ∙ agree r
      operand_same (r ∷ rs) (suc n) = operand_same rs n

      pub input_same : (n : ℕ) → input c first p s.count e n ≡ or_zero (get_or (map f (reads (next c s p))) n none)
      input_same n = rw (issued_new c s p) (ap or_zero (operand_same (reads (next c s p)) n))

      ready_same : (rs : List ℕ) → any is_none (map f rs) ≡ false → any (λ n. is_none (value_of first n)) (map (s.names p) rs) ≡ false
      ready_same [] h = refl
      ready_same (r ∷ rs) h =
          let w = or_none (is_none (f r)) (any is_none (map f rs)) h in
          rw (value_issued (s.names p r) (D.named p r), agree r, w.0) (ready_same rs w.1)

      pub commit_can : p < c.procs → any is_none (map f (reads (next c s p))) ≡ false → (not (eqb e 0) && not (reading (kind (next c s p)))) ≡ false
          → (syncs (kind (next c s p)) && leb c.locs (or_zero (get_or (map f (reads (next c s p))) 0 none))) ≡ false
          → barred p (kind (next c s p)) (s.holders (or_zero (get_or (map f (reads (next c s p))) 0 none))) ≡ false
          → (reading (kind (next c s p)) && not (visible c first (cond (accesses (kind (next c s p))) (or_zero (address c s p)) 0) (8 + s.count) e)) ≡ false
          → CanCommit c first p s.count e
      commit_can pr rd pl lo ho se =
          record {
            proc = pr;
            there = omega (arith, count1);
            waits = rw (issued_new c s p) (rw (eq-eqb p p refl));
            plain = rw (issued_new c s p) pl;
            free = fails false _ free refl;
            ready = rw (issued_new c s p) (ready_same (reads (next c s p)) rd);
            low = rw (input_same 0, issued_new c s p) lo;
            allowed = rw (input_same 0, issued_new c s p) (rw holders1 ho);
            sees = rw (issued_new c s p) se;
          }
        where
          holds : ℕ → Bool
          holds j = waiting p (first.actions j) && held_by (kind_of (first.actions s.count)) (kind_of (first.actions j)) (eqb (first.actions j).loc (first.actions s.count).loc)

          free : some_below s.count holds ≡ true → false ≡ true
          free h =
              let w = below_cases s.count holds h in
              let q = subst (λ (a : Action). waiting p a ≡ true) (issued_old c s p w.0 (λ x. omega (arith, w.1))) (and_both (waiting p (first.actions w.0)) _ w.2).0 in
              sym (D.whole w.0 w.1) ∙ (and_both (eqb (s.actions w.0).proc p) (is_none (s.actions w.0).result) q).1
