-- Which item a read of a board takes its value from in the WOMM, and that it may. Assumes nothing.
use mathlib.Core.Path.{◌≡◌, refl, sym, ◌∙◌, ap, subst}
use mathlib.Core.Logic.{◌⊎◌, inl, inr, ⊎_elim}
use mathlib.Core.Bool.{Bool, true, false, cond, ◌&&◌, false≢true}
use mathlib.Core.List.{map, Memᴰ}
use mathlib.Core.Option.{Option, none, some}
use Prim.Native.Nat.{ℕ, ◌+◌, ◌-◌, ◌≤◌, ◌<◌}
use native.Mathlib.Omega.{arith}
use lib.Dec.{eqb, ltb}
use borrow.Author.Tests.{ltb-false, eqb-true}
use Rattle.words.specs.Small.{is_none, or_zero, some_below}
use Rattle.words.proofs.Bools.{and_both, fails, below_cases}
use Rattle.cases.specs.Case.{word_of}
use Rattle.cases.specs.declared.Case.{Case}
use Rattle.rules.specs.Commit.{writes, visible}
use Rattle.rules.specs.Issue.{issued, earlier}
use Rattle.rules.specs.Kinds.{writing, releasing}
use Rattle.rules.specs.State.{State, Action, kind_of, item_value, stands_at}
use Rattle.rules.proofs.Accepted.{visible_make, between}
use Rattle.rules.proofs.Actions.{issued_old}
use Rattle.boards.specs.Board.{slot, Board, newest_to, pending, or_else, seen}
use Rattle.boards.specs.declared.Buffering.{Buffering}
use Rattle.inclusion.proofs.Mirror.{Held, Mirror, writes_action, action_writes, action_value, known}
use Rattle.inclusion.proofs.Stores.{store_of, Newest, newest-none, newest-some}
use Rattle.inclusion.proofs.Took.{item_old, Reaches, item_which, issue_order, issue_rising}

no_both : (q : ℕ) → writing q ≡ true → releasing q ≡ true → ⊥
no_both q a r = absurd (omega (arith, eqb-true q 2 a, eqb-true q 7 r))

-- the item whose value processor p reads at location l
pub record Source (k : Buffering) (c : Case) (b : Board) (s : State) (p l : ℕ) : Type 0 where
  pub item : ℕ
  pub low : item < 8 + s.count
  pub one : writes s l item ≡ true
  pub worth : item_value c s item ≡ some (seen k b p l)
  -- no write item stands after it and before the read
  pub clear : (w : ℕ) → writes s l w ≡ true → s.orders l item w ≡ true → Reaches c s p l w → ⊥

module _ (k : Buffering) (c : Case) (b : Board) (s : State) (M : Mirror k c b s) (p : ℕ) where
  -- a buffered store stands before a new item of its own processor alone
  pub reach_own : (q m j l : ℕ) → Memᴰ j (M.items q m) → Reaches c s p l (8 + j) → q ≡ p
  reach_own q m j l h r = step r.one r.up
    where
      H : Held k c s q m j
      H = M.held q m j h

      own : 8 ≤ r.from → earlier c s p l r.from ≡ true → (s.actions (r.from - 8)).proc ≡ p
      own g e = ⊎_elim (λ x. absurd (omega (arith, x.0))) (λ x. eqb-true _ _ (and_both (eqb (s.actions (r.from - 8)).proc p) _ x.1).0) (item_which (eqb r.from l) (λ a. eqb a.proc p && stands_at l a) s r.from e)

      here' : 8 + j ≡ r.from → r.from - 8 ≡ j
      here' e = omega arith

      step : (earlier c s p l r.from ≡ true) ⊎ ((8 ≤ r.from) × (releasing (kind_of (s.actions (r.from - 8))) ≡ true)) → (8 + j ≡ r.from) ⊎ (s.orders l (8 + j) r.from ≡ true) → q ≡ p
      step (inl e) (inl u) = sym H.mine ∙ ap (λ (i : ℕ). (s.actions i).proc) (sym (here' u)) ∙ own (omega arith) e
      step (inr e) (inl u) = absurd (no_both (kind_of (s.actions j)) H.writes (subst (λ (i : ℕ). releasing (kind_of (s.actions i)) ≡ true) (here' u) e.1))
      step (inl e) (inr u) = sym (M.private q m j h l r.from u).0 ∙ own (omega (arith, M.settled.rising l (8 + j) r.from u)) e
      step (inr e) (inr u) = absurd (false≢true (sym (M.private q m j h l r.from u).1 ∙ e.1))

  module _ (l : ℕ) (low : l < c.locs) where
    from_memory : pending b p l (slot k l) ≡ none → ((m j : ℕ) → Memᴰ j (M.items p m) → (s.actions j).loc ≡ l → ⊥) → Source k c b s p l
    from_memory e f =
        record {
          item = M.last l;
          low = M.last_there l low;
          one = M.last_writes l low;
          worth = M.last_value l low ∙ ap (λ o. some (or_else o (b.memory l))) (sym e);
          clear = clear;
        }
      where
        clear : (w : ℕ) → writes s l w ≡ true → s.orders l (M.last l) w ≡ true → Reaches c s p l w → ⊥
        clear w wr r h =
            let o = M.newest l w low r wr in
            let q = reach_own o.proc o.buffer o.store l o.mem (subst (λ (x : ℕ). Reaches c s p l x) o.same h) in
            f o.buffer o.store (subst (λ (x : ℕ). Memᴰ o.store (M.items x o.buffer)) q o.mem) (writes_action s l o.store (subst (λ (x : ℕ). writes s l x ≡ true) o.same wr)).1

    from_buffer : (n v : ℕ) → pending b p l (slot k l) ≡ some v → Newest s l (M.items p n) v → Source k c b s p l
    from_buffer n v e N =
        record {
          item = 8 + N.store;
          low = omega (arith, H.there);
          one = action_writes s l N.store H.writes N.at;
          worth = action_value c s N.store ∙ known _ (M.settled.whole N.store H.there) ∙ ap some N.worth ∙ ap (λ o. some (or_else o (b.memory l))) (sym e);
          clear = clear;
        }
      where
        H : Held k c s p n N.store
        H = M.held p n N.store N.mem

        clear : (w : ℕ) → writes s l w ≡ true → s.orders l (8 + N.store) w ≡ true → Reaches c s p l w → ⊥
        clear w wr r h =
            let u : 8 + N.store < w = M.settled.rising l (8 + N.store) w r in
            let same : w ≡ 8 + (w - 8) = omega arith in
            let a = writes_action s l (w - 8) (subst (λ (z : ℕ). writes s l z ≡ true) same wr) in
            let i = M.later p n N.store (w - 8) N.mem (omega arith) (omega (arith, M.settled.bounded l (8 + N.store) w r)) (M.private p n N.store N.mem l w r).0 a.0 (a.1 ∙ sym N.at) in
            omega (arith, N.top (w - 8) i a.1)

    pub source : Source k c b s p l
    source = go (slot k l) refl
      where
        goes : (m j : ℕ) → Memᴰ j (M.items p m) → (s.actions j).loc ≡ l → slot k l ≡ some m
        goes m j h e = ap (slot k) (sym e) ∙ (M.held p m j h).goes

        look : (n : ℕ) → slot k l ≡ some n → (o : Option ℕ) → newest_to l (map (store_of s) (M.items p n)) ≡ o → Source k c b s p l
        look n e none h = from_memory (ap (pending b p l) e ∙ ap (newest_to l) (M.buffers p n) ∙ h) (λ m j x y. newest-none s l (M.items p n) h j (subst (λ (z : ℕ). Memᴰ j (M.items p z)) (ap or_zero (sym (goes m j x y) ∙ e)) x) y)
        look n e (some v) h = from_buffer n v (ap (pending b p l) e ∙ ap (newest_to l) (M.buffers p n) ∙ h) (newest-some s l (M.items p n) (M.ascends p n) v h)

        go : (o : Option ℕ) → slot k l ≡ o → Source k c b s p l
        go none e = from_memory (ap (pending b p l) e) (λ m j h q. false≢true (ap is_none (sym (goes m j h q) ∙ e)))
        go (some n) e = look n e (newest_to l (map (store_of s) (M.items p n))) refl

  -- the read, once issued, may take it
  module _ (l : ℕ) (S : Source k c b s p l) where
    value_first : item_value c (issued c s p) S.item ≡ item_value c s S.item
    value_first = step (ltb S.item 8) refl
      where
        step : (q : Bool) → ltb S.item 8 ≡ q → cond q (some (word_of c S.item)) ((issued c s p).actions (S.item - 8)).result ≡ cond q (some (word_of c S.item)) (s.actions (S.item - 8)).result
        step true q = refl
        step false q = ap (λ (a : Action). a.result) (issued_old c s p (S.item - 8) (λ x. omega (arith, ltb-false S.item 8 q, S.low)))

    pub worth_first : item_value c (issued c s p) S.item ≡ some (seen k b p l)
    worth_first = value_first ∙ S.worth

    pub source_visible : visible c (issued c s p) l (8 + s.count) S.item ≡ true
    source_visible =
        visible_make c (issued c s p) l (8 + s.count) S.item
        record {
          one = item_old c s p (eqb S.item l) (λ a. writing (kind_of a) && eqb a.loc l) S.item (λ x. omega (arith, S.low)) ∙ S.one;
          known = ap is_none worth_first;
          newest = fails false _ newest refl;
          before = fails false _ (λ h. absurd (omega (arith, S.low, issue_rising c s M.settled p l (8 + s.count) S.item h))) refl;
        }
      where
        newest : some_below (8 + (issued c s p).count) (between (issued c s p) l (8 + s.count) S.item) ≡ true → false ≡ true
        newest h =
            let v = below_cases _ (between (issued c s p) l (8 + s.count) S.item) h in
            let w = v.0 in
            let a = and_both (writes (issued c s p) l w) _ v.2 in
            let d = and_both ((issued c s p).orders l S.item w) ((issued c s p).orders l w (8 + s.count)) a.1 in
            let u : w < 8 + s.count = issue_rising c s M.settled p l w (8 + s.count) d.1 in
            let wr : writes s l w ≡ true = sym (item_old c s p (eqb w l) (λ a. writing (kind_of a) && eqb a.loc l) w (λ x. omega arith)) ∙ a.0 in
            ⊎_elim (λ r. ⊎_elim (λ z. absurd (omega (arith, M.settled.bounded l w (8 + s.count) z))) (λ z. absurd (S.clear w wr r z.1)) (issue_order c s M.settled p l w (8 + s.count) d.1)) (λ r. absurd (omega (arith, r.0))) (issue_order c s M.settled p l S.item w d.0)
