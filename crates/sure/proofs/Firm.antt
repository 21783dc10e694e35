-- Behind a queued action stand only later actions of its processor, so no acquire's commit hides a source from a read. Assumes nothing.
use mathlib.Core.Path.{◌≡◌, refl, sym, ◌∙◌, ap, subst}
use mathlib.Core.Logic.{◌⊎◌, inl, inr, ⊎_elim}
use mathlib.Core.Bool.{Bool, true, false, cond, ◌&&◌, false≢true}
use mathlib.Core.Option.{Option, none, some}
use Prim.Native.Nat.{ℕ, ◌+◌, ◌≤◌, ◌<◌}
use native.Mathlib.Omega.{arith}
use lib.Dec.{eqb, ltb}
use borrow.Author.Tests.{eqb-true, eqb-false, ltb-true, ltb-false}
use Rattle.words.specs.Small.{some_below, is, is_none}
use Rattle.words.proofs.Bools.{and_make, below_fewer, and_both, fails, put_other, decide, put_same}
use Rattle.cases.specs.declared.Case.{Case}
use Rattle.rules.specs.Kinds.{releasing, reading, acquiring, writing}
use Rattle.rules.specs.Commit.{writes, committed}
use Rattle.rules.specs.State.{Action, stands_at, State, kind_of, initial}
use Rattle.rules.specs.Step.{issue, Step, commit, neither, step_code, after}
use Rattle.rules.specs.Issue.{new_action, issued, earlier}
use Rattle.rules.proofs.Closed.{UpTo, Via, joined_if_cases}
use Rattle.rules.proofs.Accepted.{after_issue, after_commit, can_commit, between, Visible, visible_make, neither_no}
use Rattle.sure.proofs.Kept.{unheld, issued_new, issued_old, committed_field, Kept, kept_commit, waits-none, waits_proc, item_kept, carry}
use Rattle.sure.proofs.Good.{Good}
use Rattle.sure.proofs.Issues.{item_high}
use Rattle.sure.proofs.Commits.{item_test, unbarred}
use Rattle.sure.proofs.Commit.{settled_by, committed_by, self, CanTake, the, sees_take, item, Commit, releases, input}
use Rattle.sure.proofs.Held.{read_held, read_only, release_held}

-- item b is a later action of k's processor
pub record Behind (s : State) (k b : ℕ) : Type 0 where
  pub number : ℕ
  pub is_item : b ≡ 8 + number
  pub above : k < number
  pub mine : (s.actions number).proc ≡ (s.actions k).proc

pub record Firm (s : State) : Type 0 where
  -- what stands behind an action in the queue is its processor's
  pub behind : (l k b : ℕ) → s.orders l (8 + k) b ≡ true → (s.actions k).result ≡ none → Behind s k b
  -- before a committed release, all of its processor is committed
  pub drained : (j k : ℕ) → releasing (kind_of (s.actions j)) ≡ true → is_none (s.actions j).result ≡ false → k < j
      → (s.actions k).proc ≡ (s.actions j).proc → (s.actions k).result ≡ none → ⊥

pub firm_initial : (c : Case) → Firm (initial c)
firm_initial c = record { behind = λ l k b x y. absurd (false≢true x); drained = λ j k x y l p z. absurd (false≢true (sym y)) }

module _ (c : Case) (s : State) (G : Good s) (F : Firm s) where
  module _ (p : ℕ) where
    behind_old : (k b : ℕ) → k < s.count → b < 8 + s.count → Behind s k b → Behind (issued c s p) k b
    behind_old k b h g B =
        let j : B.number < s.count = omega (arith, B.is_item) in
        record { number = B.number; is_item = B.is_item; above = B.above; mine = ap (λ (a : Action). a.proc) (issued_old c s p B.number j) ∙ B.mine ∙ ap (λ (a : Action). a.proc) (sym (issued_old c s p k h)) }

    -- an earlier item of the processor
    earlier_proc : (l j : ℕ) → earlier c s p l (8 + j) ≡ true → (s.actions j).proc ≡ p
    earlier_proc l j h =
        eqb-true _ _
        (and_both (eqb (s.actions j).proc p) (stands_at l (s.actions j)) (sym (item_high (eqb (8 + j) l) (λ a. eqb a.proc p && stands_at l a) s j (8 + j) refl) ∙ h)).0

    behind_issue : (l k b : ℕ) → (issued c s p).orders l (8 + k) b ≡ true → ((issued c s p).actions k).result ≡ none → Behind (issued c s p) k b
    unfolding issued
    behind_issue l k b h w =
        ⊎_elim before via
        (joined_if_cases (ltb l c.locs && stands_at l (new_action c s p)) (s.orders l) (8 + s.count) (8 + s.count) (earlier c s p l) (8 + k) b h)
      where
        idle : k < s.count → (s.actions k).result ≡ none
        idle g = ap (λ (a : Action). a.result) (sym (issued_old c s p k g)) ∙ w

        before : s.orders l (8 + k) b ≡ true → Behind (issued c s p) k b
        before e =
            let q = G.bounded l (8 + k) b e in
            let g : k < s.count = omega (arith, q.0) in
            behind_old k b g q.1 (F.behind l k b e (idle g))

        new : b ≡ 8 + s.count → k < s.count → (s.actions k).proc ≡ p → Behind (issued c s p) k b
        new e g m =
            record {
              number = s.count;
              is_item = e;
              above = g;
              mine = ap (λ (a : Action). a.proc) (issued_new c s p) ∙ sym m ∙ ap (λ (a : Action). a.proc) (sym (issued_old c s p k g));
            }

        via : Via (s.orders l) (8 + s.count) (8 + s.count) (earlier c s p l) (8 + k) b → Behind (issued c s p) k b
        via v = down v.down
          where
            at : UpTo (s.orders l) (8 + k) v.from → (k < s.count) × ((s.actions k).proc ≡ p)
            at (inl e) = (omega (arith, v.low), earlier_proc l k (subst (λ (x : ℕ). earlier c s p l x ≡ true) (sym e) v.one))
            at (inr e) =
                let g : k < s.count = omega (arith, (G.bounded l (8 + k) v.from e).0) in
                let B = F.behind l k v.from e (idle g) in
                (g, sym B.mine ∙ earlier_proc l B.number (subst (λ (x : ℕ). earlier c s p l x ≡ true) B.is_item v.one))

            down : UpTo (s.orders l) (8 + s.count) b → Behind (issued c s p) k b
            down (inl e) = let q = at v.up in new (sym e) q.0 q.1
            down (inr e) = absurd (omega (arith, (G.bounded l (8 + s.count) b e).0))

    drained_issue : (j k : ℕ) → releasing (kind_of ((issued c s p).actions j)) ≡ true → is_none ((issued c s p).actions j).result ≡ false → k < j
        → ((issued c s p).actions k).proc ≡ ((issued c s p).actions j).proc → ((issued c s p).actions k).result ≡ none → ⊥
    unfolding issued
    drained_issue j k x y l m z =
        let g : j < s.count = low (decide (ltb j s.count)) in
        let a = issued_old c s p j g in
        let b = issued_old c s p k (omega arith) in
        F.drained j k (ap (λ (a : Action). releasing (kind_of a)) (sym a) ∙ x) (ap (λ (a : Action). is_none a.result) (sym a) ∙ y) l (ap (λ (a : Action). a.proc) (sym b) ∙ m ∙ ap (λ (a : Action). a.proc) a) (ap (λ (a : Action). a.result) (sym b) ∙ z)
      where
        unset : s.count ≤ j → is_none ((issued c s p).actions j).result ≡ true
        unset h =
            ⊎_elim
            (λ e. ap (λ (a : Action). is_none a.result) (put_same s.actions s.count j (new_action c s p) (eqb-true _ _ e)))
            (λ e. ap (λ (a : Action). is_none a.result) (put_other s.actions s.count j (new_action c s p) (eqb-false _ _ e)) ∙ ap is_none (G.fresh j h))
            (decide (eqb j s.count))

        low : (ltb j s.count ≡ true) ⊎ (ltb j s.count ≡ false) → j < s.count
        low (inl e) = ltb-true _ _ e
        low (inr e) = absurd (false≢true (sym y ∙ unset (ltb-false _ _ e)))

    pub firm_issue : Firm (issued c s p)
    firm_issue = record { behind = behind_issue; drained = drained_issue }

  -- nothing queued stands before a committed release
  released-front : (l m k e : ℕ) → releases s m e ≡ true → UpTo (s.orders l) (8 + k) e → (s.actions k).result ≡ none → ⊥
  released-front l m k e r = step
    where
      freed : (j : ℕ) → e ≡ 8 + j → (releasing (kind_of (s.actions j)) ≡ true) × (is_none (s.actions j).result ≡ false)
      freed j q =
          let w = and_both (releasing (kind_of (s.actions j))) (is m (s.actions j).result) (sym (item_high false (λ a. releasing (kind_of a) && is m a.result) s j e q) ∙ r) in
          (w.0, given (s.actions j).result w.1)
        where
          given : (o : Option ℕ) → is m o ≡ true → is_none o ≡ false
          given none x = absurd (false≢true x)
          given (some v) x = refl

      step : UpTo (s.orders l) (8 + k) e → (s.actions k).result ≡ none → ⊥
      step (inl q) n = false≢true (sym (freed k (sym q)).1 ∙ ap is_none n)
      step (inr q) n =
          let B = F.behind l k e q n in
          let f = freed B.number B.is_item in
          F.drained B.number k f.0 f.1 B.above (sym B.mine) n

  module _ (u : Commit) (U : CanTake c s u) where
    -- an edge from a queued action was there before
    kept_edge : (l k b : ℕ) → (s.actions k).result ≡ none → (committed_by c s u).orders l (8 + k) b ≡ true → s.orders l (8 + k) b ≡ true
    unfolding committed
    kept_edge l k b n h =
        ⊎_elim (λ e. e)
        (λ v. absurd (released-front l (input s u 0) k v.from v.one v.up n))
        (joined_if_cases (ltb l c.locs && acquiring (kind_of (self s u))) (s.orders l) (item u) (8 + s.count) (releases s (input s u 0)) (8 + k) b h)

    -- what is queued after was before
    pub was_queued : (k : ℕ) → ((committed_by c s u).actions k).result ≡ none → (k ≡ u.action → ⊥) × ((s.actions k).result ≡ none)
    unfolding committed
    was_queued k = step (eqb k u.action) refl
      where
        step : (b : Bool) → eqb k u.action ≡ b → (cond b (settled_by c s u) (s.actions k)).result ≡ none
            → (k ≡ u.action → ⊥) × ((s.actions k).result ≡ none)
        step true e x = absurd (false≢true (ap is_none x))
        step false e x = (eqb-false _ _ e, x)

    same_proc : (k : ℕ) → ((committed_by c s u).actions k).proc ≡ (s.actions k).proc
    same_proc = committed_field c s u (λ a. a.proc) refl

    drained_commit : (j k : ℕ) → releasing (kind_of ((committed_by c s u).actions j)) ≡ true → is_none ((committed_by c s u).actions j).result ≡ false
        → k < j → ((committed_by c s u).actions k).proc ≡ ((committed_by c s u).actions j).proc → ((committed_by c s u).actions k).result ≡ none → ⊥
    unfolding committed
    drained_commit j k x y l m z = step (decide (eqb j u.action))
      where
        n : (s.actions k).result ≡ none
        n = (was_queued k z).1

        m' : (s.actions k).proc ≡ (s.actions j).proc
        m' = sym (same_proc k) ∙ m ∙ same_proc j

        here : j ≡ u.action → ⊥
        here e =
            let r : releasing (kind_of (self s u)) ≡ true = sym (ap (λ (a : Action). releasing (kind_of a)) (put_same s.actions u.action j (settled_by c s u) e)) ∙ x in
            let p : (s.actions k).proc ≡ u.proc = m' ∙ ap (λ (i : ℕ). (s.actions i).proc) e ∙ waits_proc u.proc (self s u) U.waits in
            unheld c s u U k (omega arith) p n (release_held (kind_of (self s u)) _ _ r)

        there : (j ≡ u.action → ⊥) → ⊥
        there d =
            let q = put_other s.actions u.action j (settled_by c s u) d in
            F.drained j k (ap (λ (a : Action). releasing (kind_of a)) (sym q) ∙ x) (ap (λ (a : Action). is_none a.result) (sym q) ∙ y) l m' n

        step : (eqb j u.action ≡ true) ⊎ (eqb j u.action ≡ false) → ⊥
        step (inl e) = here (eqb-true _ _ e)
        step (inr e) = there (eqb-false _ _ e)

    pub firm_commit : Firm (committed_by c s u)
    firm_commit =
        record {
          behind = λ l k b h n.
              let w = was_queued k n in
              let B = F.behind l k b (kept_edge l k b w.1 h) w.1 in
              record { number = B.number; is_item = B.is_item; above = B.above; mine = same_proc B.number ∙ B.mine ∙ sym (same_proc k) };
          drained = drained_commit;
        }

  pub firm_step : (t : Step) → step_code c s t ≡ 0 → Firm (after c s t)
  firm_step (issue p) h = rw (after_issue c s p) (firm_issue p)
  firm_step (commit p k e) h = rw (after_commit c s p k e) (firm_commit (the p k e) (can_commit c s p k e h))
  firm_step neither h = absurd (neither_no c s h)

  -- The read t, accepted, is still accepted after the acquire u.
  module _ (t u : Commit) (T : CanTake c s t) (U : CanTake c s u) (d : t.action ≡ u.action → ⊥) (r : reading (kind_of (self s t)) ≡ true) (a : acquiring (kind_of (self s u)) ≡ true) where
    queued : (s.actions t.action).result ≡ none
    queued = waits-none t.proc (self s t) T.waits

    taken : (s.actions u.action).result ≡ none
    taken = waits-none u.proc (self s u) U.waits

    K : Kept s (committed_by c s u) t.action
    K = kept_commit c s u t.action U d

    -- the read does not stand after the acquire: it would be held back
    not_behind : (l : ℕ) → s.orders l (item u) (item t) ≡ true → ⊥
    not_behind l h =
        let B = F.behind l u.action (item t) h taken in
        let e : B.number ≡ t.action = omega (arith, B.is_item) in
        let p : (s.actions u.action).proc ≡ t.proc = sym B.mine ∙ ap (λ (i : ℕ). (s.actions i).proc) e ∙ waits_proc t.proc (self s t) T.waits in
        unheld c s t T u.action (omega (arith, B.above)) p taken (read_held (kind_of (self s t)) (kind_of (self s u)) _ r a)

    not-up_to : (l : ℕ) → UpTo (s.orders l) (item u) (item t) → ⊥
    not-up_to l (inl e) = d (omega arith)
    not-up_to l (inr e) = not_behind l e

    -- an edge to the read was there before, and so was one to what stands before it
    to_read : (l w : ℕ) → (committed_by c s u).orders l w (item t) ≡ true → s.orders l w (item t) ≡ true
    unfolding committed
    to_read l w h =
        ⊎_elim (λ e. e) (λ v. absurd (not-up_to l v.down))
        (joined_if_cases (ltb l c.locs && acquiring (kind_of (self s u))) (s.orders l) (item u) (8 + s.count) (releases s (input s u 0)) w (item t) h)

    to_before : (l e w : ℕ) → s.orders l w (item t) ≡ true → (committed_by c s u).orders l e w ≡ true → s.orders l e w ≡ true
    unfolding committed
    to_before l e w x h =
        ⊎_elim (λ q. q) (λ v. absurd (down v.down))
        (joined_if_cases (ltb l c.locs && acquiring (kind_of (self s u))) (s.orders l) (item u) (8 + s.count) (releases s (input s u 0)) e w h)
      where
        down : UpTo (s.orders l) (item u) w → ⊥
        down (inl q) = not_behind l (subst (λ (y : ℕ). s.orders l y (item t) ≡ true) (sym q) x)
        down (inr q) = not_behind l (G.ordered l (item u) w (item t) q x)

    writes-same : (l e : ℕ) → writes (committed_by c s u) l e ≡ writes s l e
    writes-same l e = item_test c s u (eqb e l) (λ a. writing (kind_of a) && eqb a.loc l) refl e

    still_visible : (l e : ℕ) → Visible c s l (item t) e → Visible c (committed_by c s u) l (item t) e
    unfolding committed
    still_visible l e v =
        record {
          one = writes-same l e ∙ v.one;
          known = rw (item_kept c s (committed_by c s u) t K T e v.known) v.known;
          newest = newest;
          before = fails (s.orders l (item t) e) ((committed_by c s u).orders l (item t) e) (kept_edge u U l t.action e queued) v.before;
        }
      where
        newest : some_below (8 + (committed_by c s u).count) (between (committed_by c s u) l (item t) e) ≡ false
        newest = below_fewer (8 + s.count) (between s l (item t) e) (between (committed_by c s u) l (item t) e) fewer v.newest
          where
            fewer : (w : ℕ) → w < 8 + s.count → between (committed_by c s u) l (item t) e w ≡ true → between s l (item t) e w ≡ true
            fewer w z h =
                let x = and_both (writes (committed_by c s u) l w) _ h in
                let y = and_both ((committed_by c s u).orders l e w) ((committed_by c s u).orders l w (item t)) x.1 in
                let k = to_read l w y.1 in
                and_make _ _ (sym (writes-same l w) ∙ x.0) (and_make _ _ (to_before l e w k y.0) k)

    pub past_acquire : CanTake c (committed_by c s u) t
    past_acquire =
        let k = read_only (kind_of (self s t)) r in
        carry c s (committed_by c s u) t K T
        (unbarred t.proc (kind_of (self s t)) ((committed_by c s u).holders (input s t 0)) (rw (k.1, k.2) refl))
        (rw (r, visible_make c (committed_by c s u) (self s t).loc (item t) t.source (still_visible _ _ (sees_take c s t T r))) refl)
