-- Happens-before equals the machine's order: Lemma 2 of source 000. Assumes nothing.
use mathlib.Core.Path.{◌≡◌, refl, sym, ◌∙◌, ap, subst}
use mathlib.Core.Logic.{◌⊎◌, inl, inr, ⊎_elim, ◌↔◌}
use mathlib.Core.Bool.{true, false, ◌&&◌, false≢true}
use mathlib.Core.List.{List, ◌∷◌}
use mathlib.Core.Option.{Option, none, some}
use Prim.Native.Nat.{ℕ, ◌+◌, ◌<◌}
use native.Mathlib.Omega.{arith}
use lib.Dec.{eqb, ltb}
use borrow.Author.Tests.{eqb-true, eq-eqb, lt-ltb}
use Rattle.words.specs.Small.{is_none, is, any}
use Rattle.words.proofs.Bools.{and_both, and_make, or_left, or_right}
use Rattle.cases.specs.declared.Case.{Case}
use Rattle.runs.specs.Replay.{replay}
use Rattle.runs.specs.Outcome.{Leads}
use Rattle.runs.proofs.Walk.{Walk, stop, go, walk}
use Rattle.runs.proofs.Always.{always}
use Rattle.rules.specs.Kinds.{acquiring, releasing, syncs}
use Rattle.rules.specs.Order.{Order}
use Rattle.rules.specs.State.{State, Action, initial, kind_of, stands_at}
use Rattle.rules.specs.Issue.{new_action, issued}
use Rattle.rules.specs.Commit.{input, released}
use Rattle.rules.specs.Step.{Step, issue, commit, neither, step_code}
use Rattle.rules.specs.Womm.{womm}
use Rattle.rules.proofs.Closed.{Transitive, UpTo, Via, joined_if_keeps, joined_if_adds, joined_if_transitive}
use Rattle.rules.proofs.Accepted.{CanCommit, can_commit, neither_no}
use Rattle.rules.proofs.Actions.{either, issued_new, issued_count, committed_self, committed_other, committed_count, committed_keeps, item_cases}
use Rattle.rules.proofs.Strict.{order_irreflexive}
use Rattle.oneorder.specs.OneOrder.{OneState, view, has_item, earlier_one, issued_one, committed_one, initial_one, after_one, womm_one}
use Rattle.oneorder.proofs.Items.{item_at, released_cases, issued_kept, joined_if_ways}
use Rattle.oneorder.proofs.OneOrder.{One, stands_at_lem, stands_item, one_step, one_initial, Same, same-replay}
use Rattle.oneorder.proofs.Visible.{limited-same}
use Rattle.races.specs.Happens.{commits_it, in_turn, HandOver, HappensBefore, program, hand_over, chain, InProgram}
use Rattle.races.proofs.Grows.{Grows, grows_commit, grows}
use Rattle.races.proofs.Numbered.{owner, Po, po_program, program_po}
use Rattle.races.proofs.HandOver.{acquire_result, hand_over_lem}

-- the order is transitive, and has program order

record Total (s : OneState) : Type 0 where
  ordered : Transitive s.order
  program : (j k : ℕ) → j < k → k < s.count → owner s j ≡ owner s k → has_item (s.actions j) ≡ true → has_item (s.actions k) ≡ true → s.order (8 + j) (8 + k) ≡ true

total_issue : (c : Case) (s : OneState) (p : ℕ) → Total s → Total (issued_one c s p)
unfolding issued_one
total_issue c s p v = record { ordered = joined_if_transitive _ _ _ _ _ v.ordered; program = λ j k h l o x y. either k s.count (newest j k h o x y) (older j k h l o x y) }
  where
    A : ℕ → Action
    A = (issued c (view c s) p).actions

    older : (j k : ℕ) → j < k → k < (issued c (view c s) p).count → (A j).proc ≡ (A k).proc → has_item (A j) ≡ true → has_item (A k) ≡ true → (k ≡ s.count → ⊥) → (issued_one c s p).order (8 + j) (8 + k) ≡ true
    older j k h l o x y n =
        let lk : k < s.count = omega (arith, issued_count c (view c s) p) in
        let ej = issued_kept c (view c s) p j (omega arith) in
        let ek = issued_kept c (view c s) p k lk in
        joined_if_keeps _ _ _ _ _ (8 + j) (8 + k) (v.program j k h lk (sym (ap (λ (a : Action). a.proc) ej) ∙ o ∙ ap (λ (a : Action). a.proc) ek) (sym (ap has_item ej) ∙ x) (sym (ap has_item ek) ∙ y))

    newest : (j k : ℕ) → j < k → (A j).proc ≡ (A k).proc → has_item (A j) ≡ true → has_item (A k) ≡ true → k ≡ s.count → (issued_one c s p).order (8 + j) (8 + k) ≡ true
    newest j k h o x y e =
        let ej = issued_kept c (view c s) p j (omega arith) in
        let ek = ap (issued c (view c s) p).actions e ∙ issued_new c (view c s) p in
        let new = new_action c (view c s) p in
        let one : earlier_one c s p (8 + j) ≡ true =
        item_at (stands_at (8 + j) new) (λ a. eqb a.proc p && has_item a) (view c s) j ∙ and_make _ _ (eq-eqb _ _ (sym (ap (λ (a : Action). a.proc) ej) ∙ o ∙ ap (λ (a : Action). a.proc) ek)) (sym (ap has_item ej) ∙ x) in
        subst (λ (z : ℕ). (issued_one c s p).order (8 + j) (8 + z) ≡ true) (sym e)
        (joined_if_adds (has_item new) s.order (8 + s.count) (8 + s.count) (earlier_one c s p) (8 + j) (sym (ap has_item ek) ∙ y) (omega arith) one)

total_commit : (c : Case) (s : OneState) (p act src : ℕ) → Total s → Total (committed_one c s p act src)
unfolding committed_one
total_commit c s p act src v =
    record {
      ordered = joined_if_transitive _ _ _ _ _ v.ordered;
      program = λ j k h l o x y. joined_if_keeps _ _ _ _ _ (8 + j) (8 + k) (v.program j k h (omega (arith, committed_count c (view c s) p act src)) (sym (proc j) ∙ o ∙ proc k) (sym (item j) ∙ x) (sym (item k) ∙ y));
    }
  where
    proc : (k : ℕ) → ((committed_one c s p act src).actions k).proc ≡ (s.actions k).proc
    proc = committed_keeps c (view c s) p act src (λ a. a.proc) refl

    item : (k : ℕ) → has_item ((committed_one c s p act src).actions k) ≡ has_item (s.actions k)
    item = committed_keeps c (view c s) p act src has_item refl

total_step : (c : Case) (s : OneState) (t : Step) → step_code c (view c s) t ≡ 0 → Total s → Total (after_one c s t)
unfolding after_one
total_step c s (issue p) h v = total_issue c s p v
total_step c s (commit p k e) h v = total_commit c s p k e v
total_step c s neither h v = v

-- from happens-before to the order

abbrev PoTo : OneState → ℕ → ℕ → Type 0
PoTo s j k = (j ≡ k) ⊎ Po s j k

module _ (s : OneState) where
  po_chain : (i j k : ℕ) → Po s i j → Po s j k → Po s i k
  po_chain i j k p q = record { first = omega (arith, p.first, q.first); there = q.there; same = p.same ∙ q.same }

  po_to : (i j k : ℕ) → Po s i j → PoTo s j k → Po s i k
  po_to i j k p (inl e) = subst (Po s i) e p
  po_to i j k p (inr q) = po_chain i j k p q

  to_po : (i j k : ℕ) → PoTo s i j → Po s j k → Po s i k
  to_po i j k (inl e) q = subst (λ (x : ℕ). Po s x k) (sym e) q
  to_po i j k (inr p) q = po_chain i j k p q

  to_to : (i j k : ℕ) → PoTo s i j → PoTo s j k → PoTo s i k
  to_to i j k (inl e) q = subst (λ (x : ℕ). PoTo s x k) (sym e) q
  to_to i j k (inr p) q = inr (po_to i j k p q)

-- in program order up to a release or an acquire, over one edge or more of the order, and on in program order from another: actions that
-- have no item may stand at both ends
record Hop (s : OneState) (j k : ℕ) : Type 0 where
  from : ℕ
  to : ℕ
  up : PoTo s j from
  leaves : has_item (s.actions from) ≡ true
  edge : s.order (8 + from) (8 + to) ≡ true
  enters : has_item (s.actions to) ≡ true
  down : PoTo s to k

-- by program order alone, or so
abbrev Reaches : OneState → ℕ → ℕ → Type 0
Reaches s j k = Po s j k ⊎ Hop s j k

-- along a transitive order
thread : (R : Order) → Transitive R → (a b d f : ℕ) → UpTo R a b → R b d ≡ true → UpTo R d f → R a f ≡ true
thread R t a b d f x h y = last (first x) y
  where
    first : UpTo R a b → R a d ≡ true
    first (inl e) = subst (λ (z : ℕ). R z d ≡ true) (sym e) h
    first (inr q) = t a b d q h

    last : R a d ≡ true → UpTo R d f → R a f ≡ true
    last q (inl e) = subst (λ (z : ℕ). R a z ≡ true) e q
    last q (inr p) = t a d f q p

module _ (c : Case) (s : OneState) (v : Total s) where
  po_order : (j k : ℕ) → has_item (s.actions j) ≡ true → has_item (s.actions k) ≡ true → PoTo s j k → UpTo s.order (8 + j) (8 + k)
  po_order j k x y (inl e) = inl (ap (λ (n : ℕ). 8 + n) e)
  po_order j k x y (inr p) = inr (v.program j k p.first p.there p.same x y)

  reaches_chain : (i j k : ℕ) → Reaches s i j → Reaches s j k → Reaches s i k
  reaches_chain i j k (inl p) (inl q) = inl (po_chain s i j k p q)
  reaches_chain i j k (inl p) (inr h) = inr (record { from = h.from; to = h.to; up = inr (po_to s i j h.from p h.up); leaves = h.leaves; edge = h.edge; enters = h.enters; down = h.down })
  reaches_chain i j k (inr h) (inl q) = inr (record { from = h.from; to = h.to; up = h.up; leaves = h.leaves; edge = h.edge; enters = h.enters; down = inr (to_po s h.to j k h.down q) })
  reaches_chain i j k (inr g) (inr h) =
      let over = po_order g.to h.from g.enters h.leaves (to_to s g.to j h.from g.down h.up) in
      let near = thread s.order v.ordered (8 + g.from) (8 + g.from) (8 + g.to) (8 + h.from) (inl refl) g.edge over in
      inr (record { from = g.from; to = h.to; up = g.up; leaves = g.leaves; edge = v.ordered (8 + g.from) (8 + h.from) (8 + h.to) near h.edge; enters = h.enters; down = h.down })

  reaches_order : (j k : ℕ) → has_item (s.actions j) ≡ true → has_item (s.actions k) ≡ true → Reaches s j k → s.order (8 + j) (8 + k) ≡ true
  reaches_order j k x y (inl p) = v.program j k p.first p.there p.same x y
  reaches_order j k x y (inr h) =
      thread s.order v.ordered (8 + j) (8 + h.from) (8 + h.to) (8 + k) (po_order j h.from x h.leaves h.up) h.edge (po_order h.to k h.enters y h.down)

  module _ (ts : List Step) (w : Walk (womm_one c) (initial_one c) ts s) where
    happens_reaches : {j k : ℕ} → HappensBefore ts s.actions j k → Reaches s j k
    happens_reaches {j} {k} (program p) = inl (program_po c s ts w j k p)
    happens_reaches {j} {k} (hand_over h) =
        inr (record {
          from = j;
          to = k;
          up = inl refl;
          leaves = or_left (syncs (kind_of (s.actions j))) _ (or_right (acquiring (kind_of (s.actions j))) _ h.frees);
          edge = hand_over_lem c w j k h.turn h.frees h.takes h.location;
          enters = or_left (syncs (kind_of (s.actions k))) _ (or_left (acquiring (kind_of (s.actions k))) _ h.takes);
          down = inl refl;
        })
    happens_reaches (chain {i = i} {j = j} {k = k} g h) = reaches_chain i j k (happens_reaches g) (happens_reaches h)

-- from the order to happens-before

-- what the order and the commits of a state with the steps ts to go say of the whole schedule W, whose end has the actions A
record Told (W : List Step) (A : ℕ → Action) (s : OneState) (ts : List Step) : Type 0 where
  more : (r a : ℕ) → in_turn ts r a ≡ true → in_turn W r a ≡ true
  turns : (r a : ℕ) → r < s.count → is_none (s.actions r).result ≡ false → any (commits_it a) ts ≡ true → in_turn W r a ≡ true
  edges : (j k : ℕ) → s.order (8 + j) (8 + k) ≡ true → HappensBefore W A j k

is_some : (n : ℕ) (o : Option ℕ) → is n o ≡ true → o ≡ some n
is_some n none h = absurd (false≢true h)
is_some n (some m) h = ap (λ (x : ℕ). some x) (eqb-true m n h)

-- W is the whole schedule and e its end; a step is taken at s
module _ (c : Case) (W : List Step) (e : OneState) (po : (j k : ℕ) → Po e j k → InProgram W j k) (s : OneState) (v : One s) (E : (j k : ℕ) → s.order (8 + j) (8 + k) ≡ true → HappensBefore W e.actions j k) where
  -- an item up to another
  up_to : (j k : ℕ) → UpTo s.order (8 + j) (8 + k) → (j ≡ k) ⊎ HappensBefore W e.actions j k
  up_to j k (inl x) = inl (omega arith)
  up_to j k (inr x) = inr (E j k x)

  from_there : {i j k : ℕ} → (i ≡ j) ⊎ HappensBefore W e.actions i j → HappensBefore W e.actions j k → HappensBefore W e.actions i k
  from_there {i} {j} {k} (inl x) h = subst (λ (y : ℕ). HappensBefore W e.actions y k) (sym x) h
  from_there (inr x) h = chain x h

  on_to : {i j k : ℕ} → HappensBefore W e.actions i j → (j ≡ k) ⊎ HappensBefore W e.actions j k → HappensBefore W e.actions i k
  on_to {i} h (inl x) = subst (λ (y : ℕ). HappensBefore W e.actions i y) x h
  on_to h (inr x) = chain h x

  -- a new item, after items of its processor
  issue_edge : (p : ℕ) → Grows (issued_one c s p) e → (j k : ℕ) → Via s.order (8 + s.count) (8 + s.count) (earlier_one c s p) (8 + j) (8 + k) → HappensBefore W e.actions j k
  unfolding issued_one
  issue_edge p g j k x = source (item_cases (stands_at x.from (new_action c (view c s) p)) (λ a. eqb a.proc p && has_item a) (view c s) x.from x.one)
    where
      target : UpTo s.order (8 + s.count) (8 + k) → k ≡ s.count
      target (inl q) = omega arith
      target (inr q) = absurd (omega (arith, v.low (8 + s.count) (8 + k) q))

      early : x.from < 8 → UpTo s.order (8 + j) x.from → ⊥
      early q (inl y) = omega arith
      early q (inr y) = omega (arith, (v.target (8 + j) x.from y).0)

      source : ((x.from < 8) × (stands_at x.from (new_action c (view c s) p) ≡ true)) ⊎ ((m : ℕ) × (x.from ≡ 8 + m) × ((eqb (s.actions m).proc p && has_item (s.actions m)) ≡ true)) → HappensBefore W e.actions j k
      source (inl q) = absurd (early q.0 x.up)
      source (inr (m, at, q)) =
          let o = eqb-true (s.actions m).proc p (and_both (eqb (s.actions m).proc p) (has_item (s.actions m)) q).0 in
          let more = issued_count c (view c s) p in
          let lm : m < s.count = omega (arith, x.low) in
          let lk = target x.down in
          let om : owner e m ≡ p = ap (λ (a : Action). a.proc) (g.same m (omega (arith, more))) ∙ ap (λ (a : Action). a.proc) (issued_kept c (view c s) p m lm) ∙ o in
          let ok : owner e s.count ≡ p = ap (λ (a : Action). a.proc) (g.same s.count (omega (arith, more))) ∙ ap (λ (a : Action). a.proc) (issued_new c (view c s) p) in
          from_there (up_to j m (subst (λ (z : ℕ). UpTo s.order (8 + j) z) at x.up))
          (program (po m k (record { first = omega arith; there = omega (arith, g.more, more); same = om ∙ sym ok ∙ ap (owner e) (sym lk) })))

  -- an acquire, after the releases of its location
  commit_edge : (p act src : ℕ) (ts : List Step) → Told W e.actions s (commit p act src ∷ ts) → CanCommit c (view c s) p act src → Grows (committed_one c s p act src) e → acquiring (kind_of (s.actions act)) ≡ true
      → (j k : ℕ) → Via s.order (8 + act) (8 + s.count) (released c (view c s) p act src (input c (view c s) p act src 0)) (8 + j) (8 + k) → HappensBefore W e.actions j k
  unfolding committed_one
  commit_edge p act src ts K T g q j k x =
      let z = committed_one c s p act src in
      let n = input c (view c s) p act src 0 in
      let f = released_cases c (view c s) p act src n x.from x.one in
      let m = f.0 in
      let lm : m < s.count = omega (arith, x.low, f.1) in
      let rm = is_some n (s.actions m).result f.3 in
      let G = grows_commit c s p act src T in
      let more = committed_count c (view c s) p act src in
      let zm : m < z.count = omega (arith, more) in
      let za : act < z.count = omega (arith, T.there, more) in
      let rz : (z.actions m).result ≡ some n = G.done m lm (ap is_none rm) ∙ rm in
      let ra : (z.actions act).result ≡ some n = ap (λ (a : Action). a.result) (committed_self c (view c s) p act src) ∙ ap (λ (i : ℕ). some i) (acquire_result c (view c s) p act src (s.actions act).instr q) in
      let over : HandOver W e.actions m act =
      record {
        frees = ap (λ (a : Action). releasing (kind_of a)) (g.same m zm ∙ G.same m lm) ∙ f.2;
        takes = ap (λ (a : Action). acquiring (kind_of a)) (g.same act za ∙ G.same act T.there) ∙ q;
        location = (g.done m zm (ap is_none rz) ∙ rz) ∙ sym (g.done act za (ap is_none ra) ∙ ra);
        turn = K.turns m act lm (ap is_none rm) (or_left (eqb act act) (any (commits_it act) ts) (eq-eqb act act refl));
      } in
      on_to (from_there (up_to j m (subst (λ (z : ℕ). UpTo s.order (8 + j) z) f.1 x.up)) (hand_over over)) (up_to act k x.down)

module _ (c : Case) (W : List Step) (e : OneState) (po : (j k : ℕ) → Po e j k → InProgram W j k) (s : OneState) (ts : List Step) (v : One s) where
  told_issue : (p : ℕ) → Told W e.actions s (issue p ∷ ts) → Grows (issued_one c s p) e → Told W e.actions (issued_one c s p) ts
  unfolding issued_one
  told_issue p K g =
      record {
        more = λ r a m. K.more r a m;
        turns = λ r a h d m.
            either r s.count
            (λ q. absurd (false≢true (sym d ∙ ap (λ (z : ℕ). is_none ((issued c (view c s) p).actions z).result) q ∙ ap (λ (z : Action). is_none z.result) (issued_new c (view c s) p))))
            (λ n. let lr : r < s.count = omega (arith, issued_count c (view c s) p) in K.turns r a lr (sym (ap (λ (z : Action). is_none z.result) (issued_kept c (view c s) p r lr)) ∙ d) m);
        edges = λ j k h.
            ⊎_elim (K.edges j k)
            (λ w. issue_edge c W e po s v K.edges p g j k w.1)
            (joined_if_ways (has_item (new_action c (view c s) p)) s.order (8 + s.count) (8 + s.count) (earlier_one c s p) (8 + j) (8 + k) h);
      }

  told_commit : (p act src : ℕ) → Told W e.actions s (commit p act src ∷ ts) → CanCommit c (view c s) p act src → Grows (committed_one c s p act src) e → Told W e.actions (committed_one c s p act src) ts
  unfolding committed_one
  told_commit p act src K T g =
      record {
        more = λ r a m. K.more r a (or_right (eqb act r && any (commits_it a) ts) (in_turn ts r a) m);
        turns = λ r a h d m.
            either r act
            (λ q. K.more r a (or_left (eqb act r && any (commits_it a) ts) (in_turn ts r a) (and_make (eqb act r) _ (eq-eqb act r (sym q)) m)))
            (λ n. K.turns r a (omega (arith, committed_count c (view c s) p act src)) (sym (ap (λ (z : Action). is_none z.result) (committed_other c (view c s) p act src r n)) ∙ d) (or_right (eqb act a) (any (commits_it a) ts) m));
        edges = λ j k h.
            ⊎_elim (K.edges j k)
            (λ w. commit_edge c W e po s v K.edges p act src ts K T g w.0 j k w.1)
            (joined_if_ways (acquiring (kind_of (s.actions act))) s.order (8 + act) (8 + s.count) (released c (view c s) p act src (input c (view c s) p act src 0)) (8 + j) (8 + k) h);
      }

told_step : (c : Case) (W : List Step) (e : OneState) → ((j k : ℕ) → Po e j k → InProgram W j k) → (s : OneState) (t : Step) (ts : List Step) → step_code c (view c s) t ≡ 0 → Grows (after_one c s t) e → One s → Told W e.actions s (t ∷ ts) → Told W e.actions (after_one c s t) ts
unfolding after_one
told_step c W e po s (issue p) ts h g v K = told_issue c W e po s ts v p K g
told_step c W e po s (commit p k i) ts h g v K = told_commit c W e po s ts v p k i K (can_commit c (view c s) p k i h) g
told_step c W e po s neither ts h g v K = absurd (neither_no c (view c s) h)

told : (c : Case) (W : List Step) {s e : OneState} {ts : List Step} → ((j k : ℕ) → Po e j k → InProgram W j k) → Walk (womm_one c) s ts e → One s → Told W e.actions s ts → (j k : ℕ) → e.order (8 + j) (8 + k) ≡ true → HappensBefore W e.actions j k
told c W {s} {e} po (stop h) v K j k x = K.edges j k (subst (λ (y : OneState). y.order (8 + j) (8 + k) ≡ true) (sym h) x)
told c W {s} {e} po (go {t = t} {ts = ts} h w) v K j k x = told c W po w (one_step c s t v h) (told_step c W e po s t ts h (grows c w) v K) j k x

-- 'Over reads, writes, acquires and releases it equals the machine's order', whatever their locations, at every state that an accepted
-- schedule leads to: its queues need not be empty
pub happens_before_one : (c : Case) (ts : List Step) (s : OneState) → Leads (womm_one c) (initial_one c) ts s → (j k : ℕ) → has_item (s.actions j) ≡ true → has_item (s.actions k) ≡ true → HappensBefore ts s.actions j k ↔ (s.order (8 + j) (8 + k) ≡ true)
happens_before_one c ts s d j k x y =
    let w = walk (womm_one c) ts (initial_one c) s d in
    let total = always (womm_one c) Total (total_step c) w (record { ordered = λ a b d p r. absurd (false≢true p); program = λ i m p r. absurd (omega arith) }) in (
      λ h. reaches_order c s total j k x y (happens_reaches c s total ts w h),
      told c ts (po_program c s ts w) w (one_initial c) (record { more = λ r a m. m; turns = λ r a h. absurd (omega arith); edges = λ i m p. absurd (false≢true p) }) j k,
    )

-- The same by document 01's order for each location, over the items that stand in it.
pub happens_before : (c : Case) (ts : List Step) (s : State) → Leads (womm c) (initial c) ts s → (l j k : ℕ) → l < c.locs → stands_at l (s.actions j) ≡ true → stands_at l (s.actions k) ≡ true → HappensBefore ts s.actions j k ↔ (s.orders l (8 + j) (8 + k) ≡ true)
happens_before c ts s d = subst Equal (q.state ∙ d.ends) at_view
  where
    Equal : State → Type 0
    Equal s = (l j k : ℕ) → l < c.locs → stands_at l (s.actions j) ≡ true → stands_at l (s.actions k) ≡ true → HappensBefore ts s.actions j k ↔ (s.orders l (8 + j) (8 + k) ≡ true)

    q : Same c (replay (womm_one c) (initial_one c) ts) (replay (womm c) (initial c) ts)
    q = same-replay c ts

    o : OneState
    o = (replay (womm_one c) (initial_one c) ts).state

    at_view : Equal (view c o)
    at_view l j k low x y =
        let h = happens_before_one c ts o (record { accepted = q.code ∙ d.accepted; ends = refl }) j k (stands_item l (o.actions j) x) (stands_item l (o.actions k) y) in
        let same : (view c o).orders l (8 + j) (8 + k) ≡ o.order (8 + j) (8 + k) =
        limited-same (ltb l c.locs) o.actions l o.order (8 + j) (8 + k) (lt-ltb _ _ low) (stands_at_lem o.actions l j ∙ x) (stands_at_lem o.actions l k ∙ y) in
        (λ z. same ∙ h.0 z, λ z. h.1 (sym same ∙ z))

-- So it is strict.
pub happens_strict : (c : Case) (ts : List Step) (s : State) → Leads (womm c) (initial c) ts s → (l j : ℕ) → l < c.locs → stands_at l (s.actions j) ≡ true → HappensBefore ts s.actions j j → ⊥
happens_strict c ts s d l j low x h = order_irreflexive c ts s d l (8 + j) ((happens_before c ts s d l j j low x x).0 h)
