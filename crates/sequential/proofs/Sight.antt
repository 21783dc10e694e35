-- What a committed read took, said of the last state. Assumes nothing.
use mathlib.Core.Path.{◌≡◌, refl, sym, ◌∙◌, ap, subst}
use mathlib.Core.Logic.{◌⊎◌, inl, inr, ⊎_elim}
use mathlib.Core.Bool.{Bool, true, ◌&&◌, false≢true}
use mathlib.Core.Option.{some}
use Prim.Native.Nat.{ℕ, ◌+◌, ◌<◌}
use native.Mathlib.Omega.{arith}
use lib.Dec.{ltb}
use borrow.Author.Tests.{eqb-true, eq-eqb, lt-ltb}
use Rattle.words.specs.Small.{is_none, or_zero}
use Rattle.words.proofs.Bools.{and_make, and_right, below_make, cond-true}
use Rattle.cases.specs.declared.Instr.{Instr}
use Rattle.cases.specs.declared.Instr.TheVariants.{Empty, Read, Write, Local, Branch, Goto, Acquire, Release}
use Rattle.cases.specs.declared.Case.{Case}
use Rattle.cases.specs.Case.{word_of}
use Rattle.rules.specs.Kinds.{kind, reading, writing, acquiring, held_by}
use Rattle.rules.specs.State.{State, Action, kind_of, item_value}
use Rattle.rules.specs.Commit.{writes, input, released, result_of, committed}
use Rattle.rules.specs.Step.{commit}
use Rattle.rules.proofs.Orders.{joined_if-false}
use Rattle.rules.proofs.Accepted.{Visible, between, sees_cases, commit_ok, after_commit}
use Rattle.rules.proofs.Actions.{waits_proc, committed_self, committed_count}
use Rattle.rules.proofs.Sources.{Known, source_known}
use Rattle.rules.proofs.Strict.{Done, Strict}
use Rattle.inclusion.proofs.Mirror.{writes_action, action_writes, action_value, known}
use Rattle.sequential.proofs.Kept.{Kept, kept}
use Rattle.sequential.proofs.Items.{not-held}
use Rattle.sequential.proofs.Steady.{Steady, steady_step}
use Rattle.sequential.proofs.Settled.{freed_done, before_cases, settled}
use Rattle.sequential.proofs.Events.{Settles}

-- action j writes location l
pub record Writes (f : State) (l j : ℕ) : Type 0 where
  pub there : j < f.count
  pub writes : writing (kind_of (f.actions j)) ≡ true
  pub location : (f.actions j).loc ≡ l

-- read k took item e: the initial write of its location or that of an action; no write of the location stands between, and e not after k
pub record Sight (c : Case) (f : State) (k e : ℕ) : Type 0 where
  pub took :
      ((e < 8) × (e ≡ (f.actions k).loc) × ((f.actions k).result ≡ some (word_of c e)))
      ⊎ ((j : ℕ) × (e ≡ 8 + j) × Writes f (f.actions k).loc j × ((f.actions k).result ≡ (f.actions j).result))
  pub newest : (w : ℕ) → Writes f (f.actions k).loc w → f.orders (f.actions k).loc e (8 + w) ≡ true → f.orders (f.actions k).loc (8 + w) (8 + k) ≡ true → ⊥
  pub before : f.orders (f.actions k).loc (8 + k) e ≡ true → ⊥

read_waits : (k q : ℕ) (b : Bool) → reading k ≡ true → writing q ≡ true → b ≡ true → held_by k q b ≡ true
unfolding held_by
read_waits k q b h w e = rw (eqb-true k 1 h, eqb-true q 2 w, e)

read_result : (c : Case) (s : State) (p k e : ℕ) (i : Instr) → reading (kind i) ≡ true → result_of c s p k e i ≡ or_zero (item_value c s e)
read_result c s p k e Empty h = absurd (false≢true h)
read_result c s p k e (Read d a) h = refl
read_result c s p k e (Write a b) h = absurd (false≢true h)
read_result c s p k e (Local d x) h = absurd (false≢true h)
read_result c s p k e (Branch a l) h = absurd (false≢true h)
read_result c s p k e (Goto l) h = absurd (false≢true h)
read_result c s p k e (Acquire a) h = absurd (false≢true h)
read_result c s p k e (Release a) h = absurd (false≢true h)

-- a read's commit changes no order
read_orders : (c : Case) (s : State) (p k e l : ℕ) → reading (kind_of (s.actions k)) ≡ true → (committed c s p k e).orders l ≡ s.orders l
unfolding committed
read_orders c s p k e l r = joined_if-false (ltb l c.locs && acquiring (kind_of (s.actions k))) (s.orders l) (8 + k) (8 + s.count) (released c s p k e (input c s p k e 0)) (and_right (ltb l c.locs) _ (ap acquiring (eqb-true (kind_of (s.actions k)) 1 r)))

-- what its commit gives an action it has in the end
pub result_then : (c : Case) (f : State) (k : ℕ) (E : Settles c f k) → (f.actions k).result ≡ some (result_of c E.state E.proc k E.source (E.state.actions k).instr)
result_then c f k E =
    let z = committed c E.state E.proc k E.source in
    let q = ap (λ (a : Action). a.result) (committed_self c E.state E.proc k E.source) in
    (kept c E.rest (subst Steady (after_commit c E.state E.proc k E.source) (steady_step c E.state (commit E.proc k E.source) (commit_ok c E.state E.proc k E.source E.can) E.steady)).unset).done k (ap is_none q) ∙ q

module _ (c : Case) (f : State) (v : Strict f) (k : ℕ) (E : Settles c f k) (r : reading (kind_of (f.actions k)) ≡ true) where
  abbrev s : State
  s = E.state

  abbrev e : ℕ
  e = E.source

  abbrev l : ℕ
  l = (s.actions k).loc

  g : Kept s f
  g = kept c E.walk E.steady.unset

  reads : reading (kind_of (s.actions k)) ≡ true
  reads = sym (ap (λ (a : Action). reading (kind_of a)) (g.same k E.can.there)) ∙ r

  loc_same : (f.actions k).loc ≡ l
  loc_same = ap (λ (a : Action). a.loc) (g.same k E.can.there)

  sees : Visible c s l (8 + k) e
  sees = sees_cases c s E.proc k e E.can reads

  result : (f.actions k).result ≡ item_value c s e
  result = result_then c f k E ∙ ap some (read_result c s E.proc k e (s.actions k).instr reads) ∙ sym (known (item_value c s e) sees.known)

  -- a source that is an action's
  module _ (j : ℕ) (at : e ≡ 8 + j) where
    source_done : Done s j
    source_done = ap is_none (sym (ap (item_value c s) at ∙ action_value c s j)) ∙ sees.known

    source_writes : j < s.count → Writes f l j
    source_writes low =
        let w = writes_action s l j (subst (λ (x : ℕ). writes s l x ≡ true) at sees.one) in
        record { there = omega (arith, g.more); writes = ap (λ (a : Action). writing (kind_of a)) (g.same j low) ∙ w.0; location = ap (λ (a : Action). a.loc) (g.same j low) ∙ w.1 }

  took_what : Known s l e → ((e < 8) × (e ≡ l) × ((f.actions k).result ≡ some (word_of c e))) ⊎ ((j : ℕ) × (e ≡ 8 + j) × Writes f l j × ((f.actions k).result ≡ (f.actions j).result))
  took_what (inl q) = inl (q.0, q.1, result ∙ cond-true (ltb e 8) _ _ (lt-ltb e 8 q.0))
  took_what (inr q) = inr (q.0, q.1, source_writes q.0 q.1 q.2, result ∙ ap (item_value c s) q.1 ∙ action_value c s q.0 ∙ sym (g.done q.0 (source_done q.0 q.1)))

  after_steady : Steady (committed c s E.proc k e)
  after_steady = subst Steady (after_commit c s E.proc k e) (steady_step c s (commit E.proc k e) (commit_ok c s E.proc k e E.can) E.steady)

  -- what stands before the read in the end stood before it then
  stood : (a : ℕ) → f.orders l a (8 + k) ≡ true → s.orders l a (8 + k) ≡ true
  stood a h =
      ap (λ (R : ℕ → ℕ → Bool). R a (8 + k)) (sym (read_orders c s E.proc k e l reads))
      ∙ settled c E.rest after_steady k (omega (arith, committed_count c s E.proc k e, E.can.there)) (ap (λ (a : Action). is_none a.result) (committed_self c s E.proc k e)) l a h

  none_between : (w : ℕ) → Writes f l w → f.orders l e (8 + w) ≡ true → f.orders l (8 + w) (8 + k) ≡ true → ⊥
  none_between w W x y = false≢true (sym sees.newest ∙ below_make (8 + s.count) (between s l (8 + k) e) (8 + w) (omega (arith, low)) (and_make _ _ (action_writes s l w writes_then loc_then) (and_make _ _ then then_too)))
    where
      then_too : s.orders l (8 + w) (8 + k) ≡ true
      then_too = stood (8 + w) y

      low : w < s.count
      low = ((E.steady.items.stands l (8 + w) (8 + k) then_too).0 w refl).0

      writes_then : writing (kind_of (s.actions w)) ≡ true
      writes_then = sym (ap (λ (a : Action). writing (kind_of a)) (g.same w low)) ∙ W.writes

      loc_then : (s.actions w).loc ≡ l
      loc_then = sym (ap (λ (a : Action). a.loc) (g.same w low)) ∙ W.location

      done : Done s w
      done =
          ⊎_elim
          (λ q. not-held c s E.proc k e w E.can q.1 (q.0 ∙ waits_proc E.proc (s.actions k) E.can.waits) (read_waits (kind_of (s.actions k)) (kind_of (s.actions w)) _ reads writes_then (eq-eqb _ _ loc_then)))
          (λ q. freed_done s E.steady.strict w q.1)
          (before_cases s E.steady.strict l w k then_too)

      then : s.orders l e (8 + w) ≡ true
      then = settled c E.walk E.steady w low done l e x

  not_after_lem : f.orders l (8 + k) e ≡ true → ⊥
  not_after_lem h =
      let t = v.edges l (8 + k) e h in
      let h' : f.orders l (8 + k) (8 + t.to) ≡ true = subst (λ (x : ℕ). f.orders l (8 + k) x ≡ true) t.is_to h in
      let d = source_done t.to t.is_to in
      let low : t.to < s.count = ⊎_elim (λ q. absurd (omega (arith, q.0, t.is_to))) (λ q. omega (arith, q.1, q.2, t.is_to)) (source_known c s E.steady.unset E.proc k e E.can reads) in
      false≢true (sym sees.before ∙ ap (s.orders l (8 + k)) t.is_to ∙ settled c E.walk E.steady t.to low d l (8 + k) h')

  pub sight : Sight c f k e
  sight =
      subst (λ (m : ℕ).
      (((e < 8) × (e ≡ m) × ((f.actions k).result ≡ some (word_of c e))) ⊎ ((j : ℕ) × (e ≡ 8 + j) × Writes f m j × ((f.actions k).result ≡ (f.actions j).result)))
      → ((w : ℕ) → Writes f m w → f.orders m e (8 + w) ≡ true → f.orders m (8 + w) (8 + k) ≡ true → ⊥)
      → (f.orders m (8 + k) e ≡ true → ⊥) → Sight c f k e) loc_same (λ x y z. record { took = x; newest = y; before = z })
      (took_what (source_known c s E.steady.unset E.proc k e E.can reads)) none_between not_after_lem
