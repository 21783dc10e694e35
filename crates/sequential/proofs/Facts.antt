-- What a state with empty queues tells of each of its actions. Assumes nothing.
use mathlib.Core.Path.{◌≡◌, refl, sym, ◌∙◌, ap, subst}
use mathlib.Core.Bool.{true, false, ◌&&◌, false≢true}
use mathlib.Core.List.{List}
use mathlib.Core.Option.{none, some}
use Prim.Native.Nat.{ℕ, ◌<◌}
use native.Mathlib.Omega.{arith}
use lib.Dec.{leb}
use lib.ListN.{get_or}
use Rattle.words.specs.Small.{is_none, or_zero, any}
use Rattle.words.proofs.Bools.{and_rest, cond-true}
use Rattle.cases.specs.declared.Instr.{Instr}
use Rattle.cases.specs.declared.Instr.TheVariants.{Empty, Read, Write, Local, Branch, Goto, Acquire, Release}
use Rattle.cases.specs.declared.Case.{Case}
use Rattle.runs.specs.Outcome.{Leads}
use Rattle.runs.proofs.Walk.{Walk, walk}
use Rattle.runs.proofs.Always.{always_after}
use Rattle.rules.specs.Kinds.{kind, reading, accesses, syncs}
use Rattle.rules.specs.State.{State, Action, Name, start, initial, kind_of, value_of, input_of}
use Rattle.rules.specs.Issue.{here, next, address, bound, new_action, issued}
use Rattle.rules.specs.Commit.{result_of}
use Rattle.rules.specs.Step.{Step, issue}
use Rattle.rules.specs.Womm.{womm}
use Rattle.rules.proofs.Accepted.{issue_ok, after_issue}
use Rattle.rules.proofs.Actions.{issued_new, issued_count}
use Rattle.rules.proofs.Origins.{Reads}
use Rattle.rules.proofs.Origins as Origins
use Rattle.rules.proofs.Strict.{owner, Done}
use Rattle.progress.proofs.Rooted.{bare}
use Rattle.inclusion.proofs.Mirror.{known}
use Rattle.sequential.proofs.Kept.{Kept, kept, value-kept, inputs_kept, ready_then}
use Rattle.sequential.proofs.Paths.{Follow, follow_kept}
use Rattle.sequential.proofs.Steady.{Steady, steady_initial, steady_step}
use Rattle.sequential.proofs.Events.{Issued, Settles, issued_then, settled_then}
use Rattle.sequential.proofs.Sight.{Sight, sight, result_then}

pub record Facts (c : Case) (f : State) (k : ℕ) : Type 0 where
  -- the registers that it reads by their names, and where its instruction stands
  pub reads : Reads c f k
  -- its place follows from its processor's action before it
  pub follow : Follow f (owner f k) k (some (f.actions k).place)
  pub ready : any (λ x. is_none (value_of f x)) (f.actions k).inputs ≡ false
  pub address : accesses (kind_of (f.actions k)) ≡ true → (f.actions k).loc ≡ input_of f (f.actions k) 0
  pub lock : (syncs (kind_of (f.actions k)) && leb c.locs (input_of f (f.actions k) 0)) ≡ false
  pub source : ℕ
  pub sight : reading (kind_of (f.actions k)) ≡ true → Sight c f k source
  -- but for a read, its result follows from its inputs
  pub result : reading (kind_of (f.actions k)) ≡ false → (f.actions k).result ≡ some (result_of c f (owner f k) k source (f.actions k).instr)

-- results by inputs
result-same : (c : Case) (s f : State) (p q k e : ℕ) → ((n : ℕ) → input_of s (s.actions k) n ≡ input_of f (f.actions k) n) → (i : Instr) → reading (kind i) ≡ false → result_of c s p k e i ≡ result_of c f q k e i
result-same c s f p q k e same Empty r = refl
result-same c s f p q k e same (Read d a) r = absurd (false≢true (sym r))
result-same c s f p q k e same (Write a b) r = same 1
result-same c s f p q k e same (Local d x) r = rw (same 0, same 1)
result-same c s f p q k e same (Branch a l) r = refl
result-same c s f p q k e same (Goto l) r = refl
result-same c s f p q k e same (Acquire a) r = same 0
result-same c s f p q k e same (Release a) r = same 0

-- from the issue
module _ (c : Case) (f : State) (k : ℕ) (I : Issued c f k) where
  abbrev t : State
  t = I.state

  abbrev p : ℕ
  p = I.proc

  gt : Kept t f
  gt = kept c I.walk I.steady.unset

  new : bare (f.actions k) ≡ bare (new_action c t p)
  new =
      (kept c I.rest (subst Steady (after_issue c t p) (steady_step c t (issue p) (issue_ok c t p I.can) I.steady)).unset).same k (omega (arith, issued_count c t p, I.next))
      ∙ ap (λ (i : ℕ). bare ((issued c t p).actions i)) (sym I.next)
      ∙ ap bare (issued_new c t p)

  by : {A : Type 0} (F : Action → A) → F (bare (f.actions k)) ≡ F (bare (new_action c t p))
  by F = ap F new

  follow_then : Follow f (owner f k) k (some (f.actions k).place)
  follow_then =
      let q : t.places p ≡ some (here c t p) = known (t.places p) I.can.place in
      let base = follow_kept t f gt I.steady.paths p t.count (here c t p) (t.places p) (omega arith) q (I.steady.paths.places p) in
      subst (λ (x : ℕ). Follow f x k (some (f.actions k).place)) (sym (by (λ a. a.proc)))
      (subst (λ (v : ℕ). Follow f p k (some v)) (sym (by (λ a. a.place)))
      (subst (λ (n : ℕ). Follow f p n (some (here c t p))) I.next (subst (Follow f p t.count) q base)))

  address_then : accesses (kind_of (f.actions k)) ≡ true → (f.actions k).loc ≡ input_of f (f.actions k) 0
  address_then a =
      let acc : accesses (kind (next c t p)) ≡ true = sym (by (λ x. accesses (kind_of x))) ∙ a in
      let here_known : is_none (address c t p) ≡ false = and_rest (accesses (kind (next c t p))) (is_none (address c t p)) I.can.known acc in
      by (λ x. x.loc) ∙ cond-true _ _ _ acc
      ∙ sym (ap (λ (l : List Name). or_zero (value_of f (get_or l 0 (start none)))) (by (λ x. x.inputs)) ∙ ap or_zero (value-kept t f gt (get_or (bound c t p) 0 (start none)) here_known))

-- from the commit
module _ (c : Case) (f : State) (k : ℕ) (E : Settles c f k) where
  gs : Kept E.state f
  gs = kept c E.walk E.steady.unset

  inputs_then : (n : ℕ) → input_of f (f.actions k) n ≡ input_of E.state (E.state.actions k) n
  inputs_then = inputs_kept E.state f gs k E.can.there E.can.ready

  lock_then : (syncs (kind_of (f.actions k)) && leb c.locs (input_of f (f.actions k) 0)) ≡ false
  lock_then = ap (λ (n : ℕ). syncs (kind_of (f.actions k)) && leb c.locs n) (inputs_then 0) ∙ ap (λ (a : Action). syncs (kind_of a) && leb c.locs (input_of E.state (E.state.actions k) 0)) (gs.same k E.can.there) ∙ E.can.low

  result-plain : reading (kind_of (f.actions k)) ≡ false → (f.actions k).result ≡ some (result_of c f (owner f k) k E.source (f.actions k).instr)
  result-plain r =
      let i : (f.actions k).instr ≡ (E.state.actions k).instr = ap (λ (a : Action). a.instr) (gs.same k E.can.there) in
      result_then c f k E
      ∙ ap some (ap (result_of c E.state E.proc k E.source) (sym i) ∙ result-same c E.state f E.proc (owner f k) k E.source (λ n. sym (inputs_then n)) (f.actions k).instr r)

module _ (c : Case) (ts : List Step) (f : State) (d : Leads (womm c) (initial c) ts f) where
  pub steady : Steady f
  steady = always_after (womm c) Steady (steady_step c) (steady_initial c) ts f d

  w : Walk (womm c) (initial c) ts f
  w = walk (womm c) ts (initial c) f d

  pub facts : (k : ℕ) → k < f.count → Done f k → Facts c f k
  facts k l q =
      let I = issued_then c ts (initial c) f w (steady_initial c) k (omega arith) l in
      let E = settled_then c ts (initial c) f w (steady_initial c) k refl q in
      record {
        reads = (Origins.bound c ts f d).actions k l;
        follow = follow_then c f k I;
        ready = ready_then E.state f (gs c f k E) k E.can.there E.can.ready;
        address = address_then c f k I;
        lock = lock_then c f k E;
        source = E.source;
        sight = sight c f steady.strict k E;
        result = result-plain c f k E;
      }
