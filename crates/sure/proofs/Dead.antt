-- The commit of a dead read may be taken alone, from any of its sources: outcome-dead, cut-dead. Assumes nothing.
use mathlib.Core.Path.{◌≡◌, refl, sym, ◌∙◌, ap, subst}
use mathlib.Core.Logic.{◌⊎◌, inl, inr, ⊎_elim, ◌↔◌}
use mathlib.Core.Bool.{Bool, true, false, false≢true}
use mathlib.Core.List.{List, [], ◌∷◌}
use mathlib.Core.Option.{none}
use Prim.Native.Nat.{ℕ, zero, suc, ◌<◌}
use lib.Dec.{eqb}
use borrow.Author.Tests.{eqb-true, eqb-false, eq-eqb}
use Rattle.words.specs.Small.{is_none, any}
use Rattle.words.proofs.Bools.{decide, or_none, or_false, and_make, fails}
use Rattle.cases.specs.declared.Case.{Case}
use Rattle.runs.specs.Outcome.{OutcomeFrom, CutFrom}
use Rattle.runs.specs.Reachable.{Reachable}
use Rattle.rules.specs.Kinds.{reading}
use Rattle.rules.specs.Result.{finished}
use Rattle.rules.specs.State.{Action, Name, State, given, kind_of, start}
use Rattle.rules.specs.Step.{Step, after, commit, issue, neither, step_code}
use Rattle.rules.specs.Womm.{womm}
use Rattle.rules.proofs.Accepted.{after_issue, finished_still, neither_no}
use Rattle.rules.proofs.Origins.{Named, newest}
use Rattle.sure.specs.Dead.{DeadStep, Ignored, holds_on, is_given}
use Rattle.sure.specs.Told.{Done, Open}
use Rattle.sure.proofs.Commit.{after-take, can_take, the}
use Rattle.sure.proofs.Firm.{Firm, firm_step}
use Rattle.sure.proofs.Good.{Good, good_step}
use Rattle.sure.proofs.Kept.{committed_field, issued_old, waits_proc}
use Rattle.sure.proofs.Known.{Known, known}
use Rattle.sure.proofs.Reduce.{Next, done_next, open_next, unfinished, done_from, done_to, open_from, open_to}
use Rattle.sure.proofs.Revalued.{revalued, done_revalued, open_revalued, two_sources}
use Rattle.sure.proofs.Spent.{Elsewhere, read_moves}
use Rattle.sure.proofs.Veiled.{Veiled, inside, veiled_step}

-- nothing outside looks at what an ignored action gives
veiled_ignored : (c : Case) (s : State) → Known c s → (D : ℕ → Bool) → Ignored s D → Veiled s D
veiled_ignored c s K D I =
    record {
      there = I.there;
      kinds = I.kinds;
      unnamed = λ p r. unnamed p r (s.names p r) refl (K.names.registers p r);
      unused = λ j l w o.
          none_in (s.actions j).inputs
          (λ k d. fails _ (any (is_given k) (s.actions j).inputs) (λ q. and_make (is_none (s.actions j).result) _ (ap is_none w) q) (I.unread j k l o d));
    }
  where
    unnamed : (p r : ℕ) (n : Name) → s.names p r ≡ n → Named c s s.count p r n → inside D n ≡ false
    unnamed p r (start v) e w = refl
    unnamed p r (given k) e (newest j h x u) =
        ⊎_elim
        (λ d.
        absurd (false≢true (sym (I.renamed k d)
        ∙ ap (holds_on s k) x.sets
        ∙ ap (λ (q : ℕ). is_given k (s.names q r)) x.proc
        ∙ ap (is_given k) e
        ∙ eq-eqb k k refl)))
        (λ d. d)
        (decide (D k))

    none_in : (l : List Name) → ((k : ℕ) → D k ≡ true → any (is_given k) l ≡ false) → any (inside D) l ≡ false
    none_in [] h = refl
    none_in (start v ∷ l) h = none_in l h
    none_in (given i ∷ l) h =
        or_false (D i) _
        (⊎_elim (λ d. absurd (false≢true (sym (or_none (eqb i i) _ (h i d)).0 ∙ eq-eqb i i refl))) (λ d. d) (decide (D i)))
        (none_in l (λ k d. (or_none (eqb i k) _ (h k d)).1))

-- the commit of action k, or another step
same_or_other : (c : Case) (s : State) (p k e : ℕ) → step_code c s (commit p k e) ≡ 0 → (u : Step) → step_code c s u ≡ 0 → ((f : ℕ) × (u ≡ commit p k f)) ⊎ Elsewhere k u
same_or_other c s p k e h (issue q) g = inr tt
same_or_other c s p k e h (commit q j f) g = step (decide (eqb k j))
  where
    step : (eqb k j ≡ true) ⊎ (eqb k j ≡ false) → ((f' : ℕ) × (commit q j f ≡ commit p k f')) ⊎ (k ≡ j → ⊥)
    step (inl x) =
        let z : j ≡ k = sym (eqb-true k j x) in
        let y : q ≡ p = sym (waits_proc q (s.actions j) (can_take c s (the q j f) g).waits) ∙ ap (λ (i : ℕ). (s.actions i).proc) z ∙ waits_proc p (s.actions k) (can_take c s (the p k e) h).waits in
        inl (f, rw (z, y) refl)
    step (inr x) = inr (eqb-false k j x)
same_or_other c s p k e h neither g = absurd (neither_no c s g)

still_reads : (c : Case) (s : State) (k : ℕ) (u : Step) → step_code c s u ≡ 0 → k < s.count → reading (kind_of (s.actions k)) ≡ true → reading (kind_of ((after c s u).actions k)) ≡ true
still_reads c s k (issue q) g l z = ap (λ (x : State). reading (kind_of (x.actions k))) (after_issue c s q) ∙ ap (λ (a : Action). reading (kind_of a)) (issued_old c s q k l) ∙ z
still_reads c s k (commit q j f) g l z = ap (λ (x : State). reading (kind_of (x.actions k))) (after-take c s (the q j f)) ∙ committed_field c s (the q j f) (λ a. reading (kind_of a)) refl k ∙ z
still_reads c s k neither g l z = absurd (neither_no c s g)

-- the laws of runs that this needs: `P s n`, there is a run of the wanted sort from s with n steps to go
record Movable (c : Case) (P : State → ℕ → Type 0) : Type 0 where
  later : (s : State) (t : Step) (n : ℕ) → step_code c s t ≡ 0 → P (after c s t) n → P s (suc n)
  next : (s : State) (n : ℕ) → finished c s ≡ false → P s (suc n) → Next c P s n
  ends : (s x : State) → finished c s ≡ false → finished c x ≡ false → P s 0 → P x 0
  revalues : (s : State) (D : ℕ → Bool) (W : ℕ → ℕ) (n : ℕ) → Veiled s D → P s n → P (revalued D W s) n

module _ (c : Case) (P : State → ℕ → Type 0) (L : Movable c P) (p k e : ℕ) (D : ℕ → Bool) (d : D k ≡ true) where
  -- another commit of it in place of this one
  swapped : (s : State) (n : ℕ) → Veiled s D → (u : Step) → step_code c s u ≡ 0 → (f : ℕ) × (u ≡ commit p k f) → P (after c s u) n → P (after c s (commit p k e)) n
  swapped s n U u g q x =
      let w = two_sources c D s p k q.0 e d in
      let g = subst (λ (v : Step). step_code c s v ≡ 0) q.1 g in
      let x = subst (λ (v : Step). P (after c s v) n) q.1 x in
      subst (λ (y : State). P y n) (sym w.1) (L.revalues (after c s (commit p k q.0)) D w.0 n (veiled_step c s D U (commit p k q.0) g) x)

  -- its commit moves to the front, from whatever source it is
  moved : (n : ℕ) (s : State) → Good s → Firm s → Veiled s D → reading (kind_of (s.actions k)) ≡ true → step_code c s (commit p k e) ≡ 0 → P s (suc n) → P (after c s (commit p k e)) n
  moved zero s G F U z h x =
      let u = L.next s zero (unfinished c s (commit p k e) h) x in
      ⊎_elim (λ q. swapped s zero U u.step u.fits q u.then')
      (λ o.
      let M = read_moves c s G F (the p k e) h z u.step u.fits o in
      L.ends (after c s u.step) (after c s (commit p k e)) (unfinished c (after c s u.step) (commit p k e) M.still) (unfinished c (after c s (commit p k e)) u.step M.fits) u.then')
      (same_or_other c s p k e h u.step u.fits)
  moved (suc n) s G F U z h x =
      let u = L.next s (suc n) (unfinished c s (commit p k e) h) x in
      ⊎_elim (λ q. swapped s (suc n) U u.step u.fits q u.then')
      (λ o.
      let M = read_moves c s G F (the p k e) h z u.step u.fits o in
      L.later (after c s (commit p k e)) u.step n M.fits
      (subst (λ (y : State). P y n) M.meets
      (moved n (after c s u.step) (good_step c s G u.step u.fits) (firm_step c s G F u.step u.fits) (veiled_step c s D U u.step u.fits) (still_reads c s k u.step u.fits (U.there k d) z) M.still u.then')))
      (same_or_other c s p k e h u.step u.fits)

-- the same of a step
module _ (c : Case) {P : State → ℕ → Type 0} (L : Movable c P) (s : State) (K : Known c s) (n : ℕ) where
  dead : (t : Step) → step_code c s t ≡ 0 → DeadStep s t → P s (suc n) → P (after c s t) n
  dead (issue p) h q x = absurd q
  dead (commit p k e) h q x = moved c P L p k e q.set q.among n s K.reached.good K.firm (veiled_ignored c s K q.set q.ignored) q.reads h x
  dead neither h q x = absurd q

module _ (c : Case) where
  done_movable : (r : List ℕ) → Movable c (λ s n. Done c s n r)
  done_movable r =
      record {
        later = λ s t n h d. Done.later t h d;
        next = λ s n f d. done_next c f d;
        ends = λ s x f g d. over s f d;
        revalues = λ s D W n U d. done_revalued c D W U d;
      }
    where
      over : (s : State) → finished c s ≡ false → Done c s 0 r → {X : Type 0} → X
      over s f (Done.now g e) = absurd (false≢true (sym f ∙ g))

  open_movable : Movable c (Open c)
  open_movable =
      record {
        later = λ s t n h d. Open.later t h d;
        next = λ s n f d. open_next c f d;
        ends = λ s x f g d. Open.now g;
        revalues = λ s D W n U d. open_revalued c D W U d;
      }

  module _ (s : State) (K : Known c s) (t : Step) (h : step_code c s t ≡ 0) (q : DeadStep s t) (n : ℕ) where
    pub done_dead : (r : List ℕ) → Done c s (suc n) r → Done c (after c s t) n r
    done_dead r = dead c (done_movable r) s K n t h q

    pub open_dead : Open c s (suc n) → Open c (after c s t) n
    open_dead = dead c open_movable s K n t h q

  -- THE THEOREM: at a reachable state an accepted commit of a dead read may be taken alone, for outcomes and for the cut.
  module _ (s : State) (w : Reachable (womm c) s) (t : Step) (h : step_code c s t ≡ 0) (q : DeadStep s t) (n : ℕ) where
    pub outcome_dead : (r : List ℕ) → OutcomeFrom (womm c) s (suc n) r ↔ OutcomeFrom (womm c) (after c s t) n r
    outcome_dead r = (
      λ o. done_from c n (done_dead s (known w) t h q n r (done_to c (suc n) s r o)),
      λ o. done_from c (suc n) (Done.later t h (done_to c n (after c s t) r o)),
    )

    pub cut_dead : CutFrom (womm c) s (suc n) ↔ CutFrom (womm c) (after c s t) n
    cut_dead = (
      λ o. open_from c (open_dead s (known w) t h q n (open_to c (suc n) s o)),
      λ o. open_from c (Open.later t h (open_to c n (after c s t) o)),
    )
