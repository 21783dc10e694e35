-- Reads and locals whose values nothing outside them looks at, and no step later on will. Assumes nothing.
use mathlib.Core.Path.{◌≡◌, refl, sym, ◌∙◌, ap}
use mathlib.Core.Logic.{◌⊎◌, inl, inr, ⊎_elim}
use mathlib.Core.Bool.{Bool, true, false, cond, false≢true}
use mathlib.Core.List.{List, [], ◌∷◌, map}
use mathlib.Core.Option.{Option, none, some}
use Prim.Native.Nat.{ℕ, suc, ◌<◌}
use native.Mathlib.Omega.{arith}
use lib.Dec.{eqb}
use borrow.Author.Tests.{eqb-true, eqb-false}
use Rattle.words.specs.Small.{is_none, is, any}
use Rattle.words.proofs.Bools.{decide, or_cases, or_false}
use Rattle.cases.specs.declared.Case.{Case}
use Rattle.rules.specs.Kinds.{kind, reading, writing, branching, computing, acquiring, releasing, reads, assigns}
use Rattle.rules.specs.Commit.{committed}
use Rattle.rules.specs.Issue.{bound, issued, next, renamed}
use Rattle.rules.specs.State.{Action, Name, State, given, kind_of, start}
use Rattle.rules.specs.Step.{Step, after, commit, issue, neither, step_code}
use Rattle.rules.proofs.Accepted.{after_issue, neither_no}
use Rattle.sure.specs.Dead.{ignorable}
use Rattle.sure.proofs.Commit.{Commit, after-take, committed_by, input, settled_by, the}
use Rattle.sure.proofs.Kept.{committed_field, issued_new, issued_old}

-- the name stands for what an action of the set gives
abbrev pub inside : (ℕ → Bool) → Name → Bool
inside D (start v) = false
inside D (given j) = D j

-- of reads and locals alone, and no register and no input of a queued action outside is bound to what one of them gives
pub record Veiled (s : State) (D : ℕ → Bool) : Type 0 where
  pub there : (k : ℕ) → D k ≡ true → k < s.count
  pub kinds : (k : ℕ) → D k ≡ true → ignorable (kind_of (s.actions k)) ≡ true
  pub unnamed : (p r : ℕ) → inside D (s.names p r) ≡ false
  pub unused : (j : ℕ) → j < s.count → (s.actions j).result ≡ none → D j ≡ false → any (inside D) (s.actions j).inputs ≡ false

-- a read or a local is of no other kind
pub ignorable_only : (k : ℕ) → ignorable k ≡ true → (branching k ≡ false) × (acquiring k ≡ false) × (releasing k ≡ false) × (writing k ≡ false)
ignorable_only k h = step (or_cases (reading k) (computing k) h)
  where
    step : (reading k ≡ true) ⊎ (computing k ≡ true) → (branching k ≡ false) × (acquiring k ≡ false) × (releasing k ≡ false) × (writing k ≡ false)
    step (inl e) = rw (eqb-true k 1 e) (refl, refl, refl, refl)
    step (inr e) = rw (eqb-true k 3 e) (refl, refl, refl, refl)

pub unnamed_all : (D : ℕ → Bool) (f : ℕ → Name) → ((r : ℕ) → inside D (f r) ≡ false) → (l : List ℕ) → any (inside D) (map f l) ≡ false
unnamed_all D f h [] = refl
unnamed_all D f h (x ∷ l) = or_false (inside D (f x)) _ (h x) (unnamed_all D f h l)

module _ (c : Case) (s : State) (D : ℕ → Bool) (U : Veiled s D) where
  pub new_out : D s.count ≡ false
  new_out = ⊎_elim (λ h. absurd (omega (arith, U.there s.count h))) (λ h. h) (decide (D s.count))

  veiled_issue : (p : ℕ) → Veiled (issued c s p) D
  unfolding issued
  veiled_issue p =
      record {
        there = λ k h. omega (arith, U.there k h);
        kinds = λ k h. ap (λ (a : Action). ignorable (kind_of a)) (issued_old c s p k (U.there k h)) ∙ U.kinds k h;
        unnamed = λ q r. names q r (eqb q p);
        unused = λ j l. unused j l (decide (eqb j s.count));
      }
    where
      old : (o : Option ℕ) (r : ℕ) → inside D (renamed (s.names p) o (given s.count) r) ≡ false
      old none r = U.unnamed p r
      old (some d) r = at (eqb r d)
        where
          at : (b : Bool) → inside D (cond b (given s.count) (s.names p r)) ≡ false
          at true = new_out
          at false = U.unnamed p r

      names : (q r : ℕ) (b : Bool) → inside D (cond b (renamed (s.names p) (assigns (next c s p)) (given s.count)) (s.names q) r) ≡ false
      names q r true = old (assigns (next c s p)) r
      names q r false = U.unnamed q r

      unused : (j : ℕ) → j < suc s.count → (eqb j s.count ≡ true) ⊎ (eqb j s.count ≡ false) → ((issued c s p).actions j).result ≡ none → D j ≡ false
          → any (inside D) ((issued c s p).actions j).inputs ≡ false
      unused j l (inl e) w o =
          ap (λ (i : ℕ). any (inside D) ((issued c s p).actions i).inputs) (eqb-true j s.count e)
          ∙ ap (λ (a : Action). any (inside D) a.inputs) (issued_new c s p)
          ∙ unnamed_all D (s.names p) (U.unnamed p) (reads (next c s p))
      unused j l (inr e) w o =
          let h : j < s.count = omega (arith, eqb-false j s.count e) in
          ap (λ (a : Action). any (inside D) a.inputs) (issued_old c s p j h)
          ∙ U.unused j h (ap (λ (a : Action). a.result) (sym (issued_old c s p j h)) ∙ w) o

  veiled_commit : (t : Commit) → Veiled (committed_by c s t) D
  unfolding committed
  veiled_commit t =
      record {
        there = U.there;
        kinds = λ k h. committed_field c s t (λ a. ignorable (kind_of a)) refl k ∙ U.kinds k h;
        unnamed = U.unnamed;
        unused = λ j l. step j l (eqb j t.action);
      }
    where
      step : (j : ℕ) → j < s.count → (b : Bool) → (cond b (settled_by c s t) (s.actions j)).result ≡ none → D j ≡ false → any (inside D) (cond b (settled_by c s t) (s.actions j)).inputs ≡ false
      step j l true w o = absurd (false≢true (ap is_none w))
      step j l false w o = U.unused j l w o

  pub veiled_step : (t : Step) → step_code c s t ≡ 0 → Veiled (after c s t) D
  veiled_step (issue p) h = rw (after_issue c s p) (veiled_issue p)
  veiled_step (commit p j e) h = rw (after-take c s (the p j e)) (veiled_commit (the p j e))
  veiled_step neither h = absurd (neither_no c s h)
