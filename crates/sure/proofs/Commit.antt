-- A commit as one thing, and what the rules say of it. Assumes nothing.
use mathlib.Core.Path.{◌≡◌, sym, ◌∙◌, ap}
use mathlib.Core.Bool.{Bool, true, false, ◌&&◌, not, false≢true}
use mathlib.Core.Logic.{⊎_elim}
use Prim.Native.Nat.{ℕ, ◌+◌}
use lib.Dec.{eqb}
use borrow.Author.Tests.{eqb-true}
use Rattle.words.specs.Small.{is}
use Rattle.words.proofs.Bools.{and_make, decide}
use Rattle.cases.specs.declared.Instr.{Instr}
use Rattle.cases.specs.declared.Case.{Case}
use Rattle.rules.specs.Kinds.{reading, releasing, held_by}
use Rattle.rules.specs.State.{State, Action, kind_of, waiting, input_of, item_is}
use Rattle.rules.specs.Commit.{result_of, settled, committed}
use Rattle.rules.specs.Step.{Step, commit, step_code, after}
use Rattle.rules.proofs.Accepted.{CanCommit, can_commit, commit_ok, after_commit, Visible, sees_cases}

-- processor `proc` commits action `action`; a read takes the value of item `source`
pub record Commit : Type 0 where
  pub proc : ℕ
  pub action : ℕ
  pub source : ℕ

abbrev pub the : ℕ → ℕ → ℕ → Commit
the p k e = record { proc = p; action = k; source = e }

abbrev pub as_step : Commit → Step
as_step t = commit t.proc t.action t.source

abbrev pub self : State → Commit → Action
self s t = s.actions t.action

abbrev pub input : State → Commit → ℕ → ℕ
input s t n = input_of s (self s t) n

abbrev pub item : Commit → ℕ
item t = 8 + t.action

-- action j, in the queue, holds it back
abbrev pub holds : State → Commit → ℕ → Bool
holds s t j = waiting t.proc (s.actions j) && held_by (kind_of (self s t)) (kind_of (s.actions j)) (eqb (s.actions j).loc (self s t).loc)

abbrev pub result_by : Case → State → Commit → Instr → ℕ
result_by c s t = result_of c s t.proc t.action t.source

abbrev pub settled_by : Case → State → Commit → Action
settled_by c s t = settled c s t.proc t.action t.source

abbrev pub committed_by : Case → State → Commit → State
committed_by c s t = committed c s t.proc t.action t.source

-- the committed release items of location l
abbrev pub releases : State → ℕ → ℕ → Bool
releases s l e = item_is false (λ a. releasing (kind_of a) && is l a.result) s e

abbrev pub CanTake : Case → State → Commit → Type 0
CanTake c s t = CanCommit c s t.proc t.action t.source

module _ (c : Case) (s : State) (t : Commit) where
  pub can_take : step_code c s (as_step t) ≡ 0 → CanTake c s t
  can_take = can_commit c s t.proc t.action t.source

  pub take_ok : CanTake c s t → step_code c s (as_step t) ≡ 0
  take_ok = commit_ok c s t.proc t.action t.source

  pub after-take : after c s (as_step t) ≡ committed_by c s t
  after-take = after_commit c s t.proc t.action t.source

  -- an accepted read sees its source
  pub sees_take : CanTake c s t → reading (kind_of (self s t)) ≡ true → Visible c s (self s t).loc (item t) t.source
  sees_take = sees_cases c s t.proc t.action t.source

  -- what is no read names source 0
  pub source_zero : CanTake c s t → reading (kind_of (self s t)) ≡ false → t.source ≡ 0
  source_zero T r =
      ⊎_elim (λ w. eqb-true t.source 0 w)
      (λ w. absurd (false≢true (sym T.plain ∙ and_make _ _ (ap not w) (ap not r))))
      (decide (eqb t.source 0))
