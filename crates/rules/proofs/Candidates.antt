-- The steps that a state may accept, listed: every accepted step is among them. Assumes nothing.
use Rattle.std.proofs.Common.{◌≡◌, ℕ, ◌+◌, Bool, true, false, cond, ◌⊎◌, ◌↔◌, List, [], ◌∷◌, ◌++◌, map, sym, refl, ap, ⊎_elim, arith}
use mathlib.Core.List.Memᴰ
use mathlib.Core.List.{Memᴰ}
use Rattle.words.specs.Small.{counting, concat_map}
use Rattle.cases.specs.declared.Case.{Case}
use Rattle.runs.specs.Outcome.{Outcome, Cut}
use Rattle.runs.proofs.Search.{Covers, search, cuts, search_right, cuts_right, concat_map_make}
use Rattle.rules.specs.Kinds.{reading}
use Rattle.rules.specs.State.{State, Action, initial, kind_of}
use Rattle.rules.specs.Step.{Step, issue, commit, neither, step_code}
use Rattle.rules.specs.Womm.{womm}
use Rattle.rules.proofs.Accepted.{CanCommit, can_issue, can_commit, neither_no, counting_mem}
use Rattle.rules.proofs.Actions.{waits_proc}
use Rattle.rules.proofs.Sources.{Unset, unset_initial, unset_step, Known, source_known, source_zero}

-- the items that the commit of an action may name
abbrev pub sources : State → Action → List ℕ
sources s a = cond (reading (kind_of a)) (a.loc ∷ map (λ j. 8 + j) (counting 0 s.count)) (0 ∷ [])

abbrev pub commits : State → ℕ → List Step
commits s k = map (commit (s.actions k).proc k) (sources s (s.actions k))

unfoldable pub candidates : Case → State → List Step
candidates c s = map issue (counting 0 c.procs) ++ concat_map (commits s) (counting 0 s.count)

module _ (c : Case) (s : State) (u : Unset s) where
  from_sources : (p k e : ℕ) → CanCommit c s p k e → Memᴰ e (sources s (s.actions k))
  from_sources p k e T = step (reading (kind_of (s.actions k))) (source_known c s u p k e T) (source_zero c s u p k e T)
    where
      step : (b : Bool) → (b ≡ true → Known s (s.actions k).loc e) → (b ≡ false → e ≡ 0) → Memᴰ e (cond b ((s.actions k).loc ∷ map (λ j. 8 + j) (counting 0 s.count)) (0 ∷ []))
      step true known zeroed = ⊎_elim (λ q. Memᴰ.head q.1) (λ q. Memᴰ.tail (Memᴰ.cast q.1 (Memᴰ.map (λ j. 8 + j) (counting_mem s.count 0 q.0 (omega arith) (omega (arith, q.2)))))) (known refl)
      step false known zeroed = Memᴰ.head (zeroed refl)

  pub candidate : (t : Step) → step_code c s t ≡ 0 → Memᴰ t (candidates c s)
  unfolding candidates
  candidate (issue p) h = Memᴰ.append_left (concat_map (commits s) (counting 0 s.count)) (Memᴰ.map issue (counting_mem c.procs 0 p (omega arith) (omega (arith, (can_issue c s p h).proc))))
  candidate (commit p k e) h =
      let T = can_commit c s p k e h in
      Memᴰ.append_right (map issue (counting 0 c.procs))
      (concat_map_make (commits s) (counting_mem s.count 0 k (omega arith) (omega (arith, T.there)))
      (Memᴰ.cast (ap (λ (q : ℕ). commit q k e) (sym (waits_proc p (s.actions k) T.waits))) (Memᴰ.map (commit (s.actions k).proc k) (from_sources p k e T))))
  candidate neither h = absurd (neither_no c s h)

module _ (c : Case) where
  pub covers : Covers (womm c) (candidates c)
  covers = record { Known = Unset; start = unset_initial c; keeps = unset_step c; complete = λ s t h u. candidate c s u t h }

  -- a plain search lists the outcomes and nothing besides, and tells the cut
  pub outcomes_found : (n : ℕ) (r : List ℕ) → Memᴰ r (search (womm c) (candidates c) n (initial c)) ↔ Outcome (womm c) n r
  outcomes_found = search_right (womm c) (candidates c) covers

  pub cut_found : (n : ℕ) → (cuts (womm c) (candidates c) n (initial c) ≡ true) ↔ Cut (womm c) n
  cut_found = cuts_right (womm c) (candidates c) covers
