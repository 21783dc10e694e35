-- Each outcome of a store-buffer machine within n instructions is one of the WOMM within 2 * n steps, whatever the kind of buffer. Assumes nothing.
use mathlib.Core.Path.{◌≡◌, refl, sym, ◌∙◌, ap, subst, fun_ext}
use mathlib.Core.Bool.{true, false, cond, not, ◌&&◌}
use mathlib.Core.List.{List, [], ◌∷◌, Memᴰ}
use mathlib.Core.Option.{Option, none}
use Prim.Native.Nat.{ℕ, ◌+◌, ◌*◌, ◌≤◌, ◌<◌}
use native.Mathlib.Omega.{arith}
use lib.Dec.{eqb, ltb}
use lib.ListN.{length}
use Rattle.words.specs.Small.{is_none, is, some_below, counting, concat_map}
use Rattle.words.proofs.Bools.{and_both, and_make, all_make, all_at, below_cases, fails}
use Rattle.cases.specs.declared.Case.{Case}
use Rattle.cases.specs.Case.{count_of}
use Rattle.cases.specs.Block.{Sound}
use Rattle.runs.specs.Listing.{RecordsOf}
use Rattle.runs.specs.Outcome as Runs
use Rattle.runs.proofs.Walk.{Walk, stop, go, leads}
use Rattle.rules.specs.State.{State, waiting, initial}
use Rattle.rules.specs.Issue.{issued}
use Rattle.rules.specs.Step.{Step, issue, commit}
use Rattle.rules.specs.Result.{register_bytes}
use Rattle.rules.specs.Result as Rules
use Rattle.rules.specs.Womm.{womm}
use Rattle.rules.proofs.Accepted.{issue_ok, commit_ok, after_issue, after_commit}
use Rattle.boards.specs.declared.Buffering.{Buffering}
use Rattle.boards.specs.Board.{Board, opening}
use Rattle.boards.specs.Machine.{Move, run, drain, moved, ended}
use Rattle.boards.specs.Machine as Boards
use Rattle.boards.specs.Listing.{instructions, Outcome}
use Rattle.boards.proofs.Accepted.{Runs as Course, code_allowed, CanRun, can_run}
use Rattle.boards.proofs.Stable.{outcome_run}
use Rattle.inclusion.specs.Inside.{Inside}
use Rattle.inclusion.proofs.Sized.{sound_locs}
use Rattle.inclusion.proofs.Took.{took, took-count}
use Rattle.inclusion.proofs.Mirror.{Mirror, mirror_initial, drain_mirror}
use Rattle.inclusion.proofs.Running.{Commit, commit as commit-of, issue_can}
use Rattle.inclusion.proofs.Keeping.{run_mirror}

-- the WOMM's run beside a board's
pub record Beside (k : Buffering) (c : Case) (s : State) (ms : List Move) (e : Board) : Type 0 where
  pub schedule : List Step
  pub end : State
  pub walk : Walk (womm c) s schedule end
  pub twice : length schedule ≡ instructions ms + instructions ms
  pub mirror : Mirror k c e end

module _ (k : Buffering) (c : Case) where
  -- one instruction: an issue, then its commit
  both : (b : Board) (s : State) (M : Mirror k c b s) (p : ℕ) (R : CanRun k c b p) → s.count < 48 → (ts : List Step) (end : State)
      → Walk (womm c) (took c s p (commit-of k c b s M p R).source) ts end → Walk (womm c) s (issue p ∷ commit p s.count (commit-of k c b s M p R).source ∷ ts) end
  both b s M p R room ts end w =
      let C = commit-of k c b s M p R in
      go (issue_ok c s p (issue_can k c b s M p R room))
      (subst (λ x. Walk (womm c) x (commit p s.count C.source ∷ ts) end) (sym (after_issue c s p))
      (go (commit_ok c (issued c s p) p s.count C.source C.can)
      (subst (λ x. Walk (womm c) x ts end) (sym (after_commit c (issued c s p) p s.count C.source)) w)))

  pub beside : (ms : List Move) (b e : Board) (s : State) → Mirror k c b s → s.count + instructions ms ≤ 48 → Course k c b ms e → Beside k c s ms e
  unfolding instructions moved
  beside [] b e s M room (stop h) = record { schedule = []; end = s; walk = stop refl; twice = refl; mirror = subst (λ x. Mirror k c x s) h M }
  beside (run p ∷ ms) b e s M room (go h w) =
      let R : CanRun k c b p = can_run k c b p (code_allowed k c b (run p) h) in
      let C : Commit k c b s M p R = commit-of k c b s M p R in
      let n = took-count c s M.settled p C.source in
      let r = beside ms (moved k c b (run p)) e (took c s p C.source) (run_mirror k c b s M p R C) (omega arith) w in
      record {
        schedule = issue p ∷ commit p s.count C.source ∷ r.schedule;
        end = r.end;
        walk = both b s M p R (omega arith) r.schedule r.end r.walk;
        twice = omega (arith, r.twice);
        mirror = r.mirror;
      }
  beside (drain p n ∷ ms) b e s M room (go h w) =
      let r = beside ms (moved k c b (drain p n)) e s (drain_mirror k c b s M p n) room w in
      record { schedule = r.schedule; end = r.end; walk = r.walk; twice = r.twice; mirror = r.mirror }

  module _ (b : Board) (s : State) (M : Mirror k c b s) where
    same-finished : Boards.finished c b ≡ true → Rules.finished c s ≡ true
    unfolding Boards.finished ended Rules.finished
    same-finished h =
        all_make (λ p. not (some_below s.count (λ j. waiting p (s.actions j))) && is (count_of c p) (s.places p)) (counting 0 c.procs)
        (λ p m. and_make _ _ (ap not (fails false _ (queue p) refl)) (ap (is (count_of c p)) (M.places p) ∙ all_at (λ q. eqb (b.places q) (count_of c q)) m (and_both (ended c b) _ h).0))
      where
        queue : (p : ℕ) → some_below s.count (λ j. waiting p (s.actions j)) ≡ true → false ≡ true
        queue p x =
            let w = below_cases s.count (λ j. waiting p (s.actions j)) x in
            sym (M.settled.whole w.0 w.1) ∙ (and_both (eqb (s.actions w.0).proc p) (is_none (s.actions w.0).result) w.2).1

    same-registers : Rules.registers c s ≡ Boards.registers c b
    unfolding Rules.registers Boards.registers
    same-registers =
        ap (λ (f : ℕ → ℕ → Option ℕ). concat_map (λ p. concat_map (λ r. register_bytes (cond (ltb p c.procs) (f p r) none)) (counting 0 8)) (counting 0 4))
        (fun_ext λ p. fun_ext λ r. M.values p r)

  -- EACH OUTCOME IS ONE OF THE WOMM, within twice the bound
  pub within : c.locs ≤ 8 → (n : ℕ) → n ≤ 48 → Inside k c n
  within low n few r o =
      let B = beside o.moves (opening c) o.end (initial c) (mirror_initial k c low) (omega (arith, o.short)) (outcome_run k c o) in
      record {
        schedule = B.schedule;
        end = B.end;
        short = omega (arith, B.twice, o.short);
        leads = leads (womm c) B.walk;
        done = same-finished o.end B.end B.mirror o.done;
        gives = same-registers o.end B.end B.mirror ∙ o.gives;
      }

  -- of a sound case: each record of the list stands in the WOMM's, with room enough, for twice the bound
  pub records_within : Sound c → (n : ℕ) → n ≤ 48 → (rs ws : List (List ℕ)) → RecordsOf (Outcome k c n) rs → RecordsOf (Runs.Outcome (womm c) (2 * n)) ws → (r : List ℕ) → Memᴰ r rs → Memᴰ r ws
  records_within sound n few rs ws x y r m = (y.members r).1 (within (sound_locs c sound) n few r ((x.members r).0 m))
