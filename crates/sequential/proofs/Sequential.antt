-- A run without a race is a sequential run. Assumes nothing.
use mathlib.Core.Path.{◌≡◌, refl, sym, ◌∙◌, ap, subst, fun_ext}
use mathlib.Core.Logic.{⊎_elim}
use mathlib.Core.Bool.{Bool, true, false, cond, not, ◌&&◌, false≢true}
use mathlib.Core.List.{List, [], ◌∷◌, Memᴰ}
use mathlib.Core.Option.{Option, none, some}
use Prim.Native.Nat.{ℕ, zero, suc, ◌≤◌, ◌<◌}
use native.Mathlib.Omega.{arith}
use lib.Dec.{eqb, ltb}
use borrow.Author.Tests.{eq-eqb, eqb-true, eqb-false, ltb-true}
use Rattle.words.specs.Small.{is_none, is, some_below, counting, concat_map}
use Rattle.words.specs.Refusals.{◌when◌, first_code_of}
use Rattle.words.proofs.Bools.{decide, and_both, and_make, all_make, all_at, below_make, below_cases, fails}
use Rattle.cases.specs.declared.Case.{Case}
use Rattle.cases.specs.Block.{case_of}
use Rattle.cases.specs.Case.{count_of}
use Rattle.runs.specs.Replay.{replay}
use Rattle.runs.specs.Listing.{RecordsOf}
use Rattle.runs.proofs.Walk.{walk, leads}
use Rattle.rules.specs.State.{State, Name, initial, waiting, value_of}
use Rattle.rules.specs.Step.{Step, steps_of}
use Rattle.rules.specs.Result.{register_bytes, how_many}
use Rattle.rules.specs.Result as Rules
use Rattle.rules.specs.Womm.{womm}
use Rattle.rules.proofs.Origins.{Named, untouched, newest}
use Rattle.rules.proofs.Strict.{owner, Done}
use Rattle.races.specs.Race.{Race, FirstRace, found, clear}
use Rattle.replaying.specs.Answer.{answer_from, replay_refusals, asked}
use Rattle.racing.specs.Answer.{alone, queued, PairOf, reached}
use Rattle.boards.specs.declared.Buffering.TheVariants.{Direct}
use Rattle.boards.specs.Board.{Board, opening, filled}
use Rattle.boards.specs.Machine.{board, ended}
use Rattle.boards.specs.Machine as Boards
use Rattle.boards.specs.Listing.{instructions, Outcome}
use Rattle.boards.proofs.Stable.{outcome_of}
use Rattle.sequential.specs.Sequential.{RaceFree, RaceFreeSequential, AnsweredSequential, RaceFreeOutcome}
use Rattle.sequential.proofs.Paths.{Follow, first, behind}
use Rattle.sequential.proofs.Steady.{steady_initial}
use Rattle.sequential.proofs.Mirror.{unwritten}
use Rattle.sequential.proofs.Stretch.{ran_in, Rest}
use Rattle.sequential.proofs.Along.{At, along}
use Rattle.sequential.proofs.Known.{raceless}

-- before anything has run
abbrev nothing : ℕ → ℕ
nothing p = 0

many_none : (n : ℕ) (P : ℕ → Bool) → ((j : ℕ) → P j ≡ false) → how_many n P ≡ 0
unfolding how_many
many_none zero P h = refl
many_none (suc n) P h = omega (arith, ap {B = ℕ} (λ (b : Bool). cond b 1 0) (h n), many_none n P h)

none_ran : (f : State) → ran_in f nothing ≡ 0
none_ran f = many_none f.count (λ j. ltb j 0) (λ j. fails false (ltb j 0) (λ q. absurd (omega (arith, ltb-true j 0 q))) refl)

module _ (c : Case) (f : State) where
  start_place : (p : ℕ) (x : Option ℕ) → Follow f p 0 x → some 0 ≡ x
  start_place p x (first i) = refl
  start_place p x (behind k h w i) = absurd (omega arith)

  start_value : (p r : ℕ) (x : Name) → Named c f 0 p r x → (opening c).values p r ≡ value_of f x
  start_value p r x (untouched u) = refl
  start_value p r x (newest k h w u) = absurd (omega arith)

  start : At c f (initial c) nothing (opening c)
  start =
      record {
        mirror = record { places = start_place; values = start_value; holders = λ l. refl; memory = λ l. unwritten (λ w W h. absurd (omega arith)); buffers = λ p m. refl; closed = λ l j k i h g. absurd (omega arith) };
        few = λ p. omega arith;
        done = λ j l x h. absurd (omega arith);
        has = λ j l x d. absurd (false≢true (sym d));
      }

-- empty queues: everything is committed
pub quiet : (s : State) → queued s ≡ false → (k : ℕ) → k < s.count → Done s k
unfolding queued
quiet s e k l = ⊎_elim (λ q. absurd (false≢true (sym e ∙ below_make s.count (λ j. waiting (owner s j) (s.actions j)) k l (and_make (eqb (owner s k) (owner s k)) _ (eq-eqb (owner s k) (owner s k) refl) q)))) (λ q. q) (decide (is_none (s.actions k).result))

-- the answer that there is no race
no_race : (ts : List Step) (s : State) → FirstRace ts s 255 255 → (j k : ℕ) → Race ts s j k → ⊥
no_race ts s (found r g) j k x = absurd (omega (arith, r.first))
no_race ts s (clear a b g) j k x = g j k x

module _ (c : Case) (ts : List Step) (s : State) (F : RaceFree c ts s) where
  sequential_run : Rest c s nothing (opening c)
  sequential_run =
      let R = raceless c ts s F.leads (no_race ts s F.none) (quiet s F.empty) in
      along c s R ts (initial c) (walk (womm c) ts (initial c) s F.leads) (steady_initial c) nothing (opening c) (start c s)

  abbrev end : Board
  end = sequential_run.end

  exactly : instructions sequential_run.moves ≡ s.count
  exactly = let r = sequential_run in omega (arith, r.whole, none_ran s)

  -- the board is finished where the state is
  same-finished : Rules.finished c s ≡ true → Boards.finished c end ≡ true
  unfolding Boards.finished ended Rules.finished
  same-finished h =
      and_make _ _
      (all_make (λ p. eqb (end.places p) (count_of c p)) (counting 0 c.procs) (λ p m. ap (is (count_of c p)) (sym (sequential_run.places p)) ∙ (and_both (not (some_below s.count (λ k. waiting p (s.actions k)))) _ (all_at (λ q. not (some_below s.count (λ k. waiting q (s.actions k))) && is (count_of c q) (s.places q)) m h)).1))
      (all_make (λ p. not (some_below c.locs (λ b. filled (end.buffers p b)))) (counting 0 c.procs) (λ p m. ap not (fails false (some_below c.locs (λ b. filled (end.buffers p b))) (stored p) refl)))
    where
      stored : (p : ℕ) → some_below c.locs (λ b. filled (sequential_run.end.buffers p b)) ≡ true → false ≡ true
      stored p x = let w = below_cases c.locs (λ b. filled (sequential_run.end.buffers p b)) x in ap filled (sym (sequential_run.buffers p w.0)) ∙ w.2

  same-registers : Boards.registers c end ≡ Rules.registers c s
  unfolding Rules.registers Boards.registers
  same-registers =
      ap (λ (f : ℕ → ℕ → Option ℕ). concat_map (λ p. concat_map (λ r. register_bytes (cond (ltb p c.procs) (f p r) none)) (counting 0 8)) (counting 0 4))
      (fun_ext λ p. fun_ext λ r. sym (sequential_run.values p r))

-- A RUN WITHOUT A RACE IS SEQUENTIAL
pub race_free_sequential : RaceFreeSequential
race_free_sequential c ts s F =
    let r = sequential_run c ts s F in
    record { moves = r.moves; end = r.end; leads = leads (board Direct c) r.runs; whole = exactly c ts s F; places = r.places; values = r.values }

-- FINISHED, ITS RESULT IS THE SC MACHINE'S
pub race_free_outcome : RaceFreeOutcome
race_free_outcome c ts s F h =
    let r = sequential_run c ts s F in
    outcome_of Direct c r.runs (omega (arith, exactly c ts s F)) (same-finished c ts s F h) (same-registers c ts s F)

-- and stands in the SC list, with room enough, for that bound and every larger one
pub race_free_listed : (c : Case) (ts : List Step) (s : State) → RaceFree c ts s → Rules.finished c s ≡ true → (n : ℕ) → s.count ≤ n → (rs : List (List ℕ)) → RecordsOf (Outcome Direct c n) rs → Memᴰ (Rules.registers c s) rs
race_free_listed c ts s F h n l rs x =
    let o = race_free_outcome c ts s F h in
    (x.members (Rules.registers c s)).1 (record { moves = o.moves; end = o.end; short = omega (arith, o.short, l); leads = o.leads; done = o.done; gives = o.gives })

-- by the answer of the call

both-none : (m : ℕ) (b : Bool) → first_code_of (m when not (eqb m 0) ∷ 14 when b ∷ []) ≡ 0 → (m ≡ 0) × (b ≡ false)
unfolding first_code_of
both-none m b h = step (eqb m 0) b refl h
  where
    step : (x y : Bool) → eqb m 0 ≡ x → cond (not x) m (cond y 14 0) ≡ 0 → (m ≡ 0) × (y ≡ false)
    step true true q e = absurd (omega arith)
    step true false q e = (eqb-true m 0 q, refl)
    step false y q e = absurd (eqb-false m 0 q e)

accepted_then : (n : ℕ) (c : Case) (ts : List Step) → (answer_from alone n c ts 0).code ≡ 0 → (replay (womm c) (initial c) ts).code ≡ 0
accepted_then zero c ts h = h
accepted_then (suc n) c ts h = absurd (omega arith)

pub answered_sequential : AnsweredSequential
unfolding asked
answered_sequential block schedule r A z x y =
    let c = case_of block in
    let ts = steps_of schedule in
    let w = both-none (asked alone block schedule 0).code (queued (reached block schedule)) (sym A.code ∙ z) in
    race_free_sequential c ts (reached block schedule)
    (record {
      leads = record { accepted = accepted_then (first_code_of (replay_refusals 0 block schedule 0)) c ts w.0; ends = refl };
      empty = w.1;
      none = subst (λ (k : ℕ). FirstRace ts (reached block schedule) 255 k) y (subst (λ (j : ℕ). FirstRace ts (reached block schedule) j r.second) x (subst (λ (n : ℕ). PairOf n ts (reached block schedule) r.first r.second) z A.pair));
    })
