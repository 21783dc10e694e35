-- The answer of a race, from the replay and the machine that it leaves. Assumes nothing.
use mathlib.Core.Path.{◌≡◌, refl, sym, ◌∙◌, ap, subst}
use mathlib.Core.Bool.{Bool, true, false, not}
use mathlib.Core.List.{List, [], ◌∷◌}
use Prim.Native.Nat.{ℕ, zero, suc}
use lib.Dec.{eqb}
use borrow.Author.Tests.{ne_eqb}
use Rattle.words.specs.Small.{some_below}
use Rattle.words.specs.Refusals.{◌when◌, first_code_of}
use Rattle.words.proofs.First.{first, hit}
use Rattle.cases.specs.declared.Case.{Case}
use Rattle.cases.specs.Block.{case_of, read_of}
use Rattle.runs.specs.Replay.{replay}
use Rattle.rules.specs.State.{State, Action, initial, waiting}
use Rattle.rules.specs.Step.{Step, steps_of}
use Rattle.rules.specs.Womm.{womm}
use Rattle.machine.specs.Shown.{shown}
use Rattle.races.specs.Race.{FirstRace}
use Rattle.races.specs.Test.{first_of_race, second_of_race}
use Rattle.races.proofs.Racing.{first_race, first_race_unique}
use Rattle.replaying.specs.declared.Walked.{Walked}
use Rattle.replaying.specs.Answer.{IsAnswer}
use Rattle.replaying.specs.Inner.{IsWalk}
use Rattle.replaying.proofs.Answers.{all, refused, taken}
use Rattle.racing.specs.Answer.{alone, queued, PairOf, reached, race_code, RacedAs}

-- in the queue of its processor
abbrev pub waits : Action → Bool
waits a = waiting a.proc a

pub queued_is : (s : State) (b : Bool) → b ≡ some_below s.count (λ j. waits (s.actions j)) → b ≡ queued s
unfolding queued
queued_is s b h = h

no_pair : (n : ℕ) (ts : List Step) (s : State) → (n ≡ 0 → ⊥) → PairOf n ts s 255 255
no_pair zero ts s z = absurd (z refl)
no_pair (suc n) ts s z = (refl, refl)

-- the code m of the replay, then 14
code_first : (n m : ℕ) (b : Bool) → (n ≡ 0 → ⊥) → n ≡ m → n ≡ first_code_of (m when not (eqb m 0) ∷ 14 when b ∷ [])
code_first n m b z e = subst (λ (i : ℕ). n ≡ first_code_of (i when not (eqb i 0) ∷ 14 when b ∷ [])) e (first _ (hit (rw (ne_eqb n 0 z))))

code_after : (m : ℕ) (b : Bool) → 0 ≡ m → first_code_of (14 when b ∷ []) ≡ first_code_of (m when not (eqb m 0) ∷ 14 when b ∷ [])
unfolding first_code_of
code_after m b e = subst (λ (i : ℕ). first_code_of (14 when b ∷ []) ≡ first_code_of (i when not (eqb i 0) ∷ 14 when b ∷ [])) e refl

module _ (block schedule : List ℕ) where
  -- refused before the first step
  pub refused_as : (n at : ℕ) → n ≡ all alone block schedule 0 → (n ≡ 0 → ⊥) → at ≡ (read_of block).position → RacedAs block schedule n 255 255 0 255 at
  refused_as n at h z q =
      let u = refused alone block schedule 0 n at [] h z q refl in
      record { code = code_first n _ (queued (reached block schedule)) z u.code; pair = no_pair n _ _ z; steps = u.steps; place = u.place; position = u.position }

  -- taken up, on the case c
  module _ (zero-code : 0 ≡ all alone block schedule 0) (c : Case) (same : c ≡ case_of block) (w : Walked) (v : IsWalk c (steps_of schedule) w) where
    answer : IsAnswer alone block schedule 0 (record { code = w.code; steps = w.steps; place = w.place; position = 0 }) []
    answer = taken alone block schedule 0 zero-code c w [] same v refl

    ends : shown c w.machine ≡ reached block schedule
    ends = v.shows ∙ ap (λ (k : Case). (replay (womm k) (initial k) (steps_of schedule)).state) same

    -- a step was refused
    pub stepped_as : (w.code ≡ 0 → ⊥) → RacedAs block schedule w.code 255 255 w.steps w.place 0
    stepped_as z =
        record { code = code_first w.code _ (queued (reached block schedule)) z answer.code; pair = no_pair w.code _ _ z; steps = answer.steps; place = answer.place; position = answer.position }

    module _ (accepted : w.code ≡ 0) where
      code_is : (b : Bool) → b ≡ queued (shown c w.machine) → first_code_of (14 when b ∷ []) ≡ race_code block schedule
      code_is b q = ap (λ (x : Bool). first_code_of (14 when x ∷ [])) (q ∙ ap queued ends) ∙ code_after _ (queued (reached block schedule)) (sym accepted ∙ answer.code)

      -- 'Then 14 if a queue is not empty'
      pub waiting_as : true ≡ queued (shown c w.machine) → RacedAs block schedule 14 255 255 w.steps w.place 0
      unfolding first_code_of
      waiting_as q = record { code = code_is true q; pair = (refl, refl); steps = answer.steps; place = answer.place; position = answer.position }

      pub raced_as : (j k : ℕ) → false ≡ queued (shown c w.machine) → (j ≡ first_of_race (shown c w.machine)) × (k ≡ second_of_race (shown c w.machine)) → RacedAs block schedule 0 j k w.steps w.place 0
      unfolding first_code_of
      raced_as j k q e = record { code = code_is false q; pair = pair; steps = answer.steps; place = answer.place; position = answer.position }
        where
          s : State
          s = reached block schedule

          race : FirstRace (steps_of schedule) s (first_of_race s) (second_of_race s)
          race = first_race (case_of block) (steps_of schedule) s (record { accepted = ap (λ (k : Case). (replay (womm k) (initial k) (steps_of schedule)).code) (sym same) ∙ sym v.code ∙ accepted; ends = refl })

          pair : FirstRace (steps_of schedule) s j k
          pair = subst (FirstRace (steps_of schedule) s j) (sym (e.1 ∙ ap second_of_race ends)) (subst (λ (n : ℕ). FirstRace (steps_of schedule) s n (second_of_race s)) (sym (e.0 ∙ ap first_of_race ends)) race)

-- at most one pair with a code
pair_unique : (n : ℕ) (ts : List Step) (s : State) (j j' k k' : ℕ) → PairOf n ts s j k → PairOf n ts s j' k' → (j ≡ j') × (k ≡ k')
pair_unique zero ts s j j' k k' u v = first_race_unique ts s j k j' k' u v
pair_unique (suc n) ts s j j' k k' u v = (u.0 ∙ sym v.0, u.1 ∙ sym v.1)

-- At most one answer is right.
pub race_unique : (block schedule : List ℕ) (r r' j j' k k' n n' i i' at at' : ℕ) → RacedAs block schedule r j k n i at → RacedAs block schedule r' j' k' n' i' at' → (r ≡ r') × (j ≡ j') × (k ≡ k') × (n ≡ n') × (i ≡ i') × (at ≡ at')
race_unique block schedule r r' j j' k k' n n' i i' at at' u v =
    let code = u.code ∙ sym v.code in
    let ts = steps_of schedule in
    let pair = pair_unique r' ts (reached block schedule) j j' k k' (subst (λ (x : ℕ). PairOf x ts (reached block schedule) j k) code u.pair) v.pair in
    (code, pair.0, pair.1, u.steps ∙ sym v.steps, u.place ∙ sym v.place, u.position ∙ sym v.position)
