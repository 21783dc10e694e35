-- A schedule, four bytes at a time. Assumes nothing.
use mathlib.Core.Path.{◌≡◌, refl, sym, ◌∙◌, ap}
use mathlib.Core.List.{List, [], ◌∷◌}
use Prim.Native.Nat.{ℕ, zero, suc, ◌+◌, ◌*◌, ◌≤◌, ◌<◌}
use native.Mathlib.Nat.{zero-add, add-zero}
use native.Mathlib.Omega.{arith}
use lib.ListN.{length, get_or, drop}
use lib.Seq.{drop-cons, drop-length}
use Rattle.cases.specs.declared.Case.{Case}
use Rattle.runs.specs.Replay.{Replay, resumed, replay}
use Rattle.rules.specs.State.{State, initial}
use Rattle.rules.specs.Step.{Step, neither, step_of, steps_of, step_code, step_place, replay_place, after}
use Rattle.rules.specs.Womm.{womm}
use Rattle.rules.proofs.Named.{place_neither}
use Rattle.machine.specs.declared.Machine.{Machine}
use Rattle.machine.specs.Shown.{shown}
use Rattle.machine.specs.Valid.{Valid}
use Rattle.machine.specs.Given.{Showing}
use Rattle.stepping.specs.Coded.{Placing}
use Rattle.stepping.proofs.Places.{placing}
use Rattle.replaying.specs.Inner.{IsWalk}

-- a replay with k steps before it
abbrev pub later : ℕ → Replay State → Replay State
later k r = record { code = r.code; taken = k + r.taken; state = r.state }

go_on : (c : Case) (s : State) (t : Step) (ts : List Step) → step_code c s t ≡ 0 → replay (womm c) s (t ∷ ts) ≡ later 1 (replay (womm c) (after c s t) ts)
unfolding replay
go_on c s t ts h =
    let r = replay (womm c) (after c s t) ts in
    let q : suc r.taken ≡ 1 + r.taken = omega arith in
    rw h (λ j. record { code = r.code; taken = q j; state = r.state })

stop : (c : Case) (s : State) (t : Step) (ts : List Step) → (step_code c s t ≡ 0 → ⊥) → replay (womm c) s (t ∷ ts) ≡ record { code = step_code c s t; taken = 0; state = s }
unfolding replay
stop c s t ts h = ended (step_code c s t) h
  where
    ended : (n : ℕ) → (n ≡ 0 → ⊥) → resumed n s (replay (womm c) (after c s t) ts) ≡ record { code = n; taken = 0; state = s }
    ended zero z = absurd (z refl)
    ended (suc n) z = refl

module _ (sch : List ℕ) where
  -- the step at 4k
  abbrev pub step_at : ℕ → Step
  step_at k = step_of (get_or sch (4 * k) 0) (get_or sch (4 * k + 1) 0) (get_or sch (4 * k + 2) 0) (get_or sch (4 * k + 3) 0)

  drop_next : (i j : ℕ) → i < length sch → suc i ≡ j → drop i sch ≡ get_or sch i 0 ∷ drop j sch
  drop_next i j h e = drop-cons sch i 0 h ∙ ap (λ (n : ℕ). get_or sch i 0 ∷ drop n sch) e

  four : (k : ℕ) → 4 * k + 4 ≤ length sch → drop (4 * k) sch ≡ get_or sch (4 * k) 0 ∷ get_or sch (4 * k + 1) 0 ∷ get_or sch (4 * k + 2) 0 ∷ get_or sch (4 * k + 3) 0 ∷ drop (4 * (k + 1)) sch
  four k h =
      drop_next (4 * k) (4 * k + 1) (omega arith) (omega arith)
      ∙ ap (λ (l : List ℕ). get_or sch (4 * k) 0 ∷ l) (drop_next (4 * k + 1) (4 * k + 2) (omega arith) (omega arith))
      ∙ ap (λ (l : List ℕ). get_or sch (4 * k) 0 ∷ get_or sch (4 * k + 1) 0 ∷ l) (drop_next (4 * k + 2) (4 * k + 3) (omega arith) (omega arith))
      ∙ ap (λ (l : List ℕ). get_or sch (4 * k) 0 ∷ get_or sch (4 * k + 1) 0 ∷ get_or sch (4 * k + 2) 0 ∷ l) (drop_next (4 * k + 3) (4 * (k + 1)) (omega arith) (omega arith))

  steps_next : (k : ℕ) → 4 * k + 4 ≤ length sch → steps_of (drop (4 * k) sch) ≡ step_at k ∷ steps_of (drop (4 * (k + 1)) sch)
  steps_next k h = ap steps_of (four k h)

  steps_end : (k : ℕ) → 4 * k ≡ length sch → steps_of (drop (4 * k) sch) ≡ []
  steps_end k h = ap steps_of (ap (λ (n : ℕ). drop n sch) h ∙ drop-length sch)

  -- the step at j from 4k on is step k + j of the schedule
  step_later : (k j : ℕ) → 4 * k ≤ length sch → get_or (steps_of sch) (k + j) neither ≡ get_or (steps_of (drop (4 * k) sch)) j neither
  step_later zero j h = let q : 0 + j ≡ j = zero-add j in ap (λ (n : ℕ). get_or (steps_of sch) n neither) q
  step_later (suc k) j h =
      let q : suc k + j ≡ k + suc j = omega arith in
      let n : 4 * (k + 1) ≡ 4 * suc k = omega arith in
      ap (λ (i : ℕ). get_or (steps_of sch) i neither) q
      ∙ step_later k (suc j) (omega arith)
      ∙ ap (λ (l : List Step). get_or l (suc j) neither) (steps_next k (omega arith))
      ∙ ap (λ (i : ℕ). get_or (steps_of (drop i sch)) j neither) n

  module _ (c : Case) where
    -- the place of the step at 4k can be asked for once it has its code
    pub step_placing : (k : ℕ) (m : Machine) → Valid c m → (code : ℕ) → code ≡ step_code c (shown c m) (step_at k) → Placing (get_or sch (4 * k) 0) (get_or sch (4 * k + 1) 0) (get_or sch (4 * k + 2) 0) code
    step_placing k m v code is = placing c m v (get_or sch (4 * k) 0) (get_or sch (4 * k + 1) 0) (get_or sch (4 * k + 2) 0) (get_or sch (4 * k + 3) 0) code is

    abbrev whole : Replay State
    whole = replay (womm c) (initial c) (steps_of sch)

    -- k steps are taken, and m shows the state then
    abbrev pub Reached : ℕ → Machine → Type 0
    Reached k m = whole ≡ later k (replay (womm c) (shown c m) (steps_of (drop (4 * k) sch)))

    pub reached_start : (m : Machine) → shown c m ≡ initial c → Reached 0 m
    reached_start m h =
        let r = whole in
        let q : r.taken ≡ 0 + r.taken = sym (zero-add r.taken) in
        (λ j. record { code = r.code; taken = q j; state = r.state }) ∙ ap (λ (s : State). later 0 (replay (womm c) s (steps_of sch))) (sym h)

    module _ (k : ℕ) (m : Machine) (inside : 4 * k + 4 ≤ length sch) (at : Reached k m) where
      pub reached_next : (r : Machine) → step_code c (shown c m) (step_at k) ≡ 0 → Showing c (after c (shown c m) (step_at k)) r → Reached (k + 1) r
      reached_next r z u =
          let t = step_at k in
          let ts = steps_of (drop (4 * (k + 1)) sch) in
          let w = replay (womm c) (after c (shown c m) t) ts in
          let q : k + (1 + w.taken) ≡ k + 1 + w.taken = omega arith in
          at
          ∙ ap (λ (l : List Step). later k (replay (womm c) (shown c m) l)) (steps_next k inside)
          ∙ ap (later k) (go_on c (shown c m) t ts z)
          ∙ (λ j. record { code = w.code; taken = q j; state = w.state })
          ∙ ap (λ (s : State). later (k + 1) (replay (womm c) s ts)) (sym u.shows)

      pub reached_stop : (code place : ℕ) → Valid c m → code ≡ step_code c (shown c m) (step_at k) → place ≡ step_place c (shown c m) (step_at k) → (code ≡ 0 → ⊥) → IsWalk c (steps_of sch) (record { code = code; steps = k; place = place; machine = m })
      reached_stop code place v hc hp z =
          let t = step_at k in
          let ts = steps_of (drop (4 * (k + 1)) sch) in
          let e : whole ≡ later k (record { code = step_code c (shown c m) t; taken = 0; state = shown c m }) =
          at ∙ ap (λ (l : List Step). later k (replay (womm c) (shown c m) l)) (steps_next k inside) ∙ ap (later k) (stop c (shown c m) t ts (λ q. z (hc ∙ q))) in
          record {
            code = hc ∙ sym (ap (λ (x : Replay State). x.code) e);
            steps = sym (ap (λ (x : Replay State). x.taken) e ∙ add-zero k);
            place =
                hp
                ∙ ap (step_place c (shown c m)) (sym (step_later k 0 (omega arith) ∙ ap (λ (l : List Step). get_or l 0 neither) (steps_next k inside)))
                ∙ sym (ap (replay_place c (steps_of sch)) e);
            shows = sym (ap (λ (x : Replay State). x.state) e);
            valid = v;
          }

    pub reached_end : (k : ℕ) (m : Machine) → 4 * k ≡ length sch → Valid c m → Reached k m → IsWalk c (steps_of sch) (record { code = 0; steps = k; place = 255; machine = m })
    unfolding replay
    reached_end k m h v at =
        let e : whole ≡ later k (replay (womm c) (shown c m) []) = at ∙ ap (λ (l : List Step). later k (replay (womm c) (shown c m) l)) (steps_end k h) in
        record {
          code = sym (ap (λ (x : Replay State). x.code) e);
          steps = sym (ap (λ (x : Replay State). x.taken) e ∙ add-zero k);
          place =
              sym
              (ap (replay_place c (steps_of sch)) e
              ∙ ap (step_place c (shown c m)) (step_later k 0 (omega arith) ∙ ap (λ (l : List Step). get_or l 0 neither) (steps_end k h))
              ∙ place_neither c (shown c m));
          shows = sym (ap (λ (x : Replay State). x.state) e);
          valid = v;
        }
