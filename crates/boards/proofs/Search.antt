-- A search that takes a quiet instruction alone and stops at the end: it finds every outcome and the cut, and nothing besides. Assumes nothing.
use mathlib.Core.Path.{◌≡◌, refl, sym, ap, subst}
use mathlib.Core.Logic.{◌⊎◌, ⊎_elim, ◌↔◌}
use mathlib.Core.Bool.{Bool, true, false, cond, ◌&&◌, false≢true}
use mathlib.Core.List.Memᴰ
use mathlib.Core.List.{List, [], ◌∷◌, Memᴰ}
use mathlib.Core.Option.{Option, none, some}
use Prim.Native.Nat.{ℕ, zero, suc, ◌+◌, ◌*◌, ◌≤◌}
use native.Mathlib.Omega.{arith}
use Rattle.words.specs.Small.{is_none, or_zero, concat_map}
use Rattle.words.proofs.Bools.{and_both}
use Rattle.cases.specs.declared.Case.{Case}
use Rattle.runs.specs.Listing.{Listed}
use Rattle.runs.proofs.Search.{concat_map_make, concat_map_cases}
use Rattle.runs.proofs.Exists.{list_exists}
use Rattle.boards.specs.declared.Buffering.{Buffering}
use Rattle.boards.specs.Board.{Board, opening}
use Rattle.boards.specs.Machine.{Move, run, drain, allowed, moved, ended, registers}
use Rattle.boards.specs.Listing.{Outcome, Cut, IsBoardList}
use Rattle.boards.specs.Quiet.{quiet, Sure}
use Rattle.boards.specs.Question.{Question, outcome, cut, Yes}
use Rattle.boards.specs.Waiting.{held}
use Rattle.boards.proofs.Accepted.{can_run}
use Rattle.boards.proofs.Waiting.{held-run, held_drain, moves, moves_all, empty}
use Rattle.boards.proofs.Answers.{left, end_yes, end_only, stop_yes, stop_only, move_yes, First, first_move}
use Rattle.boards.proofs.Sure.{sure-alone}

module _ (k : Buffering) (c : Case) where
  -- a move leaves less to do
  pub less : (b : Board) (m : Move) (f n : ℕ) → allowed k c b m ≡ true → 2 * suc n + held c b.buffers ≤ suc f → 2 * left k c m n + held c (moved k c b m).buffers ≤ f
  unfolding moved
  less b (run p) f n h l = omega (arith, held-run k c b p (can_run k c b p h))
  less b (drain p m) f n h l = omega (arith, held_drain k c b p m h)

  -- the highest processor below n with a quiet instruction to run
  unfoldable pub pick : Board → ℕ → Option ℕ
  pick b zero = none
  pick b (suc p) = let r = pick b p in cond (quiet k c b p && allowed k c b (run p)) (some p) r

  pick_sure : (b : Board) (n p : ℕ) → pick b n ≡ some p → Sure k c b p
  unfolding pick
  pick_sure b zero p h = absurd (false≢true (sym (ap is_none h)))
  pick_sure b (suc n) p h = step (pick_sure b n p) (quiet k c b n && allowed k c b (run n)) refl h
    where
      step : (pick b n ≡ some p → Sure k c b p) → (x : Bool) → (quiet k c b n && allowed k c b (run n)) ≡ x → cond x (some n) (pick b n) ≡ some p → Sure k c b p
      step more true e g =
          let v = and_both (quiet k c b n) (allowed k c b (run n)) e in
          subst (Sure k c b) (ap or_zero g) (record { can = v.1; calm = v.0 })
      step more false e g = more g

  abbrev alone : {A : Type 0} → Option ℕ → (ℕ → A) → A → A
  alone (some p) f d = f p
  alone none f d = d

  abbrev kept : {A : Type 0} → Bool → List A → List A
  kept true l = l
  kept false l = []

  -- the questions with answer yes, from b with n instructions to go and f moves at most
  unfoldable pub found : ℕ → ℕ → Board → List Question
  found zero zero b = cond (ended c b) (outcome (registers c b)) cut ∷ []
  found zero (suc n) b = []
  found (suc f) zero b = cond (ended c b) (outcome (registers c b)) cut ∷ []
  found (suc f) (suc n) b =
      let all = concat_map (λ m. let l = found f (left k c m n) (moved k c b m) in kept (allowed k c b m) l) (moves c) in
      let more = alone (pick b c.procs) (λ p. found f n (moved k c b (run p))) all in
      cond (ended c b) (outcome (registers c b) ∷ []) more

  at_end : (b : Board) (n : ℕ) → ended c b ≡ true → (q : Question) → Memᴰ q (outcome (registers c b) ∷ []) ↔ Yes k c b n q
  at_end b n e q = (λ m. subst (Yes k c b n) (sym (Memᴰ.eq_of_singleton m)) (end_yes k c b e n), λ y. Memᴰ.head (end_only k c b e n q y))

  at_stop : (b : Board) (q : Question) → Memᴰ q (cond (ended c b) (outcome (registers c b)) cut ∷ []) ↔ Yes k c b 0 q
  at_stop b q = step (ended c b) refl
    where
      step : (x : Bool) → ended c b ≡ x → Memᴰ q (cond x (outcome (registers c b)) cut ∷ []) ↔ Yes k c b 0 q
      step true e = at_end b 0 e q
      step false e = (λ m. subst (Yes k c b 0) (sym (Memᴰ.eq_of_singleton m)) (stop_yes k c b e), λ y. Memᴰ.head (stop_only k c b e q y))

  pub found_right : (f n : ℕ) (b : Board) → 2 * n + held c b.buffers ≤ f → (q : Question) → Memᴰ q (found f n b) ↔ Yes k c b n q
  unfolding found
  found_right zero zero b l q = at_stop b q
  found_right zero (suc n) b l q = absurd (omega arith)
  found_right (suc f) zero b l q = at_stop b q
  found_right (suc f) (suc n) b l q = by_end (found_right f) (ended c b) refl
    where
      every : Move → List Question
      every m = kept (allowed k c b m) (found f (left k c m n) (moved k c b m))

      by_end : ((n : ℕ) (b : Board) → 2 * n + held c b.buffers ≤ f → (q : Question) → Memᴰ q (found f n b) ↔ Yes k c b n q) → (x : Bool) → ended c b ≡ x
          → Memᴰ q (cond x (outcome (registers c b) ∷ []) (alone (pick b c.procs) (λ p. found f n (moved k c b (run p))) (concat_map every (moves c)))) ↔ Yes k c b (suc n) q
      by_end ih true e = at_end b (suc n) e q
      by_end ih false e = by_pick (pick b c.procs) refl
        where
          sound : (m : Move) (x : Bool) → allowed k c b m ≡ x → Memᴰ q (kept x (found f (left k c m n) (moved k c b m))) → Yes k c b (suc n) q
          sound m true h w = move_yes k c b m n h q ((ih (left k c m n) (moved k c b m) (less b m f n h l) q).0 w)
          sound m false h w = absurd (Memᴰ.not-nil w)

          complete : First k c b n q → Memᴰ q (concat_map every (moves c))
          complete F = concat_map_make every (moves_all k c b F.move F.taken) (rw F.taken ((ih (left k c F.move n) (moved k c b F.move) (less b F.move f n F.taken l) q).1 F.rest))

          by_pick : (o : Option ℕ) → pick b c.procs ≡ o → Memᴰ q (alone o (λ p. found f n (moved k c b (run p))) (concat_map every (moves c))) ↔ Yes k c b (suc n) q
          by_pick (some p) h =
              let S = pick_sure b c.procs p h in
              let t = ih n (moved k c b (run p)) (less b (run p) f n S.can l) q in
              (λ m. (sure-alone k c b p S n q).1 (t.0 m), λ y. t.1 ((sure-alone k c b p S n q).0 y))
          by_pick none h =
              (λ m. let v = concat_map_cases every (moves c) m in sound v.0 (allowed k c b v.0) refl v.2, λ y. complete (first_move k c b n e q y))

-- the outcomes, and whether the cut is there
abbrev pub outcomes_in : List Question → List (List ℕ)
outcomes_in [] = []
outcomes_in (outcome r ∷ qs) = r ∷ outcomes_in qs
outcomes_in (cut ∷ qs) = outcomes_in qs

abbrev pub cut_in : List Question → Bool
cut_in [] = false
cut_in (outcome r ∷ qs) = cut_in qs
cut_in (cut ∷ qs) = true

record_of : Question → List ℕ
record_of (outcome r) = r
record_of cut = []

is_cut : Question → Bool
is_cut (outcome r) = false
is_cut cut = true

outcomes_in_lem : (qs : List Question) (r : List ℕ) → Memᴰ r (outcomes_in qs) → Memᴰ (outcome r) qs
outcomes_in_lem [] r m = absurd (Memᴰ.not-nil m)
outcomes_in_lem (outcome x ∷ qs) r m = ⊎_elim (λ e. Memᴰ.head (ap outcome e)) (λ t. Memᴰ.tail (outcomes_in_lem qs r t)) (Memᴰ.cases_cons m)
outcomes_in_lem (cut ∷ qs) r m = Memᴰ.tail (outcomes_in_lem qs r m)

in_outcomes : (qs : List Question) (r : List ℕ) → Memᴰ (outcome r) qs → Memᴰ r (outcomes_in qs)
unfolding record_of is_cut
in_outcomes [] r m = absurd (Memᴰ.not-nil m)
in_outcomes (outcome x ∷ qs) r m = ⊎_elim (λ e. Memᴰ.head (ap record_of e)) (λ t. Memᴰ.tail (in_outcomes qs r t)) (Memᴰ.cases_cons m)
in_outcomes (cut ∷ qs) r m = ⊎_elim (λ e. absurd (false≢true (ap is_cut e))) (λ t. in_outcomes qs r t) (Memᴰ.cases_cons m)

cut_in_lem : (qs : List Question) → cut_in qs ≡ true → Memᴰ cut qs
cut_in_lem [] h = absurd (false≢true h)
cut_in_lem (outcome x ∷ qs) h = Memᴰ.tail (cut_in_lem qs h)
cut_in_lem (cut ∷ qs) h = Memᴰ.head refl

in_cut : (qs : List Question) → Memᴰ cut qs → cut_in qs ≡ true
unfolding is_cut
in_cut [] m = absurd (Memᴰ.not-nil m)
in_cut (outcome x ∷ qs) m = ⊎_elim (λ e. absurd (false≢true (sym (ap is_cut e)))) (λ t. in_cut qs t) (Memᴰ.cases_cons m)
in_cut (cut ∷ qs) m = refl

module _ (k : Buffering) (c : Case) (n : ℕ) where
  -- all that is found from the start
  abbrev pub whole : List Question
  whole = found k c (2 * n) n (opening c)

  whole_right : (q : Question) → Memᴰ q whole ↔ Yes k c (opening c) n q
  whole_right = found_right k c (2 * n) n (opening c) (omega (arith, empty k c))

  pub outcomes_found : (r : List ℕ) → Memᴰ r (outcomes_in whole) ↔ Outcome k c n r
  outcomes_found r = (λ m. (whole_right (outcome r)).0 (outcomes_in_lem whole r m), λ o. in_outcomes whole r ((whole_right (outcome r)).1 o))

  pub cut_found : (cut_in whole ≡ true) ↔ Cut k c n
  cut_found = (λ h. (whole_right cut).0 (cut_in_lem whole h), λ o. in_cut whole ((whole_right cut).1 o))

  -- EVERY BOUND AND BUFFER HAS AN ANSWER
  pub board_exists : (size : ℕ) → (a : Listed) × (out : List ℕ) × IsBoardList k c n size a out
  board_exists size = let x = list_exists (Outcome k c n) (Cut k c n) size (outcomes_in whole) (cut_in whole) outcomes_found cut_found in (x.answer, x.out, x.right)
