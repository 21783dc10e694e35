-- A search at its ends and in its loop: what each makes of the buffer and the tally. Assumes nothing.
use mathlib.Core.Path.{◌≡◌, refl, sym, ◌∙◌, ap, subst}
use mathlib.Core.Logic.{◌⊎◌, inl, inr, ⊎_elim, ◌↔◌}
use mathlib.Core.Bool.{Bool, true, false, ◌&&◌, not, cond, true≢false, false≢true}
use mathlib.Core.List.{List}
use Prim.Native.Nat.{ℕ, suc, ◌+◌, ◌*◌, ◌-◌, ◌/◌, ◌%◌, ◌^◌, ◌≤◌, ◌<◌}
use native.Mathlib.Omega.{arith}
use native.Mathlib.Decide.{dec_lt}
use lib.Dec.{ltb}
use lib.Bits.{bit_or}
use lib.ListN.{length}
use borrow.Author.Tests.{eqb-true, ltb-true, lt-ltb, le-ltb, leb-false}
use Rattle.words.specs.Sets.{has}
use Rattle.words.proofs.Sets.{has_or, has_one}
use Rattle.words.proofs.Bools.{and_both, or_cases, cond-true, cond-false}
use Rattle.cases.specs.declared.Case.{Case}
use Rattle.records.specs.Buffer.{Held}
use Rattle.records.specs.Growth.{Joined, Grown}
use Rattle.records.specs.Insertion.{Insertion}
use Rattle.records.proofs.Growth.{in_second, filled_none, filled_of, filled_then}
use Rattle.machine.specs.Fit.{Fit}
use Rattle.boards.specs.declared.Buffering.{Buffering}
use Rattle.boards.specs.Board.{Board}
use Rattle.boards.specs.Machine.{Move, run, drain, allowed, moved, ended, registers}
use Rattle.boards.specs.Listing.{counted, OutcomeFrom}
use Rattle.boards.specs.Question.{Question, outcome, cut, Yes}
use Rattle.boards.proofs.Accepted.{can_run, can_drain}
use Rattle.boards.proofs.Answers.{left, counted-left, left_only, end_yes, end_only, stop_yes, stop_only, move_yes, first_move}
use Rattle.boards.proofs.Sure.{sure-alone}
use Rattle.boardlisting.specs.declared.Tally.{Tally}
use Rattle.boardlisting.specs.Moves.{move_at, left_by, open_at, SureAt, first_position, last_position}
use Rattle.boardlisting.specs.Spent.{Known}
use Rattle.boardlisting.specs.Searched.{Holds, Tells, Searched}

module _ (k : Buffering) (c : Case) (b : Board) where
  -- every place counter at its count
  pub searched_end : (n : ℕ) → ended c b ≡ true → {before : List ℕ} {y : Tally} {bytes : List ℕ} {m : ℕ} {full : Bool} (r : List ℕ) → r ≡ registers c b
      → Insertion r before y.count bytes m full → Searched k c b n before y bytes (record { count = m; cut = y.cut; full = full })
  searched_end n h {before} {y} {bytes} {m} {full} r e put =
      record {
        filled = filled_of (λ q. in_second (λ z. subst (OutcomeFrom k c b n) (sym (z ∙ e)) (end_yes k c b h n))) g.filled;
        told = told;
      }
    where
      g : Grown (λ x. x ≡ r) before y.count bytes m full
      g = put.grown

      record_of : Question → List ℕ
      record_of (outcome q) = q
      record_of cut = r

      told : full ≡ false → (q : Question) → Holds bytes m y.cut q ↔ (Tells before y q ⊎ Yes k c b n q)
      told z (outcome q) = (λ w. in_second (λ d. subst (OutcomeFrom k c b n) (sym (d ∙ e)) (end_yes k c b h n)) ((g.members z q).0 w), λ w. (g.members z q).1 (in_second (λ o. same q (end_only k c b h n (outcome q) o)) w))
        where
          same : (q : List ℕ) → outcome q ≡ outcome (registers c b) → q ≡ r
          same q d = ap first d ∙ sym e
            where
              first : Question → List ℕ
              first (outcome q) = q
              first cut = r
      told z cut = (inl, ⊎_elim (λ w. w) (λ o. absurd (no_cut (end_only k c b h n cut o))))
        where
          no_cut : cut ≡ outcome (registers c b) → ⊥
          no_cut d = false≢true (ap marks d)
            where
              marks : Question → Bool
              marks (outcome q) = true
              marks cut = false

  -- no instruction to go
  pub searched_stop : (n : ℕ) → n ≡ 0 → ended c b ≡ false → {before : List ℕ} {y : Tally} → Held before y.count → Searched k c b n before y before (record { count = y.count; cut = true; full = false })
  searched_stop n z h {before} {y} held =
      record { filled = filled_none refl held; told = λ _ q. subst (λ (m : ℕ). Holds before y.count true q ↔ (Tells before y q ⊎ Yes k c b m q)) (sym z) (told q) }
    where
      told : (q : Question) → Holds before y.count true q ↔ (Tells before y q ⊎ Yes k c b 0 q)
      told (outcome r) = (inl, ⊎_elim (λ w. w) (λ o. absurd (no (stop_only k c b h (outcome r) o))))
        where
          no : outcome r ≡ cut → ⊥
          no d = false≢true (ap marks d)
            where
              marks : Question → Bool
              marks (outcome q) = false
              marks cut = true
      told cut = (λ _. inr (stop_yes k c b h), λ _. refl)

-- positions

pub left_at : (k : Buffering) (c : Case) (i n : ℕ) → left_by i (suc n) ≡ left k c (move_at i) n
left_at k c i n = step (ltb i 4)
  where
    step : (x : Bool) → cond x (suc n - 1) (suc n) ≡ left k c (cond x (run i) (drain ((i - 4) / 8) ((i - 4) % 8))) n
    step true = omega arith
    step false = refl

pub open_allowed : (k : Buffering) (c : Case) (b : Board) (done i : ℕ) → open_at k c b done i ≡ true → allowed k c b (move_at i) ≡ true
open_allowed k c b done i h = (and_both (not (has done i)) (allowed k c b (move_at i)) h).1

-- every move of a case that fits has a position
pub record At (m : Move) : Type 0 where
  pub place : ℕ
  pub low : place < 36
  pub is : move_at place ≡ m

pub position : (k : Buffering) (c : Case) (b : Board) → Fit c → (m : Move) → allowed k c b m ≡ true → At m
position k c b F (run p) h =
    let low = leb-false c.procs p (can_run k c b p h).low in
    let few : p < 4 = omega (arith, low, F.procs) in
    record { place = p; low = omega arith; is = cond-true _ _ _ (lt-ltb p 4 few) }
position k c b F (drain p n) h =
    let D = can_drain k c b p n h in
    let hp : p < 4 = omega (arith, D.proc, F.procs) in
    let hn : n < 8 = omega (arith, D.buffer, F.locs) in
    let u : (4 + (8 * p + n) - 4) / 8 ≡ p = omega arith in
    let w : (4 + (8 * p + n) - 4) % 8 ≡ n = omega arith in
    record { place = 4 + (8 * p + n); low = omega arith; is = cond-false _ _ _ (le-ltb (4 + (8 * p + n)) 4 (omega arith)) ∙ (λ j. drain (u j) (w j)) }

module _ (k : Buffering) (c : Case) (b : Board) (n : ℕ) where
  -- told by a move at a position from `from` on, before `at`
  pub record Past (from at : ℕ) (q : Question) : Type 0 where
    pub place : ℕ
    pub late : from ≤ place
    pub soon : place < at
    pub taken : allowed k c b (move_at place) ≡ true
    pub yes : Yes k c (moved k c b (move_at place)) (left k c (move_at place) n) q

  past_yes : {from at : ℕ} (q : Question) → Past from at q → Yes k c b (suc n) q
  past_yes q P = move_yes k c b (move_at P.place) n P.taken q P.yes

  -- THE INVARIANT of the loop, before position `at` is looked at
  pub record Sweeping (before : List ℕ) (y : Tally) (from at done : ℕ) (bytes : List ℕ) (sum : Tally) : Type 0 where
    pub room : sum.full ≡ false
    pub held : Held bytes sum.count
    pub size : length bytes ≡ length before
    pub late : from ≤ at
    pub told : (q : Question) → Tells bytes sum q ↔ (Tells before y q ⊎ Past from at q)
    pub known : Known k c b (suc n) done (Tells bytes sum)

  module _ {before : List ℕ} {y : Tally} (from : ℕ) where
    module _ {at done : ℕ} {bytes : List ℕ} {sum : Tally} (S : Sweeping before y from at done bytes sum) where
      wider : (q : Question) → Past from at q → Past from (at + 1) q
      wider q P = record { place = P.place; late = P.late; soon = omega (arith, P.soon); taken = P.taken; yes = P.yes }

      -- the move at this position, where it leads to q, is told already, or is another
      sooner : (q : Question) → Past from (at + 1) q → Past from at q ⊎ ((allowed k c b (move_at at) ≡ true) × Yes k c (moved k c b (move_at at)) (left k c (move_at at) n) q)
      sooner q P =
          elim (dec_lt P.place at) [
            | yes l ↦ inl (record { place = P.place; late = P.late; soon = l; taken = P.taken; yes = P.yes })
            | no l ↦
                let e : P.place ≡ at = omega (arith, P.soon) in
                inr (ap (λ (i : ℕ). allowed k c b (move_at i)) (sym e) ∙ P.taken, subst (λ (i : ℕ). Yes k c (moved k c b (move_at i)) (left k c (move_at i) n) q) e P.yes)
          ]

      -- the move at this position is not open: it is spent, or not allowed
      pub sweep_skip : open_at k c b done at ≡ false → Sweeping before y from (at + 1) done bytes sum
      sweep_skip h =
          record {
            room = S.room;
            held = S.held;
            size = S.size;
            late = omega (arith, S.late);
            told = λ q. (λ w. in_second (wider q) ((S.told q).0 w), λ w. ⊎_elim (λ t. (S.told q).1 (inl t)) (λ P. ⊎_elim (λ t. (S.told q).1 (inr t)) (λ t. spent q t.0 t.1) (sooner q P)) w);
            known = S.known;
          }
        where
          spent : (q : Question) → allowed k c b (move_at at) ≡ true → Yes k c (moved k c b (move_at at)) (left k c (move_at at) n) q → Tells bytes sum q
          spent q a y = S.known.told at (closed (has done at) (allowed k c b (move_at at)) a h) (left k c (move_at at) n) (sym (counted-left k c (move_at at) n)) q y
            where
              closed : (x z : Bool) → z ≡ true → (not x && z) ≡ false → x ≡ true
              closed true z e g = refl
              closed false z e g = absurd (false≢true (sym g ∙ e))

      module _ (h : open_at k c b done at ≡ true) {bytes' : List ℕ} {sum' : Tally} (W : Searched k c (moved k c b (move_at at)) (left k c (move_at at) n) bytes sum bytes' sum') where
        allows : allowed k c b (move_at at) ≡ true
        allows = open_allowed k c b done at h

        -- its branch, with room: from now on it is done
        pub sweep_turn : sum'.full ≡ false → Sweeping before y from (at + 1) (bit_or done (2 ^ at)) bytes' sum'
        sweep_turn room =
            record {
              room = room;
              held = W.filled.held room;
              size = W.filled.size ∙ S.size;
              late = omega (arith, S.late);
              told = λ q. (λ w. ⊎_elim (λ t. in_second (wider q) ((S.told q).0 t)) (λ t. inr (here q t)) ((W.told room q).0 w), λ w. ⊎_elim (λ t. still q ((S.told q).1 (inl t))) (λ P. ⊎_elim (λ t. still q ((S.told q).1 (inr t))) (λ t. (W.told room q).1 (inr t.1)) (sooner q P)) w);
              known = record { taken = λ i e. by_taken i (which i e); told = λ i e r l q y. by_told i (which i e) r l q y };
            }
          where
            here : (q : Question) → Yes k c (moved k c b (move_at at)) (left k c (move_at at) n) q → Past from (at + 1) q
            here q t = record { place = at; late = S.late; soon = omega arith; taken = allows; yes = t }

            still : (q : Question) → Tells bytes sum q → Tells bytes' sum' q
            still q t = (W.told room q).1 (inl t)

            which : (i : ℕ) → has (bit_or done (2 ^ at)) i ≡ true → (has done i ≡ true) ⊎ (at ≡ i)
            which i e = ⊎_elim inl (λ g. inr (sym (eqb-true i at (sym (has_one at i) ∙ g)))) (or_cases (has done i) (has (2 ^ at) i) (sym (has_or done (2 ^ at) i) ∙ e))

            by_taken : (i : ℕ) → (has done i ≡ true) ⊎ (at ≡ i) → allowed k c b (move_at i) ≡ true
            by_taken i (inl e) = S.known.taken i e
            by_taken i (inr e) = subst (λ (j : ℕ). allowed k c b (move_at j) ≡ true) e allows

            by_told : (i : ℕ) → (has done i ≡ true) ⊎ (at ≡ i) → (r : ℕ) → suc n ≡ counted (move_at i) r → (q : Question) → Yes k c (moved k c b (move_at i)) r q → Tells bytes' sum' q
            by_told i (inl e) r l q y = still q (S.known.told i e r l q y)
            by_told i (inr e) r l q y = (W.told room q).1 (inr (subst (λ (x : Type 0). x) (λ t. Yes k c (moved k c b (move_at (sym e t))) (meet t) q) y))
              where
                meet : r ≡ left k c (move_at at) n
                meet = left_only k c (move_at at) n r (l ∙ ap (λ (j : ℕ). counted (move_at j) r) (sym e))

        -- and without
        pub sweep_full : sum'.full ≡ true → Searched k c b (suc n) before y bytes' sum'
        sweep_full full =
            record {
              filled = filled_then S.size (filled_of lacks W.filled);
              told = λ e. absurd (true≢false (sym full ∙ e));
            }
          where
            lacks : (r : List ℕ) → Joined bytes sum.count (OutcomeFrom k c (moved k c b (move_at at)) (left k c (move_at at) n)) r → Joined before y.count (OutcomeFrom k c b (suc n)) r
            lacks r = ⊎_elim (λ t. in_second (past_yes (outcome r)) ((S.told (outcome r)).0 t)) (λ t. inr (move_yes k c b (move_at at) n allows (outcome r) t))

    -- where the positions looked at tell all
    swept : {at done : ℕ} {bytes : List ℕ} {sum : Tally} → Sweeping before y from at done bytes sum → ((q : Question) → Yes k c b (suc n) q → Past from at q) → Searched k c b (suc n) before y bytes sum
    swept S all =
        record {
          filled = record { size = S.size; held = λ _. S.held; lacks = λ e. absurd (true≢false (sym e ∙ S.room)) };
          told = λ _ q. (λ w. in_second (past_yes q) ((S.told q).0 w), λ w. (S.told q).1 (in_second (all q) w));
        }

  module _ {before : List ℕ} {y : Tally} where
    pub sweep_all : Fit c → ended c b ≡ false → (j : ℕ) → SureAt k c b j → {at done : ℕ} {bytes : List ℕ} {sum : Tally} → Sweeping before y (first_position j) at done bytes sum → last_position j ≤ at → Searched k c b (suc n) before y bytes sum
    sweep_all F h j sure {at} {done} {bytes} {sum} S end = by (ltb j 4) refl S end
      where
        by : (x : Bool) → ltb j 4 ≡ x → Sweeping before y (cond x j 0) at done bytes sum → cond x (j + 1) 36 ≤ at → Searched k c b (suc n) before y bytes sum
        by true e T l =
            let P = sure.found (ltb-true j 4 e) in
            let is : move_at j ≡ run j = cond-true _ _ _ e in
            swept j T (λ q o. record { place = j; late = omega arith; soon = omega arith; taken = ap (allowed k c b) is ∙ P.can; yes = subst (λ (m : Move). Yes k c (moved k c b m) (left k c m n) q) (sym is) ((sure-alone k c b j P n q).0 o) })
        by false e T l =
            swept 0 T
            (λ q o.
            let F1 = first_move k c b n h q o in
            let A = position k c b F F1.move F1.taken in
            record { place = A.place; late = omega arith; soon = omega (arith, A.low); taken = ap (allowed k c b) A.is ∙ F1.taken; yes = subst (λ (m : Move). Yes k c (moved k c b m) (left k c m n) q) (sym A.is) F1.rest })

pub moved_run : (k : Buffering) (c : Case) (b : Board) (p : ℕ) → Rattle.boards.specs.Run.ran k c b p ≡ moved k c b (run p)
unfolding moved
moved_run k c b p = refl
