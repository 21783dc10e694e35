-- The loop of a search over the open positions: its start, a turn, its end, and where there was no room. Assumes nothing.
use mathlib.Core.Path.{◌≡◌, refl, sym, ◌∙◌, subst}
use mathlib.Core.Logic.{inr}
use mathlib.Core.Bool.{true, false, true≢false}
use mathlib.Core.List.{List}
use Prim.Native.Nat.{ℕ, suc, ◌+◌, ◌*◌, ◌≤◌, ◌<◌}
use native.Mathlib.Omega.{arith}
use native.Mathlib.Decide.{dec_lt}
use lib.ListN.{length}
use Rattle.words.proofs.Bools.{and_both}
use Rattle.cases.specs.declared.Case.{Case}
use Rattle.runs.specs.Wanted.{Wish}
use Rattle.rules.specs.Kinds.{reading}
use Rattle.rules.specs.State.{State, kind_of}
use Rattle.rules.specs.Step.{step_code, after}
use Rattle.rules.specs.Result.{finished}
use Rattle.sure.specs.Quiet.{quiet}
use Rattle.sure.specs.Spent.{Spent, Key, taking, step_by, Rested}
use Rattle.sure.specs.Sure.{Sized}
use Rattle.sure.specs.Marked.{Alone}
use Rattle.sure.specs.Equal.{Needless}
use Rattle.sure.specs.Told.{outcome, Told}
use Rattle.sure.proofs.Equal.{needless_spent, needless_more}
use Rattle.sure.proofs.Known.{Known}
use Rattle.sure.proofs.Marked.{told-alone}
use Rattle.sure.proofs.Commit.{the, can_take}
use Rattle.sure.proofs.Held.{acquire_only}
use Rattle.sure.proofs.Sweep.{Sweep, sweep_start, sweep_branch, tested_branch, sweep_turn, sweep_lacks, told_rest, told-quiet, tested_needless, source_there}
use Rattle.records.specs.Buffer.{Held}
use Rattle.records.proofs.Growth.{filled_of, filled_then}
use Rattle.spending.specs.Words.{key_in, opens, spent_by, key_at, opens_at}
use Rattle.spending.specs.Spending.{Noted, RestedBy}
use Rattle.choices.specs.Choice.{NextAt}
use Rattle.searching.specs.declared.Tally.{Tally}
use Rattle.searching.specs.Searched.{Tells, Searched}
use Rattle.searching.proofs.Opened.{NoSure, opens-restful, key_read, read_open, other_open, issue_open, at_position}

-- THE INVARIANT of the loop, before position `at` is looked at
pub record Sweeping (c : Case) (W : Wish) (sp : Spent) (s : State) (n : ℕ) (before : List ℕ) (y : Tally) (from to at : ℕ) (now : List ℕ) (bytes : List ℕ) (sum : Tally) : Type 0 where
  pub long : length now ≡ 50
  pub room : sum.full ≡ false
  pub held : Held bytes sum.count
  pub size : length bytes ≡ length before
  pub above : from ≤ at
  pub more : (a : Key) → sp a ≡ true → spent_by now a ≡ true
  pub sweep : Sweep c W sp s n (spent_by now) (Tells before y) (Tells bytes sum)
  pub past : (i : ℕ) → from ≤ i → i < at → i < to → opens_at c s i ≡ true → Needless c s (spent_by now) (key_at i)

module _ (c : Case) (W : Wish) (Z : Sized c) (s : State) (sp : Spent) (K : Known c s) (n : ℕ) {before : List ℕ} {y : Tally} (from to : ℕ) where
  pub sweeping_start : (now : List ℕ) → sp ≡ spent_by now → length now ≡ 50 → y.full ≡ false → Held before y.count → Rested c s sp → Sweeping c W sp s n before y from to from now before y
  sweeping_start now e long room held R =
      record {
        long = long;
        room = room;
        held = held;
        size = refl;
        above = omega arith;
        more = λ a h. subst (λ (now : Spent). now a ≡ true) e h;
        sweep = subst (λ (now : Spent). Sweep c W sp s n now (Tells before y) (Tells before y)) e (sweep_start c W Z s sp K n R);
        past = λ i a b. absurd (omega arith);
      }

  module _ {at : ℕ} {now bytes : List ℕ} {sum : Tally} (S : Sweeping c W sp s n before y from to at now bytes sum) where
    -- no open position is left
    pub sweeping_skip : (j : ℕ) → NextAt c s now at to j → (j < to → ⊥) → Sweeping c W sp s n before y from to (j + 1) now bytes sum
    sweeping_skip j next last =
        record {
          long = S.long;
          room = S.room;
          held = S.held;
          size = S.size;
          above = omega (arith, S.above, next.from);
          more = S.more;
          sweep = S.sweep;
          past = past;
        }
      where
        past : (i : ℕ) → from ≤ i → i < j + 1 → i < to → opens_at c s i ≡ true → Needless c s (spent_by now) (key_at i)
        past i a b l o =
            elim (dec_lt i at) [
              | yes h ↦ S.past i a h l o
              | no h ↦ next.skipped i (omega arith) (omega (arith, next.upto, last)) o
            ]

    -- the branch of the step at position j
    module _ (j : ℕ) (taken : step_code c s (step_by s (key_at j)) ≡ 0) {calm : List ℕ} (rest : RestedBy s (step_by s (key_at j)) now calm) {bytes' : List ℕ} {sum' : Tally} (D : Searched c W (spent_by calm) (after c s (step_by s (key_at j))) n bytes sum bytes' sum') where
      -- there was room, and it is spent from then on
      pub sweeping_turn : NextAt c s now at to j → j < to → sum'.full ≡ false → NoSure c s → {more : List ℕ} → Noted now j more → Sweeping c W sp s n before y from to (j + 1) more bytes' sum'
      sweeping_turn next l room none {more} noted =
          record {
            long = noted.long;
            room = room;
            held = D.filled.held room;
            size = D.filled.size ∙ S.size;
            above = omega (arith, S.above, next.from);
            more = λ a h. noted.kept a (S.more a h);
            sweep = sweep_turn c W Z s sp K n S.sweep (key_at j) taken (opens-restful c s none _ _ (next.found l).0) (spent_by calm) rest.calm (D.told room) (spent_by more) noted.only;
            past = past;
          }
        where
          at_j : (i : ℕ) → i ≡ j → Needless c s (spent_by more) (key_at i)
          at_j i e = subst (λ (i : ℕ). Needless c s (spent_by more) (key_at i)) (sym e) (needless_spent c s (spent_by more) (key_at j) noted.new)

          past : (i : ℕ) → from ≤ i → i < j + 1 → i < to → opens_at c s i ≡ true → Needless c s (spent_by more) (key_at i)
          past i a b k o =
              elim (dec_lt i at) [
                | yes h ↦ needless_more c s noted.kept (key_at i) (S.past i a h k o)
                | no h ↦
                    elim (dec_lt i j) [
                      | yes g ↦ needless_more c s noted.kept (key_at i) (next.skipped i (omega arith) g o)
                      | no g ↦ at_j i (omega arith)
                    ]
              ]

      -- there was none
      pub sweeping_full : sum'.full ≡ true → Searched c W sp s (suc n) before y bytes' sum'
      sweeping_full full =
          record {
            filled = filled_then S.size (filled_of (λ r. sweep_lacks c W Z s sp K n S.sweep (step_by s (key_at j)) taken (outcome r)) D.filled);
            told = λ e. absurd (true≢false (sym full ∙ e));
          }

      -- the step is sure: its branch is enough
      pub sweeping_sure : Alone c y.cut (suc n) s (step_by s (key_at j)) → sum'.full ≡ false → Searched c W sp s (suc n) before y bytes' sum'
      sweeping_sure p room =
          record {
            filled = record { size = D.filled.size ∙ S.size; held = D.filled.held; lacks = λ e. absurd (true≢false (sym e ∙ room)) };
            told = λ _.
                told-alone c W Z s sp K n (sweep_branch c W Z s sp K n S.sweep (step_by s (key_at j)) taken (spent_by calm) rest.calm (D.told room)) y.cut (λ m. m) (step_by s (key_at j)) taken p
                (tested_branch c W Z s sp K n S.sweep (step_by s (key_at j)) taken (spent_by calm) rest.calm (D.told room));
          }

    searched_told : Told c W sp s (suc n) (Tells before y) (Tells bytes sum) → Searched c W sp s (suc n) before y bytes sum
    searched_told T = record { filled = record { size = S.size; held = λ _. S.held; lacks = λ e. absurd (true≢false (sym e ∙ S.room)) }; told = λ _. T }

    -- a sure step that is spent: nothing is left to find
    pub searched_spent : (j : ℕ) → step_code c s (step_by s (key_at j)) ≡ 0 → Alone c y.cut (suc n) s (step_by s (key_at j)) → sp (key_at j) ≡ true → Searched c W sp s (suc n) before y bytes sum
    searched_spent j h p e = searched_told (told-alone c W Z s sp K n S.sweep y.cut (λ m. m) (step_by s (key_at j)) h p (S.sweep.covered (key_at j) (S.more (key_at j) e) h))

    -- what the whole sweep tells
    module _ (past_end : to ≤ at) (few : s.count ≤ 48) where
      spent_at : (w e : ℕ) → e < 64 → from ≤ 64 * w + e → 64 * w + e < to → opens c s w e ≡ true → Needless c s (spent_by now) (key_in w e)
      spent_at w e l a b = at_position w e l c s (Needless c s (spent_by now)) (S.past (64 * w + e) a (omega arith) b)

      -- where its sources are swept, each accepted read is spent by now or does what a spent one does
      read_spent : (k e : ℕ) → k < s.count → reading (kind_of (s.actions k)) ≡ true → e < 8 + s.count → from ≤ 64 * k → 64 * k + 64 ≤ to → step_code c s (step_by s (taking k e)) ≡ 0 → Needless c s (spent_by now) (taking k e)
      read_spent k e l r there a b h =
          let small : k < 48 = omega arith in
          subst (Needless c s (spent_by now)) (key_read c s k e small) (spent_at k e (omega arith) (omega arith) (omega arith) (read_open c s k e small r h))

      -- the sources of a quiet read
      pub searched_quiet : (k : ℕ) → from ≡ 64 * k → to ≡ 64 * k + 64 → (quiet c s k ≡ true) × ((e : ℕ) × (step_code c s (step_by s (taking k e)) ≡ 0)) → Searched c W sp s (suc n) before y bytes sum
      unfolding quiet
      searched_quiet k a b q = searched_told (told-quiet c W Z s sp K n S.sweep k q.1.0 q.1.1 q.0 (λ e h. inr (tested_needless c W Z s sp K n S.sweep (taking k e) h (spent e h))))
        where
          r : reading (kind_of (s.actions k)) ≡ true
          r = (and_both (reading (kind_of (s.actions k))) _ q.0).0

          spent : (e : ℕ) → step_code c s (step_by s (taking k e)) ≡ 0 → Needless c s (spent_by now) (taking k e)
          spent e h =
              let T = can_take c s (the (s.actions k).proc k e) h in
              read_spent k e T.there r (source_there c s K.reached.good (the (s.actions k).proc k e) T r) (omega arith) (omega arith) h

      -- all positions
      pub searched_all : from ≡ 0 → to ≡ 3200 → finished c s ≡ false → NoSure c s → c.procs ≤ 4 → Searched c W sp s (suc n) before y bytes sum
      searched_all a b f none procs =
          searched_told
          (told_rest c W Z s sp K n S.sweep f none
          (λ k e l there r h. read_spent k e l r there (omega arith) (omega arith) h)
          (λ k l q h. spent_at 48 k (omega arith) (omega arith) (omega arith) (other_open c s k (acquire_only (kind_of (s.actions k)) q).1 h))
          (λ p l h. spent_at 49 p (omega arith) (omega arith) (omega arith) (issue_open c s p h)))
