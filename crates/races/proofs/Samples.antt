-- Every sample holds, by computation. Assumes nothing.
use mathlib.Core.Path.{◌≡◌, refl, subst}
use mathlib.Core.Bool.{true}
use Prim.Native.Nat.{ℕ}
use Rattle.words.specs.Small.{some_below}
use Rattle.words.specs.Refusals.{first_code_of}
use Rattle.cases.specs.Block.{bad3, bad4, bad5, bad6, zero5, bad_byte, assigns_at, is_set, reads_at, bad19, contents, lowest}
use Rattle.runs.specs.Replay.{replay}
use Rattle.rules.specs.Kinds.{held_by}
use Rattle.rules.specs.Order.{joined, joined_if}
use Rattle.rules.specs.Issue.{issue_refusals, issued}
use Rattle.rules.specs.Commit.{visible, commit_refusals, committed}
use Rattle.rules.specs.Step.{step_code, after}
use Rattle.rules.specs.Claims.{reached, code_of}
use Rattle.rules.proofs.Quick.{quick, quick_sound}
use Rattle.races.specs.Race.{FirstRace}
use Rattle.races.specs.Test.{races, partner, opener, first_of_race, second_of_race}
use Rattle.races.specs.Samples.{Sample, Shows, Samples}
use Rattle.races.proofs.Racing.{first_race}

-- the numbers of the test are the first race
shows : (x : Sample) → quick x.case ≡ true → code_of x.case x.steps ≡ 0 → first_of_race (reached x.case x.steps) ≡ x.first → second_of_race (reached x.case x.steps) ≡ x.second → Shows x
shows x sound accepted j k =
    let s = reached x.case x.steps in
    record {
      sound = quick_sound x.case sound;
      accepted = accepted;
      race = subst (FirstRace x.steps s x.first) k (subst (λ (n : ℕ). FirstRace x.steps s n (second_of_race s)) j (first_race x.case x.steps s (record { accepted = accepted; ends = refl })));
    }

pub samples_hold : Samples
unfolding quick bad3 bad4 bad5 bad6 zero5 bad_byte assigns_at is_set reads_at bad19 contents some_below first_code_of lowest replay held_by joined joined_if issue_refusals issued visible commit_refusals committed step_code after races partner opener
samples_hold = (
  shows _ refl refl refl refl,
  (
    shows _ refl refl refl refl,
    (
      shows _ refl refl refl refl,
      (
        shows _ refl refl refl refl,
        (
          shows _ refl refl refl refl,
          (shows _ refl refl refl refl, tt),
        ),
      ),
    ),
  ),
)
