-- Where source 000's theorem on race-free programs fails, taken literally: cases of which no sequential run races, and a finished run of the
-- WOMM with a result that the SC machine does not have. A release fixes its location when it commits, and what stands after it need not
-- wait. Assumes nothing.
use Rattle.std.specs.Prelude.{◌≡◌, false, ℕ, length, replicate}
use mathlib.Core.List.{List, [], ◌∷◌, ◌++◌, Memᴰ}
use Rattle.std.proofs.Math.Option.{Option, none, some}
use Rattle.words.specs.Small.{concat_map}
use Rattle.cases.specs.declared.Instr.{Instr}
use Rattle.cases.specs.declared.Instr.TheVariants.{Read, Write, Branch, Goto, Acquire, Release}
use Rattle.cases.specs.declared.Case.{Case}
use Rattle.rules.specs.Step.{Step, issue, commit}
use Rattle.rules.specs.Result.{register_bytes, registers}
use Rattle.rules.specs.Building.{slots_of, plain}
use Rattle.rules.specs.Claims.{finishes, reached}
use Rattle.rules.specs.Claims as Rules
use Rattle.races.specs.Race.{FirstRace}
use Rattle.boards.specs.declared.Buffering.TheVariants.{Direct}
use Rattle.boards.specs.Shapes.{lists, both}
use Rattle.boards.specs.Shapes as Boards
use Rattle.sequential.specs.InOrder.{NeverRacesInOrder}

-- A row: a case and its SC list for a bound; a schedule of the WOMM and the record that it leaves.
pub record Escape : Type 0 where
  pub case : Case
  pub bound : ℕ
  pub listed : List (List ℕ)
  pub schedule : List Step
  pub leaves : List ℕ

-- No sequential run races; the list is that, uncut; the schedule finishes the case and leaves the record, which is not in the list; and it has a race.
pub record Escapes (e : Escape) : Type 0 where
  pub free : NeverRacesInOrder e.case
  pub sequential : Boards.Holds (lists Direct e.case e.bound e.listed false)
  pub finished : Rules.Holds (finishes e.case e.schedule)
  pub left : registers e.case (reached e.case e.schedule) ≡ e.leaves
  pub beyond : Memᴰ e.leaves e.listed → ⊥
  pub races : FirstRace e.schedule (reached e.case e.schedule) 255 255 → ⊥

-- Registers 0 to 3 hold 0 to 3, register 4 holds v.
abbrev pub fourth : ℕ → List (Option ℕ)
fourth v = some 0 ∷ some 1 ∷ some 2 ∷ some 3 ∷ some v ∷ none ∷ none ∷ none ∷ []

-- Two processors whose registers 0 to 3 are preset to 0 to 3, over m locations; x starts at w.
abbrev pub pair : ℕ → ℕ → List Instr → List Instr → Case
pair m w is js =
    record {
      procs = 2;
      locs = m;
      counts = length is ∷ length js ∷ 0 ∷ 0 ∷ [];
      masks = 15 ∷ 15 ∷ 0 ∷ 0 ∷ [];
      presets = 0 ∷ 1 ∷ 2 ∷ 3 ∷ 0 ∷ 0 ∷ 0 ∷ 0 ∷ 0 ∷ 1 ∷ 2 ∷ 3 ∷ replicate 20 0;
      memory = w ∷ replicate 7 0;
      code = slots_of is ++ (slots_of js ++ (slots_of [] ++ slots_of []));
    }

-- The record where their registers 4 end as v and w.
abbrev pub fourths : ℕ → ℕ → List ℕ
fourths v w = concat_map register_bytes (fourth v) ++ (concat_map register_bytes (fourth w) ++ replicate 48 0)

-- Processor 0 holds y and releases what it reads at x; its write of y, which comes after, lets processor 1 write y's number to x. On the SC
-- machine it reads 0, may not release x, and stops.
abbrev pub released : Escape
released =
    record {
      case = plain 2 ((Acquire 1 ∷ Read 2 0 ∷ Release 2 ∷ Write 1 1 ∷ []) ∷ (Read 2 1 ∷ Branch 2 3 ∷ Goto 4 ∷ Write 0 1 ∷ []) ∷ []);
      bound = 8;
      listed = [];
      schedule =
          issue 0 ∷ issue 0 ∷ issue 0 ∷ issue 0 ∷ issue 1 ∷ issue 1
          ∷ commit 0 0 0 ∷ commit 0 3 0 ∷ commit 1 4 11 ∷ commit 1 5 0 ∷ issue 1 ∷ commit 1 6 0 ∷ commit 0 1 14 ∷ commit 0 2 0 ∷ [];
      leaves = both (some 1) none (some 1) none;
    }

-- The same, where the SC machine has a result too: there processor 1 never reads 1.
abbrev pub another : Escape
another =
    record {
      case = pair 4 0 (Acquire 3 ∷ Acquire 2 ∷ Read 4 0 ∷ Release 2 ∷ Release 4 ∷ Write 1 1 ∷ []) (Read 4 1 ∷ Branch 4 6 ∷ Acquire 2 ∷ Write 0 3 ∷ Release 2 ∷ Goto 7 ∷ Write 0 3 ∷ []);
      bound = 13;
      listed = fourths 3 0 ∷ [];
      schedule =
          issue 0 ∷ issue 0 ∷ issue 0 ∷ issue 0 ∷ issue 0 ∷ issue 0 ∷ issue 1 ∷ issue 1
          ∷ commit 0 0 0 ∷ commit 0 1 0 ∷ commit 0 5 0 ∷ commit 1 6 13 ∷ commit 1 7 0 ∷ issue 1 ∷ commit 1 8 0 ∷ commit 0 2 16 ∷ commit 0 3 0 ∷ commit 0 4 0 ∷ [];
      leaves = fourths 3 1;
    }

-- The same without a branch: each processor takes its lock from what it reads.
abbrev pub crossed : Escape
crossed =
    record {
      case = pair 3 2 (Read 4 0 ∷ Acquire 4 ∷ Write 1 2 ∷ []) (Acquire 2 ∷ Read 4 1 ∷ Release 4 ∷ Write 0 0 ∷ []);
      bound = 8;
      listed = [];
      schedule =
          issue 0 ∷ issue 0 ∷ issue 0 ∷ issue 1 ∷ issue 1 ∷ issue 1 ∷ issue 1
          ∷ commit 1 3 0 ∷ commit 1 6 0 ∷ commit 0 0 14 ∷ commit 0 1 0 ∷ commit 0 2 0 ∷ commit 1 4 10 ∷ commit 1 5 0 ∷ [];
      leaves = fourths 0 2;
    }

abbrev pub escapes : List Escape
escapes = released ∷ another ∷ crossed ∷ []
