-- The literal theorem fails on each of these cases, by computation; so their runs race. Assumes nothing.
use mathlib.Core.Path.{◌≡◌, refl, ap, subst}
use mathlib.Core.Bool.{true, false}
use mathlib.Core.List.Memᴰ
use mathlib.Core.List.{List, [], ◌∷◌, Memᴰ}
use Prim.Native.Nat.{ℕ, ◌≤◌}
use native.Mathlib.Omega.{arith}
use lib.ListN.{get_or}
use Rattle.words.specs.Small.{some_below}
use Rattle.words.specs.Refusals.{first_code_of}
use Rattle.words.proofs.Bools.{and_make}
use Rattle.cases.specs.Block.{bad3, bad4, bad5, bad6, zero5, bad_byte, assigns_at, is_set, reads_at, bad19, contents}
use Rattle.runs.specs.Replay.{replay}
use Rattle.rules.specs.Kinds.{held_by}
use Rattle.rules.specs.State.{initial}
use Rattle.rules.specs.Order.{joined, joined_if}
use Rattle.rules.specs.Issue.{issue_refusals, issued}
use Rattle.rules.specs.Commit.{visible, commit_refusals, committed}
use Rattle.rules.specs.Step.{step_code, after}
use Rattle.rules.specs.Result.{finished, registers}
use Rattle.rules.specs.Claims.{Every, finishes, reached}
use Rattle.rules.proofs.Quick.{quick}
use Rattle.rules.proofs.Rows as Rows
use Rattle.races.specs.Test.{races}
use Rattle.racing.specs.Answer.{queued}
use Rattle.boards.specs.declared.Buffering.TheVariants.{Direct}
use Rattle.boards.specs.Board.{newest_to}
use Rattle.boards.specs.Run.{bars, ran}
use Rattle.boards.specs.Machine.{allowed, moved, ended}
use Rattle.boards.specs.Machine as Boards
use Rattle.boards.specs.Quiet.{quiet}
use Rattle.boards.specs.Shapes.{lists}
use Rattle.boards.proofs.Waiting.{moves}
use Rattle.boards.proofs.Search.{pick, found}
use Rattle.boards.proofs.Shapes as Shapes
use Rattle.sequential.specs.Escapes.{Escape, Escapes, released, another, crossed, escapes}
use Rattle.sequential.proofs.Sequential.{race_free_listed}
use Rattle.sequential.proofs.InOrder.{looked, never_races}

-- what has another result has a race
escaped : (e : Escape) → looked e.case e.bound (initial e.case) ≡ true → Shapes.test (lists Direct e.case e.bound e.listed false) ≡ true → Rows.test (finishes e.case e.schedule) ≡ true → registers e.case (reached e.case e.schedule) ≡ e.leaves → (Memᴰ e.leaves e.listed → ⊥) → queued (reached e.case e.schedule) ≡ false → (reached e.case e.schedule).count ≤ e.bound → Escapes e
escaped e o s f l b q n =
    let S = (Shapes.every (lists Direct e.case e.bound e.listed false ∷ []) (and_make _ true s refl)).0 in
    let F = (Rows.every (finishes e.case e.schedule ∷ []) (and_make _ true f refl)).0 in
    record {
      free = never_races e.case e.bound o;
      sequential = S;
      finished = F;
      left = l;
      beyond = b;
      races = λ r. b (subst (λ (x : List ℕ). Memᴰ x e.listed) l (race_free_listed e.case e.schedule (reached e.case e.schedule) (record { leads = record { accepted = F.1.0; ends = refl }; empty = q; none = r }) F.1.1 e.bound n e.listed S.1.0));
    }

released_free : looked released.case released.bound (initial released.case) ≡ true
unfolding looked races some_below first_code_of held_by joined joined_if issue_refusals issued visible commit_refusals committed step_code
released_free = refl

released_sequential : Shapes.test (lists Direct released.case released.bound released.listed false) ≡ true
unfolding Shapes.test quick bad3 bad4 bad5 bad6 zero5 bad_byte assigns_at is_set reads_at bad19 contents first_code_of some_below found pick moves quiet newest_to bars ran allowed moved ended Boards.registers
released_sequential = refl

released-finished : Rows.test (finishes released.case released.schedule) ≡ true
unfolding Rows.test quick bad3 bad4 bad5 bad6 zero5 bad_byte assigns_at is_set reads_at bad19 contents first_code_of some_below replay held_by joined joined_if issue_refusals issued visible commit_refusals committed step_code after finished
released-finished = refl

released-left : registers released.case (reached released.case released.schedule) ≡ released.leaves
unfolding registers some_below first_code_of replay held_by joined joined_if issue_refusals issued visible commit_refusals committed step_code after
released-left = refl

released_empty : queued (reached released.case released.schedule) ≡ false
unfolding queued some_below first_code_of replay held_by joined joined_if issue_refusals issued visible commit_refusals committed step_code after
released_empty = refl

released-count : (reached released.case released.schedule).count ≡ 7
unfolding some_below first_code_of replay held_by joined joined_if issue_refusals issued visible commit_refusals committed step_code after
released-count = refl

another_free : looked another.case another.bound (initial another.case) ≡ true
unfolding looked races some_below first_code_of held_by joined joined_if issue_refusals issued visible commit_refusals committed step_code
another_free = refl

another_sequential : Shapes.test (lists Direct another.case another.bound another.listed false) ≡ true
unfolding Shapes.test quick bad3 bad4 bad5 bad6 zero5 bad_byte assigns_at is_set reads_at bad19 contents first_code_of some_below found pick moves quiet newest_to bars ran allowed moved ended Boards.registers
another_sequential = refl

another-finished : Rows.test (finishes another.case another.schedule) ≡ true
unfolding Rows.test quick bad3 bad4 bad5 bad6 zero5 bad_byte assigns_at is_set reads_at bad19 contents first_code_of some_below replay held_by joined joined_if issue_refusals issued visible commit_refusals committed step_code after finished
another-finished = refl

another-left : registers another.case (reached another.case another.schedule) ≡ another.leaves
unfolding registers some_below first_code_of replay held_by joined joined_if issue_refusals issued visible commit_refusals committed step_code after
another-left = refl

another_empty : queued (reached another.case another.schedule) ≡ false
unfolding queued some_below first_code_of replay held_by joined joined_if issue_refusals issued visible commit_refusals committed step_code after
another_empty = refl

another-count : (reached another.case another.schedule).count ≡ 9
unfolding some_below first_code_of replay held_by joined joined_if issue_refusals issued visible commit_refusals committed step_code after
another-count = refl

crossed_free : looked crossed.case crossed.bound (initial crossed.case) ≡ true
unfolding looked races some_below first_code_of held_by joined joined_if issue_refusals issued visible commit_refusals committed step_code
crossed_free = refl

crossed_sequential : Shapes.test (lists Direct crossed.case crossed.bound crossed.listed false) ≡ true
unfolding Shapes.test quick bad3 bad4 bad5 bad6 zero5 bad_byte assigns_at is_set reads_at bad19 contents first_code_of some_below found pick moves quiet newest_to bars ran allowed moved ended Boards.registers
crossed_sequential = refl

crossed-finished : Rows.test (finishes crossed.case crossed.schedule) ≡ true
unfolding Rows.test quick bad3 bad4 bad5 bad6 zero5 bad_byte assigns_at is_set reads_at bad19 contents first_code_of some_below replay held_by joined joined_if issue_refusals issued visible commit_refusals committed step_code after finished
crossed-finished = refl

crossed-left : registers crossed.case (reached crossed.case crossed.schedule) ≡ crossed.leaves
unfolding registers some_below first_code_of replay held_by joined joined_if issue_refusals issued visible commit_refusals committed step_code after
crossed-left = refl

crossed_empty : queued (reached crossed.case crossed.schedule) ≡ false
unfolding queued some_below first_code_of replay held_by joined joined_if issue_refusals issued visible commit_refusals committed step_code after
crossed_empty = refl

crossed-count : (reached crossed.case crossed.schedule).count ≡ 7
unfolding some_below first_code_of replay held_by joined joined_if issue_refusals issued visible commit_refusals committed step_code after
crossed-count = refl

-- THE LITERAL THEOREM FAILS
pub escapes_hold : Every Escapes escapes
escapes_hold = (
  escaped released released_free released_sequential released-finished released-left (λ m. absurd (Memᴰ.not-nil m)) released_empty (omega (arith, released-count)),
  (
    escaped another another_free another_sequential another-finished another-left (λ m. absurd (omega (arith, ap (λ (l : List ℕ). get_or l 38 0) (Memᴰ.eq_of_singleton m)))) another_empty (omega (arith, another-count)),
    (escaped crossed crossed_free crossed_sequential crossed-finished crossed-left (λ m. absurd (Memᴰ.not-nil m)) crossed_empty (omega (arith, crossed-count)), tt),
  ),
)
