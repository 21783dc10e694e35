-- From the search over a cleared buffer to the list of a case. Assumes nothing.
use mathlib.Core.Path.{◌≡◌, refl, sym, ◌∙◌, ap, subst}
use mathlib.Core.Logic.{inr, ⊎_elim, ◌↔◌}
use mathlib.Core.Bool.{Bool, true, false, false≢true}
use mathlib.Core.List.Memᴰ
use mathlib.Core.List.{List}
use Prim.Native.Nat.{ℕ, suc, ◌+◌, ◌*◌, ◌-◌, ◌≤◌, ◌<◌}
use native.Mathlib.Omega.{arith}
use lib.ListN.{length, replicate}
use Rattle.words.proofs.Sets.{has_zero}
use Rattle.cases.specs.declared.Case.{Case}
use Rattle.runs.specs.Listing.{Listed, Refused}
use Rattle.records.specs.Buffer.{records_in, Held}
use Rattle.records.proofs.Closing.{listed, unlisted, filled_size, filled_more}
use Rattle.records.proofs.Buffer.{held_zeros}
use Rattle.boards.specs.declared.Buffering.{Buffering}
use Rattle.boards.specs.Board.{Board, opening}
use Rattle.boards.specs.Machine.{allowed, moved, ended}
use Rattle.boards.specs.Listing.{Cut, IsBoardList}
use Rattle.boards.specs.Waiting.{held}
use Rattle.boards.proofs.Waiting.{empty}
use Rattle.boards.specs.Question.{Question, outcome, cut, Yes}
use Rattle.boards.proofs.Answers.{left}
use Rattle.boards.proofs.Search.{less, board_exists}
use Rattle.running.specs.declared.Arrays.{Arrays}
use Rattle.running.specs.Shown.{shown}
use Rattle.running.specs.Valid.{Valid}
use Rattle.boardlisting.specs.declared.Tally.{Tally}
use Rattle.boardlisting.specs.Moves.{move_at, left_by, SureAt, first_position, last_position}
use Rattle.boardlisting.specs.Spent.{Known}
use Rattle.boardlisting.specs.Ready.{Ready}
use Rattle.boardlisting.specs.Searched.{Tells, Searched}
use lib.Dec.{ltb}
use borrow.Author.Tests.{lt-ltb}
use Rattle.std.specs.Prelude.{Option, Some, None, IfSome, unwrap_or}
use mathlib.Core.Bool.{cond}
use Rattle.boardlisting.proofs.Loop.{left_at, Sweeping, sweep_all}
use Rattle.machine.specs.Fit.{Fit}

-- the tally before the search
abbrev pub nothing : Tally
nothing = record { count = 0; cut = false; full = false }

pub ready_start : {k : Buffering} {c : Case} {s : Arrays} {n : ℕ} (size : ℕ) {zeros : List ℕ} → shown k c s ≡ opening c → Valid c s → s.logged ≡ 0 → n ≤ 48 → zeros ≡ replicate size 0 → Ready k c s n (2 * n) 0 zeros nothing
ready_start {k} {c} {s} {n} size {zeros} shows valid none few cleared =
    record {
      valid = valid;
      few = omega arith;
      depth = let e : held c (shown k c s).buffers ≡ 0 = ap (λ (b : Board). held c b.buffers) shows ∙ empty k c in omega (arith, e);
      room = refl;
      held = held_zeros size zeros cleared;
      known = record { taken = λ i h. absurd (false≢true (sym (has_zero i) ∙ h)); told = λ i h. absurd (false≢true (sym (has_zero i) ∙ h)) };
    }

-- the machine after the move at position i
pub ready_next : {k : Buffering} {c : Case} {s : Arrays} {n deep spent : ℕ} {out : List ℕ} {y : Tally} → Ready k c s n deep spent out y → 0 < n → (i : ℕ) → allowed k c (shown k c s) (move_at i) ≡ true
    → {t : Arrays} → shown k c t ≡ moved k c (shown k c s) (move_at i) → Valid c t → t.logged + left_by i n ≤ 48 → {bytes : List ℕ} {z : Tally} → z.full ≡ false → Held bytes z.count
    → {left' : ℕ} → Known k c (moved k c (shown k c s) (move_at i)) (left k c (move_at i) (n - 1)) left' (Tells bytes z)
    → (0 < deep) × Ready k c t (left_by i n) (deep - 1) left' bytes z
ready_next {k} {c} {s} {n} {deep} R more i ok {t} shows valid few {bytes} {z} room held' {left'} K =
    let one : suc (n - 1) ≡ n = omega arith in
    let some : 0 < deep = omega (arith, R.depth) in
    let l : left_by i n ≡ left k c (move_at i) (n - 1) = ap (left_by i) (sym one) ∙ left_at k c i (n - 1) in
    let e : held c (shown k c t).buffers ≡ held c (moved k c (shown k c s) (move_at i)).buffers = ap (λ (b : Board). held c b.buffers) shows in
    let d = less k c (shown k c s) (move_at i) (deep - 1) (n - 1) ok (omega (arith, R.depth)) in
    (some, record { valid = valid; few = few; depth = omega (arith, l, e, d); room = room; held = held'; known = subst (λ (x : Type 0). x) (λ j. Known k c (sym shows j) (sym l j) left' (Tells bytes z)) K })

module _ (k : Buffering) (c : Case) (n size : ℕ) {zeros : List ℕ} (cleared : zeros ≡ replicate size 0) {bytes : List ℕ} {z : Tally} (W : Searched k c (opening c) n zeros nothing bytes z) where
  no_record : (q : Question) → Tells zeros nothing q → ⊥
  unfolding records_in
  no_record (outcome r) h = Memᴰ.not-nil h
  no_record cut h = false≢true h

  all : z.full ≡ false → (q : Question) → Tells bytes z q ↔ Yes k c (opening c) n q
  all e q = let t = W.told e q in (λ w. ⊎_elim (λ x. absurd (no_record q x)) (λ x. x) (t.0 w), λ y. t.1 (inr y))

  whole_size : length bytes ≡ size
  whole_size = filled_size size cleared W.filled

  pub whole-listed : z.full ≡ false → {a : Listed} → a.code ≡ 0 → a.count ≡ z.count → a.cut ≡ z.cut → IsBoardList k c n size a bytes
  whole-listed e {a} code count mark =
      listed whole_size (W.filled.held e) (λ r. all e (outcome r)) code count (subst (λ (b : Bool). (b ≡ true) ↔ Cut k c n) (sym mark) (all e cut))

  pub whole_unlisted : z.full ≡ true → {a : Listed} {out : List ℕ} → Refused 11 (length bytes) a out → IsBoardList k c n size a out
  whole_unlisted e {a} {out} refused =
      let x = board_exists k c n size in
      unlisted x.2.right (filled_more size cleared W.filled e) (subst (λ (m : ℕ). Refused 11 m a out) whole_size refused)

pub from_start : {k : Buffering} {c : Case} {b : Board} {n : ℕ} {before bytes : List ℕ} {y z : Tally} → b ≡ opening c → Searched k c b n before y bytes z → Searched k c (opening c) n before y bytes z
from_start {k} {c} {b} {n} {before} {bytes} {y} {z} e = subst (λ (b : Board). Searched k c b n before y bytes z) e

-- the positions are at most 36
pub last_most : (j : ℕ) → last_position j ≤ 36
last_most j = step (ltb j 4) refl
  where
    step : (x : Bool) → ltb j 4 ≡ x → cond x (j + 1) 36 ≤ 36
    step true e = omega (arith, borrow.Author.Tests.ltb-true j 4 e)
    step false e = omega arith

-- the positions from f.0 to f.1 are those to look at, with the sure instruction of a processor or without
pub record Ends (sure : Option ℕ) (f : ℕ × ℕ) : Type 0 where
  pub first : f.0 ≡ first_position (unwrap_or sure 4)
  pub last : f.1 ≡ last_position (unwrap_or sure 4)

pub ends_sure : {sure : Option ℕ} {f : ℕ × ℕ} (p : ℕ) → sure ≡ Some p → f ≡ (p, p + 1) → IfSome sure (λ p. p < 4) → Ends sure f
ends_sure {sure} {f} p e g h = subst (λ (o : Option ℕ). IfSome o (λ p. p < 4) → Ends o f) (sym e) (λ l. record { first = ap (λ (z : ℕ × ℕ). z.0) g ∙ rw (lt-ltb p 4 l); last = ap (λ (z : ℕ × ℕ). z.1) g ∙ rw (lt-ltb p 4 l) }) h

pub ends-all : {sure : Option ℕ} {f : ℕ × ℕ} → sure ≡ None → f ≡ (0, 36) → Ends sure f
ends-all {sure} {f} e g = subst (λ (o : Option ℕ). Ends o f) (sym e) (record { first = ap (λ (z : ℕ × ℕ). z.0) g; last = ap (λ (z : ℕ × ℕ). z.1) g })

-- the invariant of equal bytes, tally and moves that are done
pub sweep_same : {k : Buffering} {c : Case} {b : Board} {n : ℕ} {before : List ℕ} {y : Tally} {from at done done' : ℕ} {bytes bytes' : List ℕ} {sum sum' : Tally} → bytes' ≡ bytes → done' ≡ done → sum' ≡ sum → Sweeping k c b n before y from at done bytes sum → Sweeping k c b n before y from at done' bytes' sum'
sweep_same {k} {c} {b} {n} {before} {y} {from} {at} p d q S = subst (λ (x : Type 0). x) (λ i. Sweeping k c b n before y from at (sym d i) (sym p i) (sym q i)) S

-- the branch of a move, in the words of the board
pub as_move : {k : Buffering} {c : Case} (b : Board) (t : Arrays) {n rest : ℕ} (i : ℕ) {bytes bytes' : List ℕ} {sum sum' : Tally} → 0 < n → shown k c t ≡ moved k c b (move_at i) → rest ≡ left_by i n
    → Searched k c (shown k c t) rest bytes sum bytes' sum' → Searched k c (moved k c b (move_at i)) (left k c (move_at i) (n - 1)) bytes sum bytes' sum'
as_move {k} {c} b t {n} {rest} i {bytes} {bytes'} {sum} {sum'} more shows e W =
    let one : suc (n - 1) ≡ n = omega arith in
    let l : rest ≡ left k c (move_at i) (n - 1) = e ∙ ap (left_by i) (sym one) ∙ left_at k c i (n - 1) in
    subst (λ (x : Type 0). x) (λ j. Searched k c (shows j) (l j) bytes sum bytes' sum') W

-- a bound that is not 0
pub as_bound : {k : Buffering} {c : Case} {b : Board} {n : ℕ} {before bytes : List ℕ} {y z : Tally} → 0 < n → Searched k c b (suc (n - 1)) before y bytes z → Searched k c b n before y bytes z
as_bound {k} {c} {b} {n} {before} {bytes} {y} {z} more W = let one : suc (n - 1) ≡ n = omega arith in subst (λ (m : ℕ). Searched k c b m before y bytes z) one W

-- what a call asks, with the bound in the call's words
pub as_ready : {k : Buffering} {c : Case} {t : Arrays} {rest m deep spent : ℕ} {bytes : List ℕ} {z : Tally} → rest ≡ m → Ready k c t m deep spent bytes z → Ready k c t rest deep spent bytes z
as_ready {k} {c} {t} {rest} {m} {deep} {spent} {bytes} {z} e R = subst (λ (n : ℕ). Ready k c t n deep spent bytes z) (sym e) R

-- the end of the loop, its first position in the call's words
pub swept_all : {k : Buffering} {c : Case} {b : Board} {n : ℕ} {before bytes : List ℕ} {y sum : Tally} {from at to done : ℕ} (j : ℕ) → Fit c → ended c b ≡ false → SureAt k c b j → from ≡ first_position j → to ≡ last_position j
    → Sweeping k c b n before y from at done bytes sum → to ≤ at → Searched k c b (suc n) before y bytes sum
swept_all {k} {c} {b} {n} {before} {bytes} {y} {sum} {from} {at} {to} {done} j F h sure e l S end =
    sweep_all k c b n F h j sure (subst (λ (f : ℕ). Sweeping k c b n before y f at done bytes sum) e S) (omega arith)
