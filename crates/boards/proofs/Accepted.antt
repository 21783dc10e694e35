-- A move that is allowed, test by test, and runs move by move. Assumes nothing.
use mathlib.Core.Path.{◌≡◌, refl, sym, ◌∙◌}
use mathlib.Core.Bool.{Bool, true, false, cond, not, ◌&&◌, ◌||◌, false≢true}
use mathlib.Core.List.{List, ◌∷◌}
use Prim.Native.Nat.{ℕ, ◌<◌}
use native.Mathlib.Omega.{arith}
use lib.Dec.{leb, ltb}
use borrow.Author.Tests.{leb-false, not-true, ltb-true, lt-ltb}
use Rattle.words.specs.Small.{is_none, any}
use Rattle.words.proofs.Bools.{or_none, or_right, and_both, and_make, and_rest}
use Rattle.cases.specs.declared.Case.{Case}
use Rattle.cases.specs.Case.{count_of}
use Rattle.runs.proofs.Walk.{Walk, go}
use Rattle.rules.specs.Kinds.{kind, reading, writing, acquiring, releasing, accesses, syncs}
use Rattle.rules.specs.Commit.{barred}
use Rattle.boards.specs.declared.Buffering.{Buffering}
use Rattle.boards.specs.Board.{Board, filled}
use Rattle.boards.specs.Run.{instruction, operands_of, operand, holding, bars}
use Rattle.boards.specs.Machine.{Move, run, drain, allowed, moved, move_code, board}

-- a run
abbrev pub Runs : Buffering → Case → Board → List Move → Board → Type 0
Runs k c = Walk (board k c)

module _ (k : Buffering) (c : Case) (b : Board) (m : Move) where
  pub code_allowed : move_code k c b m ≡ 0 → allowed k c b m ≡ true
  code_allowed h = step (allowed k c b m) h
    where
      step : (x : Bool) → ◌≡◌ {A = ℕ} (cond x 0 1) 0 → x ≡ true
      step true e = refl
      step false e = absurd (omega arith)

  pub allowed_code : allowed k c b m ≡ true → move_code k c b m ≡ 0
  allowed_code h = rw h

  pub move_first : {e : Board} {ms : List Move} → allowed k c b m ≡ true → Runs k c (moved k c b m) ms e → Runs k c b (m ∷ ms) e
  move_first h w = go (allowed_code h) w

-- an instruction that is not barred
pub record CanRun (k : Buffering) (c : Case) (b : Board) (p : ℕ) : Type 0 where
  pub low : leb c.procs p ≡ false
  pub inside : leb (count_of c p) (b.places p) ≡ false
  pub ready : any is_none (operands_of k c b p) ≡ false
  pub near : ((accesses (kind (instruction k c b p)) || syncs (kind (instruction k c b p))) && leb c.locs (operand k c b p 0)) ≡ false
  pub free : barred p (kind (instruction k c b p)) (b.holders (operand k c b p 0)) ≡ false
  pub empty : (syncs (kind (instruction k c b p)) && holding k c b p) ≡ false

module _ (k : Buffering) (c : Case) (b : Board) (p : ℕ) where
  pub can_run : allowed k c b (run p) ≡ true → CanRun k c b p
  unfolding allowed bars
  can_run h =
      let v0 = or_none (leb c.procs p) _ (not-true (any (λ t. t) (bars k c b p)) h) in
      let v1 = or_none (leb (count_of c p) (b.places p)) _ v0.1 in
      let v2 = or_none (any is_none (operands_of k c b p)) _ v1.1 in
      let v3 = or_none ((accesses (kind (instruction k c b p)) || syncs (kind (instruction k c b p))) && leb c.locs (operand k c b p 0)) _ v2.1 in
      let v4 = or_none (barred p (kind (instruction k c b p)) (b.holders (operand k c b p 0))) _ v3.1 in
      let v5 = or_none (syncs (kind (instruction k c b p)) && holding k c b p) _ v4.1 in
      record { low = v0.0; inside = v1.0; ready = v2.0; near = v3.0; free = v4.0; empty = v5.0 }

  pub run_make : CanRun k c b p → allowed k c b (run p) ≡ true
  unfolding allowed bars
  run_make R = rw (R.low, R.inside, R.ready, R.near, R.free, R.empty)

-- of two tests before a third
pub left_false : (x y z : Bool) → ((x || y) && z) ≡ false → (x && z) ≡ false
left_false true y z h = h
left_false false y z h = refl

pub right_false : (x y z : Bool) → ((x || y) && z) ≡ false → (y && z) ≡ false
right_false true true z h = h
right_false true false z h = refl
right_false false y z h = h

pub keep_true : (x y : Bool) → (x && y) ≡ false → y ≡ true → x ≡ false
keep_true true y h e = absurd (false≢true (sym h ∙ e))
keep_true false y h e = refl

pub read_accesses : (q : ℕ) → reading q ≡ true → accesses q ≡ true
read_accesses q h = rw h

pub write_accesses : (q : ℕ) → writing q ≡ true → accesses q ≡ true
write_accesses q h = or_right (reading q) (writing q) h

pub release_syncs : (q : ℕ) → syncs q ≡ false → releasing q ≡ false
release_syncs q h = (or_none (acquiring q) (releasing q) h).1

-- a read or a write is below M
pub access_low : (k : Buffering) (c : Case) (b : Board) (p : ℕ) → CanRun k c b p → accesses (kind (instruction k c b p)) ≡ true → operand k c b p 0 < c.locs
access_low k c b p R h =
    let q = kind (instruction k c b p) in
    leb-false c.locs (operand k c b p 0) (and_rest (accesses q) _ (left_false (accesses q) (syncs q) _ R.near) h)

-- a drain
pub record CanDrain (c : Case) (b : Board) (p n : ℕ) : Type 0 where
  pub proc : p < c.procs
  pub buffer : n < c.locs
  pub holds : filled (b.buffers p n) ≡ true

module _ (k : Buffering) (c : Case) (b : Board) (p n : ℕ) where
  pub can_drain : allowed k c b (drain p n) ≡ true → CanDrain c b p n
  unfolding allowed
  can_drain h =
      let v = and_both (ltb p c.procs && ltb n c.locs) (filled (b.buffers p n)) h in
      let u = and_both (ltb p c.procs) (ltb n c.locs) v.0 in
      record { proc = ltb-true _ _ u.0; buffer = ltb-true _ _ u.1; holds = v.1 }

  pub drain_make : CanDrain c b p n → allowed k c b (drain p n) ≡ true
  unfolding allowed
  drain_make D = and_make _ _ (and_make _ _ (lt-ltb _ _ D.proc) (lt-ltb _ _ D.buffer)) D.holds
