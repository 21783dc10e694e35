-- The operands of an instruction, and whether it is barred, in the arrays and on the board. Assumes nothing.
use mathlib.Core.Path.{◌≡◌, refl, sym, ◌∙◌, ap}
use mathlib.Core.Logic.{◌⊎◌, ⊎_elim}
use mathlib.Core.Bool.{Bool, true, false, not, ◌&&◌, ◌||◌}
use mathlib.Core.List.{List, [], ◌∷◌, map}
use mathlib.Core.Option.{Option, none}
use Prim.Native.Nat.{ℕ, ◌≤◌, ◌<◌}
use lib.Dec.{ltb, leb}
use lib.ListN.{length, get_or}
use borrow.Author.Tests.{lt-ltb, lt-leb, le-leb, leb-false}
use Rattle.words.specs.Small.{is_none, or_zero, any, some_below}
use Rattle.cases.specs.declared.Case.{Case}
use Rattle.cases.specs.declared.Instr.{Instr}
use Rattle.cases.specs.declared.Instr.TheVariants.{Empty, Read, Write, Local, Branch, Goto, Acquire, Release}
use Rattle.cases.specs.declared.Expr.{Expr}
use Rattle.cases.specs.declared.Expr.TheVariants.{Constant, Sum, Difference, Equal}
use Rattle.cases.specs.Case.{count_of, instr_at}
use Rattle.rules.specs.Kinds.{kind, reads, reading, writing, accesses, syncs}
use Rattle.rules.specs.Commit.{barred}
use Rattle.machine.specs.Shown.{Value, holder_of}
use Rattle.machine.specs.Fit.{Fine, FineExpr}
use Rattle.boards.specs.declared.Buffering.{Buffering}
use Rattle.boards.specs.declared.Buffering.TheVariants.{Direct, Shared, Split}
use Rattle.boards.specs.Board.{slot, filled}
use Rattle.boards.specs.Run.{operand, bars}
use Rattle.boards.specs.Machine.{run, allowed}
use Rattle.boards.specs.Quiet.{quiet}
use Rattle.boards.proofs.Accepted.{can_run}
use Rattle.running.specs.declared.Arrays.{Arrays}
use Rattle.stores.specs.Log.{buffer_of}
use Rattle.running.specs.Shown.{values_of, shown}
use Rattle.std.specs.Prelude.{is_some}
use Rattle.stores.specs.Log.{slot_by}
use Rattle.running.specs.Steps.{operand_by, first_by, second_by, unready_by, bars_by}
use Rattle.running.specs.Given.{Glancing}

-- at most two registers, each below 8
abbrev Regs : List ℕ → Type 0
Regs [] = Unit {0}
Regs (a ∷ []) = a < 8
Regs (a ∷ b ∷ []) = (a < 8) × (b < 8)
Regs (a ∷ b ∷ d ∷ more) = ⊥

fine_expr : (d : ℕ) (e : Expr) → FineExpr e → Regs (reads (Local d e))
fine_expr d (Constant n) h = tt
fine_expr d (Sum a b) h = h
fine_expr d (Difference a b) h = h
fine_expr d (Equal a b) h = h

fine_reads : (i : Instr) → Fine i → Regs (reads i)
fine_reads Empty h = absurd h
fine_reads (Read d a) h = h.1
fine_reads (Write a b) h = h
fine_reads (Local d e) h = fine_expr d e h.1
fine_reads (Branch a l) h = h.0
fine_reads (Goto l) h = tt
fine_reads (Acquire a) h = h
fine_reads (Release a) h = h

module _ (c : Case) (values : List Value) (p : ℕ) (low : p < 4) where
  value_is : (r : ℕ) → r < 8 → operand_by values p true r ≡ values_of c values p r
  value_is r h = rw (lt-ltb p 4 low, lt-ltb r 8 h)

  first_list : (l : List ℕ) → Regs l → operand_by values p (ltb 0 (length l)) (get_or l 0 0) ≡ get_or (map (values_of c values p) l) 0 none
  first_list [] h = refl
  first_list (a ∷ []) h = value_is a h
  first_list (a ∷ b ∷ []) h = value_is a h.0
  first_list (a ∷ b ∷ d ∷ more) h = absurd h

  second_list : (l : List ℕ) → Regs l → operand_by values p (ltb 1 (length l)) (get_or l 1 0) ≡ get_or (map (values_of c values p) l) 1 none
  second_list [] h = refl
  second_list (a ∷ []) h = refl
  second_list (a ∷ b ∷ []) h = value_is b h.1
  second_list (a ∷ b ∷ d ∷ more) h = absurd h

  unready_list : (l : List ℕ) → Regs l
      → ((ltb 0 (length l) && is_none (operand_by values p (ltb 0 (length l)) (get_or l 0 0))) || (ltb 1 (length l) && is_none (operand_by values p (ltb 1 (length l)) (get_or l 1 0)))) ≡ any is_none (map (values_of c values p) l)
  unready_list [] h = refl
  unready_list (a ∷ []) h = ap (λ (o : Option ℕ). is_none o || false) (value_is a h)
  unready_list (a ∷ b ∷ []) h = let u = value_is a h.0 in let v = value_is b h.1 in (λ i. is_none (u i) || is_none (v i)) ∙ ap (λ (x : Bool). is_none (values_of c values p a) || x) (sym (or_false' (is_none (values_of c values p b))))
    where
      or_false' : (x : Bool) → (x || false) ≡ x
      or_false' true = refl
      or_false' false = refl
  unready_list (a ∷ b ∷ d ∷ more) h = absurd h

  module _ (i : Instr) (f : Fine i) where
    pub first_is : first_by values p i ≡ get_or (map (values_of c values p) (reads i)) 0 none
    first_is = first_list (reads i) (fine_reads i f)

    pub second_is : second_by values p i ≡ get_or (map (values_of c values p) (reads i)) 1 none
    second_is = second_list (reads i) (fine_reads i f)

    pub unready_is : unready_by values p i ≡ any is_none (map (values_of c values p) (reads i))
    unready_is = unready_list (reads i) (fine_reads i f)

-- whether it may run

module _ (k : Buffering) (c : Case) (s : Arrays) (p : ℕ) where
  pub absent_barred : c.procs ≤ p → false ≡ allowed k c (shown k c s) (run p)
  unfolding allowed bars
  absent_barred h = rw (le-leb c.procs p h)

  pub end_barred : p < c.procs → count_of c p ≤ get_or s.places p 0 → false ≡ allowed k c (shown k c s) (run p)
  unfolding allowed bars
  end_barred h g = rw (lt-leb c.procs p h, le-leb (count_of c p) (get_or s.places p 0) g)

  pub bars_is : p < c.procs → get_or s.places p 0 < count_of c p → p < 4 → Fine (instr_at c p (get_or s.places p 0))
      → not (bars_by k s c.locs p (instr_at c p (get_or s.places p 0))) ≡ allowed k c (shown k c s) (run p)
  unfolding allowed bars
  bars_is h g low f =
      let i = instr_at c p (get_or s.places p 0) in
      let u = unready_is c s.values p low i f in
      let x = ap or_zero (first_is c s.values p low i f) in
      let w = sym (keep (syncs (kind i) && some_below c.locs (λ b. filled (buffer_of k s.log s.logged p b)))) in
      rw (lt-leb c.procs p h, lt-leb (count_of c p) (get_or s.places p 0) g)
      (λ j. not (u j || (((accesses (kind i) || syncs (kind i)) && leb c.locs (x j)) || (barred p (kind i) (holder_of (get_or s.holders (x j) 0)) || w j))))
    where
      keep : (b : Bool) → (b || false) ≡ b
      keep true = refl
      keep false = refl

-- the kinds of instructions

pub looks : {i : Instr} → ((a b : ℕ) × (i ≡ Read a b)) ⊎ (((a : ℕ) × (i ≡ Acquire a)) ⊎ ((a : ℕ) × (i ≡ Release a))) → (reading (kind i) || syncs (kind i)) ≡ true
looks h = ⊎_elim (λ e. rw e.2) (⊎_elim (λ e. rw e.1) (λ e. rw e.1)) h

pub stays : (i : Instr) → ((a b : ℕ) → i ≡ Read a b → ⊥) → ((a b : ℕ) → i ≡ Write a b → ⊥) → ((a : ℕ) → i ≡ Acquire a → ⊥) → ((a : ℕ) → i ≡ Release a → ⊥)
    → ((reading (kind i) || syncs (kind i)) ≡ false) × (writing (kind i) ≡ false)
stays Empty r w a l = (refl, refl)
stays (Read d x) r w a l = absurd (r d x refl)
stays (Write x y) r w a l = absurd (w x y refl)
stays (Local d e) r w a l = (refl, refl)
stays (Branch x y) r w a l = (refl, refl)
stays (Goto y) r w a l = (refl, refl)
stays (Acquire x) r w a l = absurd (a x refl)
stays (Release x) r w a l = absurd (l x refl)

-- the next instruction, which may run
module _ (k : Buffering) (c : Case) (s : Arrays) (p : ℕ) (given : Glancing k c s p) where
  abbrev next : Instr
  next = instr_at c p (get_or s.places p 0)

  pub place-low : get_or s.places p 0 < count_of c p
  place-low = leb-false (count_of c p) (get_or s.places p 0) (can_run k c (shown k c s) p given.free).inside

  pub address_is : or_zero (first_by s.values p next) ≡ operand k c (shown k c s) p 0
  address_is = ap or_zero (first_is c s.values p given.proc next (given.valid.fit.fine p (get_or s.places p 0) given.proc place-low))

  -- whether it is quiet
  pub quiet_look : (reading (kind next) || syncs (kind next)) ≡ true → false ≡ quiet k c (shown k c s) p
  unfolding quiet
  quiet_look h = rw h

  pub quiet_write : (reading (kind next) || syncs (kind next)) ≡ false → writing (kind next) ≡ true → is_some (slot_by k (or_zero (first_by s.values p next))) ≡ quiet k c (shown k c s) p
  unfolding quiet
  quiet_write h w = ap (λ (l : ℕ). is_some (slot_by k l)) address_is ∙ rw (h, w) (slot_test k (operand k c (shown k c s) p 0))
    where
      slot_test : (k : Buffering) (l : ℕ) → is_some (slot_by k l) ≡ not (is_none (slot k l))
      slot_test Direct l = refl
      slot_test Shared l = refl
      slot_test Split l = refl

  pub quiet-other : (reading (kind next) || syncs (kind next)) ≡ false → writing (kind next) ≡ false → true ≡ quiet k c (shown k c s) p
  unfolding quiet
  quiet-other h w = rw (h, w)
