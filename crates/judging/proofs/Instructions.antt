-- A used instruction: its six bytes are right exactly if its registers and its label are. Assumes nothing.
use mathlib.Core.Path.{◌≡◌, refl, sym}
use mathlib.Core.Bool.{Bool, true, false, ◌&&◌, ◌||◌, cond, false≢true}
use Prim.Native.Nat.{ℕ, zero, suc, ◌+◌, ◌*◌, ◌-◌, ◌/◌, ◌%◌, ◌<◌, ◌≤◌}
use native.Mathlib.Omega.{arith}
use lib.Dec.{eqb, ltb, leb, lit<}
use lib.ListN.{get_or}
use borrow.Author.Tests.{ltb-true, leb-false, lt-ltb, lt-leb, le-ltb, ltb-false}
use Rattle.words.proofs.Bools.{and_both, and_make}
use Rattle.cases.specs.declared.Expr.TheVariants.{Constant, Sum, Difference, Equal}
use Rattle.cases.specs.declared.Instr.{Instr}
use Rattle.cases.specs.declared.Instr.TheVariants.{Empty, Read, Write, Local, Branch, Goto, Acquire, Release}
use Rattle.cases.specs.Instruction.{field_at, bad_field, instr_bytes}
use Rattle.cases.specs.Formed.{InstrFits}
use Rattle.judging.specs.Draft.{low, low_instr, label_of}

-- the byte v at place j behind this op is bad, w the word that begins there
abbrev pub bad_at : ℕ → ℕ → ℕ → ℕ → ℕ → Bool
bad_at op n j v w = cond (eqb j 0) (eqb op 0 || ltb 10 op) (bad_field (field_at op (j - 1)) n v w)

-- byte j of an instruction
abbrev pub byte_of : Instr → ℕ → ℕ
byte_of x j = get_or (instr_bytes x) j 0

register : (r : ℕ) → low r ≡ true → leb 8 r ≡ false
register r h = lt-leb 8 r (ltb-true r 8 h)

lowly : (r : ℕ) → leb 8 r ≡ false → low r ≡ true
lowly r h = lt-ltb r 8 (leb-false 8 r h)

label : (n l w : ℕ) → l ≤ n → w ≡ l % 256 + 256 * (l / 256) → ltb n w ≡ false
label n l w h e = le-ltb n w (omega arith)

-- six places, the label's word known at the fifth
six : (f : ℕ → Bool) {W : Type 0} → f 0 ≡ false → f 1 ≡ false → f 2 ≡ false → f 3 ≡ false → (W → f 4 ≡ false) → f 5 ≡ false → (j : ℕ) → j < 6 → (j ≡ 4 → W) → f j ≡ false
six f a b c d e g zero h w = a
six f a b c d e g (suc zero) h w = b
six f a b c d e g (suc (suc zero)) h w = c
six f a b c d e g (suc (suc (suc zero))) h w = d
six f a b c d e g (suc (suc (suc (suc zero)))) h w = e (w refl)
six f a b c d e g (suc (suc (suc (suc (suc zero))))) h w = g
six f a b c d e g (suc (suc (suc (suc (suc (suc j)))))) h w = absurd (omega arith)

module _ (n w : ℕ) where
  abbrev At : Instr → ℕ → Bool
  At x j = bad_at (byte_of x 0) n j (byte_of x j) w

  three : (x : Instr) (d a b : ℕ) → (low d && (low a && low b)) ≡ true → (leb 8 d ≡ false) × (leb 8 a ≡ false) × (leb 8 b ≡ false)
  three x d a b h = let r = and_both (low d) (low a && low b) h in let q = and_both (low a) (low b) r.1 in (register d r.0, register a q.0, register b q.1)

  pub fine : (x : Instr) (j : ℕ) → low_instr x ≡ true → label_of x ≤ n → j < 6 → (j ≡ 4 → w ≡ byte_of x 4 + 256 * byte_of x 5) → At x j ≡ false
  fine Empty j h m u e = absurd (false≢true h)
  fine (Read d a) j h m u e = let r = and_both (low d) (low a) h in six (At (Read d a)) refl (register d r.0) (register a r.1) refl (λ _. refl) refl j u e
  fine (Write a b) j h m u e = let r = and_both (low a) (low b) h in six (At (Write a b)) refl refl (register a r.0) (register b r.1) (λ _. refl) refl j u e
  fine (Local d (Constant k)) j h m u e = six (At (Local d (Constant k))) refl (register d (and_both (low d) (ltb k 65536) h).0) refl refl (λ _. refl) refl j u e
  fine (Local d (Sum a b)) j h m u e = let r = three (Local d (Sum a b)) d a b h in six (At (Local d (Sum a b))) refl r.0 r.1 r.2 (λ _. refl) refl j u e
  fine (Local d (Difference a b)) j h m u e = let r = three (Local d (Difference a b)) d a b h in six (At (Local d (Difference a b))) refl r.0 r.1 r.2 (λ _. refl) refl j u e
  fine (Local d (Equal a b)) j h m u e = let r = three (Local d (Equal a b)) d a b h in six (At (Local d (Equal a b))) refl r.0 r.1 r.2 (λ _. refl) refl j u e
  fine (Branch a l) j h m u e = six (At (Branch a l)) refl refl (register a h) refl (label n l w m) refl j u e
  fine (Goto l) j h m u e = six (At (Goto l)) refl refl refl refl (label n l w m) refl j u e
  fine (Acquire a) j h m u e = six (At (Acquire a)) refl refl (register a h) refl (λ _. refl) refl j u e
  fine (Release a) j h m u e = six (At (Release a)) refl refl (register a h) refl (λ _. refl) refl j u e

-- from six bytes, none of them bad
module _ (n : ℕ) (w : ℕ → ℕ) where
  abbrev pub Clear : Instr → Type 0
  Clear x = (j : ℕ) → j < 6 → bad_at (byte_of x 0) n j (byte_of x j) (w j) ≡ false

  triple : (d a b : ℕ) → leb 8 d ≡ false → leb 8 a ≡ false → leb 8 b ≡ false → (low d && (low a && low b)) ≡ true
  triple d a b p q r = and_make (low d) (low a && low b) (lowly d p) (and_make (low a) (low b) (lowly a q) (lowly b r))

  pub right : (x : Instr) → InstrFits x → w 4 ≡ byte_of x 4 + 256 * byte_of x 5 → Clear x → (low_instr x ≡ true) × (label_of x ≤ n)
  right Empty f e h = absurd (false≢true (sym (h 0 (lit< tt))))
  right (Read d a) f e h = (and_make (low d) (low a) (lowly d (h 1 (lit< tt))) (lowly a (h 2 (lit< tt))), omega arith)
  right (Write a b) f e h = (and_make (low a) (low b) (lowly a (h 2 (lit< tt))) (lowly b (h 3 (lit< tt))), omega arith)
  right (Local d (Constant k)) f e h = (and_make (low d) (ltb k 65536) (lowly d (h 1 (lit< tt))) (lt-ltb k 65536 f.1), omega arith)
  right (Local d (Sum a b)) f e h = (triple d a b (h 1 (lit< tt)) (h 2 (lit< tt)) (h 3 (lit< tt)), omega arith)
  right (Local d (Difference a b)) f e h = (triple d a b (h 1 (lit< tt)) (h 2 (lit< tt)) (h 3 (lit< tt)), omega arith)
  right (Local d (Equal a b)) f e h = (triple d a b (h 1 (lit< tt)) (h 2 (lit< tt)) (h 3 (lit< tt)), omega arith)
  right (Branch a l) f e h = (lowly a (h 2 (lit< tt)), omega (arith, ltb-false n (w 4) (h 4 (lit< tt))))
  right (Goto l) f e h = (refl, omega (arith, ltb-false n (w 4) (h 4 (lit< tt))))
  right (Acquire a) f e h = (lowly a (h 2 (lit< tt)), omega arith)
  right (Release a) f e h = (lowly a (h 2 (lit< tt)), omega arith)

-- op 0 is the empty instruction's alone
pub no_op : (x : Instr) → byte_of x 0 ≡ 0 → x ≡ Empty
no_op Empty h = refl
no_op (Read d a) h = absurd (omega arith)
no_op (Write a b) h = absurd (omega arith)
no_op (Local d (Constant k)) h = absurd (omega arith)
no_op (Local d (Sum a b)) h = absurd (omega arith)
no_op (Local d (Difference a b)) h = absurd (omega arith)
no_op (Local d (Equal a b)) h = absurd (omega arith)
no_op (Branch a l) h = absurd (omega arith)
no_op (Goto l) h = absurd (omega arith)
no_op (Acquire a) h = absurd (omega arith)
no_op (Release a) h = absurd (omega arith)
