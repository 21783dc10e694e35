-- An instruction and its six bytes are each other's inverses. Assumes nothing.
use mathlib.Core.Path.{◌≡◌, refl, ap, sym}
use mathlib.Core.Bool.{false, not}
use mathlib.Core.List.{List, [], ◌∷◌}
use Prim.Native.Nat.{ℕ, zero, suc, ◌+◌, ◌*◌, ◌/◌, ◌%◌, ◌<◌}
use native.Mathlib.Omega.{arith}
use lib.Dec.{eqb, lit<}
use lib.ListN.{get_or}
use borrow.Author.Tests.{eqb-true, not-false}
use Rattle.cases.specs.declared.Expr.{Expr}
use Rattle.cases.specs.declared.Expr.TheVariants.{Constant, Sum, Difference, Equal}
use Rattle.cases.specs.declared.Instr.{Instr}
use Rattle.cases.specs.declared.Instr.TheVariants.{Empty, Read, Write, Local, Branch, Goto, Acquire, Release}
use Rattle.cases.specs.Instruction.{field_at, bad_field, instr_of, instr_bytes, local_bytes, two}

-- a number and its two bytes

pub two_back : (n : ℕ) → n % 256 + 256 * (n / 256) ≡ n
two_back n = omega arith

pub two_of_lem : (lo hi : ℕ) → lo < 256 → two (lo + 256 * hi) ≡ lo ∷ hi ∷ []
two_of_lem lo hi h =
    let p : (lo + 256 * hi) % 256 ≡ lo = omega arith in
    let q : (lo + 256 * hi) / 256 ≡ hi = omega arith in
    λ j. p j ∷ q j ∷ []

-- the instruction that six bytes hold
abbrev pub read_bytes : List ℕ → Instr
read_bytes l = instr_of (get_or l 0 0) (get_or l 1 0) (get_or l 2 0) (get_or l 3 0) (get_or l 4 0 + 256 * get_or l 5 0)

local_back : (d : ℕ) (e : Expr) → read_bytes (local_bytes d e) ≡ Local d e
local_back d (Constant n) = ap (λ (n : ℕ). Local d (Constant n)) (two_back n)
local_back d (Sum a b) = refl
local_back d (Difference a b) = refl
local_back d (Equal a b) = refl

pub instr_back : (i : Instr) → read_bytes (instr_bytes i) ≡ i
instr_back Empty = refl
instr_back (Read d a) = refl
instr_back (Write a b) = refl
instr_back (Local d e) = local_back d e
instr_back (Branch a l) = ap (Branch a) (two_back l)
instr_back (Goto l) = ap Goto (two_back l)
instr_back (Acquire a) = refl
instr_back (Release a) = refl

clear : (v : ℕ) → not (eqb v 0) ≡ false → 0 ≡ v
clear v h = sym (eqb-true v 0 (not-false (eqb v 0) h))

-- six bytes, where no byte after the op is bad
module _ (n d a b lo hi : ℕ) (w : ℕ → ℕ) (low : lo < 256) where
  abbrev pub Good : ℕ → Type 0
  Good op = (k : ℕ) → k < 5 → bad_field (field_at op k) n (get_or (d ∷ a ∷ b ∷ lo ∷ hi ∷ []) k 0) (w k) ≡ false

  pub bytes_back : (op : ℕ) → 0 < op → op < 11 → Good op → instr_bytes (instr_of op d a b (lo + 256 * hi)) ≡ op ∷ d ∷ a ∷ b ∷ lo ∷ hi ∷ []
  bytes_back zero p q h = absurd (omega arith)
  bytes_back (suc zero) p q h = λ j. 1 ∷ d ∷ a ∷ clear b (h 2 (lit< tt)) j ∷ clear lo (h 3 (lit< tt)) j ∷ clear hi (h 4 (lit< tt)) j ∷ []
  bytes_back (suc (suc zero)) p q h = λ j. 2 ∷ clear d (h 0 (lit< tt)) j ∷ a ∷ b ∷ clear lo (h 3 (lit< tt)) j ∷ clear hi (h 4 (lit< tt)) j ∷ []
  bytes_back (suc (suc (suc zero))) p q h = λ j. 3 ∷ d ∷ clear a (h 1 (lit< tt)) j ∷ clear b (h 2 (lit< tt)) j ∷ two_of_lem lo hi low j
  bytes_back (suc (suc (suc (suc zero)))) p q h = λ j. 4 ∷ d ∷ a ∷ b ∷ clear lo (h 3 (lit< tt)) j ∷ clear hi (h 4 (lit< tt)) j ∷ []
  bytes_back (suc (suc (suc (suc (suc zero))))) p q h = λ j. 5 ∷ d ∷ a ∷ b ∷ clear lo (h 3 (lit< tt)) j ∷ clear hi (h 4 (lit< tt)) j ∷ []
  bytes_back (suc (suc (suc (suc (suc (suc zero)))))) p q h = λ j. 6 ∷ d ∷ a ∷ b ∷ clear lo (h 3 (lit< tt)) j ∷ clear hi (h 4 (lit< tt)) j ∷ []
  bytes_back (suc (suc (suc (suc (suc (suc (suc zero))))))) p q h = λ j. 7 ∷ clear d (h 0 (lit< tt)) j ∷ a ∷ clear b (h 2 (lit< tt)) j ∷ two_of_lem lo hi low j
  bytes_back (suc (suc (suc (suc (suc (suc (suc (suc zero)))))))) p q h = λ j. 8 ∷ clear d (h 0 (lit< tt)) j ∷ clear a (h 1 (lit< tt)) j ∷ clear b (h 2 (lit< tt)) j ∷ two_of_lem lo hi low j
  bytes_back (suc (suc (suc (suc (suc (suc (suc (suc (suc zero))))))))) p q h = λ j. 9 ∷ clear d (h 0 (lit< tt)) j ∷ a ∷ clear b (h 2 (lit< tt)) j ∷ clear lo (h 3 (lit< tt)) j ∷ clear hi (h 4 (lit< tt)) j ∷ []
  bytes_back (suc (suc (suc (suc (suc (suc (suc (suc (suc (suc zero)))))))))) p q h = λ j. 10 ∷ clear d (h 0 (lit< tt)) j ∷ a ∷ clear b (h 2 (lit< tt)) j ∷ clear lo (h 3 (lit< tt)) j ∷ clear hi (h 4 (lit< tt)) j ∷ []
  bytes_back (suc (suc (suc (suc (suc (suc (suc (suc (suc (suc (suc op))))))))))) p q h = absurd (omega arith)
