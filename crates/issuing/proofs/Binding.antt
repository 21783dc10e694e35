-- Registers bound, and the address among them. Assumes nothing.
use mathlib.Core.Path.{◌≡◌, refl, sym, ◌∙◌, ap}
use mathlib.Core.Logic.{⊎_elim}
use mathlib.Core.Bool.{Bool, true, false, cond, ◌&&◌, false≢true}
use mathlib.Core.List.{List, [], ◌∷◌, map}
use mathlib.Core.Option.{Option, none}
use Prim.Native.Nat.{ℕ, zero, suc, ◌+◌, ◌*◌, ◌/◌, ◌%◌, ◌≤◌, ◌<◌}
use native.Mathlib.Omega.{arith}
use native.Mathlib.Decide.{dec_lt}
use lib.Dec.{leb}
use lib.ListN.{length, get_or, get_or-eq_default}
use borrow.Author.Tests.{lt-ltb, leb-false}
use Rattle.words.specs.Small.{or_zero}
use Rattle.words.proofs.Bools.{decide}
use Rattle.cases.specs.declared.Case.{Case}
use Rattle.cases.specs.declared.Instr.{Instr}
use Rattle.cases.specs.declared.Instr.TheVariants.{Empty, Read, Write, Local, Branch, Goto, Acquire, Release}
use Rattle.cases.specs.declared.Expr.{Expr}
use Rattle.cases.specs.declared.Expr.TheVariants.{Constant, Sum, Difference, Equal}
use Rattle.cases.specs.Instruction.{instr_of}
use Rattle.rules.specs.Kinds.{reads, kind, accesses}
use Rattle.rules.specs.State.{State, Name, start, value_of, kind_of}
use Rattle.rules.specs.Issue.{here, next, address, new_action}
use Rattle.machine.specs.Word.{instr_from}
use Rattle.machine.specs.Shown.{name_of, names_of, inputs_of, shown_entry}
use Rattle.machine.specs.Fit.{Fine, FineExpr}
use Rattle.issuing.specs.Issued.{Low, fresh}

-- a name is low wherever it is looked for
pub name_low : (names : List ℕ) (n : ℕ) → length names ≡ 32 → Low names → get_or names n 0 < 80
name_low names n long low = elim (dec_lt n 32) [ yes h ↦ low n h | no h ↦ let q : get_or names n 0 ≡ 0 = get_or-eq_default names 0 (omega (arith, long)) in omega arith ]

-- at most two registers, each below 8
abbrev pub Regs : List ℕ → Type 0
Regs [] = Unit {0}
Regs (a ∷ []) = a < 8
Regs (a ∷ b ∷ []) = (a < 8) × (b < 8)
Regs (a ∷ b ∷ d ∷ more) = ⊥

fine_expr : (d : ℕ) (e : Expr) → FineExpr e → Regs (reads (Local d e))
fine_expr d (Constant n) h = tt
fine_expr d (Sum a b) h = h
fine_expr d (Difference a b) h = h
fine_expr d (Equal a b) h = h

fine_reads : (i : Instr) → Fine i → Regs (reads i)
fine_reads Empty h = absurd h
fine_reads (Read d a) h = h.1
fine_reads (Write a b) h = h
fine_reads (Local d e) h = fine_expr d e h.1
fine_reads (Branch a l) h = h.0
fine_reads (Goto l) h = tt
fine_reads (Acquire a) h = h
fine_reads (Release a) h = h

op_reads : (op d a b k : ℕ) → a < 8 → b < 8 → Regs (reads (instr_of op d a b k))
op_reads zero d a b k la lb = tt
op_reads (suc zero) d a b k la lb = la
op_reads (suc (suc zero)) d a b k la lb = (la, lb)
op_reads (suc (suc (suc zero))) d a b k la lb = tt
op_reads (suc (suc (suc (suc zero)))) d a b k la lb = (la, lb)
op_reads (suc (suc (suc (suc (suc zero))))) d a b k la lb = (la, lb)
op_reads (suc (suc (suc (suc (suc (suc zero)))))) d a b k la lb = (la, lb)
op_reads (suc (suc (suc (suc (suc (suc (suc zero))))))) d a b k la lb = la
op_reads (suc (suc (suc (suc (suc (suc (suc (suc zero)))))))) d a b k la lb = tt
op_reads (suc (suc (suc (suc (suc (suc (suc (suc (suc zero))))))))) d a b k la lb = la
op_reads (suc (suc (suc (suc (suc (suc (suc (suc (suc (suc zero)))))))))) d a b k la lb = la
op_reads (suc (suc (suc (suc (suc (suc (suc (suc (suc (suc (suc op))))))))))) d a b k la lb = tt

-- as those that an instruction reads are, whatever number it is of
pub from-reads : (n : ℕ) → Regs (reads (instr_from n))
from-reads n = op_reads (n % 16) _ (n / 16 / 8 % 8) (n / 16 / 8 / 8 % 8) _ (omega arith) (omega arith)

module _ (c : Case) (s : State) (p : ℕ) (names : List ℕ) (low : p < 4) (same : s.names ≡ names_of c names) where
  name_is : (r : ℕ) → r < 8 → name_of c (get_or names (8 * p + r) 0) ≡ s.names p r
  name_is r h = sym (ap (λ (f : ℕ → ℕ → Name). f p r) same ∙ rw (lt-ltb p 4 low, lt-ltb r 8 h))

  inputs_list : (l : List ℕ) → Regs l → inputs_of c l (get_or names (8 * p + get_or l 0 0) 0) (get_or names (8 * p + get_or l 1 0) 0) ≡ map (s.names p) l
  inputs_list [] h = refl
  inputs_list (a ∷ []) h = ap (λ (n : Name). n ∷ []) (name_is a h)
  inputs_list (a ∷ b ∷ []) h = let u = name_is a h.0 in let v = name_is b h.1 in λ j. u j ∷ v j ∷ []
  inputs_list (a ∷ b ∷ d ∷ more) h = absurd h

  -- the address register of a read or a write
  address_is : (i : Instr) → Regs (reads i) → accesses (kind i) ≡ true → name_of c (get_or names (8 * p + get_or (reads i) 0 0) 0) ≡ get_or (map (s.names p) (reads i)) 0 (start none)
  address_is Empty f h = absurd (false≢true h)
  address_is (Read d a) f h = name_is a f
  address_is (Write a b) f h = name_is a f.0
  address_is (Local d e) f h = absurd (false≢true h)
  address_is (Branch a l) f h = absurd (false≢true h)
  address_is (Goto l) f h = absurd (false≢true h)
  address_is (Acquire a) f h = absurd (false≢true h)
  address_is (Release a) f h = absurd (false≢true h)

  -- nothing else looks at it
  address_only : {A : Type 0} (f : Option ℕ → A) (d : A) (i : Instr) → Regs (reads i)
      → cond (accesses (kind i)) (f (value_of s (name_of c (get_or names (8 * p + get_or (reads i) 0 0) 0)))) d ≡ cond (accesses (kind i)) (f (value_of s (get_or (map (s.names p) (reads i)) 0 (start none)))) d
  address_only f d i regs = ⊎_elim (λ k. rw k (ap (λ (n : Name). f (value_of s n)) (address_is i regs k))) (λ k. rw k) (decide (accesses (kind i)))

  and_cond : (a b : Bool) → (a && b) ≡ cond a b false
  and_cond true b = refl
  and_cond false b = refl

  pub address_test : (f : Option ℕ → Bool) (i : Instr) → Regs (reads i)
      → (accesses (kind i) && f (value_of s (name_of c (get_or names (8 * p + get_or (reads i) 0 0) 0)))) ≡ (accesses (kind i) && f (value_of s (get_or (map (s.names p) (reads i)) 0 (start none))))
  address_test f i regs = and_cond (accesses (kind i)) _ ∙ address_only f false i regs ∙ sym (and_cond (accesses (kind i)) _)

  pub entry_fresh : (i : Instr) (place q x y l : ℕ) → Fine i → q ≡ p → x ≡ get_or names (8 * p + get_or (reads i) 0 0) 0 → y ≡ get_or names (8 * p + get_or (reads i) 1 0) 0
      → l ≡ cond (accesses (kind i)) (or_zero (value_of s (name_of c x)) % 8) 0
      → shown_entry c (record { instr = i; proc = q; place = place; first = x; second = y; loc = l; done = false; result = 0 }) ≡ fresh s p place i
  entry_fresh i place q x y l fine hq hx hy hl =
      let u : inputs_of c (reads i) x y ≡ map (s.names p) (reads i) = rw (hx, hy) (inputs_list (reads i) (fine_reads i fine)) in
      let w = hl ∙ ap (λ (n : ℕ). cond (accesses (kind i)) (or_zero (value_of s (name_of c n)) % 8) 0) hx ∙ address_only (λ o. or_zero o % 8) 0 i (fine_reads i fine) in
      λ j. record { proc = hq j; place = place; instr = i; inputs = u j; loc = w j; result = none }

-- an address that is below the number of locations
module _ (c : Case) (s : State) (p : ℕ) (few : c.locs ≤ 8) (low : (accesses (kind (next c s p)) && leb c.locs (or_zero (address c s p))) ≡ false) where
  small : (b : Bool) (x : ℕ) → (b && leb c.locs x) ≡ false → (cond b (x % 8) 0 ≡ cond b x 0) × (cond b x 0 < 8)
  small true x h = let q : x < c.locs = leb-false c.locs x h in (omega arith, omega arith)
  small false x h = (refl, omega arith)

  pub fresh_is : fresh s p (here c s p) (next c s p) ≡ new_action c s p
  fresh_is = let u = (small (accesses (kind (next c s p))) (or_zero (address c s p)) low).0 in λ j. record { proc = p; place = here c s p; instr = next c s p; inputs = map (s.names p) (reads (next c s p)); loc = u j; result = none }

  pub new_present : accesses (kind_of (new_action c s p)) ≡ true → (new_action c s p).loc < c.locs
  new_present = below (accesses (kind (next c s p))) (or_zero (address c s p)) low
    where
      below : (b : Bool) (x : ℕ) → (b && leb c.locs x) ≡ false → b ≡ true → cond b x 0 < c.locs
      below true x h k = leb-false c.locs x h
      below false x h k = absurd (false≢true k)

  pub new_low : (new_action c s p).loc < 8
  new_low = (small (accesses (kind (next c s p))) (or_zero (address c s p)) low).1
