-- Words and the entries that they hold. Assumes nothing.
use mathlib.Core.Path.{◌≡◌, refl, ◌∙◌, ap}
use mathlib.Core.Bool.{Bool, true, false, cond}
use Prim.Native.Nat.{ℕ, zero, suc, ◌+◌, ◌*◌, ◌-◌, ◌/◌, ◌%◌, ◌≤◌, ◌<◌}
use native.Mathlib.Omega.{arith}
use lib.Dec.{eqb, ltb}
use borrow.Author.Tests.{lt-ltb, le-ltb, ne_eqb}
use Rattle.cases.specs.declared.Case.{Case}
use Rattle.cases.specs.declared.Instr.{Instr}
use Rattle.cases.specs.declared.Instr.TheVariants.{Empty, Read, Write, Local, Branch, Goto, Acquire, Release}
use Rattle.cases.specs.declared.Expr.{Expr}
use Rattle.cases.specs.declared.Expr.TheVariants.{Constant, Sum, Difference, Equal}
use Rattle.cases.specs.Instruction.{instr_of}
use Rattle.rules.specs.Kinds.{kind}
use Rattle.machine.specs.declared.Entry.{Entry}
use Rattle.machine.specs.Fit.{Fine, FineExpr}
use Rattle.machine.specs.Word.{instr_from, coded, local_code, code_of, entry_of, Packable}
use Rattle.machine.specs.Valid.{ValidEntry}

-- the fields of a number, digit by digit
fields : (op d a b l y z u : ℕ) → op < 16 → d < 8 → a < 8 → b < 8 → (op ≡ 3 → ⊥) → y ≡ d + 8 * z → z ≡ a + 8 * u → u ≡ b + 8 * l → instr_from (op + 16 * y) ≡ instr_of op d a b l
fields op d a b l y z u lo ld la lb other hy hz hu =
    let p0 : (op + 16 * y) % 16 ≡ op = omega arith in
    let q0 : (op + 16 * y) / 16 ≡ y = omega arith in
    let p1 : y % 8 ≡ d = omega arith in
    let q1 : y / 8 ≡ z = omega arith in
    let p2 : z % 8 ≡ a = omega arith in
    let q2 : z / 8 ≡ u = omega arith in
    let p3 : u % 8 ≡ b = omega arith in
    let q3 : u / 8 ≡ l = omega arith in
    rw (p0, q0, p1, q1, p2, q2, p3, q3, ne_eqb op 3 other)

decoded : (op d a b l : ℕ) → op < 16 → d < 8 → a < 8 → b < 8 → l < 16 → (op ≡ 3 → ⊥) → instr_from (coded op d a b l) ≡ instr_of op d a b l
decoded op d a b l lo ld la lb ll other =
    let md : d % 8 ≡ d = omega arith in
    let ma : a % 8 ≡ a = omega arith in
    let mb : b % 8 ≡ b = omega arith in
    let ml : l % 16 ≡ l = omega arith in
    let same : coded op d a b l ≡ op + 16 * (d + 8 * (a + 8 * (b + 8 * l))) = rw (md, ma, mb, ml) in
    ap instr_from same ∙ fields op d a b l (d + 8 * (a + 8 * (b + 8 * l))) (a + 8 * (b + 8 * l)) (b + 8 * l) lo ld la lb other refl refl refl

constant : (d n y : ℕ) → d < 8 → y ≡ d % 8 + 8 * n → instr_from (3 + 16 * y) ≡ Local d (Constant n)
constant d n y ld hy =
    let p0 : (3 + 16 * y) % 16 ≡ 3 = omega arith in
    let q0 : (3 + 16 * y) / 16 ≡ y = omega arith in
    let p1 : y % 8 ≡ d = omega arith in
    let q1 : y / 8 ≡ n = omega arith in
    rw (p0, q0, p1, q1)

local_back : (d : ℕ) (e : Expr) → d < 8 → FineExpr e → instr_from (local_code d e) ≡ Local d e
local_back d (Constant n) h f = constant d n (d % 8 + 8 * n) h refl
local_back d (Sum a b) h f = decoded 4 d a b 0 (omega arith) h f.0 f.1 (omega arith) (λ q. omega arith)
local_back d (Difference a b) h f = decoded 5 d a b 0 (omega arith) h f.0 f.1 (omega arith) (λ q. omega arith)
local_back d (Equal a b) h f = decoded 6 d a b 0 (omega arith) h f.0 f.1 (omega arith) (λ q. omega arith)

pub code_back : (i : Instr) → Fine i → instr_from (code_of i) ≡ i
code_back Empty f = absurd f
code_back (Read d a) f = decoded 1 d a 0 0 (omega arith) f.0 f.1 (omega arith) (omega arith) (λ q. omega arith)
code_back (Write a b) f = decoded 2 0 a b 0 (omega arith) (omega arith) f.0 f.1 (omega arith) (λ q. omega arith)
code_back (Local d e) f = local_back d e f.0 f.1
code_back (Branch a l) f = decoded 7 0 a 0 l (omega arith) (omega arith) f.0 (omega arith) (omega (arith, f.1)) (λ q. omega arith)
code_back (Goto l) f = decoded 8 0 0 0 l (omega arith) (omega arith) (omega arith) (omega arith) (omega (arith, f)) (λ q. omega arith)
code_back (Acquire a) f = decoded 9 0 a 0 0 (omega arith) (omega arith) f (omega arith) (omega arith) (λ q. omega arith)
code_back (Release a) f = decoded 10 0 a 0 0 (omega arith) (omega arith) f (omega arith) (omega arith) (λ q. omega arith)

done_digit : (done : Bool) (n : ℕ) → eqb ((cond done 1 0 + 2 * n) % 2) 1 ≡ done
done_digit true n = let q : (1 + 2 * n) % 2 ≡ 1 = omega arith in rw q
done_digit false n = let q : (0 + 2 * n) % 2 ≡ 0 = omega arith in rw q

done_rest : (done : Bool) (n : ℕ) → (cond done 1 0 + 2 * n) / 2 ≡ n
done_rest true n = omega arith
done_rest false n = omega arith

-- a word digit by digit: its instruction's number, then what is left at each field
module _ (e : Entry) (can : Packable e) (low : e.result < 65536) (x y z u v t w : ℕ) where
  digits-back : x ≡ code_of e.instr → x < 8388608 → y ≡ e.proc + 4 * z → z ≡ e.place + 16 * u → u ≡ e.first + 128 * v → v ≡ e.second + 128 * t → t ≡ e.loc + 8 * w → w ≡ cond e.done 1 0 + 2 * e.result → entry_of (x + 8388608 * y) ≡ e
  unfolding entry_of
  digits-back hx lx hy hz hu hv ht hw =
      let p0 : (x + 8388608 * y) % 8388608 ≡ x = omega arith in
      let q0 : (x + 8388608 * y) / 8388608 ≡ y = omega arith in
      let c1 = can.proc in
      let c2 = can.place in
      let c3 = can.first in
      let c4 = can.second in
      let c5 = can.loc in
      let p1 : y % 4 ≡ e.proc = omega arith in
      let q1 : y / 4 ≡ z = omega arith in
      let p2 : z % 16 ≡ e.place = omega arith in
      let q2 : z / 16 ≡ u = omega arith in
      let p3 : u % 128 ≡ e.first = omega arith in
      let q3 : u / 128 ≡ v = omega arith in
      let p4 : v % 128 ≡ e.second = omega arith in
      let q4 : v / 128 ≡ t = omega arith in
      let p5 : t % 8 ≡ e.loc = omega arith in
      let q5 : t / 8 ≡ w = omega arith in
      let p7 : e.result % 65536 ≡ e.result = omega arith in
      rw (p0, q0, p1, q1, p2, q2, p3, q3, p4, q4, p5, q5, hw, done_digit e.done e.result, done_rest e.done e.result, p7, hx, code_back e.instr can.fine)

pub packed_back : (e : Entry) (x w : ℕ) → Packable e → e.result < 65536 → x ≡ code_of e.instr → x < 8388608 → w ≡ cond e.done 1 0 + 2 * e.result → entry_of (x + 8388608 * (e.proc + 4 * (e.place + 16 * (e.first + 128 * (e.second + 128 * (e.loc + 8 * w)))))) ≡ e
packed_back e x w can low hx lx hw = digits-back e can low x (e.proc + 4 * (e.place + 16 * (e.first + 128 * (e.second + 128 * (e.loc + 8 * w))))) (e.place + 16 * (e.first + 128 * (e.second + 128 * (e.loc + 8 * w)))) (e.first + 128 * (e.second + 128 * (e.loc + 8 * w))) (e.second + 128 * (e.loc + 8 * w)) (e.loc + 8 * w) w hx lx refl refl refl refl refl hw

-- what a word holds can be packed again
module _ (c : Case) (w : ℕ) where
  pub packable : ValidEntry c (entry_of w) → Packable (entry_of w)
  unfolding entry_of
  packable v = let place = v.place in record { fine = v.fine; proc = omega arith; place = omega arith; first = omega arith; second = omega arith; loc = v.loc }

-- the kind by the op
abbrev kind_by : ℕ → ℕ
kind_by op = cond (ltb op 3) op (cond (ltb op 7) 3 (cond (ltb op 11) (op - 3) 0))

past : (op : ℕ) → 11 ≤ op → kind_by op ≡ 0
past op h = rw (le-ltb op 3 (omega arith), le-ltb op 7 (omega arith), le-ltb op 11 h)

kind_by_lem : (op d a b k : ℕ) → kind_by op ≡ kind (instr_of op d a b k)
kind_by_lem zero d a b k = refl
kind_by_lem (suc zero) d a b k = refl
kind_by_lem (suc (suc zero)) d a b k = refl
kind_by_lem (suc (suc (suc zero))) d a b k = refl
kind_by_lem (suc (suc (suc (suc zero)))) d a b k = refl
kind_by_lem (suc (suc (suc (suc (suc zero))))) d a b k = refl
kind_by_lem (suc (suc (suc (suc (suc (suc zero)))))) d a b k = refl
kind_by_lem (suc (suc (suc (suc (suc (suc (suc zero))))))) d a b k = refl
kind_by_lem (suc (suc (suc (suc (suc (suc (suc (suc zero)))))))) d a b k = refl
kind_by_lem (suc (suc (suc (suc (suc (suc (suc (suc (suc zero))))))))) d a b k = refl
kind_by_lem (suc (suc (suc (suc (suc (suc (suc (suc (suc (suc zero)))))))))) d a b k = refl
kind_by_lem (suc (suc (suc (suc (suc (suc (suc (suc (suc (suc (suc op))))))))))) d a b k = past (suc (suc (suc (suc (suc (suc (suc (suc (suc (suc (suc op))))))))))) (omega arith)

kind_of_op : (w : ℕ) → kind_by (w % 16) ≡ kind (entry_of w).instr
unfolding entry_of
kind_of_op w = let q : w % 16 ≡ w % 8388608 % 16 = omega arith in ap kind_by q ∙ kind_by_lem (w % 8388608 % 16) _ _ _ _

module _ (w : ℕ) where
  pub kind_first : w % 16 < 3 → w % 16 ≡ kind (entry_of w).instr
  kind_first h = rw (lt-ltb (w % 16) 3 h) at (kind_of_op w)

  pub kind_local : 3 ≤ w % 16 → w % 16 < 7 → 3 ≡ kind (entry_of w).instr
  kind_local g h = rw (le-ltb (w % 16) 3 g, lt-ltb (w % 16) 7 h) at (kind_of_op w)

  pub kind_later : 7 ≤ w % 16 → w % 16 < 11 → w % 16 - 3 ≡ kind (entry_of w).instr
  kind_later g h = rw (le-ltb (w % 16) 3 (omega arith), le-ltb (w % 16) 7 g, lt-ltb (w % 16) 11 h) at (kind_of_op w)

  pub kind-none : 11 ≤ w % 16 → 0 ≡ kind (entry_of w).instr
  kind-none g = rw (le-ltb (w % 16) 3 (omega arith), le-ltb (w % 16) 7 (omega arith), le-ltb (w % 16) 11 g) at (kind_of_op w)
