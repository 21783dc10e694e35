-- A sheet shows its draft after each accepted line. Assumes nothing.
use mathlib.Core.Path.{◌≡◌, refl, ap, sym, ◌∙◌, subst}
use mathlib.Core.Logic.{⊎_elim}
use mathlib.Core.Bool.{Bool, true, false, ◌||◌, cond}
use mathlib.Core.List.{List}
use mathlib.Core.Option.{Option, none, some}
use Rattle.std.specs.Prelude.{Some}
use Prim.Native.Nat.{ℕ, zero, suc, ◌+◌, ◌*◌, ◌-◌, ◌^◌, ◌<◌, ◌≤◌, max}
use native.Mathlib.Omega.{arith}
use native.Mathlib.Numerals.{add-one}
use lib.Dec.{eqb, ltb, leb}
use lib.ListN.{get_or, set, length-set}
use lib.Seq.{get_or-set_same, get_or-set_other}
use borrow.Author.Tests.{eqb-true, eqb-false, lt-ltb, le-leb}
use Rattle.words.specs.Small.{each, put, or_zero}
use Rattle.words.proofs.Bools.{decide, cond-true, cond-false, put_same, put_other}
use Rattle.words.proofs.Lists.{each_is, each_at, each_length, each_same}
use Rattle.cases.specs.declared.Instr.{Instr}
use Rattle.cases.specs.declared.Instr.TheVariants.{Empty}
use Rattle.cases.specs.declared.Slot.{Slot}
use Rattle.judging.specs.Draft.{Draft, with_reg, with_op, reg_ok, op_ok, from, label_of, low_instr, mask_of, marks, step}
use Rattle.texts.specs.Lines.{op}
use Rattle.drafting.specs.Sheet.{Shows, Holds}
use Rattle.drafting.specs.declared.Sheet.{Sheet}
use Rattle.judging.proofs.Finished.{mask_small}
use Rattle.judging.proofs.Small.{make4, make5, same?, put_case}

pub accepted_by : (t : Bool) (e : Draft) (s : Sheet) → t ≡ true → Shows s e → Holds (Some s) (cond t (some e) none)
accepted_by t e s h q = subst (λ (o : Option Draft). Holds (Some s) o) (sym (cond-true t (some e) none h)) q

-- a store in a list that is made of a function
pub each_set : {A : Type 0} (d : A) (f : ℕ → A) (n i : ℕ) (v : A) → i < n → set (each n f) i v ≡ each n (put f i v)
each_set d f n i v h =
    each_is (put f i v) d (set (each n f) i v) n (length-set (each n f) i v ∙ each_length f n)
    (λ j b. ⊎_elim
    (λ e. ap (λ (k : ℕ). get_or (set (each n f) i v) k d) e ∙ get_or-set_same (each n f) i v d (subst (λ (m : ℕ). i < m) (sym (each_length f n)) h) ∙ sym (put_same f i j v e))
    (λ e. get_or-set_other (each n f) i j v d e ∙ each_at f n j d b ∙ sym (put_other f i j v e))
    (same? j i))

pub reg_ok_lem : (d : Draft) (p k v : ℕ) → d.next ≤ 8 + (8 * p + k) → p < d.procs → k < 8 → v < 65536 → reg_ok d p k v ≡ true
reg_ok_lem d p k v a b x y = make4 (leb d.next (8 + (8 * p + k))) (ltb p d.procs) (ltb k 8) (ltb v 65536) (le-leb d.next (8 + (8 * p + k)) a) (lt-ltb p d.procs b) (lt-ltb k 8 x) (lt-ltb v 65536 y)

-- an instruction
pub shows_op : (s : Sheet) (p i n : ℕ) (x : Instr) (d : Draft) → p < 4 → i < 12 → i ≡ d.next - from p → n ≡ max s.need (from p + label_of x) → Shows s d → Shows (record { procs = s.procs; locs = s.locs; dropped = s.dropped; next = from p + i + 1; need = n; counts = set s.counts p (i + 1); masks = s.masks; presets = s.presets; memory = s.memory; code = set s.code (12 * p + i) (record { instr = x }) }) (with_op d p i x)
shows_op s p i n x d h b q e sh =
    let y : i + 1 ≡ suc i = add-one i in
    record {
      procs = sh.procs;
      locs = sh.locs;
      dropped = sh.dropped;
      next = omega arith;
      need = e ∙ ap (λ (m : ℕ). max m (from p + label_of x)) sh.need;
      counts = ap (λ (l : List ℕ). set l p (i + 1)) sh.counts ∙ each_set 0 d.counts 4 p (i + 1) h ∙ ap (λ (m : ℕ). each 4 (put d.counts p m)) y;
      masks = sh.masks;
      presets = sh.presets;
      memory = sh.memory;
      code = ap (λ (l : List Slot). set l (12 * p + i) (record { instr = x })) sh.code ∙ each_set (record { instr = Empty }) (λ n. record { instr = d.instrs n }) 48 (12 * p + i) (record { instr = x }) (omega arith) ∙ each_same (put (λ n. record { instr = d.instrs n }) (12 * p + i) (record { instr = x })) (λ n. record { instr = put d.instrs (12 * p + i) x n }) 48 (λ k l. slots k);
      few = sh.few;
      small = sh.small;
      free = λ k l. sh.free k (omega arith);
    }
  where
    slots : (k : ℕ) → ◌≡◌ {A = Slot} (put (λ n. record { instr = d.instrs n }) (12 * p + i) (record { instr = x }) k) (record { instr = put d.instrs (12 * p + i) x k })
    slots k = go (eqb k (12 * p + i))
      where
        go : (t : Bool) → ◌≡◌ {A = Slot} (cond t (record { instr = x }) (record { instr = d.instrs k })) (record { instr = cond t x (d.instrs k) })
        go true = refl
        go false = refl

-- a bit more in a mask

module _ (f : ℕ → Option ℕ) (p : ℕ) (v : ℕ) where
  bit_put : (k j : ℕ) → marks (put f (8 * p + k) (some v) (8 * p + j)) ≡ cond (eqb j k) 1 (marks (f (8 * p + j)))
  bit_put k j = ⊎_elim (λ h. ap marks (put_same f (8 * p + k) (8 * p + j) (some v) (omega (arith, eqb-true j k h))) ∙ sym (cond-true (eqb j k) 1 (marks (f (8 * p + j))) h)) (λ h. ap marks (put_other f (8 * p + k) (8 * p + j) (some v) (λ e. absurd (omega (arith, eqb-false j k h)))) ∙ sym (cond-false (eqb j k) 1 (marks (f (8 * p + j))) h)) (decide (eqb j k))

  first_put : (k : ℕ) → marks (put f (8 * p + k) (some v) (8 * p)) ≡ cond (eqb 0 k) 1 (marks (f (8 * p)))
  first_put k = let e : 8 * p + 0 ≡ 8 * p = omega arith in subst (λ (n : ℕ). marks (put f (8 * p + k) (some v) n) ≡ cond (eqb 0 k) 1 (marks (f n))) e (bit_put k 0)

  mask_sum : (k : ℕ) → k < 8 → marks (f (8 * p + k)) ≡ 0 → marks (f (8 * p)) ≡ marks (f (8 * p + 0)) → mask_of (put f (8 * p + k) (some v)) (8 * p) ≡ mask_of f (8 * p) + 2 ^ k
  mask_sum zero h z y = omega (arith, first_put 0, bit_put 0 1, bit_put 0 2, bit_put 0 3, bit_put 0 4, bit_put 0 5, bit_put 0 6, bit_put 0 7)
  mask_sum (suc zero) h z y = omega (arith, first_put 1, bit_put 1 1, bit_put 1 2, bit_put 1 3, bit_put 1 4, bit_put 1 5, bit_put 1 6, bit_put 1 7)
  mask_sum (suc (suc zero)) h z y = omega (arith, first_put 2, bit_put 2 1, bit_put 2 2, bit_put 2 3, bit_put 2 4, bit_put 2 5, bit_put 2 6, bit_put 2 7)
  mask_sum (suc (suc (suc zero))) h z y = omega (arith, first_put 3, bit_put 3 1, bit_put 3 2, bit_put 3 3, bit_put 3 4, bit_put 3 5, bit_put 3 6, bit_put 3 7)
  mask_sum (suc (suc (suc (suc zero)))) h z y = omega (arith, first_put 4, bit_put 4 1, bit_put 4 2, bit_put 4 3, bit_put 4 4, bit_put 4 5, bit_put 4 6, bit_put 4 7)
  mask_sum (suc (suc (suc (suc (suc zero))))) h z y = omega (arith, first_put 5, bit_put 5 1, bit_put 5 2, bit_put 5 3, bit_put 5 4, bit_put 5 5, bit_put 5 6, bit_put 5 7)
  mask_sum (suc (suc (suc (suc (suc (suc zero)))))) h z y = omega (arith, first_put 6, bit_put 6 1, bit_put 6 2, bit_put 6 3, bit_put 6 4, bit_put 6 5, bit_put 6 6, bit_put 6 7)
  mask_sum (suc (suc (suc (suc (suc (suc (suc zero))))))) h z y = omega (arith, first_put 7, bit_put 7 1, bit_put 7 2, bit_put 7 3, bit_put 7 4, bit_put 7 5, bit_put 7 6, bit_put 7 7)
  mask_sum (suc (suc (suc (suc (suc (suc (suc (suc k)))))))) h z y = absurd (omega arith)

  pub mask_put : (k : ℕ) → k < 8 → f (8 * p + k) ≡ none → mask_of (put f (8 * p + k) (some v)) (8 * p) ≡ mask_of f (8 * p) + 2 ^ k
  mask_put k h z = let e : 8 * p ≡ 8 * p + 0 = omega arith in mask_sum k h (ap marks z) (ap (λ (n : ℕ). marks (f n)) e)

  pub mask_other : (k q : ℕ) → k < 8 → (q ≡ p → ⊥) → mask_of (put f (8 * p + k) (some v)) (8 * q) ≡ mask_of f (8 * q)
  mask_other k q h n = λ t. bit (8 * q) (omega arith) t + (2 * bit (8 * q + 1) (omega arith) t + (4 * bit (8 * q + 2) (omega arith) t + (8 * bit (8 * q + 3) (omega arith) t + (16 * bit (8 * q + 4) (omega arith) t + (32 * bit (8 * q + 5) (omega arith) t + (64 * bit (8 * q + 6) (omega arith) t + 128 * bit (8 * q + 7) (omega arith) t))))))
    where
      bit : (m : ℕ) → (m ≡ 8 * p + k → ⊥) → marks (put f (8 * p + k) (some v) m) ≡ marks (f m)
      bit m e = ap marks (put_other f (8 * p + k) m (some v) e)

-- a preset
pub shows_reg : (s : Sheet) (p k v m : ℕ) (d : Draft) → p < 4 → k < 8 → s.next ≤ 8 + (8 * p + k) → (get_or s.masks p 0 + 2 ^ k < 256 → m ≡ get_or s.masks p 0 + 2 ^ k) → Shows s d → Shows (record { procs = s.procs; locs = s.locs; dropped = s.dropped; next = 8 + (8 * p + k) + 1; need = s.need; counts = s.counts; masks = set s.masks p m; presets = set s.presets (8 * p + k) v; memory = s.memory; code = s.code }) (with_reg d (8 * p + k) v)
shows_reg s p k v m d hp hk n em sh =
    let none_yet = sh.free (8 * p + k) (omega (arith, sh.next)) in
    let old : get_or s.masks p 0 ≡ mask_of d.presets (8 * p) = ap (λ (l : List ℕ). get_or l p 0) sh.masks ∙ each_at (λ p. mask_of d.presets (8 * p)) 4 p 0 hp in
    let sum = mask_put d.presets p v k hk none_yet in
    let fits : get_or s.masks p 0 + 2 ^ k < 256 = subst (λ (x : ℕ). x < 256) (sym (ap (λ (x : ℕ). x + 2 ^ k) old ∙ sym sum)) (mask_small (put d.presets (8 * p + k) (some v)) (8 * p)) in
    let new : m ≡ mask_of (put d.presets (8 * p + k) (some v)) (8 * p) = em fits ∙ ap (λ (x : ℕ). x + 2 ^ k) old ∙ sym sum in
    record {
      procs = sh.procs;
      locs = sh.locs;
      dropped = sh.dropped;
      next = omega arith;
      need = sh.need;
      counts = sh.counts;
      masks =
          ap (λ (l : List ℕ). set l p m) sh.masks
          ∙ each_set 0 (λ p. mask_of d.presets (8 * p)) 4 p m hp
          ∙ each_same (put (λ p. mask_of d.presets (8 * p)) p m) (λ q. mask_of (put d.presets (8 * p + k) (some v)) (8 * q)) 4
          (λ q b. put_case (λ (x : ℕ). x ≡ mask_of (put d.presets (8 * p + k) (some v)) (8 * q)) (λ p. mask_of d.presets (8 * p)) p m q (λ e. new ∙ ap (λ (q : ℕ). mask_of (put d.presets (8 * p + k) (some v)) (8 * q)) (sym e)) (λ e. sym (mask_other d.presets p v k q hk e)));
      presets =
          ap (λ (l : List ℕ). set l (8 * p + k) v) sh.presets
          ∙ each_set 0 (λ n. or_zero (d.presets n)) 32 (8 * p + k) v (omega arith)
          ∙ each_same (put (λ n. or_zero (d.presets n)) (8 * p + k) v) (λ n. or_zero (put d.presets (8 * p + k) (some v) n)) 32 (λ n b. values n);
      memory = sh.memory;
      code = sh.code;
      few = sh.few;
      small = sh.small;
      free = λ j b. put_case (λ (o : Option ℕ). o ≡ none) d.presets (8 * p + k) (some v) j (λ e. absurd (omega arith)) (λ e. sh.free j (omega (arith, sh.next)));
    }
  where
    values : (n : ℕ) → put (λ n. or_zero (d.presets n)) (8 * p + k) v n ≡ or_zero (put d.presets (8 * p + k) (some v) n)
    values n = go (eqb n (8 * p + k))
      where
        go : (t : Bool) → cond t v (or_zero (d.presets n)) ≡ or_zero (cond t (some v) (d.presets n))
        go true = refl
        go false = refl

pub op_ok_lem : (d : Draft) (p i : ℕ) (x : Instr) → p < d.procs → i < 12 → low_instr x ≡ true → label_of x ≤ 12 → (ltb 0 i || leb d.need d.next) ≡ true → op_ok d p i x ≡ true
op_ok_lem d p i x a b e f g = make5 (ltb p d.procs) (ltb i 12) (low_instr x) (leb (label_of x) 12) (ltb 0 i || leb d.need d.next) (lt-ltb p d.procs a) (lt-ltb i 12 b) e (le-leb (label_of x) 12 f) g

pub op_accepted : (s : Sheet) (d : Draft) (p i : ℕ) (x : Instr) → i ≡ d.next - from p → op_ok d p i x ≡ true → Shows s (with_op d p i x) → Holds (Some s) (step d (op p x))
op_accepted s d p i x e h sh = subst (λ (i : ℕ). Holds (Some s) (cond (op_ok d p i x) (some (with_op d p i x)) none)) e (accepted_by (op_ok d p i x) (with_op d p i x) s h sh)
