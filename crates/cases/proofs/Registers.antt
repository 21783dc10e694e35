-- Registers that are set and registers that are read, as the code finds them. Assumes nothing.
use mathlib.Core.Path.{◌≡◌, refl, ap, sym, ◌∙◌}
use mathlib.Core.Bool.{Bool, true, false, ◌&&◌, ◌||◌, not}
use mathlib.Core.List.{List}
use Prim.Native.Nat.{ℕ, ◌+◌, ◌*◌, ◌-◌, ◌%◌}
use native.Mathlib.Numerals.{add-one}
use native.Mathlib.Omega.{arith}
use lib.Dec.{eqb}
use borrow.Author.Tests.{eq-eqb, ne_eqb}
use Rattle.words.specs.Small.{some_below}
use Rattle.words.specs.Sets.{has}
use Rattle.cases.specs.Instruction.{field_at, is_assigned, is_read}
use Rattle.cases.specs.Block.{within, proc_at, number_at, byte_at, byte, used, assigns_at, is_set, reads_at, bad19}

-- assigns_at
pub assigns_is : (s : List ℕ) (p n r op d : ℕ) (named : Bool) → named ≡ is_assigned (field_at op 0) → op ≡ byte s (92 + (72 * p + 6 * n)) → d ≡ byte s (93 + (72 * p + 6 * n)) → (used s p n && named && eqb d r) ≡ assigns_at s p n r
unfolding assigns_at
assigns_is s p n r op d named h e k =
    let q : 92 + (72 * p + 6 * n) ≡ 92 + 72 * p + 6 * n = omega arith in
    let q' : 93 + (72 * p + 6 * n) ≡ 93 + 72 * p + 6 * n = omega arith in
    let a = h ∙ ap (λ (o : ℕ). is_assigned (field_at o 0)) (e ∙ ap (byte s) q) in
    let b = ap (λ (x : ℕ). eqb x r) (k ∙ ap (byte s) q') in
    λ t. used s p n && a t && b t

-- is_set: one instruction more
module _ (s : List ℕ) (p r : ℕ) where
  abbrev pub among : ℕ → Bool
  among n = has (byte s (8 + p)) r || some_below n (λ n. assigns_at s p n r)

  or_none : (a : Bool) → a ≡ (a || false)
  or_none true = refl
  or_none false = refl

  or_more : (a b x : Bool) → (a || b || x) ≡ (a || (x || b))
  or_more true b x = refl
  or_more false true true = refl
  or_more false true false = refl
  or_more false false true = refl
  or_more false false false = refl

  pub set-none : (set : Bool) → set ≡ has (byte s (8 + p)) r → set ≡ among 0
  unfolding some_below
  set-none set h = h ∙ or_none _

  pub set_more : (set x : Bool) (n : ℕ) → set ≡ among n → x ≡ assigns_at s p n r → (set || x) ≡ among (n + 1)
  unfolding some_below
  set_more set x n h e = (λ t. h t || e t) ∙ or_more (has (byte s (8 + p)) r) (some_below n (λ n. assigns_at s p n r)) (assigns_at s p n r) ∙ ap among (sym (add-one n))

  pub set_all : (set : Bool) (n : ℕ) → set ≡ among n → n ≡ 12 → set ≡ is_set s p r
  unfolding is_set
  set_all set n h e = h ∙ ap among e

-- reads_at: the op, and a byte after it
module _ (op i : ℕ) where
  pub op_unread : (i - 92) % 6 ≡ 0 → false ≡ reads_at op i
  unfolding reads_at
  op_unread h = sym (ap (λ (b : Bool). not b && is_read (field_at op ((i - 92) % 6 - 1))) (eq-eqb ((i - 92) % 6) 0 h))

  pub field_read : (named : Bool) → ((i - 92) % 6 ≡ 0 → ⊥) → named ≡ is_read (field_at op ((i - 92) % 6 - 1)) → named ≡ reads_at op i
  unfolding reads_at
  field_read named h e = e ∙ sym (ap (λ (b : Bool). not b && is_read (field_at op ((i - 92) % 6 - 1))) (ne_eqb ((i - 92) % 6) 0 h))

-- bad19: a used instruction's register read, or none
module _ (s : List ℕ) (i : ℕ) where
  abbrev pub reading : Bool
  reading = within 92 380 i && used s (proc_at i) (number_at i) && reads_at (byte s (i - byte_at i)) i

  pub read_unset : reading ≡ true → not (is_set s (proc_at i) (byte s i)) ≡ bad19 s i
  unfolding bad19
  read_unset h = sym (ap (λ (b : Bool). b && not (is_set s (proc_at i) (byte s i))) h)

  pub not-reading : reading ≡ false → false ≡ bad19 s i
  unfolding bad19
  not-reading h = sym (ap (λ (b : Bool). b && not (is_set s (proc_at i) (byte s i))) h)
