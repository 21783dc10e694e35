-- What the code says of a byte of an instruction is what the definition says. Assumes nothing.
use mathlib.Core.Path.{◌≡◌, refl, sym, ap, ◌∙◌}
use denote.Enum.Bare.{sameb}
use mathlib.Core.Bool.{Bool, true, ◌||◌, false≢true}
use mathlib.Core.List.{List, [], ◌∷◌}
use Prim.Native.Nat.{ℕ, ◌+◌, ◌*◌, ◌-◌, ◌%◌, ◌<◌, ◌≤◌}
use native.Mathlib.Omega.{arith}
use native.Mathlib.Decide.{dec_lt}
use lib.Dec.{eqb, ltb, leb, lit<}
use lib.ListN.{length, get_or, take, drop, length-take, get_or-eq_default}
use borrow.Author.Tests.{eq-eqb, ne_eqb, leb-true}
use lib.Seq.{get_or-take, get_or-drop}
use Rattle.words.specs.Small.{all, counting}
use Rattle.words.proofs.Lists.{all_below}
use Rattle.words.proofs.Bools.{cond-true, cond-false}
use Rattle.cases.specs.declared.faults.FieldKind.{FieldKind}
use Rattle.cases.specs.declared.faults.FieldKind.TheVariants.{Zeroed, Assigned, Read, Free, Label}
use Rattle.cases.specs.contracts.faults.FieldKind.{the_type}
use Rattle.cases.specs.Instruction.{Field, zeroed, assigned, read, free, label, field_at, field_of, bad_field, fields, is_assigned, is_read}
use Rattle.cases.specs.Block.{byte, word, bad_byte}

-- what the code says of each op's five bytes, one op after the other; and that the definition says so
abbrev pub table : List FieldKind
table =
    Zeroed ∷ Zeroed ∷ Zeroed ∷ Zeroed ∷ Zeroed
    ∷ Assigned ∷ Read ∷ Zeroed ∷ Zeroed ∷ Zeroed
    ∷ Zeroed ∷ Read ∷ Read ∷ Zeroed ∷ Zeroed
    ∷ Assigned ∷ Zeroed ∷ Zeroed ∷ Free ∷ Free
    ∷ Assigned ∷ Read ∷ Read ∷ Zeroed ∷ Zeroed
    ∷ Assigned ∷ Read ∷ Read ∷ Zeroed ∷ Zeroed
    ∷ Assigned ∷ Read ∷ Read ∷ Zeroed ∷ Zeroed
    ∷ Zeroed ∷ Read ∷ Zeroed ∷ Label ∷ Free
    ∷ Zeroed ∷ Zeroed ∷ Zeroed ∷ Label ∷ Free
    ∷ Zeroed ∷ Read ∷ Zeroed ∷ Zeroed ∷ Zeroed
    ∷ Zeroed ∷ Read ∷ Zeroed ∷ Zeroed ∷ Zeroed
    ∷ []

abbrev number : Field → ℕ
number zeroed = 0
number assigned = 1
number read = 2
number free = 3
number label = 4

same : (f g : Field) → eqb (number f) (number g) ≡ true → f ≡ g
same zeroed zeroed h = refl
same zeroed assigned h = absurd (false≢true h)
same zeroed read h = absurd (false≢true h)
same zeroed free h = absurd (false≢true h)
same zeroed label h = absurd (false≢true h)
same assigned zeroed h = absurd (false≢true h)
same assigned assigned h = refl
same assigned read h = absurd (false≢true h)
same assigned free h = absurd (false≢true h)
same assigned label h = absurd (false≢true h)
same read zeroed h = absurd (false≢true h)
same read assigned h = absurd (false≢true h)
same read read h = refl
same read free h = absurd (false≢true h)
same read label h = absurd (false≢true h)
same free zeroed h = absurd (false≢true h)
same free assigned h = absurd (false≢true h)
same free read h = absurd (false≢true h)
same free free h = refl
same free label h = absurd (false≢true h)
same label zeroed h = absurd (false≢true h)
same label assigned h = absurd (false≢true h)
same label read h = absurd (false≢true h)
same label free h = absurd (false≢true h)
same label label h = refl

abbrev entry : ℕ → ℕ → Bool
entry op k = eqb (number (field_of (get_or table (5 * op + k) Zeroed))) (number (field_at op k))

whole : all (λ op. all (entry op) (counting 0 5)) (counting 0 11) ≡ true
whole = refl

pub table_rule : (op k : ℕ) → op < 11 → k < 5 → field_of (get_or table (5 * op + k) Zeroed) ≡ field_at op k
table_rule op k h l = same _ _ (all_below (entry op) 5 (all_below (λ op. all (entry op) (counting 0 5)) 11 whole op h) k l)

-- the five bytes of an op, cut out of the table: what each arm of the code's `fields` has to be

abbrev pub row : ℕ → List FieldKind
row op = take 5 (drop (5 * op) table)

abbrev five : ℕ → Bool
five op = leb (length (get_or fields op [])) 5

all_five : all five (counting 0 11) ≡ true
all_five = refl

past_row : (op k : ℕ) → op < 11 → 5 ≤ k → field_of (get_or (row op) k Zeroed) ≡ field_at op k
past_row op k h l =
    ap field_of (get_or-eq_default (row op) Zeroed (omega (arith, length-take 5 (drop (5 * op) table))))
    ∙ sym (get_or-eq_default (get_or fields op []) zeroed (omega (arith, leb-true _ _ (all_below five 11 all_five op h))))

pub row_rule : (op k : ℕ) → op < 11 → field_of (get_or (row op) k Zeroed) ≡ field_at op k
row_rule op k h =
    elim (dec_lt k 5) [
      | yes l ↦ ap field_of (get_or-take 5 (drop (5 * op) table) k Zeroed l ∙ get_or-drop (5 * op) table k Zeroed) ∙ table_rule op k h l
      | no n ↦ past_row op k h (omega (arith, n))
    ]

pub row_of : (n op k : ℕ) → op ≡ n → n < 11 → field_of (get_or (row n) k Zeroed) ≡ field_at op k
row_of n op k e h = row_rule n k h ∙ ap (λ (m : ℕ). field_at m k) (sym e)

-- ops of one arm have one row

pub sums_row : (op k : ℕ) → 4 ≤ op → op < 7 → field_of (get_or (row 4) k Zeroed) ≡ field_at op k
sums_row op k l h =
    elim (dec_lt op 5) [
      | yes f ↦ row_of 4 op k (omega (arith, f)) (lit< tt)
      | no n ↦ elim (dec_lt op 6) [
        | yes g ↦ row_of 5 op k (omega (arith, n, g)) (lit< tt)
        | no m ↦ row_of 6 op k (omega (arith, m)) (lit< tt)
      ]
    ]

pub locks_row : (op k : ℕ) → 9 ≤ op → op < 11 → field_of (get_or (row 9) k Zeroed) ≡ field_at op k
locks_row op k l h =
    elim (dec_lt op 10) [
      | yes f ↦ row_of 9 op k (omega (arith, f)) (lit< tt)
      | no n ↦ row_of 10 op k (omega (arith, n)) (lit< tt)
    ]

-- the code's tests of a field

pub assigned_field : (f : FieldKind) → sameb the_type f Assigned ≡ is_assigned (field_of f)
assigned_field Zeroed = refl
assigned_field Assigned = refl
assigned_field Read = refl
assigned_field Free = refl
assigned_field Label = refl

pub read_field : (f : FieldKind) → sameb the_type f Read ≡ is_read (field_of f)
read_field Zeroed = refl
read_field Assigned = refl
read_field Read = refl
read_field Free = refl
read_field Label = refl

-- bad_byte: the op, and a byte after it

module _ (s : List ℕ) (op n i : ℕ) where
  pub op_byte : (i - 92) % 6 ≡ 0 → (eqb op 0 || ltb 10 op) ≡ bad_byte s op n i
  unfolding bad_byte
  op_byte h = sym (cond-true (eqb ((i - 92) % 6) 0) _ _ (eq-eqb ((i - 92) % 6) 0 h))

  pub field_byte : ((i - 92) % 6 ≡ 0 → ⊥) → bad_field (field_at op ((i - 92) % 6 - 1)) n (byte s i) (word s i) ≡ bad_byte s op n i
  unfolding bad_byte
  field_byte h = sym (cond-false (eqb ((i - 92) % 6) 0) _ _ (ne_eqb ((i - 92) % 6) 0 h))
