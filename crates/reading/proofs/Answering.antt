-- What is heard of a text, with 19; the block of the case that is read. Assumes nothing.
use mathlib.Core.Path.{◌≡◌, refl, ap, sym, ◌∙◌, subst}
use mathlib.Core.Bool.{Bool, false, ◌&&◌, not, cond}
use mathlib.Core.List.{List, [], ◌∷◌}
use mathlib.Core.Option.{Option}
use Prim.Native.Nat.{ℕ, suc, ◌≤◌, ◌<◌}
use native.Mathlib.Omega.{arith}
use lib.Dec.{eqb}
use lib.ListN.{length, replicate}
use borrow.Author.Tests.{eq-eqb, ne_eqb}
use Rattle.words.specs.Refusals.{◌when◌, first_code_of}
use Rattle.words.proofs.Bools.{cond-true, cond-false, and_true, and_right}
use Rattle.words.proofs.First.{hit, miss, first, not_yes, not_no}
use Rattle.cases.specs.declared.Case.{Case}
use Rattle.cases.specs.declared.Fault.{Fault}
use Rattle.cases.specs.Block.{contents, faults, position_of, nothing, block_of, write_code, write_fault, written}
use Rattle.texts.specs.Lines.{lines_of}
use Rattle.texts.specs.Reading.{Says, told, Reads, accepted, unset, refused}
use Rattle.texts.specs.declared.TextRead.{TextRead}
use Rattle.judging.specs.Heard.{Heard, said, unsaid}
use Rattle.judging.specs.Places.{instrs_before, line_at}
use Rattle.judging.proofs.Answers.{or_nineteen}
use Rattle.judging.proofs.Unset.{position_in, unset_line, room_for, few_lines}
use Rattle.reading.specs.Fills.{Fills}
use Rattle.reading.specs.Blocks.{Blocks}

heard_no : (t : List ℕ) {r : TextRead} → Heard t r → (r.code ≡ 0 → ⊥) → Reads t r
heard_no t (said c b s) f = absurd (f refl)
heard_no t (unsaid n g h) f = refused n g h

pub fills_no : (t : List ℕ) (size : ℕ) (r : TextRead) (out : List ℕ) → Heard t r → (r.code ≡ 0 → ⊥) → out ≡ replicate size 0 → Fills t size r out
fills_no t size r out heard f o =
    record { reads = heard_no t heard f; block = o ∙ sym (cond-false (eqb r.code 0) (block_of r.case) (replicate size 0) (ne_eqb r.code 0 f)) }

-- a text that says a case
record Told (t : List ℕ) (r : TextRead) : Type 0 where
  bound : Option ℕ
  says : Says t r.case bound
  line : r.line ≡ suc (length (lines_of r.case bound))
  usual : r.usual ≡ told bound

told_of : (t : List ℕ) {r : TextRead} → Heard t r → r.code ≡ 0 → Told t r
told_of t (said c b s) h = record { bound = b; says = s; line = refl; usual = refl }
told_of t (unsaid n g f) h = absurd (omega arith)

code_of : (c : Case) (size : ℕ) → size ≡ 512 → write_code c size ≡ first_code_of (faults (contents c))
unfolding write_code first_code_of
code_of c size big = ap (write_code c) big

module _ (t : List ℕ) (r : TextRead) (heard : Heard t r) (ok : r.code ≡ 0) (size : ℕ) (big : size ≡ 512) (f : Fault) (fault : f ≡ write_fault r.case size) where
  h : Told t r
  h = told_of t heard ok

  code : f.code ≡ first_code_of (faults (contents r.case))
  code = ap (λ (f : Fault). f.code) fault ∙ code_of r.case size big

  place : f.position ≡ position_of (contents r.case) (first_code_of (faults (contents r.case)))
  place = ap (λ (f : Fault). f.position) fault ∙ ap (position_of (contents r.case)) (code_of r.case size big)

  left : (out : List ℕ) → out ≡ written r.case size → out ≡ cond (eqb f.code 0) (block_of r.case) (replicate size 0)
  unfolding written
  left out o = o ∙ ap (λ (f : Fault). cond (eqb f.code 0) (block_of r.case) (replicate size 0)) (sym fault)

  pub fills_sound : f.code ≡ 0 → (out : List ℕ) → out ≡ written r.case size → Fills t size (record { code = 0; line = 0; usual = r.usual; case = r.case }) out
  fills_sound z out o =
      record {
        reads = subst (λ (u : Bool). Reads t (record { code = 0; line = 0; usual = u; case = r.case })) (sym h.usual) (accepted r.case h.bound h.says (sym code ∙ z));
        block = left out o ∙ cond-true (eqb f.code 0) (block_of r.case) (replicate size 0) (eq-eqb f.code 0 z);
      }

  module _ (bad : f.code ≡ 0 → ⊥) where
    nineteen : first_code_of (faults (contents r.case)) ≡ 19
    nineteen = or_nineteen r.case h.says.proper (λ z. bad (code ∙ z))

    pub line_needs : (92 ≤ f.position) × (f.position < 380) × (length r.case.counts ≡ 4) × (instrs_before r.case.counts 4 ≤ r.line) × (r.line < 10000)
    line_needs =
        let proper = h.says.proper in
        let b = h.bound in
        let inside = position_in r.case proper b nineteen in
        let e = h.line in
        let q = place in
        (omega (arith, inside.0), omega (arith, inside.1), proper.formed.counts.0, omega (arith, room_for r.case proper b nineteen), omega (arith, few_lines r.case proper b))

    read_unset : (n : ℕ) (c : Case) → n ≡ line_at r.line r.case.counts f.position → c ≡ nothing → Reads t (record { code = 19; line = n; usual = false; case = c })
    read_unset n c e q =
        let line = e ∙ (λ j. line_at (h.line j) r.case.counts (place j)) ∙ sym (unset_line r.case h.says.proper h.bound nineteen) in
        subst (Reads t) (sym (λ j. record { code = 19; line = line j; usual = false; case = q j })) (unset r.case h.bound h.says nineteen)

    pub fills_unset : (n : ℕ) (c : Case) → n ≡ line_at r.line r.case.counts f.position → c ≡ nothing → (out : List ℕ) → out ≡ written r.case size → Fills t size (record { code = 19; line = n; usual = false; case = c }) out
    fills_unset n c e q out o = record { reads = read_unset n c e q; block = left out o ∙ cond-false (eqb f.code 0) (block_of r.case) (replicate size 0) (ne_eqb f.code 0 bad) }

-- the block

block_code : (t : List ℕ) (size : ℕ) {read : TextRead} → Reads t read → size ≡ 512 → read.code ≡ first_code_of (read.code when not (eqb read.code 0) ∷ 1 when not (eqb size 512) ∷ [])
unfolding first_code_of
block_code t size (accepted c b s q) big = ap (λ (n : ℕ). cond (not (eqb n 512)) 1 0) (sym big)
block_code t size (unset c b s q) big = refl
block_code t size (refused n g h) big = refl

block_usual : (t : List ℕ) {read : TextRead} → Reads t read → read.usual ≡ (read.usual && eqb read.code 0)
block_usual t (accepted c b s q) = sym (and_true (told b))
block_usual t (unset c b s q) = refl
block_usual t (refused n g h) = refl

module _ (t : List ℕ) (size : ℕ) (read : TextRead) (out : List ℕ) where
  pub blocks_full : size ≡ 512 → Fills t size read out → Blocks t size (record { code = read.code; line = read.line; usual = read.usual }) out
  blocks_full big f =
      record {
        read = read;
        reads = f.reads;
        code = block_code t size f.reads big;
        line = refl;
        usual = block_usual t f.reads;
        block = f.block;
      }

  module _ (reads : Reads t read) (o : out ≡ replicate size 0) where
    pub blocks_no : (read.code ≡ 0 → ⊥) → Blocks t size (record { code = read.code; line = read.line; usual = false }) out
    unfolding first_code_of
    blocks_no f =
        let z = ne_eqb read.code 0 f in
        record {
          read = read;
          reads = reads;
          code = sym (cond-true (not (eqb read.code 0)) read.code _ (not_yes (eqb read.code 0) z));
          line = refl;
          usual = sym (and_right read.usual (eqb read.code 0) z);
          block = o ∙ sym (cond-false (eqb read.code 0) (block_of read.case) (replicate size 0) z);
        }

    pub blocks_small : (size ≡ 512 → ⊥) → read.code ≡ 0 → Blocks t size (record { code = 1; line = read.line; usual = false }) out
    blocks_small f ok =
        record {
          read = read;
          reads = reads;
          code = first _ (miss (not_no (eqb read.code 0) (eq-eqb read.code 0 ok)) (hit (not_yes (eqb size 512) (ne_eqb size 512 f))));
          line = refl;
          usual = sym (and_right read.usual false refl);
          block = o;
        }
