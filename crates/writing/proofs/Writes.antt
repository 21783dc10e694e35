-- Lines laid one behind the other, and what writing then answers. Assumes nothing.
use mathlib.Core.Path.{◌≡◌, refl, ap, sym, ◌∙◌, subst}
use mathlib.Core.Bool.{Bool, true, false, ◌&&◌, cond}
use mathlib.Core.List.{List, [], ◌∷◌, ◌++◌, map, append-nil}
use mathlib.Core.Option.{none, some}
use Prim.Native.Nat.{ℕ, zero, suc, ◌+◌, ◌-◌, ◌/◌, ◌%◌, ◌<◌, ◌≤◌}
use native.Mathlib.Omega.{arith}
use lib.Dec.{eqb, ltb}
use lib.ListN.{length, drop, replicate, length-append}
use borrow.Author.Tests.{eq-eqb, ne_eqb, lt-ltb, le-ltb, ltb-false}
use Rattle.words.specs.Small.{each, counting, concat_map}
use Rattle.words.specs.Refusals.{Refusal, ◌when◌, first_code_of}
use Rattle.words.proofs.Bools.{cond-true, cond-false, or_none, and_rest, none_below}
use Rattle.words.proofs.Lists.{concat_map-append}
use Rattle.words.proofs.First.{first_none}
use Rattle.cases.specs.declared.Case.{Case}
use Rattle.cases.specs.declared.CaseRead.{CaseRead}
use Rattle.cases.specs.declared.Fault.{Fault}
use Rattle.cases.specs.Case.{count_of, instr_at, preset_of, word_of}
use Rattle.cases.specs.Block.{byte, no_proc, marked, bad4, contents, faults, fault_of, position_of, read_of, Sound, write_code, write_fault}
use Rattle.lines.specs.Laid.{Laid, LaidShort, Printed}
use Rattle.lines.proofs.Behind.{laid_then, laid_as, laid_none, laid_printed}
use Rattle.texts.specs.Lines.{Line, head, mem, reg, op, mem_line, reg_line, mem_lines, reg_lines, op_lines}
use Rattle.texts.specs.Text.{body, line_bytes, text_with, text_of}
use Rattle.texts.specs.Writing.{text_code, text_fault, text_written}
use Rattle.texts.specs.declared.TextWritten.{TextWritten}
use Rattle.judging.proofs.Bridge.{Long, count_byte, inside}
use Rattle.judging.proofs.Answers.{six}
use Rattle.writing.specs.Laying.{word_text, preset_text, program_text}
use Rattle.writing.specs.Texts.{Texts}

-- add
pub line_laid : {a b c : List ℕ} {i j k : ℕ} (l : Line) → LaidShort 39 a i (body l) b j → Laid b j (10 ∷ []) c k → LaidShort 40 a i (line_bytes l) c k
unfolding line_bytes
line_laid l x y = record { laid = laid_then x.laid y; short = omega (arith, x.short, length-append (body l) (10 ∷ [])) }

-- add_word, add_preset
one_line : (l : Line) → line_bytes l ≡ concat_map line_bytes (l ∷ [])
one_line l = sym (append-nil (line_bytes l))

within_as : {a b : List ℕ} {i j n : ℕ} {s t : List ℕ} → s ≡ t → LaidShort n a i s b j → LaidShort n a i t b j
within_as {a} {b} {i} {j} {n} e x = subst (λ (u : List ℕ). LaidShort n a i u b j) e x

none-laid : (a : List ℕ) (i : ℕ) (ls : List Line) → [] ≡ ls → LaidShort 40 a i (concat_map line_bytes ls) a i
none-laid a i ls e = within_as (ap (concat_map line_bytes) e) (record { laid = laid_none a i; short = omega arith })

some-laid : {a b : List ℕ} {i j : ℕ} (l : Line) (ls : List Line) → l ∷ [] ≡ ls → LaidShort 40 a i (line_bytes l) b j → LaidShort 40 a i (concat_map line_bytes ls) b j
some-laid l ls e x = within_as (one_line l ∙ ap (concat_map line_bytes) e) x

pub word_none : (a : List ℕ) (i l v : ℕ) → v ≡ 0 → LaidShort 40 a i (concat_map line_bytes (mem_line l v)) a i
word_none a i l v h = none-laid a i (mem_line l v) (sym (ap (mem_line l) h))

pub word_some : {a b : List ℕ} {i j : ℕ} (l v : ℕ) → (v ≡ 0 → ⊥) → LaidShort 40 a i (line_bytes (mem l v)) b j → LaidShort 40 a i (concat_map line_bytes (mem_line l v)) b j
word_some l zero h x = absurd (h refl)
word_some l (suc v) h x = some-laid (mem l (suc v)) (mem_line l (suc v)) refl x

pub preset_none : (a : List ℕ) (i p k v : ℕ) (b : Bool) → b ≡ false → LaidShort 40 a i (concat_map line_bytes (reg_line p k (cond b (some v) none))) a i
preset_none a i p k v b h = none-laid a i (reg_line p k (cond b (some v) none)) (sym (ap (λ (b : Bool). reg_line p k (cond b (some v) none)) h))

pub preset_some : {a c : List ℕ} {i j : ℕ} (p k v : ℕ) (b : Bool) → b ≡ true → LaidShort 40 a i (line_bytes (reg p k v)) c j → LaidShort 40 a i (concat_map line_bytes (reg_line p k (cond b (some v) none))) c j
preset_some p k v b h x = some-laid (reg p k v) (reg_line p k (cond b (some v) none)) (sym (ap (λ (b : Bool). reg_line p k (cond b (some v) none)) h)) x

-- lay

groups : (f : ℕ → List Line) (l : List ℕ) → concat_map (λ n. concat_map line_bytes (f n)) l ≡ concat_map line_bytes (concat_map f l)
groups f [] = refl
groups f (n ∷ l) = ap (λ (t : List ℕ). concat_map line_bytes (f n) ++ t) (groups f l) ∙ sym (concat_map-append line_bytes (f n) (concat_map f l))

each_text : (g : ℕ → Line) (l : List ℕ) → concat_map (λ i. line_bytes (g i)) l ≡ concat_map line_bytes (map g l)
each_text g [] = refl
each_text g (i ∷ l) = ap (λ (t : List ℕ). line_bytes (g i) ++ t) (each_text g l)

same_groups : (f g : ℕ → List ℕ) (l : List ℕ) → ((n : ℕ) → f n ≡ g n) → concat_map f l ≡ concat_map g l
same_groups f g [] h = refl
same_groups f g (n ∷ l) h = λ t. h n t ++ same_groups f g l h t

pub text_laid : (c : Case) {p0 p1 p2 p3 p4 : List ℕ} {x y z r : ℕ} → LaidShort 40 p0 0 (line_bytes (head c.procs c.locs none)) p1 x → LaidShort 320 p1 x (concat_map (word_text c.memory) (counting 0 8)) p2 y → LaidShort 1280 p2 y (concat_map (preset_text c.masks c.presets) (counting 0 32)) p3 z → LaidShort 1920 p3 z (concat_map (program_text c.counts c.code) (counting 0 4)) p4 r → LaidShort 3600 p0 0 (text_of c) p4 r
unfolding text_with
text_laid c a b d e =
    let first = line_bytes (head c.procs c.locs none) in
    let words = concat_map (word_text c.memory) (counting 0 8) in
    let presets = concat_map (preset_text c.masks c.presets) (counting 0 32) in
    let programs = concat_map (program_text c.counts c.code) (counting 0 4) in
    let all = laid_then a.laid (laid_then b.laid (laid_then d.laid e.laid)) in
    let e₁ : words ≡ concat_map line_bytes (mem_lines c) = groups (λ l. mem_line l (word_of c l)) (counting 0 8) in
    let e₂ : presets ≡ concat_map line_bytes (reg_lines c) = groups (λ n. reg_line (n / 8) (n % 8) (preset_of c (n / 8) (n % 8))) (counting 0 32) in
    let e₃ : programs ≡ concat_map line_bytes (op_lines c) = same_groups (program_text c.counts c.code) (λ p. concat_map line_bytes (each (count_of c p) (λ i. op p (instr_at c p i)))) (counting 0 4) (λ p. each_text (λ i. op p (instr_at c p i)) (counting 0 (count_of c p))) ∙ groups (λ p. each (count_of c p) (λ i. op p (instr_at c p i))) (counting 0 4) in
    let joined : first ++ (words ++ (presets ++ programs)) ≡ text_of c = (λ t. first ++ (e₁ t ++ (e₂ t ++ e₃ t))) ∙ (λ t. first ++ (concat_map line_bytes (mem_lines c) ++ sym (concat_map-append line_bytes (reg_lines c) (op_lines c)) t)) ∙ (λ t. first ++ sym (concat_map-append line_bytes (mem_lines c) (reg_lines c ++ op_lines c)) t) in
    record { laid = laid_as joined all; short = omega (arith, a.short, b.short, d.short, e.short, ap length joined, length-append first (words ++ (presets ++ programs)), length-append words (presets ++ programs), length-append presets programs) }

-- fault
pub fault_is : (c : Case) (f : Fault) → f ≡ write_fault c 512 → f ≡ fault_of (contents c) (first_code_of (faults (contents c)))
unfolding write_code first_code_of
fault_is c f h = h

-- a sound record has no more than 12 instructions a processor
pub few_counts : (c : Case) → Long c → Sound c → (p : ℕ) → p < 4 → count_of c p ≤ 12
unfolding bad4
few_counts c long sound p h =
    let t = contents c in
    let f = none_below 510 (bad4 (contents c)) (first_none 3 _ _ (first_none 2 _ _ sound).1).0 in
    let r = and_rest _ _ (f (4 + p) (omega arith)) (inside 4 8 (4 + p) (omega arith) (omega arith)) in
    let e = or_none (ltb 12 (byte (contents c) (4 + p))) (no_proc (contents c) (4 + p - 4) && marked (contents c) (4 + p)) r in
    let x = ltb-false 12 (byte (contents c) (4 + p)) e.0 in
    let same = count_byte c long p h in
    omega arith

-- write_text

later : (xs ys : List Refusal) → (first_code_of xs ≡ 0 → ⊥) → first_code_of (xs ++ ys) ≡ first_code_of xs
unfolding first_code_of
later [] ys f = absurd (f refl)
later (k when true ∷ xs) ys f = refl
later (k when false ∷ xs) ys f = later xs ys f

drop_zeros : (n size : ℕ) → drop {A = ℕ} n (replicate size 0) ≡ replicate (size - n) 0
drop_zeros zero size = let e : size ≡ size - 0 = omega arith in ap (λ (m : ℕ). replicate {A = ℕ} m 0) e
drop_zeros (suc n) zero = let e : 0 ≡ 0 - suc n = omega arith in ap (λ (m : ℕ). replicate {A = ℕ} m 0) e
drop_zeros (suc n) (suc size) = let e : size - n ≡ suc size - suc n = omega arith in drop_zeros n size ∙ ap (λ (m : ℕ). replicate {A = ℕ} m 0) e

module _ (c : Case) (size : ℕ) (f : Fault) (fault : f ≡ fault_of (contents c) (first_code_of (faults (contents c)))) where
  abbrev Right : TextWritten → List ℕ → Type 0
  Right r out = (r ≡ text_fault c size) × (out ≡ text_written c size)

  code : f.code ≡ first_code_of (faults (contents c))
  code = ap (λ (f : Fault). f.code) fault

  place : f.position ≡ position_of (contents c) (first_code_of (faults (contents c)))
  place = ap (λ (f : Fault). f.position) fault

  refused : (k p : ℕ) (out : List ℕ) → k ≡ text_code c size → p ≡ position_of (contents c) (first_code_of (faults (contents c))) → (k ≡ 0 → ⊥) → out ≡ replicate size 0 → Right (record { code = k; length = 0; position = p }) out
  unfolding text_fault text_written
  refused k p out e q n o =
      let z : eqb (text_code c size) 0 ≡ false = ne_eqb (text_code c size) 0 (λ y. n (e ∙ y)) in
      let l = sym (cond-false {A = ℕ} (eqb (text_code c size) 0) (length (text_of c)) 0 z) in
      ((λ j. record { code = e j; length = l j; position = q j }), o ∙ sym (cond-false (eqb (text_code c size) 0) (text_of c ++ replicate (size - length (text_of c)) 0) (replicate size 0) z))

  pub write_faulty : (out : List ℕ) → (f.code ≡ 0 → ⊥) → out ≡ replicate size 0 → Right (record { code = f.code; length = 0; position = f.position }) out
  unfolding text_code
  write_faulty out n o = refused f.code f.position out (code ∙ sym (later (faults (contents c)) (18 when ltb size (length (text_of c)) ∷ []) (λ z. n (code ∙ z)))) place n o

  module _ (clean : f.code ≡ 0) where
    pub sound : Sound c
    sound = sym code ∙ clean

    nowhere : 0 ≡ position_of (contents c) (first_code_of (faults (contents c)))
    unfolding position_of
    nowhere = sym (ap (position_of (contents c)) sound)

    code_by : text_code c size ≡ cond (ltb size (length (text_of c))) 18 0
    unfolding text_code first_code_of
    code_by = let r = six (contents c) sound in let h = r.0 in rw (h.0, h.1, h.2, h.3, h.4, r.1)

    module _ (page page' : List ℕ) (n : ℕ) (long : length page ≡ 3600) (laid : LaidShort 3600 page 0 (text_of c) page' n) where
      printed : Printed (text_of c) page page' n
      printed = laid_printed laid.laid (omega (arith, laid.short))

      pub write_short : (out : List ℕ) → size < n → out ≡ replicate size 0 → Right (record { code = 18; length = 0; position = 0 }) out
      write_short out h o = refused 18 0 out (sym (code_by ∙ cond-true {A = ℕ} (ltb size (length (text_of c))) 18 0 (lt-ltb size (length (text_of c)) (omega (arith, printed.ends))))) nowhere (λ q. absurd (omega arith)) o

      pub write_whole : (out₀ out : List ℕ) (s : List ℕ) → n ≤ size → out₀ ≡ replicate size 0 → s ≡ text_of c → out ≡ s ++ drop n out₀ → Right (record { code = 0; length = n; position = 0 }) out
      unfolding text_fault text_written
      write_whole out₀ out s h z q o =
          let ends = printed.ends in
          let none_over : text_code c size ≡ 0 = code_by ∙ cond-false {A = ℕ} (ltb size (length (text_of c))) 18 0 (le-ltb size (length (text_of c)) (omega arith)) in
          let yes = eq-eqb (text_code c size) 0 none_over in
          let len = ends ∙ sym (cond-true {A = ℕ} (eqb (text_code c size) 0) (length (text_of c)) 0 yes) in (
            (λ j. record { code = sym none_over j; length = len j; position = nowhere j }),
            o ∙ (λ j. q j ++ drop (ends j) (z j)) ∙ ap (λ (t : List ℕ). text_of c ++ t) (drop_zeros (length (text_of c)) size) ∙ sym (cond-true (eqb (text_code c size) 0) (text_of c ++ replicate (size - length (text_of c)) 0) (replicate size 0) yes),
          )

-- block_to_text

module _ (b : List ℕ) (size : ℕ) (read : CaseRead) (is : read ≡ read_of b) where
  code_is : read.code ≡ (read_of b).code
  code_is = ap (λ (r : CaseRead). r.code) is

  pub texts_no : (out : List ℕ) → (read.code ≡ 0 → ⊥) → out ≡ replicate size 0 → Texts b size (record { code = read.code; length = 0; position = read.position }) out
  texts_no out f o =
      let z = ne_eqb (read_of b).code 0 (λ q. f (code_is ∙ q)) in
      record {
        answer = (λ j. record { code = (is j).code; length = 0; position = (is j).position }) ∙ sym (cond-false (eqb (read_of b).code 0) (text_fault (read_of b).case size) _ z);
        text = o ∙ sym (cond-false (eqb (read_of b).code 0) (text_written (read_of b).case size) (replicate size 0) z);
      }

  pub texts_yes : (r : TextWritten) (out : List ℕ) → read.code ≡ 0 → (r ≡ text_fault read.case size) × (out ≡ text_written read.case size) → Texts b size r out
  texts_yes r out e w =
      let z = eq-eqb (read_of b).code 0 (sym code_is ∙ e) in
      record {
        answer = w.0 ∙ (λ j. text_fault (is j).case size) ∙ sym (cond-true (eqb (read_of b).code 0) (text_fault (read_of b).case size) _ z);
        text = w.1 ∙ (λ j. text_written (is j).case size) ∙ sym (cond-true (eqb (read_of b).code 0) (text_written (read_of b).case size) (replicate size 0) z);
      }
