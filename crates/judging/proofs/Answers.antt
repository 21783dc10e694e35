-- One text has one answer; reading and writing undo each other. Assumes nothing.
use mathlib.Core.Path.{◌≡◌, refl, ap, sym, ◌∙◌, subst}
use mathlib.Core.Logic.{⊎_elim}
use mathlib.Core.Bool.{false, not, cond}
use mathlib.Core.List.{List, ◌++◌}
use mathlib.Core.Option.{none, some}
use Prim.Native.Nat.{ℕ, ◌-◌, ◌≤◌}
use native.Mathlib.Omega.{arith}
use lib.Dec.{eqb, ltb}
use lib.ListN.{length, take, replicate}
use borrow.Author.Tests.{eq-eqb, le-ltb}
use Rattle.words.specs.Small.{some_below}
use Rattle.words.specs.Refusals.{first_code_of}
use Rattle.words.proofs.Bools.{decide, cond-true, cond-false}
use Rattle.words.proofs.First.{first_none}
use Rattle.cases.specs.declared.Case.{Case}
use Rattle.cases.specs.Block.{bad3, bad4, bad5, bad6, bad7, bad19, nothing, contents, faults, position_of, Sound}
use Rattle.cases.specs.Formed.{Formed}
use Rattle.texts.specs.Lines.{lines_of}
use Rattle.texts.specs.Text.{text_with, text_of}
use Rattle.texts.specs.Reading.{Proper, Says, told, names, first_line, Reads, accepted, unset, refused}
use Rattle.texts.specs.Writing.{text_code, text_fault, text_written}
use Rattle.texts.specs.declared.TextRead.{TextRead}
use Rattle.judging.proofs.Judged.{first_bad_unique}
use Rattle.judging.proofs.Right.{says_unique}

-- no position is bad for 3 to 7
abbrev Five : List ℕ → Type 0
Five s = (some_below 510 (bad3 s) ≡ false) × (some_below 510 (bad4 s) ≡ false) × (some_below 510 (bad5 s) ≡ false) × (some_below 510 (bad6 s) ≡ false) × (some_below 510 (bad7 s) ≡ false)

five : (s : List ℕ) → first_code_of (take 5 (faults s)) ≡ 0 → Five s
five s h =
    let a = first_none 2 _ _ h in
    let b = first_none 3 _ _ a.1 in
    let d = first_none 4 _ _ b.1 in
    let e = first_none 5 _ _ d.1 in
    let f = first_none 6 _ _ e.1 in
    (a.0, b.0, d.0, e.0, f.0)

pub six : (s : List ℕ) → first_code_of (faults s) ≡ 0 → Five s × (some_below 510 (bad19 s) ≡ false)
six s h =
    let a = first_none 2 _ _ h in
    let b = first_none 3 _ _ a.1 in
    let d = first_none 4 _ _ b.1 in
    let e = first_none 5 _ _ d.1 in
    let f = first_none 6 _ _ e.1 in
    ((a.0, b.0, d.0, e.0, f.0), (first_none 18 _ _ f.1).0)

-- a case that gets none of 3 to 7 gets 19 or none at all
proper_code : (c : Case) → Proper c → first_code_of (faults (contents c)) ≡ cond (some_below 510 (bad19 (contents c))) 19 0
unfolding first_code_of
proper_code c proper = let h = five (contents c) proper.shaped in rw (h.0, h.1, h.2, h.3, h.4)

pub sound_proper : (c : Case) → Formed c → Sound c → Proper c
unfolding first_code_of
sound_proper c formed sound = let h = (six (contents c) sound).0 in record { formed = formed; shaped = rw (h.0, h.1, h.2, h.3, h.4) }

pub or_nineteen : (c : Case) → Proper c → (first_code_of (faults (contents c)) ≡ 0 → ⊥) → first_code_of (faults (contents c)) ≡ 19
or_nineteen c proper f = ⊎_elim (λ h. proper_code c proper ∙ cond-true _ 19 0 h) (λ h. absurd (f (proper_code c proper ∙ cond-false _ 19 0 h))) (decide (some_below 510 (bad19 (contents c))))

-- AT MOST ONE ANSWER

apart : (c c' : Case) → c ≡ c' → first_code_of (faults (contents c)) ≡ 0 → first_code_of (faults (contents c')) ≡ 19 → ⊥
apart c c' e p q = let z : ◌≡◌ {A = ℕ} 0 19 = sym p ∙ ap (λ (c : Case). first_code_of (faults (contents c))) e ∙ q in absurd (omega arith)

pub reads_unique : (t : List ℕ) {r r' : TextRead} → Reads t r → Reads t r' → r ≡ r'
reads_unique t (accepted c b s k) (accepted c' b' s' k') = let u = says_unique t c c' b b' s s' in λ j. record { code = 0; line = 0; usual = told (u.1 j); case = u.0 j }
reads_unique t (accepted c b s k) (unset c' b' s' k') = absurd (apart c c' (says_unique t c c' b b' s s').0 k k')
reads_unique t (accepted c b s k) (refused n f h) = absurd (f c b s)
reads_unique t (unset c b s k) (accepted c' b' s' k') = absurd (apart c' c (says_unique t c' c b' b s' s).0 k' k)
reads_unique t (unset c b s k) (unset c' b' s' k') = let u = says_unique t c c' b b' s s' in λ j. record { code = 19; line = first_line (names (u.0 j)) (lines_of (u.0 j) (u.1 j)); usual = false; case = nothing }
reads_unique t (unset c b s k) (refused n f h) = absurd (f c b s)
reads_unique t (refused n f h) (accepted c b s k) = absurd (f c b s)
reads_unique t (refused n f h) (unset c b s k) = absurd (f c b s)
reads_unique t (refused n f h) (refused n' f' h') = λ j. record { code = 17; line = first_bad_unique t n n' h h' j; usual = false; case = nothing }

-- READING WHAT WAS WRITTEN GIVES THE CASE; an old text gives it too, without its bound.

module _ (c : Case) (formed : Formed c) (sound : Sound c) {r : TextRead} where
  pub read_written : Reads (text_of c) r → r ≡ record { code = 0; line = 0; usual = false; case = c }
  read_written h = reads_unique (text_of c) h (accepted c none (record { proper = sound_proper c formed sound; small = omega arith; same = refl }) sound)

  pub old_read : (b : ℕ) → b ≤ 96 → Reads (text_with (some b) c) r → r ≡ record { code = 0; line = 0; usual = not (eqb b 0); case = c }
  old_read b small h = reads_unique (text_with (some b) c) h (accepted c (some b) (record { proper = sound_proper c formed sound; small = small; same = refl }) sound)

-- WRITING WHAT WAS READ, where it has no old third number, gives the text and its length, with zeros after it in a longer buffer.

module _ (t : List ℕ) (c : Case) (says : Says t c none) (sound : Sound c) (size : ℕ) (room : length t ≤ size) where
  code_zero : text_code c size ≡ 0
  unfolding text_code first_code_of
  code_zero =
      let r = six (contents c) sound in
      let h = r.0 in
      let fits : ltb size (length (text_of c)) ≡ false = le-ltb size (length (text_of c)) (subst (λ (n : ℕ). n ≤ size) (ap length says.same) room) in
      rw (h.0, h.1, h.2, h.3, h.4, r.1, fits)

  pub written_read : (text_fault c size ≡ record { code = 0; length = length t; position = 0 }) × (text_written c size ≡ t ++ replicate (size - length t) 0)
  unfolding text_fault text_written position_of
  written_read =
      let z = eq-eqb (text_code c size) 0 code_zero in
      let n = cond-true (eqb (text_code c size) 0) (length (text_of c)) 0 z ∙ sym (ap length says.same) in
      let p = ap (position_of (contents c)) sound in
      ((λ j. record { code = code_zero j; length = n j; position = p j }), cond-true (eqb (text_code c size) 0) _ _ z ∙ sym (ap (λ (t : List ℕ). t ++ replicate (size - length t) 0) says.same))
