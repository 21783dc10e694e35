-- Reading and writing undo each other, both ways; each answer is the only one. Assumes nothing.
use mathlib.Core.Path.{◌≡◌, refl, ap, sym, ◌∙◌, subst}
use mathlib.Core.Logic.{◌↔◌, ⊎_elim}
use mathlib.Core.Bool.{false, not}
use mathlib.Core.List.{List, ◌++◌}
use Prim.Native.Nat.{ℕ, ◌<◌}
use native.Mathlib.Omega.{arith}
use lib.Dec.{eqb, ltb, lit<}
use lib.ListN.{length, get_or, set, take, replicate, length-set}
use lib.Seq.{take_all, length-take-le, get_or-take, get_or-set_same, get_or-set_other, set-get_or}
use borrow.Author.Tests.{eqb-true, eqb-false, eq-eqb, not-false}
use Rattle.words.specs.Refusals.{first_code_of}
use Rattle.words.proofs.Bools.{cond-true, decide}
use Rattle.words.proofs.First.{first_none}
use Rattle.cases.specs.declared.Case.{Case}
use Rattle.cases.specs.declared.CaseRead.{CaseRead}
use Rattle.cases.specs.declared.Fault.{Fault}
use Rattle.cases.specs.Instruction.{two}
use Rattle.cases.specs.Block.{byte, word, check, faults, case_of, case_with, read_of, contents, block_of, Sound, unbounded, seal_code, seal_fault, sealed, write_code, write_fault, written}
use Rattle.cases.specs.Formed.{Bytes, Formed, Held, Rewritten}
use Rattle.cases.proofs.Agree.{faults_alike, faults_same, check_same}
use Rattle.cases.proofs.Held.{clean, few_second, contents-back, word_part}
use Rattle.cases.proofs.Kept.{case_same, contents_long, contents-kept}
use Rattle.cases.proofs.Ranges.{block_bytes}
use Rattle.cases.proofs.Signed.{below, signed_long, signed_check, signed_read}

-- the same number or another
either : (x y : ℕ) {A : Type 0} → (x ≡ y → A) → ((x ≡ y → ⊥) → A) → A
either x y f g = ⊎_elim (λ e. f (eqb-true x y e)) (λ e. g (eqb-false x y e)) (decide (eqb x y))

-- what code 0 says of a block
pub record Accepted (s : List ℕ) : Type 0 where
  pub long : length s ≡ 512
  pub checked : word s 510 ≡ check s
  pub sound : first_code_of (faults s) ≡ 0
  pub held : (read_of s).case ≡ case_of s

accepted : (s : List ℕ) → (read_of s).code ≡ 0 → Accepted s
unfolding read_of
accepted s h =
    let a = first_none 0 _ _ h in
    let b = first_none 1 _ _ a.1 in
    record {
      long = eqb-true (length s) 512 (not-false _ a.0);
      checked = eqb-true (word s 510) (check s) (not-false _ b.0);
      sound = b.1;
      held = ap (λ (n : ℕ). case_with n (case_of s)) h;
    }

-- a buffer of 512 bytes: the code is the case's own
written_code : (c : Case) → first_code_of (faults (contents c)) ≡ write_code c 512
unfolding write_code first_code_of
written_code c = refl

written_sound : (c : Case) → Sound c → written c 512 ≡ block_of c
unfolding written
written_sound c h = cond-true (eqb (write_code c 512) 0) (block_of c) (replicate 512 0) (eq-eqb (write_code c 512) 0 (sym (written_code c) ∙ h))

-- the bytes of the case that an accepted block holds: the block's own, without usual bound

module _ (s : List ℕ) (bytes : Bytes s) (a : Accepted s) where
  abbrev t : List ℕ
  t = unbounded s

  t_long : length t ≡ 512
  t_long = length-set s 2 0 ∙ a.long

  t_second : byte t 2 ≡ 0
  t_second = get_or-set_same s 2 0 0 (omega (arith, a.long))

  t_others : (i : ℕ) → i < 510 → (i ≡ 2 → ⊥) → byte t i ≡ byte s i
  t_others i h n = get_or-set_other s 2 i 0 0 n

  t_bytes : Bytes t
  t_bytes = record { each = λ i. either i 2 (λ e. subst (λ (k : ℕ). byte t k < 256) (sym e) (subst (λ (x : ℕ). x < 256) (sym t_second) (omega arith))) (λ n. subst (λ (x : ℕ). x < 256) (sym (get_or-set_other s 2 i 0 0 n)) (bytes.each i)) }

  t_sound : first_code_of (faults t) ≡ 0
  t_sound = faults_alike t s t_others (ap (ltb 96) t_second ∙ sym (few_second s (clean s a.sound))) ∙ a.sound

  same_case : case_of t ≡ case_of s
  same_case = case_same t s t_others

  front : contents (case_of s) ≡ take 510 t
  front = ap contents (sym same_case) ∙ contents-back t t_long t_bytes (clean t t_sound) t_second

  agrees : (i : ℕ) → i < 510 → get_or (contents (case_of s)) i 0 ≡ get_or t i 0
  agrees i h = ap (λ (l : List ℕ). get_or l i 0) front ∙ get_or-take 510 t i 0 h

  pub case_sound : Sound (case_of s)
  case_sound = faults_same (contents (case_of s)) t agrees ∙ t_sound

  block_back : block_of (case_of s) ≡ take 510 t ++ two (check t)
  unfolding block_of
  block_back = λ j. front j ++ two (check_same (contents (case_of s)) t agrees j)

  front_same : (i : ℕ) → i < 510 → get_or (take 510 t) i 0 ≡ get_or t i 0
  front_same i h = get_or-take 510 t i 0 h

  -- it differs in byte 2 and the check alone
  pub rewritten : Rewritten s (take 510 t ++ two (check t))
  rewritten =
      let n : length (take 510 t) ≡ 510 = length-take-le 510 t (omega (arith, t_long)) in
      let c = check_same (take 510 t) t front_same in
      subst (Rewritten s) (ap (λ (k : ℕ). take 510 t ++ two k) c)
      (record {
        long = signed_long (take 510 t) n;
        second = below (take 510 t) n 2 (lit< tt) ∙ front_same 2 (lit< tt) ∙ t_second;
        others = λ i h e. below (take 510 t) n i h ∙ front_same i h ∙ t_others i h e;
        checked = signed_check (take 510 t) n;
      })

  -- and in nothing where there is no usual bound
  pub same_block : byte s 2 ≡ 0 → take 510 t ++ two (check t) ≡ s
  same_block none =
      let e : t ≡ s = ap (set s 2) (sym none) ∙ set-get_or s 2 0 in
      ap (λ (l : List ℕ). take 510 l ++ two (check l)) e
      ∙ ap (λ (n : ℕ). take 510 s ++ two n) (sym a.checked)
      ∙ sym (word_part s a.long bytes (clean s a.sound) 510 (omega arith))
      ∙ take_all 512 s (omega (arith, a.long))

-- A block that is read with code 0 and written again is the same 512 bytes, but for its usual bound and so its check; without usual bound the same.
pub written_read : (s : List ℕ) → Bytes s → (read_of s).code ≡ 0 → let out = written (read_of s).case 512 in (write_code (read_of s).case 512 ≡ 0) × Rewritten s out × (byte s 2 ≡ 0 → out ≡ s)
written_read s bytes h =
    let a = accepted s h in
    let sound = case_sound s bytes a in
    let out = ap (λ (c : Case). written c 512) a.held ∙ written_sound (case_of s) sound ∙ block_back s bytes a in (
      ap (λ (c : Case). write_code c 512) a.held ∙ sym (written_code (case_of s)) ∙ sound,
      subst (Rewritten s) (sym out) (rewritten s bytes a),
      λ none. out ∙ same_block s bytes a none,
    )

-- the block of a sound case

module _ (c : Case) (f : Formed c) where
  long : length (contents c) ≡ 510
  long = contents_long c f.counts.0 f.masks.0 f.presets.0 f.memory.0 f.code.0

  block_read : Sound c → read_of (block_of c) ≡ record { code = 0; position = 0; usual = false; case = c }
  unfolding block_of contents
  block_read h = signed_read (contents c) long h ∙ (λ t. record { code = 0; position = 0; usual = false; case = contents-kept c f.counts.0 f.masks.0 f.presets.0 f.memory.0 f.code.0 t })

  -- A record that is written with code 0 and read again is the same record, and no usual bound is told of.
  pub read_written : write_code c 512 ≡ 0 → read_of (written c 512) ≡ record { code = 0; position = 0; usual = false; case = c }
  read_written h = let sound = written_code c ∙ h in ap read_of (written_sound c sound) ∙ block_read sound

  -- A case is sound exactly if some block holds it.
  pub sound_held : Sound c ↔ Held c
  sound_held = (
    λ h. record { block = block_of c; bytes = block_bytes c f; read = block_read h },
    λ h. let a = accepted h.block (ap (λ (r : CaseRead). r.code) h.read) in subst Sound (sym a.held ∙ ap (λ (r : CaseRead). r.case) h.read) (case_sound h.block h.bytes a),
  )

-- a buffer that is sealed

module _ (s : List ℕ) where
  code_split : seal_code s ≡ 0 → (not (eqb (length s) 512) ≡ false) × (first_code_of (faults s) ≡ 0)
  unfolding seal_code
  code_split h = first_none 0 _ _ h

  code_zero : length s ≡ 512 → first_code_of (faults s) ≡ 0 → seal_code s ≡ 0
  unfolding seal_code first_code_of
  code_zero long h = rw (eq-eqb (length s) 512 long) h

  sealed_is : seal_code s ≡ 0 → sealed s ≡ take 510 (unbounded s) ++ two (check (unbounded s))
  unfolding sealed
  sealed_is h = cond-true (eqb (seal_code s) 0) (take 510 (unbounded s) ++ two (check (unbounded s))) (replicate (length s) 0) (eq-eqb (seal_code s) 0 h)

  -- A buffer that is sealed with code 0 is a block, and holds the case that the buffer held.
  pub read_sealed : seal_code s ≡ 0 → read_of (sealed s) ≡ record { code = 0; position = 0; usual = false; case = case_of s }
  read_sealed h =
      let size : length s ≡ 512 = eqb-true (length s) 512 (not-false _ (code_split h).0) in
      let t = unbounded s in
      let second : byte t 2 ≡ 0 = get_or-set_same s 2 0 0 (omega (arith, size)) in
      let others : (i : ℕ) → i < 510 → (i ≡ 2 → ⊥) → byte t i ≡ byte s i = λ i b n. get_or-set_other s 2 i 0 0 n in
      let same : (i : ℕ) → i < 510 → get_or (take 510 t) i 0 ≡ byte t i = λ i b. get_or-take 510 t i 0 b in
      let sound = faults_same (take 510 t) t same ∙ faults_alike t s others (ap (ltb 96) second ∙ sym (few_second s (clean s (code_split h).1))) ∙ (code_split h).1 in
      ap read_of (sealed_is h ∙ ap (λ (n : ℕ). take 510 t ++ two n) (sym (check_same (take 510 t) t same)))
      ∙ signed_read (take 510 t) (length-take-le 510 t (omega (arith, length-set s 2 0, size))) sound
      ∙ (λ j. record { code = 0; position = 0; usual = not (eqb ((same 2 (lit< tt) ∙ second) j) 0); case = (case_same (take 510 t) t (λ i b n. same i b) ∙ case_same t s others) j })

  -- A block that is read with code 0 is sealed with code 0, and stays as it is but for its usual bound and its check.
  pub sealed_read : Bytes s → (read_of s).code ≡ 0 → (seal_code s ≡ 0) × Rewritten s (sealed s) × (byte s 2 ≡ 0 → sealed s ≡ s)
  sealed_read bytes h =
      let a = accepted s h in
      let code = code_zero a.long a.sound in
      (code, subst (Rewritten s) (sym (sealed_is code)) (rewritten s bytes a), λ none. sealed_is code ∙ same_block s bytes a none)

-- At most one answer is right for a block.
pub read_unique : (s : List ℕ) (r r' : CaseRead) → r ≡ read_of s → r' ≡ read_of s → r ≡ r'
read_unique s r r' p q = p ∙ sym q

-- At most one code, one position and one buffer are right for a record and a size.
pub write_unique : (c : Case) (size : ℕ) (f f' : Fault) (block block' : List ℕ) → (f ≡ write_fault c size) × (block ≡ written c size) → (f' ≡ write_fault c size) × (block' ≡ written c size) → (f ≡ f') × (block ≡ block')
write_unique c size f f' block block' p q = (p.0 ∙ sym q.0, p.1 ∙ sym q.1)

-- At most one code, one position and one buffer are right for bytes to be sealed.
pub seal_unique : (s : List ℕ) (f f' : Fault) (block block' : List ℕ) → (f ≡ seal_fault s) × (block ≡ sealed s) → (f' ≡ seal_fault s) × (block' ≡ sealed s) → (f ≡ f') × (block ≡ block')
seal_unique s f f' block block' a b = (a.0 ∙ sym b.0, a.1 ∙ sym b.1)
