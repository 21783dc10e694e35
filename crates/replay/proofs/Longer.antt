-- An input with more than 384 bytes behind its block has a schedule that is too long, whatever follows. Assumes nothing.
use mathlib.Core.Path.{◌≡◌, refl, sym, ap, ◌∙◌}
use mathlib.Core.Bool.{Bool, true, false, not}
use mathlib.Core.List.{List, [], ◌∷◌, ◌++◌}
use Prim.Native.Nat.{ℕ, zero, suc, ◌%◌, ◌≤◌, ◌<◌}
use native.Mathlib.Omega.{arith}
use lib.Dec.{eqb, ltb}
use lib.ListN.{length, take, drop, length-drop}
use lib.Seq.{take-take, length-take-le}
use borrow.Author.Tests.{lt-ltb, ltb-true}
use Rattle.words.specs.Refusals.{Refusal, ◌when◌, first_code_of}
use Rattle.words.proofs.Bools.{and_both, or_right}
use Rattle.words.proofs.Passed.{positive}
use Rattle.cases.specs.declared.Case.{Case}
use Rattle.cases.specs.Block.{refusals, case_of, read_of}
use Rattle.rules.specs.Step.{Step, steps_of}
use Rattle.replaying.specs.Answer.{Answer, result, replay_refusals, answer_from, asked, replayed}
use Rattle.lines.specs.Answers.{replay_line}
use Rattle.replay.specs.Said.{line_of, said}

-- some code applies where one does
some_code : (l m : List Refusal) → positive l ≡ true → 0 < first_code_of (l ++ (8 when true ∷ m))
unfolding first_code_of
some_code [] m p = omega arith
some_code (code when true ∷ rest) m p = ltb-true 0 code (and_both (ltb 0 code) _ p).0
some_code (code when false ∷ rest) m p = some_code rest m (and_both (ltb 0 code) _ p).1

refused_same : (n : ℕ) (c : Case) (s t : List Step) (size : ℕ) → 0 < n → answer_from result n c s size ≡ answer_from result n c t size
refused_same zero c s t size h = absurd (omega arith)
refused_same (suc n) c s t size h = refl

module _ (block : List ℕ) where
  with8 : Bool → List Refusal
  with8 b = refusals block ++ (8 when b ∷ 9 when not (eqb 104 104) ∷ [])

  too_long : (s : List ℕ) → 384 < length s → replay_refusals 104 block s 104 ≡ with8 true
  unfolding replay_refusals with8
  too_long s h = ap with8 (or_right (not (eqb (length s % 4) 0)) (ltb 384 (length s)) (lt-ltb 384 (length s) h))

  replayed-same : (s t : List ℕ) → 384 < length s → 384 < length t → replayed block s 104 ≡ replayed block t 104
  unfolding asked with8
  replayed-same s t h k =
      ap (λ (l : List Refusal). answer_from result (first_code_of l) (case_of block) (steps_of s) 104) (too_long s h)
      ∙ refused_same (first_code_of (with8 true)) (case_of block) (steps_of s) (steps_of t) 104 (some_code (refusals block) _ refl)
      ∙ sym (ap (λ (l : List Refusal). answer_from result (first_code_of l) (case_of block) (steps_of t) 104) (too_long t k))

-- what is printed of the first n bytes is what is printed of all
pub said_longer : (input : List ℕ) (n : ℕ) → 896 < n → n ≤ length input → said (take n input) ≡ said input
said_longer input n h k =
    let front : List ℕ = take n input in
    let short : 384 < length (drop 512 front) = omega (arith, length-drop 512 front, length-take-le n input k) in
    let long : 384 < length (drop 512 input) = omega (arith, length-drop 512 input) in
    ap (λ (block : List ℕ). line_of block (drop 512 front)) (take-take 512 n input (omega arith))
    ∙ ap (λ (a : Answer). replay_line a.code a.steps (read_of (take 512 input)).position) (replayed-same (take 512 input) (drop 512 front) (drop 512 input) short long)
