-- The exports for texts have at most one answer each: code, numbers and bytes. Assumes nothing.
use mathlib.Core.Path.{◌≡◌, ap, sym, ◌∙◌}
use mathlib.Core.Bool.{◌&&◌, not, cond}
use mathlib.Core.List.{List, [], ◌∷◌}
use Prim.Native.Nat.{ℕ}
use lib.Dec.{eqb}
use lib.ListN.{replicate}
use Rattle.words.specs.Refusals.{◌when◌, first_code_of}
use Rattle.cases.specs.Block.{block_of}
use Rattle.texts.specs.declared.TextRead.{TextRead}
use Rattle.texts.specs.declared.TextWritten.{TextWritten}
use Rattle.judging.proofs.Answers.{reads_unique}
use Rattle.womm.specs.Exports.{mark_of}
use Rattle.womm.specs.Typing.{TextReadAs, TextWrittenAs}

pub one_text_read : (text : List ℕ) (size r r' n n' u u' : ℕ) (out out' : List ℕ) → TextReadAs text size r n u out → TextReadAs text size r' n' u' out'
    → (r ≡ r') × (n ≡ n') × (u ≡ u') × (out ≡ out')
one_text_read text size r r' n n' u u' out out' x y =
    let a = x.blocks in
    let b = y.blocks in
    let same = reads_unique text a.reads b.reads in
    let code = a.code ∙ (λ j. first_code_of ((same j).code when not (eqb (same j).code 0) ∷ 1 when not (eqb size 512) ∷ [])) ∙ sym b.code in (
      x.code ∙ code ∙ sym y.code,
      x.line ∙ a.line ∙ ap (λ (z : TextRead). z.line) same ∙ sym (y.line ∙ b.line),
      x.usual ∙ ap mark_of (a.usual ∙ (λ j. (same j).usual && eqb (code j) 0) ∙ sym b.usual) ∙ sym y.usual,
      a.block ∙ (λ j. cond (eqb (code j) 0) (block_of (same j).case) (replicate size 0)) ∙ sym b.block,
    )

pub one_text_write : (block : List ℕ) (size r r' n n' at at' : ℕ) (out out' : List ℕ) → TextWrittenAs block size r n at out → TextWrittenAs block size r' n' at' out'
    → (r ≡ r') × (n ≡ n') × (at ≡ at') × (out ≡ out')
one_text_write block size r r' n n' at at' out out' x y =
    let same = x.texts.answer ∙ sym y.texts.answer in
    (ap (λ (z : TextWritten). z.code) same, ap (λ (z : TextWritten). z.length) same, ap (λ (z : TextWritten). z.position) same, x.texts.text ∙ sym y.texts.text)
