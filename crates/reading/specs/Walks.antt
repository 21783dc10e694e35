-- What the reader's walk over a text's lines leads to. Assumes nothing.
use Rattle.std.specs.Prelude.{◌≡◌, true, List, ℕ, Result, Ok, Err}
use Rattle.std.proofs.Math.Option.{none, some}
use Rattle.judging.specs.Draft.{Draft}
use Rattle.judging.specs.Parse.{parts, took, judge, whole, answer_of, refused_at}
use Rattle.drafting.specs.Sheet.{Shows}
use Rattle.drafting.specs.declared.Sheet.{Sheet}

-- Every line was taken and the text is ended: the sheet shows the draft, and 17 would name line n.
pub record Walk (t : List ℕ) (n : ℕ) (s : Sheet) : Type 0 where
  pub draft : Draft
  pub took : took none (parts t) ≡ some draft
  pub whole : whole t ≡ true
  pub line : judge t ≡ n
  pub shows : Shows s draft

-- The number behind the last line and the sheet, or the line that 17 names.
abbrev pub Walks : List ℕ → Result (ℕ × Sheet) ℕ → Type 0
Walks t (Ok r) = Walk t r.0 r.1
Walks t (Err n) = answer_of t ≡ refused_at n
