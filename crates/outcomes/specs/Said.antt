-- Document 01, 'How it is called': what the program `outcomes` prints of its input. Assumes nothing.
use Rattle.std.specs.Prelude.{◌≡◌, List, ℕ, zero, suc, length, take, get_or}
use Rattle.runs.specs.Listing.{Listed}
use Rattle.records.specs.Buffer.{records_in}
use Rattle.listing.specs.Outcomes.{IsOutcomes}
use Rattle.lines.specs.Laid.{Printed}
use Rattle.lines.specs.Answers.{refusal_line}
use Rattle.lines.specs.Outcome.{list_text}

-- The text of an answer, its position and its records, with so many processors present: 'A refusal prints `refused C` alone.'
abbrev pub text_of : ℕ → ℕ → Listed → ℕ → List ℕ → List ℕ
text_of zero procs a position records = list_text procs a.cut (records_in a.count records)
text_of (suc code) procs a position records = refusal_line (suc code) position

-- 'takes exactly 513 bytes, a block and a bound' (request 12: 255 is like any other over 96): the text of the list, with room for 682 records.
pub record Listing (input text : List ℕ) : Type 0 where
  pub answer : Listed
  pub position : ℕ
  pub records : List ℕ
  pub right : IsOutcomes (take 512 input) (get_or input 512 0) 65536 answer position records
  pub says : text ≡ text_of answer.code (get_or input 0 0) answer position records

-- 'another length prints `refused 1`', with position 0
pub record Said (input text : List ℕ) : Type 0 where
  pub whole : length input ≡ 513 → Listing input text
  pub other : (length input ≡ 513 → ⊥) → text ≡ refusal_line 1 0

-- A text of the input stands at the start of the bytes, and nothing else has changed.
pub record Answered (Of : List ℕ → Type 0) (before after : List ℕ) (end : ℕ) : Type 0 where
  pub text : List ℕ
  pub said : Of text
  pub printed : Printed text before after end
