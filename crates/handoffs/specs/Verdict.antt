-- Request 13: what the hand-off answers, over the two plans and the rules alone. Assumes nothing.
use Rattle.std.specs.Prelude.{◌≡◌, ◌↔◌, Bool, true, ◌&&◌, not, List, [], ◌∷◌, ℕ, ◌<◌, eqb, ltb, replicate}
use Rattle.words.specs.Small.{any}
use Rattle.words.specs.Refusals.{Refusal, ◌when◌, first_code_of}
use Rattle.clauses.specs.Wanted.{holds_in}
use Rattle.runs.specs.Model.{Model}
use Rattle.runs.specs.Outcome.{Outcome}
use Rattle.rules.specs.Womm.{womm}
use Rattle.rules.specs.Bytes.{step_bytes}
use Rattle.runs.specs.Wanted.{Wanted}
use Rattle.runs.specs.Asking.{Laid}
use Rattle.handoffs.specs.Plans.{legal, Deed, deeds, case_for, bound}

-- In the outcome o, register k of the receiver is v.
abbrev pub holds : List ℕ → ℕ → ℕ → Bool
holds o k v = holds_in (record { processor = 1; register = k; defined = true; value = v }) o

-- 'Reads ready as 1.'
abbrev pub ready_as1 : List ℕ → Deed → Bool
ready_as1 o x = eqb x.byte 3 && holds o x.register 1

-- 'Another word that the sending plan touches as 0.'
abbrev pub other_as0 : List ℕ → List ℕ → Deed → Bool
other_as0 sending o x = ltb x.byte 3 && any (eqb x.byte) sending && holds o x.register 0

-- 'Reads ready as 1 and, in some read, another word that the sending plan touches as 0.'
unfoldable pub stale_in : List ℕ → List ℕ → List ℕ → Bool
stale_in sending receiving o = any (ready_as1 o) (deeds 5 receiving) && any (other_as0 sending o) (deeds 5 receiving)

module _ (sending receiving : List ℕ) where
  -- The rules of the two plans' case.
  abbrev pub model : Model
  model = womm (case_for sending receiving)

  -- 'Stale .., exactly if a finished run reads ready as 1 and ..'
  abbrev pub Stale : Type 0
  Stale = Wanted model (stale_in sending receiving) (bound sending receiving)

  -- 'Stuck, exactly if no run finishes.'
  abbrev pub Stuck : Type 0
  Stuck = (o : List ℕ) → Outcome model (bound sending receiving) o → ⊥

  -- 'Safe otherwise.'
  abbrev pub Safe : Type 0
  Safe = (Stale → ⊥) × (Stuck → ⊥)

-- The three verdicts as numbers.
abbrev pub safe : ℕ
safe = 0

abbrev pub stale : ℕ
stale = 1

abbrev pub stuck : ℕ
stuck = 2

-- The code, the verdict, and the schedule's length in bytes.
pub record Handed : Type 0 where
  pub code : ℕ
  pub verdict : ℕ
  pub length : ℕ

-- The answer for plans and a buffer that are not refused.
pub record IsVerdict (sending receiving : List ℕ) (a : Handed) (out : List ℕ) : Type 0 where
  pub code : a.code ≡ 0
  pub stales : (a.verdict ≡ stale) ↔ Stale sending receiving
  pub stucks : (a.verdict ≡ stuck) ↔ Stuck sending receiving
  pub safes : (a.verdict ≡ safe) ↔ Safe sending receiving
  -- 'With the lowest such schedule and its length.'
  pub shown : Stale sending receiving → Laid (model sending receiving) (stale_in sending receiving) step_bytes (bound sending receiving) 384 a.length out
  -- 'With stuck, safe or a refusal the length is 0 and the schedule buffer all zeros.'
  pub hidden : (Stale sending receiving → ⊥) → (a.length ≡ 0) × (out ≡ replicate 384 0)

pub record Refused (why size : ℕ) (a : Handed) (out : List ℕ) : Type 0 where
  pub code : a.code ≡ why
  pub verdict : a.verdict ≡ safe
  pub long : a.length ≡ 0
  pub zeros : out ≡ replicate size 0

-- '15 for any other plan ..; then 13 for a schedule buffer not of 384 bytes; no other code is given.'
unfoldable pub handoff_refusals : List ℕ → List ℕ → ℕ → List Refusal
handoff_refusals sending receiving size = 15 when not (legal sending receiving) ∷ 13 when not (eqb size 384) ∷ []

-- The answer a and the bytes out of a buffer of this size.
pub record IsHandoff (sending receiving : List ℕ) (size : ℕ) (a : Handed) (out : List ℕ) : Type 0 where
  pub judged : first_code_of (handoff_refusals sending receiving size) ≡ 0 → IsVerdict sending receiving a out
  pub refused : 0 < first_code_of (handoff_refusals sending receiving size) → Refused (first_code_of (handoff_refusals sending receiving size)) size a out
