-- The text of an answer, how long it is, and that an input has one. Assumes nothing.
use mathlib.Core.Path.{◌≡◌, refl, sym, ap, ◌∙◌, subst}
use mathlib.Core.Logic.{⊎_elim}
use mathlib.Core.List.{List}
use Prim.Native.Nat.{ℕ, zero, suc, ◌+◌, ◌*◌, ◌/◌, ◌≤◌, ◌<◌}
use native.Mathlib.Nat.{mul-le-mul}
use native.Mathlib.Omega.{arith}
use lib.Dec.{eqb, lit<}
use lib.ListN.{length, take, get_or}
use lib.Seq.{length-take-le, get_or-take}
use borrow.Author.Tests.{eqb-true, eqb-false}
use Rattle.words.specs.Refusals.{first_code_of}
use Rattle.words.proofs.Bools.{decide}
use Rattle.words.proofs.Passed.{passed, unpassed}
use Rattle.cases.specs.Block.{faults, refusals, case_of}
use Rattle.runs.specs.Listing.{Listed}
use Rattle.machine.proofs.Fits.{fit}
use Rattle.records.specs.Buffer.{records_in}
use Rattle.records.proofs.Buffer.{records_take}
use Rattle.listing.specs.Outcomes.{list_refusals, IsOutcomes}
use Rattle.listing.proofs.Refusals.{accepted_block}
use Rattle.listing.proofs.Exact.{outcomes_unique}
use Rattle.lines.specs.Answers.{refusal_line}
use Rattle.lines.specs.Outcome.{list_text}
use Rattle.outcomes.specs.Said.{text_of, Listing, Said}

text_refused : (code procs : ℕ) (a : Listed) (at : ℕ) (out : List ℕ) → (code ≡ 0 → ⊥) → refusal_line code at ≡ text_of code procs a at out
text_refused zero procs a at out some = absurd (some refl)
text_refused (suc code) procs a at out some = refl

text_listed : (code procs : ℕ) (a : Listed) (at : ℕ) (out : List ℕ) → code ≡ 0 → list_text procs a.cut (records_in a.count out) ≡ text_of code procs a at out
text_listed zero procs a at out none = refl
text_listed (suc code) procs a at out none = absurd (omega arith)

-- the answer to an input
module _ (input : List ℕ) {bound size : ℕ} {a : Listed} {at : ℕ} {out : List ℕ} (same : bound ≡ get_or input 512 0) (long : 65536 ≡ size) (x : IsOutcomes (take 512 input) bound size a at out) where
  right : IsOutcomes (take 512 input) (get_or input 512 0) 65536 a at out
  right = subst (λ (b : ℕ). IsOutcomes (take 512 input) b 65536 a at out) same (subst (λ (n : ℕ). IsOutcomes (take 512 input) bound n a at out) (sym long) x)

  pub refused_said : (a.code ≡ 0 → ⊥) → Listing input (refusal_line a.code at)
  refused_said some = record { answer = a; position = at; records = out; right = right; says = text_refused a.code (get_or input 0 0) a at out some }

  pub listed-said : a.code ≡ 0 → Listing input (list_text (get_or input 0 0) a.cut (records_in a.count out))
  listed-said none = record { answer = a; position = at; records = out; right = right; says = text_listed a.code (get_or input 0 0) a at out none }

  accepted : a.code ≡ 0 → first_code_of (list_refusals (take 512 input) bound) ≡ 0
  accepted none = by_code_lem (first_code_of (list_refusals (take 512 input) bound)) refl
    where
      by_code_lem : (n : ℕ) → first_code_of (list_refusals (take 512 input) bound) ≡ n → first_code_of (list_refusals (take 512 input) bound) ≡ 0
      by_code_lem zero e = e
      by_code_lem (suc n) e = let h : 0 < first_code_of (list_refusals (take 512 input) bound) = omega (arith, e) in absurd (omega (arith, (x.unsound h).code))

  -- at most four processors are present
  pub few_present : a.code ≡ 0 → get_or input 0 0 ≤ 4
  unfolding case_of
  few_present none =
      let h = accepted_block (take 512 input) bound (accepted none) in
      let few = (fit (take 512 input) (unpassed (faults (take 512 input)) (passed (refusals (take 512 input)) refl h).1.1)).procs in
      omega (arith, few, get_or-take 512 input 0 0 (lit< tt))

-- the part of the buffer that holds the records
pub records_part : (n : ℕ) (out : List ℕ) → 96 * n ≤ length out → records_in (length (take (96 * n) out) / 96) (take (96 * n) out) ≡ records_in n out
records_part n out h =
    let count : length (take (96 * n) out) / 96 ≡ n = omega (arith, length-take-le (96 * n) out h) in
    ap (λ (k : ℕ). records_in k (take (96 * n) out)) count ∙ records_take n (96 * n) out (omega arith) h

-- the longest text
pub longest : (procs n : ℕ) → procs ≤ 4 → n ≤ 682 → 38 + (53 * procs + 1) * n ≤ 145304
longest procs n few h = let most : (53 * procs + 1) * n ≤ 213 * 682 = mul-le-mul {n₂ = 213} (omega arith) h in omega arith

-- AT MOST ONE TEXT
pub said_only : (input s t : List ℕ) → Said input s → Said input t → s ≡ t
said_only input s t x y =
    ⊎_elim
    (λ h. let e = eqb-true (length input) 513 h in listing_only (x.whole e) (y.whole e))
    (λ h. let f = eqb-false (length input) 513 h in x.other f ∙ sym (y.other f))
    (decide (eqb (length input) 513))
  where
    listing_only : Listing input s → Listing input t → s ≡ t
    listing_only p q =
        let same = outcomes_unique (take 512 input) (get_or input 512 0) 65536 p.answer q.answer p.position q.position p.records q.records p.right q.right in
        p.says ∙ ap (λ (a : Listed). text_of a.code (get_or input 0 0) a p.position p.records) same.0 ∙ ap (λ (k : ℕ). text_of q.answer.code (get_or input 0 0) q.answer k p.records) same.1 ∙ ap (text_of q.answer.code (get_or input 0 0) q.answer q.position) same.2 ∙ sym q.says
