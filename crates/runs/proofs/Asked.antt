-- At most one answer satisfies the statement of a question, bytes and all; and there is one. Assumes nothing; the steps tried cover the model.
use mathlib.Core.Path.{◌≡◌, refl, sym, ◌∙◌, ap}
use mathlib.Core.Logic.{◌⊎◌, inl, inr, ⊎_elim}
use mathlib.Core.Bool.{Bool, true, false, false≢true, true≢false}
use mathlib.Core.List.{List, ◌++◌}
use Prim.Native.Nat.{ℕ, ◌-◌}
use lib.ListN.{length, replicate}
use Rattle.words.specs.Small.{concat_map}
use Rattle.words.proofs.Bools.{decide}
use Rattle.runs.specs.Model.{Model}
use Rattle.runs.specs.Wanted.{Wish}
use Rattle.runs.specs.Asking.{Answered, Laid, IsAnswer, Refused}
use Rattle.runs.proofs.Search.{Covers, cuts, cuts_right}
use Rattle.runs.proofs.Stable.{Still}
use Rattle.runs.proofs.Unique.{same_mark}
use Rattle.runs.proofs.Lowest.{wanted_reaches, reaches_wanted, lowest_unique}
use Rattle.runs.proofs.Least.{Lowest, lowest_exists}

same_answer : (a b : Answered) → a.code ≡ b.code → a.yes ≡ b.yes → a.length ≡ b.length → a.cut ≡ b.cut → a ≡ b
same_answer a b p q r s = λ i. record { code = p i; yes = q i; length = r i; cut = s i }

-- one schedule
pub laid_unique : (m : Model) (W : Wish) (bytes : m.Step → List ℕ) (n size k l : ℕ) (out buf : List ℕ) → Laid m W bytes n size k out → Laid m W bytes n size l buf → (k ≡ l) × (out ≡ buf)
laid_unique m W bytes n size k l out buf p q =
    let same = lowest_unique m W bytes m.initial n p.schedule q.schedule p.lowest q.lowest in
    let long : k ≡ l = p.whole ∙ ap length same ∙ sym q.whole in
    (long, p.filled ∙ (λ i. same i ++ replicate (size - long i) 0) ∙ sym q.filled)

-- ONE ANSWER
pub answer_unique : (m : Model) (W : Wish) (bytes : m.Step → List ℕ) (n size : ℕ) (a b : Answered) (out buf : List ℕ) → IsAnswer m W bytes n size a out → IsAnswer m W bytes n size b buf
    → (a ≡ b) × (out ≡ buf)
answer_unique m W bytes n size a b out buf x y = ⊎_elim by_yes by_no (decide a.yes)
  where
    mark : a.yes ≡ b.yes
    mark = same_mark a.yes b.yes x.yes y.yes

    code : a.code ≡ b.code
    code = x.code ∙ sym y.code

    by_yes : a.yes ≡ true → (a ≡ b) × (out ≡ buf)
    by_yes h =
        let p = x.found h in
        let q = y.found (sym mark ∙ h) in
        let w = laid_unique m W bytes n size a.length b.length out buf p.laid q.laid in
        (same_answer a b code mark w.0 (p.cut ∙ sym q.cut), w.1)

    by_no : a.yes ≡ false → (a ≡ b) × (out ≡ buf)
    by_no h =
        let p = x.missing h in
        let q = y.missing (sym mark ∙ h) in
        (same_answer a b code mark (p.long ∙ sym q.long) (same_mark a.cut b.cut p.cut q.cut), p.zeros ∙ sym q.zeros)

-- one refusal with a code
pub refused_unique : (why size : ℕ) (a b : Answered) (out buf : List ℕ) → Refused why size a out → Refused why size b buf → (a ≡ b) × (out ≡ buf)
refused_unique why size a b out buf x y =
    (same_answer a b (x.code ∙ sym y.code) (x.yes ∙ sym y.yes) (x.long ∙ sym y.long) (x.cut ∙ sym y.cut), x.zeros ∙ sym y.zeros)

-- THERE IS ONE: the lowest of the schedules, or none
pub answer_exists : (m : Model) → Still m → (W : Wish) (bytes : m.Step → List ℕ) (steps : m.State → List m.Step) → Covers m steps → (n size : ℕ) → (a : Answered) × (out : List ℕ) × IsAnswer m W bytes n size a out
answer_exists m still W bytes steps K n size = answer (lowest_exists m still W bytes steps K n m.initial K.start)
  where
    answer : Lowest m still W bytes m.initial n → (a : Answered) × (out : List ℕ) × IsAnswer m W bytes n size a out
    answer (inl (ts, L)) = (
      record { code = 0; yes = true; length = length (concat_map bytes ts); cut = false },
      concat_map bytes ts ++ replicate (size - length (concat_map bytes ts)) 0,
      record {
        code = refl;
        yes = (λ _. reaches_wanted m W L.reaches, λ _. refl);
        found = λ _. record { laid = record { schedule = ts; lowest = L; whole = refl; filled = refl }; cut = refl };
        missing = λ z. absurd (true≢false z);
      },
    )
    answer (inr none) = (
      record { code = 0; yes = false; length = 0; cut = cuts m steps n m.initial },
      replicate size 0,
      record {
        code = refl;
        yes = (λ z. absurd (false≢true z), λ h. let x = wanted_reaches m W h in absurd (none x.0 x.1));
        found = λ z. absurd (false≢true z);
        missing = λ _. record { long = refl; cut = cuts_right m steps K n; zeros = refl };
      },
    )
