-- The export for one wanted result: its answer in numbers, of which there is one only. Assumes nothing.
use mathlib.Core.Path.{◌≡◌, sym, ◌∙◌, ap}
use mathlib.Core.List.{List}
use Prim.Native.Nat.{ℕ}
use Rattle.clauses.specs.declared.Clause.{Clause}
use Rattle.clauses.specs.Wanted.{gathered, clauses_of}
use Rattle.runs.specs.Asking.{Answered}
use Rattle.asking.proofs.Gathered.{asked_of}
use Rattle.asking.proofs.Exact.{asked_unique}
use Rattle.womm.specs.declared.Answer.{Answer}
use Rattle.womm.specs.Exports.{mark_of}
use Rattle.womm.specs.Asking.{AskedAs}

-- asked of clauses that are held by value is asked of the list that they were gathered from
pub asked_as_of : (ks : List Clause) (block : List ℕ) (bound size : ℕ) (r : Answer) (out : List ℕ) → AskedAs block bound (clauses_of (gathered ks)) size r out → AskedAs block bound ks size r out
asked_as_of ks block bound size r out x =
    record { answer = x.answer; asked = asked_of ks block bound size x.answer r.position out x.asked; code = x.code; yes = x.yes; long = x.long; cut = x.cut }

-- ONE ANSWER
pub ask_one : (block : List ℕ) (bound : ℕ) (ks : List Clause) (size : ℕ) (r q : Answer) (out buf : List ℕ) → AskedAs block bound ks size r out → AskedAs block bound ks size q buf → (r ≡ q) × (out ≡ buf)
ask_one block bound ks size r q out buf x y =
    let w = asked_unique block bound ks size x.answer y.answer r.position q.position out buf x.asked y.asked in
    let same = w.0 in
    let code : r.code ≡ q.code = x.code ∙ ap (λ (a : Answered). a.code) same ∙ sym y.code in
    let yes : r.yes ≡ q.yes = x.yes ∙ ap (λ (a : Answered). mark_of a.yes) same ∙ sym y.yes in
    let long : r.length ≡ q.length = x.long ∙ ap (λ (a : Answered). a.length) same ∙ sym y.long in
    let cut : r.cut ≡ q.cut = x.cut ∙ ap (λ (a : Answered). mark_of a.cut) same ∙ sym y.cut in
    (λ i. record { code = code i; yes = yes i; length = long i; cut = cut i; position = w.1 i }, w.2)
