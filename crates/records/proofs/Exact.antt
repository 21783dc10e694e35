-- What is said of a buffer leaves no choice: its members fix its bytes, and an insertion has one answer. Assumes nothing.
use mathlib.Core.Path.{◌≡◌, sym, ap, ◌∙◌}
use mathlib.Core.Logic.{⊎_elim, ◌↔◌}
use mathlib.Core.Bool.{Bool, true, false}
use mathlib.Core.List.{List, ◌++◌}
use Prim.Native.Nat.{ℕ, ◌-◌, ◌*◌}
use native.Mathlib.Omega.{arith}
use lib.ListN.{length, replicate}
use Rattle.words.specs.Small.{concat_map}
use Rattle.words.proofs.Bools.{decide, bool_eq}
use Rattle.records.specs.Buffer.{records_in, Among, Held}
use Rattle.records.specs.Insertion.{Insertion}
use Rattle.runs.proofs.Unique.{same_members}
use Rattle.records.proofs.Buffer.{records_length, held_bytes}
use Rattle.records.proofs.Growth.{iff_trans, iff_sym}

pub held_same : {a b : List ℕ} {m k : ℕ} → length a ≡ length b → Held a m → Held b k → ((r : List ℕ) → Among a m r ↔ Among b k r) → (a ≡ b) × (m ≡ k)
held_same {a} {b} {m} {k} size x y same =
    let rows : records_in m a ≡ records_in k b = same_members (records_in m a) (records_in k b) x.sorted y.sorted (λ r. (same r).0) (λ r. (same r).1) in
    let count : m ≡ k = sym (records_length m a) ∙ ap length rows ∙ records_length k b in
    let rest : length a - 96 * m ≡ length b - 96 * k = omega arith in
    (held_bytes x ∙ (λ i. concat_map (λ r. r) (rows i) ++ replicate (rest i) 0) ∙ sym (held_bytes y), count)

pub insertion_same : {r before a b : List ℕ} {n m k : ℕ} {f g : Bool} → Insertion r before n a m f → Insertion r before n b k g → (a ≡ b) × (m ≡ k) × (f ≡ g)
insertion_same {a = a} {b} {m = m} {k} {f} {g} x y = let w = ⊎_elim unchanged added (decide f) in (w.0, w.1, marks)
  where
    marks : f ≡ g
    marks = bool_eq f g (λ e. y.refused.1 (x.refused.0 e)) (λ e. x.refused.1 (y.refused.0 e))

    unchanged : f ≡ true → (a ≡ b) × (m ≡ k)
    unchanged e =
        let p = x.kept e in
        let q = y.kept (sym marks ∙ e) in
        (p.0 ∙ sym q.0, p.1 ∙ sym q.1)

    added : f ≡ false → (a ≡ b) × (m ≡ k)
    added e =
        let p = x.grown in
        let q = y.grown in
        let z : g ≡ false = sym marks ∙ e in
        held_same (p.filled.size ∙ sym q.filled.size) (p.filled.held e) (q.filled.held z) (λ r. iff_trans (p.members e r) (iff_sym (q.members z r)))
