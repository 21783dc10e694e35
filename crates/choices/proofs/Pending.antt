-- Writes that have no value. Assumes nothing.
use mathlib.Core.Path.{◌≡◌, refl, sym, ap, ◌∙◌}
use mathlib.Core.Bool.{Bool, true, false, ◌&&◌, not, false≢true}
use mathlib.Core.List.{List}
use mathlib.Core.Option.{Option}
use Prim.Native.Nat.{ℕ, ◌+◌, ◌-◌, ◌<◌, ◌≤◌}
use native.Mathlib.Omega.{arith}
use native.Mathlib.Decide.{dec_lt}
use lib.Dec.{eqb}
use lib.ListN.{get_or}
use borrow.Author.Tests.{eq-eqb, ne_eqb, ltb-true, not-true}
use Rattle.words.specs.Small.{is_none, some_below}
use Rattle.words.specs.Sets.{has}
use Rattle.words.proofs.Bools.{bool_eq, and_both, below_cases, below_make}
use Rattle.words.proofs.Sets.{has_zero}
use Rattle.cases.specs.declared.Case.{Case}
use Rattle.rules.specs.Kinds.{writing}
use Rattle.rules.specs.State.{State, kind_of, item_value}
use Rattle.rules.specs.Commit.{writes}
use Rattle.sure.specs.Quiet.{pending}
use Rattle.orders.proofs.Reached.{set_at}
use Rattle.machine.specs.Kept.{Kept, has_value}
use Rattle.machine.proofs.Entries.{item_start, item_given}
use Rattle.machine.proofs.Items.{item_is_lem}
use Rattle.orders.proofs.Bits.{some_bit}

module _ (c : Case) (s : State) (sets : List ℕ) (K : Kept c s sets) (l : ℕ) (low : l < 8) (bare : ℕ) (m : (a : ℕ) → has bare a ≡ (has (get_or sets l 0) a && not (has (get_or sets 20 0) a))) where
  item_pending : (j : ℕ) → j < s.count → has bare (8 + j) ≡ pending l (s.actions j)
  item_pending j h =
      let v : item_value c s (8 + j) ≡ (s.actions j).result = item_given c s (8 + j) (omega arith) ∙ (let q : 8 + j - 8 ≡ j = omega arith in rw q) in
      m (8 + j)
      ∙ (λ i. (set_at (8 + s.count) (writes s l) (get_or sets l 0) (K.writes l low) (8 + j) (omega arith) ∙ item_is_lem (λ a. writing (kind_of a) && eqb a.loc l) s (eqb (8 + j) l) j) i && not ((set_at (8 + s.count) (has_value c s) (get_or sets 20 0) K.given (8 + j) (omega arith) ∙ (λ i. not (is_none (v i)))) i))
      ∙ swap (writing (kind_of (s.actions j)) && eqb (s.actions j).loc l) (is_none (s.actions j).result)
    where
      swap : (a b : Bool) → (a && not (not b)) ≡ (b && a)
      swap true true = refl
      swap true false = refl
      swap false true = refl
      swap false false = refl

  bare_low : (e : ℕ) → has bare e ≡ true → (8 ≤ e) × (e < 8 + s.count)
  bare_low e h = (elim (dec_lt e 8) [ yes k ↦ absurd (false≢true (sym (not-true (has (get_or sets 20 0) e) b.1) ∙ valued k)) | no k ↦ omega arith ], ltb-true e (8 + s.count) (and_both _ _ (sym (K.writes l low e) ∙ b.0)).0)
    where
      b : (has (get_or sets l 0) e ≡ true) × (not (has (get_or sets 20 0) e) ≡ true)
      b = and_both _ _ (sym (m e) ∙ h)

      valued : e < 8 → has (get_or sets 20 0) e ≡ true
      valued k = set_at (8 + s.count) (has_value c s) (get_or sets 20 0) K.given e (omega arith) ∙ ap (λ (v : Option ℕ). not (is_none v)) (item_start c s c.memory e refl k)

  pub pending-some : not (eqb bare 0) ≡ some_below s.count (λ j. pending l (s.actions j))
  pending-some = bool_eq (not (eqb bare 0)) (some_below s.count (λ j. pending l (s.actions j))) some back
    where
      some : not (eqb bare 0) ≡ true → some_below s.count (λ j. pending l (s.actions j)) ≡ true
      some n =
          let r = some_bit bare bare (omega arith) (λ z. false≢true (sym (ap not (eq-eqb bare 0 z)) ∙ n)) in
          let d = bare_low r.0 r.1 in
          let q : 8 + (r.0 - 8) ≡ r.0 = omega (arith, d.0) in
          below_make s.count (λ j. pending l (s.actions j)) (r.0 - 8) (omega (arith, d.0, d.1)) (sym (item_pending (r.0 - 8) (omega (arith, d.0, d.1))) ∙ ap (has bare) q ∙ r.1)

      back : some_below s.count (λ j. pending l (s.actions j)) ≡ true → not (eqb bare 0) ≡ true
      back n =
          let r = below_cases s.count (λ j. pending l (s.actions j)) n in
          ap not (ne_eqb bare 0 (λ z. false≢true (sym (has_zero (8 + r.0)) ∙ ap (λ (x : ℕ). has x (8 + r.0)) (sym z) ∙ item_pending r.0 r.1 ∙ r.2)))
