-- The queues up to their first acquire. Assumes nothing.
use mathlib.Core.Path.{◌≡◌, sym, ap, ◌∙◌}
use mathlib.Core.Logic.{◌⊎◌, inl, inr}
use mathlib.Core.Bool.{Bool, true, false, ◌&&◌, false≢true}
use mathlib.Core.List.{List}
use Prim.Native.Nat.{ℕ, zero, suc, ◌+◌, ◌-◌, ◌/◌, ◌^◌, ◌<◌, ◌≤◌}
use native.Mathlib.Omega.{arith}
use native.Mathlib.Decide.{dec_lt}
use lib.Bits.{bit_and, bit_or}
use lib.Dec.{eqb, ltb}
use lib.ListN.{get_or}
use borrow.Author.Tests.{eqb-true, lt-ltb, ltb-true}
use Rattle.words.specs.Sets.{has}
use Rattle.words.proofs.Bools.{and_both, and_make, or_none, cond-true, below_cases, below_make}
use Rattle.words.proofs.Sets.{has_or}
use Rattle.cases.specs.declared.Case.{Case}
use Rattle.rules.specs.Kinds.{acquiring}
use Rattle.rules.specs.State.{State, kind_of, waiting}
use Rattle.orders.specs.Least.{Least}
use Rattle.orders.proofs.Bits.{has_and}
use Rattle.machine.specs.Kept.{Kept}
use Rattle.openings.specs.Opening.{behind, Front, Leading}
use Rattle.openings.proofs.Queued.{has_past, kind_at, queue_at}

-- of one processor

module _ (c : Case) (s : State) (sets : List ℕ) (K : Kept c s sets) (p : ℕ) (low : p < 4) where
  abbrev queue : ℕ
  queue = get_or sets (16 + p) 0

  pub front_all : Front s p queue
  front_all k h w = inl (queue_at c s sets K k h p low ∙ w)

  module _ (a : ℕ) (L : Least (bit_and queue (get_or sets 14 0)) a) (in63 : a < 63) where
    both : (has queue a ≡ true) × (has (get_or sets 14 0) a ≡ true)
    both = and_both (has queue a) _ (sym (has_and queue (get_or sets 14 0) a) ∙ L.inside (omega arith))

    item : (8 ≤ a) × (a < 8 + s.count)
    item =
        let q = and_both (ltb a (8 + s.count)) _ (sym (K.queues p low a) ∙ both.0) in
        (elim (dec_lt a 8) [ yes l ↦ absurd (false≢true (sym (cond-true (ltb a 8) false (waiting p (s.actions (a - 8))) (lt-ltb a 8 l)) ∙ q.1)) | no l ↦ omega arith ], ltb-true a (8 + s.count) q.0)

    acquire_before : (k : ℕ) → a < 8 + k → waiting p (s.actions k) ≡ true → behind s k ≡ true
    acquire_before k l w =
        let j = a - 8 in
        let t : j < s.count = omega (arith, item.0, item.1) in
        let e : 8 + j ≡ a = omega (arith, item.0) in
        let q : (s.actions k).proc ≡ p = eqb-true (s.actions k).proc p (and_both (eqb (s.actions k).proc p) _ w).0 in
        below_make k (λ i. waiting (s.actions k).proc (s.actions i) && acquiring (kind_of (s.actions i))) j (omega (arith, item.0))
        (and_make _ _ (ap (λ (n : ℕ). waiting n (s.actions j)) q ∙ sym (queue_at c s sets K j t p low) ∙ ap (has queue) e ∙ both.0) (sym (kind_at c s sets K j t 6 (omega arith)) ∙ ap (has (get_or sets 14 0)) e ∙ both.1))

    pub front-some : (r : ℕ) → ((i : ℕ) → has r i ≡ (has queue i && ltb i (a + 1))) → Front s p r
    front-some r R k h w =
        elim (dec_lt a (8 + k)) [
          | yes l ↦ inr (acquire_before k l w)
          | no l ↦ inl (R (8 + k) ∙ and_make _ _ (queue_at c s sets K k h p low ∙ w) (lt-ltb (8 + k) (a + 1) (omega arith)))
        ]

-- of the four queues

not_in : (a b : Bool) → a ≡ false → (a ≡ true) ⊎ (b ≡ true) → b ≡ true
not_in a b n (inl h) = absurd (false≢true (sym n ∙ h))
not_in a b n (inr h) = h

pub fronts_lead : (s : State) (a b d e : ℕ) → Front s 0 a → Front s 1 b → Front s 2 d → Front s 3 e → Leading s (bit_or (bit_or e d) (bit_or b a) / 2 ^ 8)
fronts_lead s a b d e A B D E k h q n =
    let z = or_none _ _ (sym (has_past (bit_or (bit_or e d) (bit_or b a)) 8 k ∙ has_or (bit_or e d) (bit_or b a) (8 + k)) ∙ n) in
    let y = or_none _ _ (sym (has_or e d (8 + k)) ∙ z.0) in
    let x = or_none _ _ (sym (has_or b a (8 + k)) ∙ z.1) in
    let r = below_cases 4 (λ p. waiting p (s.actions k)) q in
    by y.0 y.1 x.0 x.1 r.0 r.1 r.2
  where
    by : has e (8 + k) ≡ false → has d (8 + k) ≡ false → has b (8 + k) ≡ false → has a (8 + k) ≡ false → (p : ℕ) → p < 4 → waiting p (s.actions k) ≡ true → behind s k ≡ true
    by w x y z zero l t = not_in _ _ z (A k h t)
    by w x y z (suc zero) l t = not_in _ _ y (B k h t)
    by w x y z (suc (suc zero)) l t = not_in _ _ x (D k h t)
    by w x y z (suc (suc (suc zero))) l t = not_in _ _ w (E k h t)
    by w x y z (suc (suc (suc (suc p)))) l t = absurd (omega arith)
