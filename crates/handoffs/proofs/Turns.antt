-- How far the loops over a plan's four actions are. Assumes nothing.
use mathlib.Core.Path.{◌≡◌, ◌∙◌}
use mathlib.Core.Bool.{Bool, ◌&&◌, ◌||◌, cond}
use mathlib.Core.List.{List, [], ◌∷◌}
use Prim.Native.Nat.{ℕ, zero, suc, ◌+◌, ◌<◌}
use native.Mathlib.Omega.{arith}
use lib.Dec.{eqb, ltb, leb}
use lib.ListN.{length, get_or, set}
use Rattle.std.proofs.Common.{count_by}
use Rattle.std.specs.List.{filter}
use Rattle.std.proofs.lemmas.List.Sums.{length-filter}
use borrow.Author.Tests.{ne_eqb}
use Rattle.words.proofs.Bools.{cond-false}
use Rattle.cases.specs.declared.Slot.{Slot}
use Rattle.rules.specs.Building.{slot_of}
use Rattle.handoffs.specs.declared.Plan.{Plan}
use Rattle.handoffs.specs.Plans.{fresh, sends, receives}
use Rattle.handoffs.specs.Inner.{deed_of, passing, fresh_two, fresh_three, fresh_four, no_code, ready_at}

-- the first i actions are legal
abbrev pub fine_to : Plan → ℕ → Bool
fine_to p zero = leb p.count 4
fine_to p (suc i) = fine_to p i && (leb p.count i || ltb (deed_of p i) 6)

-- the register for a read by action i
abbrev pub register_at : Plan → ℕ → ℕ
register_at p zero = 5
register_at p (suc i) = fresh (register_at p i) (deed_of p i)

-- the first i instructions are in their slots
abbrev pub sent_to : Plan → ℕ → List Slot
sent_to p zero = no_code
sent_to p (suc i) = set (sent_to p i) i (slot_of (sends (deed_of p i)))

abbrev pub received_to : List Slot → Plan → ℕ → List Slot
received_to code p zero = code
received_to code p (suc i) = set (received_to code p i) (12 + i) (slot_of (receives (record { byte = deed_of p i; register = register_at p i })))

-- the register of ready, where the first i actions don't read it
abbrev pub ready_from : Plan → ℕ → ℕ
ready_from p zero = ready_at p
ready_from p (suc zero) = cond (eqb (deed_of p 1) 3) (fresh_two p) (cond (eqb (deed_of p 2) 3) (fresh_three p) (fresh_four p))
ready_from p (suc (suc zero)) = cond (eqb (deed_of p 2) 3) (fresh_three p) (fresh_four p)
ready_from p (suc (suc (suc i))) = fresh_four p

pub not_ready : (p : Plan) (i : ℕ) → i < 3 → (deed_of p i ≡ 3 → ⊥) → ready_from p i ≡ ready_from p (suc i)
not_ready p zero h k = cond-false {A = ℕ} (eqb (deed_of p 0) 3) _ _ (ne_eqb (deed_of p 0) 3 k)
not_ready p (suc zero) h k = cond-false {A = ℕ} (eqb (deed_of p 1) 3) _ _ (ne_eqb (deed_of p 1) 3 k)
not_ready p (suc (suc zero)) h k = cond-false {A = ℕ} (eqb (deed_of p 2) 3) _ _ (ne_eqb (deed_of p 2) 3 k)
not_ready p (suc (suc (suc i))) h k = absurd (omega arith)

-- what a filter leaves of the four
counted_four : (f : ℕ → Bool) (l : List ℕ) → length l ≡ 4 → count_by f l ≡ cond (f (get_or l 0 0)) 1 0 + cond (f (get_or l 1 0)) 1 0 + cond (f (get_or l 2 0)) 1 0 + cond (f (get_or l 3 0)) 1 0
counted_four f [] h = absurd (omega (arith, h))
counted_four f (a ∷ []) h = absurd (omega (arith, h))
counted_four f (a ∷ b ∷ []) h = absurd (omega (arith, h))
counted_four f (a ∷ b ∷ d ∷ []) h = absurd (omega (arith, h))
counted_four f (a ∷ b ∷ d ∷ e ∷ []) h = omega arith
counted_four f (a ∷ b ∷ d ∷ e ∷ g ∷ l) h = absurd (omega (arith, h))

pub counted : (f : ℕ → Bool) (p : Plan) → length p.deeds ≡ 4 → length (filter f p.deeds) ≡ passing f p
counted f p h = length-filter f p.deeds ∙ counted_four f p.deeds h
