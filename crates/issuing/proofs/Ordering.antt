-- The item of a new action, in the order. Assumes nothing.
use mathlib.Core.Path.{◌≡◌, refl, sym, ◌∙◌}
use mathlib.Core.Logic.{⊎_elim}
use mathlib.Core.Bool.{true, false}
use Prim.Native.Nat.{ℕ, ◌^◌, ◌<◌}
use native.Mathlib.Omega.{arith}
use native.Mathlib.Decide.{dec_lt}
use lib.Dec.{eqb, ltb}
use borrow.Author.Tests.{lt-ltb, le-ltb, eq-eqb, ne_eqb, eqb-true, eqb-false}
use Rattle.words.proofs.Bools.{decide, and_true, and_right}
use Rattle.words.proofs.Sets.{has_one, has_zero}
use Rattle.rules.specs.Kinds.{accesses, syncs}
use Rattle.rules.specs.State.{State, Action, kind_of, stands_at}
use Rattle.orders.specs.Rows.{SetOf}
use Rattle.machine.proofs.Items.{eight}
use Rattle.issuing.specs.Issued.{after}

-- its initial writes, among all items
pub initial_items : (p : ℕ) (new : Action) (s : State) (x : ℕ) → SetOf 8 (λ l. stands_at l new) x → SetOf 8 (after p new s) x
initial_items p new s x h e = h e ∙ elim (dec_lt e 8) [ yes k ↦ rw (lt-ltb e 8 k) | no k ↦ rw (le-ltb e 8 (omega arith)) ]

flip : (a b : ℕ) → eqb a b ≡ eqb b a
flip a b = ⊎_elim (λ h. h ∙ sym (eq-eqb b a (sym (eqb-true a b h)))) (λ h. h ∙ sym (ne_eqb b a (λ e. eqb-false a b h (sym e)))) (decide (eqb a b))

-- an acquire or a release stands at every location
pub sync_writes : (a : Action) → syncs (kind_of a) ≡ true → SetOf 8 (λ l. stands_at l a) 255
sync_writes a h e = eight e ∙ rw h (sym (and_true (ltb e 8)))

-- a read or a write at its own
pub access_writes : (a : Action) → syncs (kind_of a) ≡ false → accesses (kind_of a) ≡ true → a.loc < 8 → SetOf 8 (λ l. stands_at l a) (2 ^ a.loc)
access_writes a h k low e = has_one a.loc e ∙ flip e a.loc ∙ rw (h, k) (elim (dec_lt e 8) [ yes q ↦ rw (lt-ltb e 8 q) | no q ↦ rw (le-ltb e 8 (omega arith)) (ne_eqb a.loc e (λ x. omega arith)) ])

-- and nothing else at any
pub other_writes : (a : Action) → syncs (kind_of a) ≡ false → accesses (kind_of a) ≡ false → SetOf 8 (λ l. stands_at l a) 0
other_writes a h k e = has_zero e ∙ rw (h, k) (sym (and_right (ltb e 8) false refl))
