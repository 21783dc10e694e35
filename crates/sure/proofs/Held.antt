-- Rows of 'which earlier uncommitted actions hold back a commit', and what a kind is not. Assumes nothing.
use mathlib.Core.Path.{◌≡◌, refl, subst}
use mathlib.Core.Bool.{Bool, true, false, false≢true}
use mathlib.Core.Logic.{◌⊎◌, inl, inr, ⊎_elim}
use Prim.Native.Nat.{ℕ}
use borrow.Author.Tests.{eqb-true}
use Rattle.words.proofs.Bools.{or_cases, decide}
use Rattle.rules.specs.Kinds.{reading, writing, branching, acquiring, releasing, syncs, held_by}
use Rattle.sure.specs.Sure.{sure_kind}

module _ (k q : ℕ) (same : Bool) where
  -- a release is held back by anything
  pub release_held : releasing k ≡ true → held_by k q same ≡ true
  unfolding held_by
  release_held h = rw (eqb-true k 7 h) refl

  -- an acquire or a release is held back by a release
  pub sync_held : syncs k ≡ true → releasing q ≡ true → held_by k q same ≡ true
  unfolding held_by
  sync_held h r = step (or_cases (acquiring k) (releasing k) h)
    where
      step : (acquiring k ≡ true) ⊎ (releasing k ≡ true) → held_by k q same ≡ true
      step (inl a) = rw (eqb-true k 6 a, eqb-true q 7 r) refl
      step (inr b) = release_held b

  -- a read is held back by an acquire
  pub read_held : reading k ≡ true → acquiring q ≡ true → held_by k q same ≡ true
  unfolding held_by
  read_held h a = rw (eqb-true k 1 h, eqb-true q 6 a) refl

-- a read is of no other kind, and so is an acquire
pub read_only : (k : ℕ) → reading k ≡ true → (branching k ≡ false) × (acquiring k ≡ false) × (releasing k ≡ false) × (writing k ≡ false)
read_only k h = rw (eqb-true k 1 h) (refl, refl, refl, refl)

pub acquire_only : (k : ℕ) → acquiring k ≡ true → (branching k ≡ false) × (reading k ≡ false) × (releasing k ≡ false)
acquire_only k h = rw (eqb-true k 6 h) (refl, refl, refl)

-- a sure commit is of neither kind
pub sure_unread : (k : ℕ) → sure_kind k ≡ true → reading k ≡ false
sure_unread k h = ⊎_elim (λ r. absurd (false≢true (subst (λ (i : ℕ). sure_kind i ≡ true) (eqb-true k 1 r) h))) (λ r. r) (decide (reading k))

pub sure_unacquired : (k : ℕ) → sure_kind k ≡ true → acquiring k ≡ false
sure_unacquired k h = ⊎_elim (λ r. absurd (false≢true (subst (λ (i : ℕ). sure_kind i ≡ true) (eqb-true k 6 r) h))) (λ r. r) (decide (acquiring k))
