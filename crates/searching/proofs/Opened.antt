-- The positions of accepted steps. Assumes nothing.
use mathlib.Core.Path.{◌≡◌, refl, sym, ap, ap₂, subst}
use mathlib.Core.Logic.{⊎_elim}
use mathlib.Core.Bool.{Bool, true, false, ◌||◌, not, cond}
use Prim.Native.Nat.{ℕ, ◌+◌, ◌*◌, ◌/◌, ◌%◌, ◌<◌}
use native.Mathlib.Omega.{arith}
use lib.Dec.{eqb, ltb}
use borrow.Author.Tests.{eqb-true, eq-eqb, lt-ltb}
use Rattle.words.proofs.Bools.{decide, and_both, and_make, or_left, or_right}
use Rattle.cases.specs.declared.Case.{Case}
use Rattle.rules.specs.Kinds.{reading, acquiring}
use Rattle.rules.specs.State.{State, kind_of}
use Rattle.rules.specs.Step.{step_code}
use Rattle.sure.specs.Spent.{Key, taking, issuing, step_by, restful}
use Rattle.sure.specs.Sure.{sure_kind}
use Rattle.sure.proofs.Commit.{the, can_take}
use Rattle.spending.specs.Words.{key_in, sort_in, opens, key_at, opens_at}

-- no sure commit is accepted
abbrev pub NoSure : Case → State → Type 0
NoSure c s = (k : ℕ) → k < s.count → sure_kind (kind_of (s.actions k)) ≡ true → step_code c s (step_by s (taking k 0)) ≡ 0 → ⊥

module _ (c : Case) (s : State) where
  pub opens_step : (w e : ℕ) → opens c s w e ≡ true → step_code c s (step_by s (key_in w e)) ≡ 0
  unfolding opens
  opens_step w e h = eqb-true _ 0 (and_both (sort_in s w e) _ h).1

  opens_sort : (w e : ℕ) → opens c s w e ≡ true → sort_in s w e ≡ true
  unfolding opens
  opens_sort w e h = (and_both (sort_in s w e) _ h).0

  opens_make : (w e : ℕ) → sort_in s w e ≡ true → step_code c s (step_by s (key_in w e)) ≡ 0 → opens c s w e ≡ true
  unfolding opens
  opens_make w e a h = and_make (sort_in s w e) _ a (eq-eqb _ 0 h)

  -- an accepted commit of no read is an acquire's
  acquires : NoSure c s → (k : ℕ) → reading (kind_of (s.actions k)) ≡ false → step_code c s (step_by s (taking k 0)) ≡ 0 → acquiring (kind_of (s.actions k)) ≡ true
  acquires none k r h = ⊎_elim (λ a. a) (λ a. absurd (none k (can_take c s (the (s.actions k).proc k 0) h).there (ap₂ (λ (x y : Bool). not (x || y)) r a) h)) (decide (acquiring (kind_of (s.actions k))))

  by_word : NoSure c s → (w e : ℕ) (a b : Bool) → cond a (reading (kind_of (s.actions w))) (cond b (not (reading (kind_of (s.actions e)))) true) ≡ true
      → step_code c s (step_by s (cond a (taking w e) (cond b (taking e 0) (issuing e)))) ≡ 0 → restful s (cond a (taking w e) (cond b (taking e 0) (issuing e))) ≡ true
  by_word none w e true b r h = or_left _ _ r
  by_word none w e false true r h = or_right (reading (kind_of (s.actions e))) _ (acquires none e (unread (reading (kind_of (s.actions e))) r) h)
    where
      unread : (x : Bool) → not x ≡ true → x ≡ false
      unread true h = sym h
      unread false h = refl
  by_word none w e false false r h = refl

  -- the step at an open position may be spent
  pub opens-restful : NoSure c s → (w e : ℕ) → opens c s w e ≡ true → restful s (key_in w e) ≡ true
  opens-restful none w e h = by_word none w e (ltb w 48) (eqb w 48) (opens_sort w e h) (opens_step w e h)

  -- the open positions of the accepted reads, of the accepted acquires and of the accepted issues

  pub key_read : (k e : ℕ) → k < 48 → key_in k e ≡ taking k e
  key_read k e l = rw (lt-ltb k 48 l)

  pub read_open : (k e : ℕ) → k < 48 → reading (kind_of (s.actions k)) ≡ true → step_code c s (step_by s (taking k e)) ≡ 0 → opens c s k e ≡ true
  read_open k e l r h = opens_make k e (rw (lt-ltb k 48 l) r) (rw (lt-ltb k 48 l) h)

  pub other_open : (k : ℕ) → reading (kind_of (s.actions k)) ≡ false → step_code c s (step_by s (taking k 0)) ≡ 0 → opens c s 48 k ≡ true
  other_open k r h = opens_make 48 k (ap not r) h

  pub issue_open : (p : ℕ) → step_code c s (step_by s (issuing p)) ≡ 0 → opens c s 49 p ≡ true
  issue_open p h = opens_make 49 p refl h

-- bit e of word w has position 64w + e
module _ (w e : ℕ) (l : e < 64) where
  word_of_lem : (64 * w + e) / 64 ≡ w
  word_of_lem = omega arith

  bit_of : (64 * w + e) % 64 ≡ e
  bit_of = omega arith

  pub at_position : (c : Case) (s : State) (P : Key → Type 0) → (opens_at c s (64 * w + e) ≡ true → P (key_at (64 * w + e))) → opens c s w e ≡ true → P (key_in w e)
  at_position c s P = subst (λ (j : ℕ). (opens c s j ((64 * w + e) % 64) ≡ true → P (key_in j ((64 * w + e) % 64))) → opens c s w e ≡ true → P (key_in w e)) (sym word_of_lem)
      (subst (λ (j : ℕ). (opens c s w j ≡ true → P (key_in w j)) → opens c s w e ≡ true → P (key_in w e)) (sym bit_of) (λ f. f))
