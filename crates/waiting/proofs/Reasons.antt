-- The reason of a processor, from the code that its oldest action's commit would get. Assumes nothing.
use mathlib.Core.Path.{◌≡◌, refl, sym, ◌∙◌, ap}
use mathlib.Core.Bool.{Bool, true, false, not, cond, ◌&&◌, ◌||◌}
use mathlib.Core.List.{List, [], ◌∷◌}
use Prim.Native.Nat.{ℕ, ◌+◌, ◌≤◌, ◌<◌}
use native.Mathlib.Omega.{arith}
use lib.Dec.{eqb, ltb, leb}
use lib.ListN.{length, get_or}
use lib.Seq.{ext_get_or}
use borrow.Author.Tests.{eqb-true, lt-ltb, le-ltb}
use Rattle.words.specs.Small.{any, is, is_none}
use Rattle.words.specs.Refusals.{Refusal, ◌when◌, first_code_of}
use Rattle.words.proofs.Bools.{and_both, and_make, below_fewer}
use Rattle.words.proofs.Lists.{each_at, each_length}
use Rattle.cases.specs.declared.Case.{Case}
use Rattle.cases.proofs.Lowest.{lowest_hit, lowest-none, no_position}
use Rattle.rules.specs.Kinds.{acquiring, releasing, reading, syncs}
use Rattle.rules.specs.State.{State, kind_of, waiting, value_of}
use Rattle.rules.specs.Commit.{held_back, visible, commit_refusals}
use Rattle.rules.proofs.Actions.{either}
use Rattle.progress.specs.Causes.{oldest, lock, causes, cause, reason, reasons}
use Rattle.progress.proofs.Progress.{barred_is}
use Rattle.waiting.specs.Behind.{behind}

skip : (n : ℕ) (b : Bool) (rest : List Refusal) → b ≡ false → first_code_of (n when b ∷ rest) ≡ first_code_of rest
unfolding first_code_of
skip n b rest h = rw h

-- the cause as a reason
abbrev known : ℕ → ℕ
known n = cond (eqb n 0) 1 n

-- the tests of a commit after 28 and the causes: u and n are 29 and 30, f and r the two ways of 31, v is 32
chain : (u n f r v a : Bool) → (f ≡ true → a ≡ true) → (r ≡ true → a ≡ false) → behind (first_code_of (29 when u ∷ 30 when n ∷ 31 when (f || r) ∷ 32 when v ∷ [])) a ≡ known (first_code_of (2 when u ∷ 3 when n ∷ 4 when f ∷ 5 when r ∷ []))
unfolding first_code_of
chain true n f r v a x y = refl
chain false true f r v a x y = refl
chain false false true r v a x y = rw (x refl) refl
chain false false false true v a x y = rw (y refl) refl
chain false false false false true a x y = refl
chain false false false false false a x y = refl

released_only : (k : ℕ) → releasing k ≡ true → acquiring k ≡ false
released_only k h = rw (eqb-true k 7 h)

module _ (c : Case) (s : State) (p k : ℕ) (there : k < s.count) (waits : waiting p (s.actions k) ≡ true) (first : (j : ℕ) → j < k → waiting p (s.actions j) ≡ false) where
  -- nothing holds it back
  free : held_back c s p k 0 ≡ false
  free = below_fewer k (λ j. waiting p (s.actions j)) _ (λ j _ z. (and_both (waiting p (s.actions j)) _ z).0) (no_position k (λ j. waiting p (s.actions j)) first)

  abbrev unready : Bool
  unready = any (λ n. is_none (value_of s n)) (s.actions k).inputs

  abbrev outside : Bool
  outside = syncs (kind_of (s.actions k)) && leb c.locs (lock c s p k)

  abbrev taken : Bool
  taken = acquiring (kind_of (s.actions k)) && not (is_none (s.holders (lock c s p k))) && not (is p (s.holders (lock c s p k)))

  abbrev unheld : Bool
  unheld = releasing (kind_of (s.actions k)) && not (is p (s.holders (lock c s p k)))

  abbrev unseen : Bool
  unseen = reading (kind_of (s.actions k)) && not (visible c s (s.actions k).loc (8 + k) 0)

  tests : first_code_of (commit_refusals c s p k 0) ≡ first_code_of (29 when unready ∷ 30 when outside ∷ 31 when (taken || unheld) ∷ 32 when unseen ∷ [])
  unfolding commit_refusals
  tests =
      skip 26 _ _ (ap not (and_make (ltb k s.count) (waiting p (s.actions k)) (lt-ltb k s.count there) waits))
      ∙ skip 27 _ _ refl
      ∙ skip 28 _ _ free
      ∙ ap (λ (b : Bool). first_code_of (29 when unready ∷ 30 when outside ∷ 31 when b ∷ 32 when unseen ∷ [])) (barred_is c s p k)

  pub cause_behind : behind (first_code_of (commit_refusals c s p k 0)) (acquiring (kind_of (s.actions k))) ≡ known (cause c s p k)
  unfolding causes
  cause_behind =
      ap (λ (n : ℕ). behind n (acquiring (kind_of (s.actions k)))) tests
      ∙ chain unready outside taken unheld unseen (acquiring (kind_of (s.actions k)))
      (λ h. (and_both (acquiring (kind_of (s.actions k))) _ (and_both (acquiring (kind_of (s.actions k)) && not (is_none (s.holders (lock c s p k)))) _ h).0).0)
      (λ h. released_only (kind_of (s.actions k)) (and_both (releasing (kind_of (s.actions k))) _ h).0)

module _ (c : Case) (s : State) (p : ℕ) where
  pub nothing-queued : s.count ≤ oldest s p → 0 ≡ reason c s p
  nothing-queued h = sym (rw (le-ltb (oldest s p) s.count h))

  pub reason-behind : (k code : ℕ) (acquire : Bool) → k ≡ oldest s p → k < s.count → code ≡ first_code_of (commit_refusals c s p k 0) → acquire ≡ acquiring (kind_of (s.actions k)) → behind code acquire ≡ reason c s p
  reason-behind k code acquire e h q a =
      let there : oldest s p < s.count = omega (arith, e, h) in
      (λ j. behind (q j) (a j))
      ∙ ap (λ (i : ℕ). behind (first_code_of (commit_refusals c s p i 0)) (acquiring (kind_of (s.actions i)))) e
      ∙ cause_behind c s p (oldest s p) there (lowest_hit s.count (λ j. waiting p (s.actions j)) there) (lowest-none s.count (λ j. waiting p (s.actions j)))
      ∙ sym (rw (lt-ltb (oldest s p) s.count there))

-- the oldest, action by action
pub none_more : (f : ℕ → Bool) (k : ℕ) → ((j : ℕ) → j < k → f j ≡ false) → f k ≡ false → (j : ℕ) → j < k + 1 → f j ≡ false
none_more f k h q j l = either j k (λ e. ap f e ∙ q) (λ n. h j (omega arith))

-- the bytes, one by one
module _ (c : Case) (s : State) where
  pub reasons_at : (j : ℕ) → j < 4 → get_or (reasons c s) j 0 ≡ cond (ltb j c.procs) (reason c s j) 0
  unfolding reasons
  reasons_at j h = each_at (λ p. cond (ltb p c.procs) (reason c s p) 0) 4 j 0 h

  reasons_long : length (reasons c s) ≡ 4
  unfolding reasons
  reasons_long = each_length (λ p. cond (ltb p c.procs) (reason c s p) 0) 4

  pub reasons_are : (out : List ℕ) → length out ≡ 4 → ((j : ℕ) → j < 4 → get_or out j 0 ≡ get_or (reasons c s) j 0) → out ≡ reasons c s
  reasons_are out long h = ext_get_or 0 out (reasons c s) (long ∙ sym reasons_long) (λ i lt. h i (omega arith))
