-- What a step leaves spent. Assumes nothing.
use mathlib.Core.Path.{◌≡◌, refl, sym, ap, subst, ◌∙◌}
use mathlib.Core.Logic.{◌⊎◌, inl, inr, ⊎_elim}
use mathlib.Core.Bool.{Bool, true, false, ◌&&◌, ◌||◌, not, cond}
use mathlib.Core.List.{List}
use Prim.Native.Nat.{ℕ, suc, ◌+◌, ◌/◌, ◌%◌, ◌<◌, ◌≤◌}
use native.Mathlib.Omega.{arith}
use native.Mathlib.Decide.{dec_lt}
use lib.Dec.{eqb, ltb, leb}
use lib.ListN.{length, get_or, set, length-set}
use lib.Seq.{get_or-set_same, get_or-set_other}
use borrow.Author.Tests.{lt-ltb, le-ltb, ltb-true, eqb-true, eqb-false, eq-eqb, ne_eqb, not-true}
use Rattle.words.specs.Sets.{has}
use Rattle.words.proofs.Bools.{decide, or_cases, or_left, or_right, and_both, and_make, and_left, and_right, and_true, or_nothing}
use Rattle.words.proofs.Sets.{has_zero}
use Rattle.cases.specs.declared.Case.{Case}
use Rattle.rules.specs.Kinds.{acquiring}
use Rattle.rules.specs.State.{State, Action, kind_of}
use Rattle.rules.specs.Step.{issue}
use Rattle.orders.specs.Rows.{SetOf}
use Rattle.machine.specs.declared.Entry.{Entry}
use Rattle.machine.specs.Shown.{shown_entry, Acts}
use Rattle.machine.proofs.Entries.{action_out}
use Rattle.sure.specs.Spent.{Key, taking, issuing, step_by, rivals, wakes}
use Rattle.spending.specs.Words.{spent_by}
use Rattle.spending.specs.Words.{key_at}
use Rattle.spending.specs.Spending.{RestedBy}
use Rattle.spending.specs.Spending.{Cleared}
use Rattle.spending.proofs.Spends.{key_issue}

module _ (s : State) (a b : Action) where
  pub rivals_first : (k : ℕ) → k ≡ kind_of a → (k ≡ 6 → ⊥) → false ≡ rivals s a b
  rivals_first k q h = rw (ne_eqb (kind_of a) 6 (λ e. h (q ∙ e)))

  pub rivals-second : (k : ℕ) → k ≡ kind_of b → (k ≡ 6 → ⊥) → false ≡ rivals s a b
  rivals-second k q h = sym (and_right (acquiring (kind_of a)) _ (and_left (acquiring (kind_of b)) _ (ne_eqb (kind_of b) 6 (λ e. h (q ∙ e)))))

-- nothing is cleared below 0

pub no_set : (P : ℕ → Bool) → SetOf 0 P 0
no_set P e = has_zero e ∙ rw (le-ltb e 0 (omega arith))

pub word_gone : (x a : ℕ) (gone : Bool) → gone ≡ true → has 0 a ≡ (has x a && not gone)
word_gone x a gone h = has_zero a ∙ rw h (sym (and_right (has x a) false refl))

pub word_left : (x a : ℕ) (gone : Bool) → gone ≡ false → has x a ≡ (has x a && not gone)
word_left x a gone h = rw h (sym (and_true (has x a)))

module _ (now : List ℕ) (gone : ℕ) where
  pub cleared_none : (word : ℕ) → length now ≡ 50 → ((a : ℕ) → has word a ≡ (has (get_or now 48 0) a && not (has gone a))) → Cleared now gone 0 (set now 48 word)
  cleared_none word long h =
      record {
        long = simp length-set long;
        low = λ k l. absurd (omega arith);
        lone = λ a. ap (λ (x : ℕ). has x a) (get_or-set_same now 48 word 0 (omega arith)) ∙ h a;
        others = λ k l q. get_or-set_other now 48 k word 0 q;
      }

  pub cleared_more : (less : List ℕ) (n word : ℕ) → n < 48 → Cleared now gone n less → ((a : ℕ) → has word a ≡ (has (get_or less n 0) a && not (has gone n))) → Cleared now gone (n + 1) (set less n word)
  cleared_more less n word lt C h =
      record {
        long = simp length-set C.long;
        low = λ k l a. ⊎_elim (same k a) (other k a l) (decide (eqb k n));
        lone = λ a. ap (λ (x : ℕ). has x a) (get_or-set_other less n 48 word 0 (λ q. omega arith)) ∙ C.lone a;
        others = λ k l q. get_or-set_other less n k word 0 (λ z. omega arith) ∙ C.others k (omega arith) q;
      }
    where
      same : (k a : ℕ) → eqb k n ≡ true → has (get_or (set less n word) k 0) a ≡ (has (get_or now k 0) a && not (has gone k))
      same k a q =
          rw (eqb-true k n q) (ap (λ (x : ℕ). has x a) (get_or-set_same less n word 0 (omega (arith, C.long))) ∙ h a ∙ ap (λ (x : ℕ). has x a && not (has gone n)) (C.others n (omega arith) (λ z. omega arith)))

      other : (k a : ℕ) → k < n + 1 → eqb k n ≡ false → has (get_or (set less n word) k 0) a ≡ (has (get_or now k 0) a && not (has gone k))
      other k a l q = ap (λ (x : ℕ). has x a) (get_or-set_other less n k word 0 (eqb-false k n q)) ∙ C.low k (below (eqb-false k n q)) a
        where
          below : (k ≡ n → ⊥) → k < n
          below z = omega arith

  pub cleared_kept : (less : List ℕ) (n : ℕ) → n < 48 → has gone n ≡ false → Cleared now gone n less → Cleared now gone (n + 1) less
  cleared_kept less n lt h C =
      record {
        long = C.long;
        low = λ k l a. ⊎_elim (same k a) (λ q. C.low k (below k l (eqb-false k n q)) a) (decide (eqb k n));
        lone = C.lone;
        others = λ k l q. C.others k (omega arith) q;
      }
    where
      same : (k a : ℕ) → eqb k n ≡ true → has (get_or less k 0) a ≡ (has (get_or now k 0) a && not (has gone k))
      same k a q = rw (eqb-true k n q) (ap (λ (x : ℕ). has x a) (C.others n (omega arith) (λ z. omega arith)) ∙ word_left (get_or now n 0) a (has gone n) h)

      below : (k : ℕ) → k < n + 1 → (k ≡ n → ⊥) → k < n
      below k l z = omega arith

-- the issues that stay spent

pub issue_last : (x q p n : ℕ) → 48 ≤ n + 1 → has 0 q ≡ (has x q && not (eqb q p || leb 48 (suc n)))
issue_last x q p n h = has_zero q ∙ sym (and_right (has x q) _ (ap not (or_right (eqb q p) (leb 48 (suc n)) (borrow.Author.Tests.le-leb 48 (suc n) (omega arith)))))

pub issue_other : (x q p n : ℕ) (bit word : ℕ) → n + 1 < 48 → has bit q ≡ eqb q p → has word q ≡ (has x q && not (has bit q)) → has word q ≡ (has x q && not (eqb q p || leb 48 (suc n)))
issue_other x q p n bit word h e w = w ∙ rw (e, borrow.Author.Tests.lt-leb 48 (suc n) (omega arith)) (ap (λ (b : Bool). has x q && not b) (sym (or_nothing (eqb q p))))

-- the kind of an action that is not issued
pub unissued-kind : (c : Case) (n : ℕ) (acts : List ℕ) (s : State) (k : ℕ) → Acts c n acts s → n ≤ k → kind_of (s.actions k) ≡ 6 → ⊥
unissued-kind c n acts s k A h e = omega (arith, sym (ap kind_of (action_out c n acts s A k h)) ∙ e)

-- the key of a position

-- the action that it commits, and the item that it names
abbrev pub action_at : ℕ → ℕ
action_at j = cond (ltb (j / 64) 48) (j / 64) (j % 64)

abbrev pub source_at : ℕ → ℕ
source_at j = cond (ltb (j / 64) 48) (j % 64) 0

pub key_taken : (j : ℕ) → j / 64 < 49 → key_at j ≡ taking (action_at j) (source_at j)
key_taken j h =
    elim (dec_lt (j / 64) 48) [
      | yes l ↦ rw (lt-ltb (j / 64) 48 l)
      | no l ↦ rw (le-ltb (j / 64) 48 (omega arith), eq-eqb (j / 64) 48 (omega arith))
    ]

module _ (s : State) (now : List ℕ) (long : length now ≡ 50) where
  -- the commit of an action that is no acquire wakes nothing
  pub rest_none : (j k : ℕ) → j / 64 < 49 → k ≡ action_at j → (kind_of (s.actions k) ≡ 6 → ⊥) → RestedBy s (step_by s (key_at j)) now now
  rest_none j k h q n =
      subst (λ (a : Key). RestedBy s (step_by s a) now now) (sym (key_taken j h)) (record { long = long; calm = λ a x. (x, calm (source_at j) a) })
    where
      calm : (f : ℕ) (a : Key) → wakes s (step_by s (taking (action_at j) f)) a ≡ false
      calm f (taking i x) = rw (sym q) (sym (rivals_first s (s.actions k) (s.actions i) (kind_of (s.actions k)) refl n))
      calm f (issuing p) = refl

  -- an acquire wakes the acquires of its location
  pub rest_acquire : (c : Case) (n : ℕ) (acts : List ℕ) (e : Entry) (gone : ℕ) (less : List ℕ) (j k : ℕ) → Acts c n acts s → j / 64 < 49 → k ≡ action_at j → s.actions k ≡ shown_entry c e → SetOf n (λ i. rivals s (shown_entry c e) (s.actions i)) gone → Cleared now gone 48 less → RestedBy s (step_by s (key_at j)) now less
  unfolding spent_by
  rest_acquire c n acts e gone less j k A h q z set C =
      subst (λ (a : Key). RestedBy s (step_by s a) now less) (sym (key_taken j h)) (record { long = C.long; calm = calm (source_at j) })
    where
      apart : (i : ℕ) → has gone i ≡ false → rivals s (s.actions k) (s.actions i) ≡ false
      apart i g =
          elim (dec_lt i n) [
            | yes l ↦ ap (λ (a : Action). rivals s a (s.actions i)) z ∙ sym (set i ∙ rw (lt-ltb i n l)) ∙ g
            | no l ↦ sym (rivals-second s (s.actions k) (s.actions i) 0 (sym (ap kind_of (action_out c n acts s A i (omega arith)))) (λ b. omega arith))
          ]

      calm : (f : ℕ) (a : Key) → spent_by less a ≡ true → (spent_by now a ≡ true) × (wakes s (step_by s (taking (action_at j) f)) a ≡ false)
      calm f (taking i x) y =
          rw (sym q) (⊎_elim
          (λ p.
          let b = and_both (ltb i 48) (has (get_or less i 0) x) p in
          let d = and_both (has (get_or now i 0) x) (not (has gone i)) (sym (C.low i (ltb-true i 48 b.0) x) ∙ b.1) in
          (or_left (ltb i 48 && has (get_or now i 0) x) (eqb x 0 && has (get_or now 48 0) i) (and_make (ltb i 48) (has (get_or now i 0) x) b.0 d.0), apart i (not-true (has gone i) d.1)))
          (λ p.
          let b = and_both (eqb x 0) (has (get_or less 48 0) i) p in
          let d = and_both (has (get_or now 48 0) i) (not (has gone i)) (sym (C.lone i) ∙ b.1) in
          (or_right (ltb i 48 && has (get_or now i 0) x) (eqb x 0 && has (get_or now 48 0) i) (and_make (eqb x 0) (has (get_or now 48 0) i) b.0 d.0), apart i (not-true (has gone i) d.1)))
          (or_cases (ltb i 48 && has (get_or less i 0) x) (eqb x 0 && has (get_or less 48 0) i) y))
      calm f (issuing p) y = (ap (λ (w : ℕ). has w p) (sym (C.others 49 (omega arith) (λ b. omega arith))) ∙ y, refl)

  -- an issue wakes that of its processor, and the last one every issue
  pub rest_issue : (n word j : ℕ) → s.count ≡ n → 49 ≤ j / 64 → ((q : ℕ) → has word q ≡ (has (get_or now 49 0) q && not (eqb q (j % 64) || leb 48 (suc n)))) → RestedBy s (step_by s (key_at j)) now (set now 49 word)
  unfolding spent_by
  rest_issue n word j count h w = subst (λ (a : Key). RestedBy s (step_by s a) now (set now 49 word)) (sym (key_issue (j / 64) (j % 64) h)) (record { long = simp length-set long; calm = calm })
    where
      calm : (a : Key) → spent_by (set now 49 word) a ≡ true → (spent_by now a ≡ true) × (wakes s (issue (j % 64)) a ≡ false)
      calm (taking i x) y = (same (decide (ltb i 48)) y, refl)
        where
          lone : get_or (set now 49 word) 48 0 ≡ get_or now 48 0
          lone = get_or-set_other now 49 48 word 0 (λ b. omega arith)

          same : (ltb i 48 ≡ true) ⊎ (ltb i 48 ≡ false) → ((ltb i 48 && has (get_or (set now 49 word) i 0) x) || (eqb x 0 && has (get_or (set now 49 word) 48 0) i)) ≡ true → ((ltb i 48 && has (get_or now i 0) x) || (eqb x 0 && has (get_or now 48 0) i)) ≡ true
          same (inl l) y = rw (lone, get_or-set_other now 49 i word 0 (λ b. omega (arith, ltb-true i 48 l))) at y
          same (inr l) y = rw l (rw (l, lone) at y)
      calm (issuing p) y =
          let d = and_both (has (get_or now 49 0) p) (not (eqb p (j % 64) || leb 48 (suc n))) (sym (w p) ∙ ap (λ (x : ℕ). has x p) (sym (get_or-set_same now 49 word 0 (omega arith))) ∙ y) in
          (d.0, rw count (not-true (eqb p (j % 64) || leb 48 (suc n)) d.1))
