-- Where a record belongs among ascending records, and whether it is there. Assumes nothing.
use mathlib.Core.Path.{◌≡◌, sym, ap, ◌∙◌, subst}
use mathlib.Core.Logic.{⊎_elim, ◌↔◌}
use mathlib.Core.Bool.{true, false, not, true≢false, false≢true}
use mathlib.Core.List.Memᴰ
use mathlib.Core.List.{List}
use Prim.Native.Nat.{ℕ, ◌+◌, ◌-◌, ◌≤◌, ◌<◌}
use native.Mathlib.Nat.{eq-or-lt_of_le}
use native.Mathlib.Decide.{dec_lt}
use native.Mathlib.Omega.{arith}
use borrow.Author.Count.{below_more}
use borrow.Author.Tests.{not-true}
use Rattle.words.proofs.Bools.{fails}
use Rattle.runs.specs.Listing.{below}
use Rattle.records.specs.Buffer.{record_at, Among, Held}
use Rattle.records.specs.Insertion.{Place}
use Rattle.runs.proofs.ByteOrder.{below_irrefl, below_trans, below_total}
use Rattle.records.proofs.Order.{below_self}
use Rattle.records.proofs.Buffer.{among_at, place_of, ordered}

-- of n records those before low are below r, and those from high on are not
pub record Between (bs : List ℕ) (n : ℕ) (r : List ℕ) (low high : ℕ) : Type 0 where
  pub under : (k : ℕ) → k < low → below (record_at bs k) r ≡ true
  pub over : (k : ℕ) → high ≤ k → k < n → below (record_at bs k) r ≡ false

pub between_all : (bs : List ℕ) (n : ℕ) (r : List ℕ) → Between bs n r 0 n
between_all bs n r = record { under = λ k l. absurd (omega arith); over = λ k l m. absurd (omega arith) }

module _ {bs : List ℕ} {n : ℕ} (held : Held bs n) (r : List ℕ) where
  rises : (i j : ℕ) → i < j → j < n → below (record_at bs j) r ≡ true → below (record_at bs i) r ≡ true
  rises i j h l e = below_trans (record_at bs i) (record_at bs j) r (ordered n bs held.sorted i j h l) e

  module _ {low high : ℕ} (b : Between bs n r low high) (mid : ℕ) where
    pub between_up : mid < n → below (record_at bs mid) r ≡ true → Between bs n r (mid + 1) high
    between_up l h = record { under = below_more (λ k. below (record_at bs k) r ≡ true) mid (λ k q. rises k mid q l h) h; over = b.over }

    pub between_down : below (record_at bs mid) r ≡ false → Between bs n r low mid
    between_down h = record { under = b.under; over = λ k q l. fails (below (record_at bs mid) r) (below (record_at bs k) r) (λ e. ⊎_elim (same k e) (λ p. rises mid k p l e) (eq-or-lt_of_le q)) h }
      where
        same : (k : ℕ) → below (record_at bs k) r ≡ true → mid ≡ k → below (record_at bs mid) r ≡ true
        same k e p = subst (λ (i : ℕ). below (record_at bs i) r ≡ true) (sym p) e

  -- after the last record, if there is one
  pub place_first : n ≡ 0 → Place bs n r n
  place_first e = record { within = omega arith; under = λ k l. absurd (omega arith); over = λ k l m. absurd (omega arith) }

  pub place_last : 0 < n → below (record_at bs (n - 1)) r ≡ true → Place bs n r n
  place_last p h = record { within = omega arith; under = λ k l. (between_up (between_all bs n r) (n - 1) (omega arith) h).under k (omega arith); over = λ k l m. absurd (omega arith) }

  module _ {at : ℕ} (w : Place bs n r at) where
    -- a record that is there stands at its place
    only_at : Among bs n r → (at < n) × (r ≡ record_at bs at)
    only_at m =
        let p = place_of n bs r m in
        elim (dec_lt p.0 at) [ yes h ↦ absurd (before p.0 h p.2) | no h ↦ from p.0 p.1 p.2 (omega arith) ]
      where
        before : (k : ℕ) → k < at → r ≡ record_at bs k → ⊥
        before k h e = below_irrefl r (subst (λ (x : List ℕ). below x r ≡ true) (sym e) (w.under k h))

        after : (k : ℕ) → k < n → r ≡ record_at bs k → at < k → ⊥
        after k l e h =
            let lower : below (record_at bs at) r ≡ true = subst (λ (x : List ℕ). below (record_at bs at) x ≡ true) (sym e) (ordered n bs held.sorted at k h l) in
            true≢false (sym lower ∙ w.over at (omega arith) (omega arith))

        from : (k : ℕ) → k < n → r ≡ record_at bs k → at ≤ k → (at < n) × (r ≡ record_at bs at)
        from k l e h = ⊎_elim (λ q. (omega arith, e ∙ ap (λ (i : ℕ). record_at bs i) (sym q))) (λ q. absurd (after k l e q)) (eq-or-lt_of_le h)

    pub past_all : n ≤ at → (false ≡ true) ↔ Among bs n r
    past_all h = (λ e. absurd (false≢true e), λ m. let l : at < n = (only_at m).0 in absurd (omega arith))

    pub stands_at_lem : at < n → (not (below r (record_at bs at)) ≡ true) ↔ Among bs n r
    stands_at_lem h = (
      (λ e. Memᴰ.cast (sym (same (not-true (below r (record_at bs at)) e))) (among_at n bs at h)),
      (λ m. ap not (ap (λ (x : List ℕ). below r x) (sym (only_at m).1) ∙ below_self r)),
    )
      where
        same : below r (record_at bs at) ≡ false → record_at bs at ≡ r
        same e = below_total (record_at bs at) r (w.over at (omega arith) h) e
