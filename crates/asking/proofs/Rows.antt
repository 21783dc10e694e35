-- The steps of a state in rows: each row's positions rise with its steps, and a step of lower bytes stands in an earlier row or earlier in
-- its row. Assumes nothing.
use mathlib.Core.Path.{◌≡◌, refl, sym, ◌∙◌, ap, subst}
use mathlib.Core.Logic.{◌⊎◌, inl, inr, ⊎_elim}
use mathlib.Core.Bool.{Bool, cond, true, false, ◌&&◌, false≢true}
use mathlib.Core.List.{List, [], ◌∷◌}
use Prim.Native.Nat.{ℕ, suc, ◌+◌, ◌*◌, ◌-◌, ◌/◌, ◌%◌, ◌≤◌, ◌<◌}
use native.Mathlib.Omega.{arith}
use lib.Dec.{eqb, ltb}
use borrow.Author.Tests.{ltb-true, eqb-true}
use Rattle.words.proofs.Bools.{or_cases, and_both}
use Rattle.cases.specs.declared.Case.{Case}
use Rattle.runs.specs.Listing.{below}
use Rattle.runs.specs.Reachable.{Reachable}
use Rattle.runs.proofs.ByteOrder.{first}
use Rattle.rules.specs.Kinds.{reading}
use Rattle.rules.specs.State.{State, kind_of}
use Rattle.rules.specs.Step.{Step, issue, commit, neither, step_code}
use Rattle.rules.specs.Bytes.{step_bytes}
use Rattle.rules.specs.Womm.{womm}
use Rattle.rules.proofs.Accepted.{can_issue, can_commit, neither_no}
use Rattle.rules.proofs.Actions.{waits_proc}
use Rattle.sure.specs.Spent.{Key, taking, step_by}
use Rattle.sure.proofs.Commit.{the, source_zero}
use Rattle.sure.proofs.Known.{known}
use Rattle.sure.proofs.Sweep.{source_there}
use Rattle.records.proofs.Growth.{in_second}
use Rattle.spending.specs.Words.{opens, key_in, key_at, opens_at}
use Rattle.spending.proofs.Spends.{key_issue}
use Rattle.std.specs.declared.ops.Range.{Range}
use Rattle.searching.proofs.Opened.{key_read, read_open, other_open, issue_open}
use Rattle.asking.specs.Inner.{step_at, row_of, rank_in, Placed, RowSpan}

-- four bytes against four
lex : (a b d e a' b' d' e' : ℕ) → below (a ∷ b ∷ d ∷ e ∷ []) (a' ∷ b' ∷ d' ∷ e' ∷ []) ≡ true → (a < a') ⊎ ((a ≡ a') × ((b < b') ⊎ ((b ≡ b') × ((d < d') ⊎ ((d ≡ d') × (e < e'))))))
lex a b d e a' b' d' e' h = in_second (λ w. (w.0, in_second (λ w. (w.0, in_second (λ w. (w.0, last (first e e' [] [] w.1))) (first d d' (e ∷ []) (e' ∷ []) w.1))) (first b b' (d ∷ e ∷ []) (d' ∷ e' ∷ []) w.1))) (first a a' (b ∷ d ∷ e ∷ []) (b' ∷ d' ∷ e' ∷ []) h)
  where
    last : (e < e') ⊎ ((e ≡ e') × (below [] [] ≡ true)) → e < e'
    last (inl l) = l
    last (inr w) = absurd (false≢true w.1)

module _ (c : Case) (s : State) (few : s.count ≤ 48) where
  -- lower bytes, an earlier row or place
  pub lower_rows : (u t : Step) → step_code c s u ≡ 0 → step_code c s t ≡ 0 → below (step_bytes u) (step_bytes t) ≡ true → (row_of u < row_of t) ⊎ ((row_of u ≡ row_of t) × (rank_in u < rank_in t))
  lower_rows (issue p) (issue q) hu ht b = inr (refl, step (lex 0 p 0 0 0 q 0 0 b))
    where
      step : (0 < 0) ⊎ (◌≡◌ {A = ℕ} 0 0 × ((p < q) ⊎ ((p ≡ q) × ((0 < 0) ⊎ (◌≡◌ {A = ℕ} 0 0 × (0 < 0)))))) → p < q
      step (inl l) = absurd (omega arith)
      step (inr (z, inl l)) = l
      step (inr (z, inr (x, inl l))) = absurd (omega arith)
      step (inr (z, inr (x, inr (y, l)))) = absurd (omega arith)
  lower_rows (issue p) (commit q j f) hu ht b = inl (omega arith)
  lower_rows (issue p) neither hu ht b = absurd (neither_no c s ht)
  lower_rows (commit p k e) (issue q) hu ht b = absurd (⊎_elim (λ l. omega arith) (λ w. omega (arith, w.0)) (lex 1 p k e 0 q 0 0 b))
  lower_rows (commit p k e) (commit q j f) hu ht b = step (can_commit c s p k e hu).there (lex 1 p k e 1 q j f b)
    where
      step : k < s.count → (1 < 1) ⊎ (◌≡◌ {A = ℕ} 1 1 × ((p < q) ⊎ ((p ≡ q) × ((k < j) ⊎ ((k ≡ j) × (e < f)))))) → (suc (48 * p + k) < suc (48 * q + j)) ⊎ ((suc (48 * p + k) ≡ suc (48 * q + j)) × (e < f))
      step there (inl l) = absurd (omega arith)
      step there (inr (z, inl l)) = inl (omega arith)
      step there (inr (z, inr (x, inl l))) = inl (omega arith)
      step there (inr (z, inr (x, inr (y, l)))) = inr (omega arith, l)
  lower_rows (commit p k e) neither hu ht b = absurd (neither_no c s ht)
  lower_rows neither t hu ht b = absurd (neither_no c s hu)

  -- an accepted step stands in one of 193 rows
  pub row_below : c.procs ≤ 4 → (u : Step) → step_code c s u ≡ 0 → row_of u < 193
  row_below procs (issue p) h = omega arith
  row_below procs (commit p k e) h = let T = can_commit c s p k e h in omega (arith, T.proc, T.there)
  row_below procs neither h = omega arith

  -- the position of bit e of word w
  module _ (w e : ℕ) (l : e < 64) where
    word_of_lem : (64 * w + e) / 64 ≡ w
    word_of_lem = omega arith

    bit_of : (64 * w + e) % 64 ≡ e
    bit_of = omega arith

    pub key_of : key_at (64 * w + e) ≡ key_in w e
    key_of = λ i. key_in (word_of_lem i) (bit_of i)

    pub opens_of : opens_at c s (64 * w + e) ≡ opens c s w e
    opens_of = λ i. opens c s (word_of_lem i) (bit_of i)

  -- the issues
  pub row_issues : c.procs ≤ 4 → RowSpan c s 0 (record { start = 3136; end = 3200 })
  row_issues procs = record { rising = omega arith; upto = omega arith; covers = covers; inside = inside }
    where
      covers : (t : Step) → step_code c s t ≡ 0 → row_of t ≡ 0 → Placed c s (record { start = 3136; end = 3200 }) t
      covers (issue p) h e =
          let l : p < 64 = omega (arith, (can_issue c s p h).proc) in
          record { at = 64 * 49 + p; from = omega arith; to = omega arith; opened = opens_of 49 p l ∙ issue_open c s p h; step = ap (step_by s) (sym (key_of 49 p l)); order = omega arith }
      covers (commit p k f) h e = absurd (omega arith)
      covers neither h e = absurd (neither_no c s h)

      inside : (j : ℕ) → 3136 ≤ j → j < 3200 → (row_of (step_at s j) ≡ 0) × (j ≡ 3136 + rank_in (step_at s j))
      inside j a b =
          let k = key_issue (j / 64) (j % 64) (omega arith) in
          (ap (λ (x : Key). row_of (step_by s x)) k, subst (λ (x : Key). j ≡ 3136 + rank_in (step_by s x)) (sym k) (omega arith))

  -- the row of processor p and action k
  module _ (p k : ℕ) (small : k < 48) where
    -- an accepted step of it
    in_row : (t : Step) → step_code c s t ≡ 0 → row_of t ≡ suc (48 * p + k) → (e : ℕ) × (t ≡ commit p k e) × (k < s.count) × ((s.actions k).proc ≡ p)
    in_row (issue q) h e = absurd (omega arith)
    in_row neither h e = absurd (neither_no c s h)
    in_row (commit q j f) h e =
        let T = can_commit c s q j f h in
        let y : j ≡ k = omega (arith, T.there) in
        let x : q ≡ p = omega (arith, y) in
        (f, (λ i. commit (x i) (y i) f), subst (λ (i : ℕ). i < s.count) y T.there, ap (λ (i : ℕ). (s.actions i).proc) (sym y) ∙ waits_proc q (s.actions j) T.waits ∙ x)

    -- there is none
    pub row_none : (k < s.count → (s.actions k).proc ≡ p → ⊥) → RowSpan c s (suc (48 * p + k)) (record { start = 0; end = 0 })
    row_none away = record { rising = omega arith; upto = omega arith; covers = λ t h e. let w = in_row t h e in absurd (away w.2 w.3); inside = λ j a b. absurd (omega arith) }

    module _ (own : (s.actions k).proc ≡ p) where
      -- the sources of a read
      pub row_read : Reachable (womm c) s → reading (kind_of (s.actions k)) ≡ true → RowSpan c s (suc (48 * p + k)) (record { start = 64 * k; end = 64 * k + 64 })
      row_read K r = record { rising = omega arith; upto = omega arith; covers = covers; inside = inside }
        where
          covers : (t : Step) → step_code c s t ≡ 0 → row_of t ≡ suc (48 * p + k) → Placed c s (record { start = 64 * k; end = 64 * k + 64 }) t
          covers t h q =
              let w = in_row t h q in
              let e = w.0 in
              let same : t ≡ commit (s.actions k).proc k e = w.1 ∙ ap (λ (i : ℕ). commit i k e) (sym own) in
              let h' = subst (λ (u : Step). step_code c s u ≡ 0) same h in
              let low = source_there c s (known K).reached.good (the (s.actions k).proc k e) (can_commit c s (s.actions k).proc k e h') r in
              let l : e < 64 = omega (arith, low) in
              record {
                at = 64 * k + e;
                from = omega arith;
                to = omega arith;
                opened = opens_of k e l ∙ read_open c s k e small r h';
                step = same ∙ ap (step_by s) (sym (key_of k e l ∙ key_read c s k e small));
                order = ap (λ (u : Step). 64 * k + rank_in u) (sym same);
              }

          inside : (j : ℕ) → 64 * k ≤ j → j < 64 * k + 64 → (row_of (step_at s j) ≡ suc (48 * p + k)) × (j ≡ 64 * k + rank_in (step_at s j))
          inside j a b =
              let w : j / 64 ≡ k = omega arith in
              let q : key_at j ≡ taking k (j % 64) = ap (λ (i : ℕ). key_in i (j % 64)) w ∙ key_read c s k (j % 64) small in
              (ap (λ (x : Key). row_of (step_by s x)) q ∙ ap (λ (i : ℕ). suc (48 * i + k)) own, subst (λ (x : Key). j ≡ 64 * k + rank_in (step_by s x)) (sym q) (omega arith))

      -- another action
      pub row_other : reading (kind_of (s.actions k)) ≡ false → RowSpan c s (suc (48 * p + k)) (record { start = 3072 + k; end = 3073 + k })
      row_other r = record { rising = omega arith; upto = omega arith; covers = covers; inside = inside }
        where
          covers : (t : Step) → step_code c s t ≡ 0 → row_of t ≡ suc (48 * p + k) → Placed c s (record { start = 3072 + k; end = 3073 + k }) t
          covers t h q =
              let w = in_row t h q in
              let e = w.0 in
              let same : t ≡ commit (s.actions k).proc k e = w.1 ∙ ap (λ (i : ℕ). commit i k e) (sym own) in
              let h' = subst (λ (u : Step). step_code c s u ≡ 0) same h in
              let z : e ≡ 0 = source_zero c s (the (s.actions k).proc k e) (can_commit c s (s.actions k).proc k e h') r in
              let none : t ≡ commit (s.actions k).proc k 0 = same ∙ ap (commit (s.actions k).proc k) z in
              record {
                at = 64 * 48 + k;
                from = omega arith;
                to = omega arith;
                opened = opens_of 48 k (omega arith) ∙ other_open c s k r (subst (λ (u : Step). step_code c s u ≡ 0) none h);
                step = none ∙ ap (step_by s) (sym (key_of 48 k (omega arith)));
                order = subst (λ (u : Step). 3072 + k ≡ 3072 + k + rank_in u) (sym none) (omega arith);
              }

          inside : (j : ℕ) → 3072 + k ≤ j → j < 3073 + k → (row_of (step_at s j) ≡ suc (48 * p + k)) × (j ≡ 3072 + k + rank_in (step_at s j))
          inside j a b =
              let e : j ≡ 64 * 48 + k = omega arith in
              let q : key_at j ≡ taking k 0 = ap key_at e ∙ key_of 48 k (omega arith) in
              (ap (λ (x : Key). row_of (step_by s x)) q ∙ ap (λ (i : ℕ). suc (48 * i + k)) own, subst (λ (x : Key). j ≡ 3072 + k + rank_in (step_by s x)) (sym q) (omega arith))

-- row i of processor (i - 1) / 48 and action (i - 1) % 48
pub row_of_lem : (i : ℕ) → (i ≡ 0 → ⊥) → suc (48 * ((i - 1) / 48) + (i - 1) % 48) ≡ i
row_of_lem i h = omega arith

-- the source of a step at a position
pub source_small : (b : Bool) (x j : ℕ) → x ≡ cond b (j % 64) 0 → x < 64
source_small true x j e = omega arith
source_small false x j e = omega arith
