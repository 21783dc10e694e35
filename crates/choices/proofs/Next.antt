-- The next position of a sweep. Assumes nothing.
use mathlib.Core.Path.{◌≡◌, sym, ap, subst, ◌∙◌}
use mathlib.Core.Logic.{inr, ⊎_elim}
use mathlib.Core.Bool.{true}
use mathlib.Core.List.{List}
use Prim.Native.Nat.{ℕ, ◌*◌, ◌/◌, ◌%◌, ◌<◌, ◌≤◌}
use native.Mathlib.Omega.{arith}
use native.Mathlib.Decide.{dec_lt}
use lib.Dec.{ltb}
use lib.ListN.{get_or}
use borrow.Author.Tests.{lt-ltb}
use Rattle.words.specs.Sets.{has}
use Rattle.words.proofs.Bools.{decide, or_left, and_make}
use Rattle.cases.specs.declared.Case.{Case}
use Rattle.rules.specs.Kinds.{reading}
use Rattle.rules.specs.State.{State}
use Rattle.sure.specs.Spent.{taking}
use Rattle.sure.specs.Equal.{Needless}
use Rattle.sure.proofs.Equal.{needless_spent}
use Rattle.spending.specs.Words.{key_in, opens, spent_by, key_at, opens_at}
use Rattle.spending.proofs.Spends.{key_read}
use Rattle.needless.specs.Echoes.{EchoIn, Unechoed}
use Rattle.needless.proofs.Echoing.{all_left}
use Rattle.openings.specs.Opening.{Queued, FirstOf}
use Rattle.openings.proofs.Queued.{left_out}
use Rattle.openings.proofs.Opens.{opens_accepts}
use Rattle.choices.specs.Choice.{NextAt}
use Rattle.choices.specs.Finding.{FirstFresh, Readless}

-- positions of reads that are not in the set are passed over

module _ (reads j to : ℕ) where
  pub stay : j ≤ to → Readless reads j to j
  stay h = record { from = omega arith; upto = h; low = λ i a b. absurd (omega arith); skipped = λ i a b. absurd (omega arith) }

  pub jump : (f r : ℕ) → j / 64 < 48 → FirstOf reads (j / 64) 48 f → j ≤ r → r ≤ to → r ≤ 64 * f → Readless reads j to r
  jump f r w F a b g =
      record {
        from = a;
        upto = b;
        low = λ i x y. omega (arith, F.upto);
        skipped = λ i x y. F.skipped (i / 64) (omega arith) (omega arith);
      }

-- every accepted step from `at` on, before i, is spent or does what a spent one does
abbrev pub Passed : Case → State → List ℕ → ℕ → ℕ → Type 0
Passed c s now at i = (q : ℕ) → at ≤ q → q < i → opens_at c s q ≡ true → Needless c s (spent_by now) (key_at q)

read_spent : (now : List ℕ) (w e : ℕ) → w < 48 → has (get_or now w 0) e ≡ true → spent_by now (taking w e) ≡ true
unfolding spent_by
read_spent now w e l h = or_left _ _ (and_make (ltb w 48) _ (lt-ltb w 48 l) h)

module _ (c : Case) (s : State) (now : List ℕ) (at : ℕ) where
  pub pass_none : Passed c s now at at
  pass_none q a b = absurd (omega arith)

  module _ (j end word : ℕ) (same : (i : ℕ) → j ≤ i → i < end → i / 64 ≡ j / 64) (bits : (e : ℕ) → e < 64 → has word e ≡ opens c s (j / 64) e) (left : ℕ) (rest : Unechoed c s now (j / 64) word left) where
    open_at : (i : ℕ) → j ≤ i → i < end → has word (i % 64) ≡ opens_at c s i
    open_at i h k = bits (i % 64) (omega arith) ∙ ap (λ (w : ℕ). opens c s w (i % 64)) (sym (same i h k))

    -- what is left out has the value of a spent one
    echoed : (i : ℕ) → j ≤ i → i < end → EchoIn c s now (j / 64) word (i % 64) → Needless c s (spent_by now) (key_at i)
    echoed i h k E =
        let w : i / 64 ≡ j / 64 = same i h k in
        subst (Needless c s (spent_by now)) (sym (key_read (j / 64) (i % 64) E.low) ∙ ap (λ (v : ℕ). key_in v (i % 64)) (sym w))
        (inr (record {
          source = E.source;
          rests = read_spent now (j / 64) E.source E.low E.spent;
          fits = (opens_accepts c s (j / 64) E.source E.low (sym (bits E.source (omega (arith, E.small))) ∙ E.seen)).1;
          same = E.same;
        }))

    -- the first of the word, once all before it is passed
    pub next_in : (r : ℕ) → at ≤ j → FirstFresh left now j end r → Passed c s now at j → NextAt c s now at end r
    next_in r a F P =
        record {
          from = omega (arith, F.from);
          upto = F.upto;
          skipped = λ q x y z.
              elim (dec_lt q j) [
                | yes l ↦ P q x l z
                | no l ↦
                    ⊎_elim
                    (λ u. needless_spent c s (spent_by now) (key_at q) (F.skipped q (omega arith) y u))
                    (λ u. echoed q (omega arith) (omega (arith, F.upto)) (rest.gone (q % 64) (omega arith) (open_at q (omega arith) (omega (arith, F.upto)) ∙ z) u))
                    (decide (has left (q % 64)))
              ];
          found = λ k. (sym (open_at r F.from k) ∙ rest.inside (r % 64) (F.found k).0, (F.found k).1);
        }

  module _ (to r end : ℕ) (N : NextAt c s now at end r) where
    pub next_found : r < end → end ≤ to → NextAt c s now at to r
    next_found h t = record { from = N.from; upto = omega arith; skipped = N.skipped; found = λ k. N.found h }

    pub pass_more : end ≤ r → Passed c s now at end
    pass_more h = let z : r ≡ end = omega (arith, N.upto) in subst (Passed c s now at) z N.skipped

  -- no read that is left out of the queued ones is accepted
  pub pass_over : c.procs ≤ 4 → (reads j to r : ℕ) → Queued s reading reads → Readless reads j to r → Passed c s now at j → Passed c s now at r
  pass_over few reads j to r Q R P q a b x =
      elim (dec_lt q j) [
        | yes l ↦ P q a l x
        | no l ↦ let w = opens_accepts c s (q / 64) (q % 64) (R.low q (omega arith) b) x in absurd (left_out c s few reading reads Q (q / 64) (q % 64) w.0 (R.skipped q (omega arith) b) w.1)
      ]

  pub next_none : (j to : ℕ) → j ≤ to → to ≤ j → at ≤ to → Passed c s now at j → NextAt c s now at to to
  next_none j to u v a P = let e : j ≡ to = omega arith in record { from = a; upto = omega arith; skipped = subst (Passed c s now at) e P; found = λ k. absurd (omega arith) }

  -- the word of issues is the last, and leaves out nothing
  pub next_last : (j to word r : ℕ) → 3136 ≤ j → j < to → to ≤ 3200 → at ≤ j → ((e : ℕ) → has word e ≡ opens c s 49 e) → FirstFresh word now j to r → Passed c s now at j → NextAt c s now at to r
  next_last j to word r h k t a bits F P =
      let w : j / 64 ≡ 49 = omega arith in
      next_in j to word (λ i x y. omega arith) (λ e l. bits e ∙ ap (λ (v : ℕ). opens c s v e) (sym w)) word (all_left c s now (j / 64) word) r a F P
