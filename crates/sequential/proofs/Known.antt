-- What is known of the last state of a schedule without a race. Assumes nothing.
use mathlib.Core.Path.{◌≡◌, refl, sym, ◌∙◌, ap, subst}
use mathlib.Core.Logic.{◌⊎◌, inl, inr, ⊎_elim}
use mathlib.Core.Bool.{true, false, ◌||◌, false≢true}
use mathlib.Core.List.{List}
use Prim.Native.Nat.{ℕ, ◌+◌, ◌<◌}
use native.Mathlib.Omega.{arith}
use native.Mathlib.Decide.{dec_lt}
use borrow.Author.Tests.{eq-eqb}
use Rattle.words.proofs.Bools.{decide, and_make, or_left, or_right}
use Rattle.cases.specs.declared.Case.{Case}
use Rattle.runs.specs.Outcome.{Leads}
use Rattle.runs.specs.Replay.{replay}
use Rattle.runs.proofs.Walk.{walk}
use Rattle.rules.specs.Kinds.{writing, accesses, syncs}
use Rattle.rules.specs.State.{State, initial, kind_of, stands_at}
use Rattle.rules.specs.Step.{Step}
use Rattle.rules.specs.Womm.{womm}
use Rattle.rules.proofs.Origins as Origins
use Rattle.rules.proofs.Strict.{owner, Done, order_transitive}
use Rattle.progress.proofs.Rooted.{rooted_after}
use Rattle.oneorder.specs.OneOrder.{view, initial_one, womm_one}
use Rattle.oneorder.proofs.OneOrder.{same-replay}
use Rattle.races.specs.Happens.{InProgram, program}
use Rattle.races.specs.Race.{Race}
use Rattle.races.proofs.Numbered.{po_program}
use Rattle.races.proofs.Happens.{happens_before}
use Rattle.boards.proofs.Accepted.{write_accesses}
use Rattle.sequential.proofs.Sight.{Writes}
use Rattle.sequential.proofs.Facts.{steady, facts}
use Rattle.sequential.proofs.Mirror.{Raceless}

module _ (c : Case) (ts : List Step) (f : State) (d : Leads (womm c) (initial c) ts f) where
  -- two actions of one processor are in program order by the schedule too
  in_program : (j k : ℕ) → j < k → k < f.count → owner f j ≡ owner f k → InProgram ts j k
  in_program j k h l o =
      let e = (replay (womm_one c) (initial_one c) ts).state in
      let q : view c e ≡ f = (same-replay c ts).state ∙ d.ends in
      let x : (view c e).count ≡ f.count = ap (λ (s : State). s.count) q in
      po_program c e ts (walk (womm_one c) ts (initial_one c) e (record { accepted = (same-replay c ts).code ∙ d.accepted; ends = refl })) j k
      (record { first = h; there = omega (arith, x); same = ap (λ (s : State). owner s j) q ∙ o ∙ sym (ap (λ (s : State). owner s k) q) })

  in_order_lem : (l j k : ℕ) → l < c.locs → j < k → k < f.count → owner f j ≡ owner f k → stands_at l (f.actions j) ≡ true → stands_at l (f.actions k) ≡ true → f.orders l (8 + j) (8 + k) ≡ true
  in_order_lem l j k low h g o x y = (happens_before c ts f d l j k low x y).0 (program (in_program j k h g o))

  stands : (l k : ℕ) → accesses (kind_of (f.actions k)) ≡ true → (f.actions k).loc ≡ l → stands_at l (f.actions k) ≡ true
  stands l k a e = or_right (syncs (kind_of (f.actions k))) _ (and_make _ _ a (eq-eqb _ l e))

  module _ (none : (j k : ℕ) → Race ts f j k → ⊥) where
    -- of two accesses of l, one a write, one happens before the other
    apart : (l j k : ℕ) → j < k → k < f.count → accesses (kind_of (f.actions j)) ≡ true → accesses (kind_of (f.actions k)) ≡ true → (f.actions j).loc ≡ l → (f.actions k).loc ≡ l → (writing (kind_of (f.actions j)) || writing (kind_of (f.actions k))) ≡ true → f.orders l (8 + j) (8 + k) ≡ false → f.orders l (8 + k) (8 + j) ≡ false → ⊥
    apart l j k h g a b x y w p q =
        let low : l < c.locs = subst (λ (m : ℕ). m < c.locs) x ((rooted_after c ts f d).locs j (omega arith) a) in
        none j k
        (record {
          first = h;
          there = g;
          access = and_make _ _ a b;
          location = x ∙ sym y;
          write = w;
          not_before = λ z. false≢true (sym p ∙ (happens_before c ts f d l j k low (stands l j a x) (stands l k b y)).0 z);
          not_after = λ z. false≢true (sym q ∙ (happens_before c ts f d l k j low (stands l k b y) (stands l j a x)).0 z);
        })

    ordered : (l j k : ℕ) → Writes f l j → k < f.count → accesses (kind_of (f.actions k)) ≡ true → (f.actions k).loc ≡ l → (j ≡ k → ⊥) → (f.orders l (8 + j) (8 + k) ≡ true) ⊎ (f.orders l (8 + k) (8 + j) ≡ true)
    ordered l j k W g b y n = ⊎_elim (λ p. inl p) (λ p. ⊎_elim (λ q. inr q) (λ q. absurd (neither_way p q)) (decide (f.orders l (8 + k) (8 + j)))) (decide (f.orders l (8 + j) (8 + k)))
      where
        neither_way : f.orders l (8 + j) (8 + k) ≡ false → f.orders l (8 + k) (8 + j) ≡ false → ⊥
        neither_way p q =
            let a = write_accesses (kind_of (f.actions j)) W.writes in
            elim (dec_lt j k) [
              | yes h ↦ apart l j k h g a b W.location y (or_left (writing (kind_of (f.actions j))) _ W.writes) p q
              | no h ↦ apart l k j (omega arith) W.there b a y W.location (or_right (writing (kind_of (f.actions k))) _ W.writes) q p
            ]

    pub raceless : ((k : ℕ) → k < f.count → Done f k) → Raceless c f
    raceless quiet =
        record {
          quiet = quiet;
          facts = λ k l. facts c ts f d k l (quiet k l);
          strict = (steady c ts f d).strict;
          items = (steady c ts f d).items;
          transitive = order_transitive c ts f d;
          program = in_order_lem;
          places = (steady c ts f d).paths.places;
          names = (Origins.bound c ts f d).registers;
          locs = (rooted_after c ts f d).locs;
          rooted = (rooted_after c ts f d).rooted;
          ordered = ordered;
        }
