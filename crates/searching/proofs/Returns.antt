-- Each return and turn of the search, over what its callees answer. Assumes nothing.
use mathlib.Core.Path.{◌≡◌, refl, sym, ◌∙◌, ap, subst}
use mathlib.Core.Logic.{⊎_elim}
use mathlib.Core.Bool.{Bool, true, false, ◌||◌, true≢false}
use mathlib.Core.List.{List}
use Prim.Native.Nat.{ℕ, suc, ◌+◌, ◌-◌, ◌/◌, ◌≤◌, ◌<◌}
use native.Mathlib.Omega.{arith}
use native.Mathlib.Decide.{dec_lt}
use lib.Dec.{ltb}
use borrow.Author.Tests.{ltb-true, ltb-false}
use Rattle.words.specs.Sets.{has}
use Rattle.words.proofs.Bools.{decide, or_cases, or_none}
use Rattle.cases.specs.declared.Case.{Case}
use Rattle.clauses.specs.declared.Asked.{Asked}
use Rattle.clauses.specs.Wanted.{wanted}
use Rattle.runs.specs.Wanted.{Wish}
use Rattle.rules.specs.State.{State}
use Rattle.rules.specs.Step.{Step, step_code, after}
use Rattle.rules.specs.Result.{finished}
use Rattle.sure.specs.Sure.{Sized}
use Rattle.sure.specs.Futile.{leaves}
use Rattle.sure.specs.Marked.{Alone}
use Rattle.sure.specs.Spent.{Spent, step_by}
use Rattle.sure.proofs.Known.{Known, known}
use Rattle.machine.specs.declared.Machine.{Machine}
use Rattle.machine.specs.Shown.{shown}
use Rattle.machine.specs.Lent.{Lent}
use Rattle.machine.specs.Valid.{Valid}
use Rattle.spending.specs.Words.{spent_by, key_at, opens}
use Rattle.spending.specs.Spending.{Noted, RestedBy}
use Rattle.choices.specs.Choice.{SureAt}
use Rattle.choices.specs.Given.{Sourcing}
use Rattle.searching.specs.declared.Sweep.{Sweep}
use Rattle.searching.specs.declared.Tally.{Tally}
use Rattle.searching.specs.Positions.{QuietSpan, Swept, Chosen}
use Rattle.searching.specs.Ready.{Choosing, Ready}
use Rattle.searching.specs.Searched.{Searched, Explored}
use Rattle.searching.proofs.Lends.{asking, lent}
use Rattle.searching.proofs.Entered.{entered_step, sized}
use Rattle.searching.proofs.Ends.{searched_bound, searched_left}
use Rattle.searching.proofs.Opened.{opens_step}
use Rattle.searching.proofs.Loop.{Sweeping, sweeping_start, sweeping_skip, sweeping_turn, sweeping_full, sweeping_sure, searched_spent, searched_quiet, searched_all}

-- the step at position j of the machine
abbrev pub step_at : Case → Machine → ℕ → Step
step_at c m j = step_by (shown c m) (key_at j)

-- no position is past 3200
pub to_most : {c : Case} {s : State} {spent : List ℕ} {j : ℕ} {r : Sweep} → Swept c s spent j r → r.to ≤ 3200
to_most {j = j} {r = r} swept =
    elim (dec_lt j 3200) [
      | yes l ↦ ⊎_elim (λ w. omega (arith, w.0)) (λ w. omega (arith, w)) (swept.sure l).1
      | no l ↦ ⊎_elim (λ q. omega (arith, q.to, q.small)) (λ w. omega (arith, w.1)) (swept.rest (omega arith))
    ]

-- What is known where the loop over the positions of r begins: the search goes on from m with a step to go, and a sure step stands at j, if there is one.
pub record Stage (c : Case) (program : List ℕ) (m : Machine) (n : ℕ) (ahead : Bool) (asked : Asked) (spent out : List ℕ) (tally : Tally) (j : ℕ) (r : Sweep) : Type 0 where
  pub stands : Ready c program m 3200 n ahead asked spent out tally
  pub more : n ≡ 0 → ⊥
  pub found : SureAt c tally.cut n (shown c m) j
  pub swept : Swept c (shown c m) spent j r

module _ {c : Case} {program : List ℕ} {m : Machine} {n : ℕ} {ahead : Bool} {asked : Asked} {spent out : List ℕ} {tally : Tally} where
  module _ (R : Ready c program m 3200 n ahead asked spent out tally) where
    pub return_bound : n ≡ 0 → finished c (shown c m) ≡ false → (r : Tally) → r ≡ record { count = tally.count; cut = true; full = false } → Searched c (wanted asked) (spent_by spent) (shown c m) n out tally out r
    return_bound z f r e = subst (Searched c (wanted asked) (spent_by spent) (shown c m) n out tally out) (sym e) (searched_bound c (wanted asked) (shown c m) (spent_by spent) n z f R.held)

    pub return_left : leaves tally.cut n (shown c m) ≡ true → (r : Tally) → r ≡ record { count = tally.count; cut = tally.cut; full = false } → Searched c (wanted asked) (spent_by spent) (shown c m) n out tally out r
    return_left h r e = subst (Searched c (wanted asked) (spent_by spent) (shown c m) n out tally out) (sym e) (searched_left c (wanted asked) (shown c m) (spent_by spent) n R.reached R.entering.valid.issued h R.held)

  module _ {j : ℕ} {r : Sweep} (G : Stage c program m n ahead asked spent out tally j r) where
    abbrev W : Wish
    W = wanted asked

    abbrev R : Ready c program m 3200 n ahead asked spent out tally
    R = G.stands

    abbrev found : SureAt c tally.cut n (shown c m) j
    found = G.found

    abbrev swept : Swept c (shown c m) spent j r
    swept = G.swept

    Z : Sized c
    Z = sized c R.entering.valid.fit

    K : Known c (shown c m)
    K = known R.reached

    one_more : suc (n - 1) ≡ n
    one_more = omega (arith, G.more)

    sure_one : j < 3200 → Alone c tally.cut (suc (n - 1)) (shown c m) (step_at c m j)
    sure_one l = subst (λ (k : ℕ). Alone c tally.cut k (shown c m) (step_at c m j)) (sym one_more) (found.found l).1

    -- its invariant: a sure step is the first to be looked at
    abbrev pub Turns : ℕ → List ℕ → List ℕ → Tally → Type 0
    Turns at now bytes sum = Sweeping c W (spent_by spent) (shown c m) (n - 1) out tally r.from r.to at now bytes sum × (j < 3200 → at ≡ r.from)

    pub loop_start : Turns r.from spent out tally
    loop_start = (sweeping_start c W Z (shown c m) (spent_by spent) K (n - 1) r.from r.to spent refl R.long R.room R.held R.rested, λ l. refl)

    module _ {at : ℕ} {now bytes : List ℕ} {sum : Tally} (S : Turns at now bytes sum) (inside : at < r.to) where
      -- where there are sources, the positions are those of one read
      one_read : (r.sources ≡ 0 → ⊥) → QuietSpan c (shown c m) r
      one_read some =
          elim (dec_lt j 3200) [
            | yes l ↦ absurd (some (swept.lone l))
            | no l ↦ ⊎_elim (λ q. q) (λ w. absurd (some w.2)) (swept.rest (omega arith))
          ]

      at_read : (q : QuietSpan c (shown c m) r) → at / 64 ≡ q.read
      at_read q = omega (arith, q.from, q.to, S.0.above, inside)

      pub loop_sources : (r.sources ≡ 0 → ⊥) → (i : ℕ) → has r.sources i ≡ opens c (shown c m) (at / 64) i
      loop_sources some i = let q = one_read some in q.sources i ∙ ap (λ (k : ℕ). opens c (shown c m) k i) (sym (at_read q))

      pub loop_choosing : Choosing c.counts m.names m.holders c.procs m.issued now r.sources at r.to
      loop_choosing = record { scanning = record { asking = asking c m R.entering.valid; rising = omega (arith, inside); upto = to_most swept; long = S.0.long }; word = word }
        where
          word : (r.sources ≡ 0 → ⊥) → Sourcing m.issued now at r.to
          word some =
              let q = one_read some in
              record {
                issued = R.entering.valid.issued;
                low = omega (arith, at_read q, q.small);
                stretch = record { from = omega (arith, inside); upto = to_most swept; one = λ i a b. omega (arith, a, b, q.from, q.to, S.0.above) };
                long = S.0.long;
              }

    -- the position that is taken next
    pub record Turn (at : ℕ) (now bytes : List ℕ) (sum : Tally) (i : ℕ) : Type 0 where
      pub turns : Turns at now bytes sum
      pub inside : at < r.to
      pub chosen : Chosen c (shown c m) now at r.to j i

    pub turn : {at : ℕ} {now bytes : List ℕ} {sum : Tally} {i : ℕ} → Turns at now bytes sum → at < r.to
        → ((d : Case) → Lent d program c.counts c.masks c.presets c.procs c.locs → d.memory ≡ c.memory → Valid d m → ((r.sources ≡ 0 → ⊥) → (i : ℕ) → has r.sources i ≡ opens d (shown d m) (at / 64) i) → Chosen d (shown d m) now at r.to j i)
        → Turn at now bytes sum i
    turn S inside chooses =
        let v = R.entering.valid in
        record { turns = S; inside = inside; chosen = chooses c (lent c m v program R.coded) refl v (loop_sources S inside) }

    module _ {at : ℕ} {now bytes : List ℕ} {sum : Tally} {i : ℕ} (T : Turn at now bytes sum i) where
      abbrev S : Turns at now bytes sum
      S = T.turns

      abbrev inside : at < r.to
      inside = T.inside

      abbrev chosen : Chosen c (shown c m) now at r.to j i
      chosen = T.chosen

      -- the sure step is chosen
      at_sure : j < 3200 → i ≡ j
      at_sure l = chosen.sure l ∙ S.1 l ∙ (swept.sure l).0

      pub loop_most : i ≤ r.to
      loop_most =
          elim (dec_lt j 3200) [
            | yes l ↦ omega (arith, chosen.sure l)
            | no l ↦ (chosen.rest (omega arith)).upto
          ]

      pub loop_falls : at ≤ i
      loop_falls =
          elim (dec_lt j 3200) [
            | yes l ↦ omega (arith, chosen.sure l)
            | no l ↦ (chosen.rest (omega arith)).from
          ]

      pub loop_skip : r.to ≤ i → Turns (i + 1) now bytes sum
      loop_skip last =
          elim (dec_lt j 3200) [
            | yes l ↦ absurd (omega (arith, chosen.sure l))
            | no l ↦ (sweeping_skip c W Z (shown c m) (spent_by spent) K (n - 1) r.from r.to S.0 i (chosen.rest (omega arith)) (λ h. omega arith), λ h. absurd (l h))
          ]

      module _ (l : i < r.to) where
        pub loop_open : step_code c (shown c m) (step_at c m i) ≡ 0
        loop_open =
            elim (dec_lt j 3200) [
              | yes h ↦ subst (λ (k : ℕ). step_code c (shown c m) (step_at c m k) ≡ 0) (sym (at_sure h)) (found.found h).0
              | no h ↦ opens_step c (shown c m) _ _ ((chosen.rest (omega arith)).found l).0
            ]

        pub loop_ready : Ready c program m i (n - 1) ahead asked now bytes sum
        loop_ready =
            record {
              coded = R.coded;
              entering = record { valid = R.entering.valid; fits = λ _. loop_open };
              reached = R.reached;
              forwards = R.forwards;
              few = omega (arith, R.few);
              asks = R.asks;
              long = S.0.long;
              rested = S.0.sweep.rested;
              room = S.0.room;
              held = S.0.held;
            }

        module _ {bytes' : List ℕ} {sum' : Tally} (D : Explored c W (shown c m) i now (n - 1) bytes sum bytes' sum') where
          low : i < 3200
          low = omega (arith, l, to_most swept)

          rest : RestedBy (shown c m) (step_at c m i) now D.calm
          rest = D.woken.step low

          after_step : Searched c W (spent_by D.calm) (after c (shown c m) (step_at c m i)) (n - 1) bytes sum bytes' sum'
          after_step = subst (λ (s : State). Searched c W (spent_by D.calm) s (n - 1) bytes sum bytes' sum') (entered_step c (shown c m) i low) D.searched

          pub loop_turn : (sum'.full || ltb j 3200) ≡ false → {noted : List ℕ} → Noted now i noted → Turns (i + 1) noted bytes' sum'
          loop_turn on noted =
              let w = or_none sum'.full (ltb j 3200) on in
              let past : 3200 ≤ j = ltb-false j 3200 w.1 in
              (sweeping_turn c W Z (shown c m) (spent_by spent) K (n - 1) r.from r.to S.0 i loop_open rest after_step (chosen.rest past) l w.0 (found.none past) noted, λ h. absurd (omega arith))

          pub return_branch : (sum'.full || ltb j 3200) ≡ true → Searched c W (spent_by spent) (shown c m) n out tally bytes' sum'
          return_branch off = subst (λ (k : ℕ). Searched c W (spent_by spent) (shown c m) k out tally bytes' sum') one_more (⊎_elim full room (decide sum'.full))
            where
              full : sum'.full ≡ true → Searched c W (spent_by spent) (shown c m) (suc (n - 1)) out tally bytes' sum'
              full f = sweeping_full c W Z (shown c m) (spent_by spent) K (n - 1) r.from r.to S.0 i loop_open rest after_step f

              room : sum'.full ≡ false → Searched c W (spent_by spent) (shown c m) (suc (n - 1)) out tally bytes' sum'
              room f =
                  let h : j < 3200 = ltb-true j 3200 (⊎_elim (λ e. absurd (true≢false (sym e ∙ f))) (λ e. e) (or_cases sum'.full (ltb j 3200) off)) in
                  let p = subst (λ (k : ℕ). Alone c tally.cut (suc (n - 1)) (shown c m) (step_at c m k)) (sym (at_sure h)) (sure_one h) in
                  sweeping_sure c W Z (shown c m) (spent_by spent) K (n - 1) r.from r.to S.0 i loop_open rest after_step p f

    pub return_swept : finished c (shown c m) ≡ false → {at : ℕ} {now bytes : List ℕ} {sum : Tally} → Turns at now bytes sum → r.to ≤ at → Searched c W (spent_by spent) (shown c m) n out tally bytes sum
    return_swept f {at} {now} {bytes} {sum} S end = subst (λ (k : ℕ). Searched c W (spent_by spent) (shown c m) k out tally bytes sum) one_more ends
      where
        by_sure : j < 3200 → Searched c W (spent_by spent) (shown c m) (suc (n - 1)) out tally bytes sum
        by_sure l =
            ⊎_elim
            (λ w. searched_spent c W Z (shown c m) (spent_by spent) K (n - 1) r.from r.to S.0 j (found.found l).0 (sure_one l) w.1)
            (λ w. absurd (omega (arith, S.1 l, (swept.sure l).0, w)))
            (swept.sure l).1

        by_rest : 3200 ≤ j → Searched c W (spent_by spent) (shown c m) (suc (n - 1)) out tally bytes sum
        by_rest l =
            ⊎_elim
            (λ q. searched_quiet c W Z (shown c m) (spent_by spent) K (n - 1) r.from r.to S.0 end R.entering.valid.issued q.read q.from q.to (q.calm, (q.item, q.seen)))
            (λ w. searched_all c W Z (shown c m) (spent_by spent) K (n - 1) r.from r.to S.0 end R.entering.valid.issued w.0 w.1 f (found.none l) R.entering.valid.fit.procs)
            (swept.rest l)

        ends : Searched c W (spent_by spent) (shown c m) (suc (n - 1)) out tally bytes sum
        ends = elim (dec_lt j 3200) [ yes l ↦ by_sure l | no l ↦ by_rest (omega arith) ]

-- the invariant of equal words, bytes and tally
pub turns_same : {c : Case} {W : Wish} {sp : Spent} {s : State} {n : ℕ} {before : List ℕ} {y : Tally} {from to at j : ℕ} {now now' bytes bytes' : List ℕ} {sum sum' : Tally} → bytes' ≡ bytes → now' ≡ now → sum' ≡ sum
    → Sweeping c W sp s n before y from to at now bytes sum × (j < 3200 → at ≡ from) → Sweeping c W sp s n before y from to at now' bytes' sum' × (j < 3200 → at ≡ from)
turns_same {c} {W} {sp} {s} {n} {before} {y} {from} {to} {at} p q r S = (subst (λ (x : Type 0). x) (λ i. Sweeping c W sp s n before y from to at (sym q i) (sym p i) (sym r i)) S.0, S.1)
