-- The rules by which code that searches with spent steps is proved: what it has told so far, and what is left to try. Assumes nothing.
use mathlib.Core.Path.{ap₂, ◌≡◌, refl, sym, ◌∙◌, subst, ap}
use mathlib.Core.Logic.{◌⊎◌, inl, inr, ⊎_elim, ◌↔◌}
use mathlib.Core.Bool.{Bool, true, false, ◌||◌, false≢true, not}
use mathlib.Core.List.{List}
use Prim.Native.Nat.{ℕ, zero, suc, ◌+◌, ◌-◌, ◌<◌}
use native.Mathlib.Omega.{arith}
use lib.Dec.{ltb}
use borrow.Author.Tests.{ltb-true, ltb-false}
use Rattle.words.specs.Small.{is_none}
use Rattle.words.proofs.Bools.{cond-false, decide}
use Rattle.cases.specs.declared.Case.{Case}
use Rattle.runs.specs.Outcome.{OutcomeFrom, CutFrom}
use Rattle.runs.specs.Wanted.{Wish}
use Rattle.rules.specs.Result.{finished, registers}
use Rattle.rules.specs.State.{kind_of, State, item_value}
use Rattle.rules.specs.Step.{issue, Step, after, step_code}
use Rattle.rules.specs.Womm.{womm}
use Rattle.rules.specs.Kinds.{reading, acquiring}
use Rattle.rules.proofs.Accepted.{can_issue}
use Rattle.sure.specs.Equal.{Needless}
use Rattle.sure.specs.Quiet.{quiet}
use Rattle.sure.specs.Sure.{Sized, sure_kind}
use Rattle.sure.specs.Spent.{step_by, taking, Spent, issuing, Key, fresh, restful, Resting, Rested, Else}
use Rattle.sure.specs.Told.{Done, Open, Question, outcome, cut, Run, Told}
use Rattle.sure.proofs.Equal.{same_after}
use Rattle.sure.proofs.Good.{Good}
use Rattle.sure.proofs.Reduce.{done_from, done_to, open_from, open_to}
use Rattle.sure.proofs.Spent.{keyed, resting, rested_step}
use Rattle.sure.proofs.Known.{Known}
use Rattle.sure.proofs.Search.{Calm, Runs, Tried, done_runs, open_runs, tried_branch, covers_start, runs_and, at_end, no_more, unspent}
use Rattle.sure.proofs.Commit.{CanTake, Commit, source_zero, sees_take, self, the, can_take}

-- the source of an accepted read is an item
pub source_there : (c : Case) (s : State) → Good s → (t : Commit) → CanTake c s t → reading (kind_of (self s t)) ≡ true → t.source < 8 + s.count
source_there c s G t T r = ⊎_elim (λ q. omega (arith, ltb-true t.source 8 q)) above (decide (ltb t.source 8))
  where
    -- no action past the count has a value
    gone : ltb t.source 8 ≡ false → ltb (t.source - 8) s.count ≡ false → is_none (item_value c s t.source) ≡ true
    gone q l = ap is_none (cond-false (ltb t.source 8) _ _ q ∙ G.fresh (t.source - 8) (ltb-false _ _ l))

    above : ltb t.source 8 ≡ false → t.source < 8 + s.count
    above q =
        ⊎_elim (λ l. omega (arith, ltb-true (t.source - 8) s.count l))
        (λ l. absurd (false≢true (sym (sees_take c s t T r).known ∙ gone q l)))
        (decide (ltb (t.source - 8) s.count))

pub runs : (c : Case) (W : Wish) → Sized c → (q : Question) → Runs c (Run c W q)
runs c W Z (outcome r) = runs_and c (W r ≡ true) (done_runs c Z r)
runs c W Z cut = open_runs c Z

-- the runs from s that begin with t are done with
abbrev pub Tested : Case → Wish → Spent → State → ℕ → (Question → Type 0) → Step → Type 0
Tested c W sp s n X t = (q : Question) → Tried c (Run c W q) sp s n (X q) t

-- THE INVARIANT of its loop over the steps from s, where by now X is told and the steps `now` are spent
pub record Sweep (c : Case) (W : Wish) (sp : Spent) (s : State) (n : ℕ) (now : Spent) (B X : Question → Type 0) : Type 0 where
  pub rested : Rested c s now
  pub kept : (q : Question) → B q → X q
  pub sound : (q : Question) → X q → B q ⊎ Run c W q s (suc n)
  pub covered : (a : Key) → now a ≡ true → step_code c s (step_by s a) ≡ 0 → Tested c W sp s n X (step_by s a)

module _ (c : Case) (W : Wish) (s : State) (sp : Spent) (B X : Question → Type 0) (keeps : (q : Question) → B q → X q) where
  -- a finished state: its registers are told, if they are wanted
  pub told_end : (n : ℕ) → finished c s ≡ true → ((q : Question) → X q → B q ⊎ ((q ≡ outcome (registers c s)) × (W (registers c s) ≡ true)))
      → (W (registers c s) ≡ true → X (outcome (registers c s))) → Told c W sp s n B X
  told_end n f new x =
      record {
        kept = keeps;
        sound = λ q y. ⊎_elim (λ b. inl b) (λ e. inr (subst (λ (q : Question). Run c W q s n) (sym e.0) (Done.now f refl, e.1))) (new q y);
        full = full n;
      }
    where
      full : (n : ℕ) (q : Question) → Run c W q s n → X q ⊎ Else c sp (Run c W q) s n
      full n (outcome r) d = inl (subst (λ (r : List ℕ). W r ≡ true → X (outcome r)) (at_end c f d.0) x d.1)
      full zero cut (Open.now g) = absurd (false≢true (sym g ∙ f))
      full (suc n) cut d = absurd (no_more c f d)

  -- no step to go at an unfinished state: the cut is told
  pub told-bound : finished c s ≡ false → ((q : Question) → X q → B q ⊎ (q ≡ cut)) → X cut → Told c W sp s 0 B X
  told-bound f new x =
      record {
        kept = keeps;
        sound = λ q y. ⊎_elim (λ b. inl b) (λ e. inr (subst (λ (q : Question). Run c W q s 0) (sym e) (Open.now f))) (new q y);
        full = full;
      }
    where
      full : (q : Question) → Run c W q s 0 → X q ⊎ Else c sp (Run c W q) s 0
      full (outcome r) (Done.now g e, w) = absurd (false≢true (sym f ∙ g))
      full cut d = inl x

module _ (c : Case) (W : Wish) (Z : Sized c) (s : State) (sp : Spent) (K : Known c s) (n : ℕ) where
  -- what a branch may start from
  pub rested_after : {now : Spent} → Rested c s now → (t : Step) → step_code c s t ≡ 0 → (z : Spent) → Calm s t now z → Rested c (after c s t) z
  rested_after R t h z N = rested_step c s K.reached.good K.firm t h z (λ a x. R a (N a x).0) (λ a x. (N a x).1)

  -- the loop starts
  pub sweep_start : {B : Question → Type 0} → Rested c s sp → Sweep c W sp s n sp B B
  sweep_start {B} R =
      record { rested = R; kept = λ q b. b; sound = λ q b. inl b; covered = λ a h f q. covers_start c (Run c W q) (runs c W Z q) s n sp (B q) a h f }

  pub tested_more : {X Y : Question → Type 0} (t : Step) → ((q : Question) → X q → Y q) → Tested c W sp s n X t → Tested c W sp s n Y t
  tested_more t f T q d = ⊎_elim (λ x. inl (f q x)) (λ o. inr o) (T q d)

  module _ {now : Spent} {B X : Question → Type 0} (S : Sweep c W sp s n now B X) where
    -- the branch of t, where z of what is spent by now stays spent
    module _ (t : Step) (h : step_code c s t ≡ 0) where
      module _ (z : Spent) (N : Calm s t now z) {Y : Question → Type 0} (D : Told c W z (after c s t) n X Y) where
        pub tested_branch : Tested c W sp s n Y t
        tested_branch q =
            tried_branch c (Run c W q) (runs c W Z q) s n sp (Y q) K now S.rested
            (λ a x y. tested_more (step_by s a) D.kept (S.covered a x y) q)
            t h z N (D.full q)

        pub sweep_branch : Sweep c W sp s n now B Y
        sweep_branch =
            record {
              rested = S.rested;
              kept = λ q b. D.kept q (S.kept q b);
              sound = λ q y. ⊎_elim (S.sound q) (λ d. inr ((runs c W Z q).later s t n h d)) (D.sound q y);
              covered = λ a x y. tested_more (step_by s a) D.kept (S.covered a x y);
            }

      -- what a branch that had no room for all has seen
      pub sweep_lacks : (q : Question) → X q ⊎ Run c W q (after c s t) n → B q ⊎ Run c W q s (suc n)
      sweep_lacks q w = ⊎_elim (S.sound q) (λ d. inr ((runs c W Z q).later s t n h d)) w

    -- one turn of the loop: the branch of the key a, which is spent from then on
    pub sweep_turn : (a : Key) → step_code c s (step_by s a) ≡ 0 → restful s a ≡ true → (z : Spent) → Calm s (step_by s a) now z
        → {Y : Question → Type 0} → Told c W z (after c s (step_by s a)) n X Y
        → (more : Spent) → ((b : Key) → more b ≡ true → (now b ≡ true) ⊎ (b ≡ a)) → Sweep c W sp s n more B Y
    sweep_turn a h r z N {Y} D more M =
        let S' = sweep_branch (step_by s a) h z N D in
        let new : Resting c s a × Tested c W sp s n Y (step_by s a) = (resting c s a h r, tested_branch (step_by s a) h z N D) in
        record {
          rested = λ b x. ⊎_elim (S'.rested b) (λ e. subst (Resting c s) (sym e) new.0) (M b x);
          kept = S'.kept;
          sound = S'.sound;
          covered = λ b x y. ⊎_elim (λ m. S'.covered b m y) (λ e. subst (λ (b : Key). Tested c W sp s n Y (step_by s b)) (sym e) new.1) (M b x);
        }

    -- a step that is spent by now is done with
    settle : (a : Key) → step_code c s (step_by s a) ≡ 0 → (now a ≡ true) ⊎ Tested c W sp s n X (step_by s a) → Tested c W sp s n X (step_by s a)
    settle a h w = ⊎_elim (λ e. S.covered a e h) (λ T. T) w

    -- a step that does what a spent one does is done with
    pub tested_needless : (a : Key) → step_code c s (step_by s a) ≡ 0 → Needless c s now a → Tested c W sp s n X (step_by s a)
    tested_needless (taking k e) h (inl x) = S.covered (taking k e) x h
    tested_needless (taking k e) h (inr x) =
        λ q d. S.covered (taking k x.source) x.rests x.fits q
        (subst (λ (v : State). Run c W q v n) (same_after c s (s.actions k).proc k e x.source x.same) d)
    tested_needless (issuing p) h x = S.covered (issuing p) x h

    -- every accepted step is spent by now or done with
    pub told_all : finished c s ≡ false → ((a : Key) → step_code c s (step_by s a) ≡ 0 → (now a ≡ true) ⊎ Tested c W sp s n X (step_by s a))
        → Told c W sp s (suc n) B X
    told_all f T =
        record {
          kept = S.kept;
          sound = S.sound;
          full = λ q d.
              let x = (runs c W Z q).next s n f d in
              let k = keyed c s x.step x.fits in
              let h = subst (λ (u : Step). step_code c s u ≡ 0) k.names x.fits in
              settle k.key h (T k.key h) q (subst (λ (u : Step). Run c W q (after c s u) n) k.names x.then');
        }

    -- the same by sorts: no sure commit is accepted, and each accepted read, acquire and issue is spent by now or does what a spent one does
    pub told_rest : finished c s ≡ false
        → ((k : ℕ) → k < s.count → sure_kind (kind_of (s.actions k)) ≡ true → step_code c s (step_by s (taking k 0)) ≡ 0 → ⊥)
        → ((k e : ℕ) → k < s.count → e < 8 + s.count → reading (kind_of (s.actions k)) ≡ true → step_code c s (step_by s (taking k e)) ≡ 0 → Needless c s now (taking k e))
        → ((k : ℕ) → k < s.count → acquiring (kind_of (s.actions k)) ≡ true → step_code c s (step_by s (taking k 0)) ≡ 0 → Needless c s now (taking k 0))
        → ((p : ℕ) → p < c.procs → step_code c s (issue p) ≡ 0 → Needless c s now (issuing p))
        → Told c W sp s (suc n) B X
    told_rest f no_sure read-noted acquire-noted issue-noted = told_all f each
      where
        at : (k e : ℕ) → step_code c s (step_by s (taking k e)) ≡ 0 → CanTake c s (the (s.actions k).proc k e)
        at k e h = can_take c s (the (s.actions k).proc k e) h

        plain : (k e : ℕ) → step_code c s (step_by s (taking k e)) ≡ 0 → reading (kind_of (s.actions k)) ≡ false → Needless c s now (taking k e)
        plain k e h r =
            let z : e ≡ 0 = source_zero c s (the (s.actions k).proc k e) (at k e h) r in
            let h₀ = subst (λ (i : ℕ). step_code c s (step_by s (taking k i)) ≡ 0) z h in
            subst (λ (i : ℕ). Needless c s now (taking k i)) (sym z)
            (⊎_elim (λ a. acquire-noted k (at k e h).there a h₀)
            (λ a. absurd (no_sure k (at k e h).there (ap₂ (λ (x y : Bool). not (x || y)) r a) h₀))
            (decide (acquiring (kind_of (s.actions k)))))

        each : (a : Key) → step_code c s (step_by s a) ≡ 0 → (now a ≡ true) ⊎ Tested c W sp s n X (step_by s a)
        each (taking k e) h =
            let there : reading (kind_of (s.actions k)) ≡ true → e < 8 + s.count = λ r. source_there c s K.reached.good (the (s.actions k).proc k e) (at k e h) r in
            inr (tested_needless (taking k e) h (⊎_elim (λ r. read-noted k e (at k e h).there (there r) r h) (plain k e h) (decide (reading (kind_of (s.actions k))))))
        each (issuing p) h = inr (tested_needless (issuing p) h (issue-noted p (can_issue c s p h).proc h))

    -- the same of the sources of a quiet read, and it is enough
    pub told-quiet : (k e : ℕ) → step_code c s (step_by s (taking k e)) ≡ 0 → quiet c s k ≡ true
        → ((e : ℕ) → step_code c s (step_by s (taking k e)) ≡ 0 → (now (taking k e) ≡ true) ⊎ Tested c W sp s n X (step_by s (taking k e)))
        → Told c W sp s (suc n) B X
    told-quiet k e h p T =
        record {
          kept = S.kept;
          sound = S.sound;
          full = λ q d.
              let x = (runs c W Z q).reads s (s.actions k).proc k e n K.reached.good h p d in
              settle (taking k x.source) x.fits (T x.source x.fits) q x.then';
        }

-- THE THEOREM for code: a search from s with nothing spent and nothing told before tells the outcomes that are wanted and nothing
-- besides, and the cut.
module _ (c : Case) (W : Wish) (s : State) (n : ℕ) (B X : Question → Type 0) (nothing : (q : Question) → B q → ⊥) (T : Told c W fresh s n B X) where
  yes : (q : Question) → Run c W q s n → X q
  yes q d = ⊎_elim (λ x. x) (λ o. absurd (unspent c (Run c W q) n s o)) (T.full q d)

  only : (q : Question) → X q → Run c W q s n
  only q x = ⊎_elim (λ b. absurd (nothing q b)) (λ d. d) (T.sound q x)

  pub told_outcomes : (r : List ℕ) → X (outcome r) ↔ (OutcomeFrom (womm c) s n r × (W r ≡ true))
  told_outcomes r = (λ x. let d = only (outcome r) x in (done_from c n d.0, d.1), λ o. yes (outcome r) (done_to c n s r o.0, o.1))

  pub told_cut : X cut ↔ CutFrom (womm c) s n
  told_cut = (λ x. open_from c (only cut x), λ o. yes cut (open_to c n s o))
