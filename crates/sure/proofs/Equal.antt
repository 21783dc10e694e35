-- A commit depends on the value of its source alone, so a source whose value a spent one has need not be tried. Assumes nothing.
use mathlib.Core.Path.{◌≡◌, refl, sym, ◌∙◌}
use mathlib.Core.Logic.{inl, inr}
use mathlib.Core.Bool.{true}
use mathlib.Core.Option.{some}
use Prim.Native.Nat.{ℕ}
use borrow.Author.Tests.{eqb-true}
use Rattle.words.specs.Small.{put}
use Rattle.cases.specs.declared.Instr.{Instr}
use Rattle.cases.specs.declared.Instr.TheVariants.{Empty, Read, Write, Local, Branch, Goto, Acquire, Release}
use Rattle.cases.specs.declared.Case.{Case}
use Rattle.rules.specs.Commit.{committed, result_of}
use Rattle.rules.specs.State.{State}
use Rattle.rules.specs.Step.{after, commit}
use Rattle.rules.proofs.Accepted.{after_commit}
use Rattle.sure.specs.Equal.{same_value, Needless}
use Rattle.sure.specs.Spent.{Key, Spent, taking, issuing}

module _ (c : Case) (s : State) (p k e f : ℕ) (same : same_value c s e f ≡ true) where
  same-result : (i : Instr) → result_of c s p k e i ≡ result_of c s p k f i
  same-result Empty = refl
  same-result (Read d a) = eqb-true _ _ same
  same-result (Write a b) = refl
  same-result (Local d x) = refl
  same-result (Branch a l) = refl
  same-result (Goto l) = refl
  same-result (Acquire a) = refl
  same-result (Release a) = refl

  same_commit : committed c s p k e ≡ committed c s p k f
  unfolding committed
  same_commit = λ j. record {
    count = s.count;
    actions = put s.actions k (record {
      proc = (s.actions k).proc;
      place = (s.actions k).place;
      instr = (s.actions k).instr;
      inputs = (s.actions k).inputs;
      loc = (s.actions k).loc;
      result = some (same-result (s.actions k).instr j);
    });
    places = (committed c s p k e).places;
    names = s.names;
    holders = (committed c s p k e).holders;
    orders = (committed c s p k e).orders;
  }

  -- THE THEOREM: the commits from two items of one value lead to one state
  pub same_after : after c s (commit p k e) ≡ after c s (commit p k f)
  same_after = after_commit c s p k e ∙ same_commit ∙ sym (after_commit c s p k f)

-- what is spent need not be taken
pub needless_spent : (c : Case) (s : State) (now : Spent) (a : Key) → now a ≡ true → Needless c s now a
needless_spent c s now (taking k e) h = inl h
needless_spent c s now (issuing p) h = h

-- with more that is spent, no more is needed
pub needless_more : (c : Case) (s : State) {now more : Spent} → ((a : Key) → now a ≡ true → more a ≡ true) → (a : Key) → Needless c s now a → Needless c s more a
needless_more c s f (taking k e) (inl h) = inl (f (taking k e) h)
needless_more c s f (taking k e) (inr h) = inr (record { source = h.source; rests = f (taking k h.source) h.rests; fits = h.fits; same = h.same })
needless_more c s f (issuing p) h = f (issuing p) h
