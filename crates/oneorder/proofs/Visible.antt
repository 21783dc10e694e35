-- The one order may be asked as it is: a visibility question is about items of one location, and has the same answer. Assumes nothing.
use mathlib.Core.Path.{◌≡◌, refl, sym, ◌∙◌, ap, ap₂}
use mathlib.Core.Logic.{⊎_elim}
use mathlib.Core.Bool.{Bool, true, false, not, ◌&&◌}
use mathlib.Core.List.{List}
use Prim.Native.Nat.{ℕ, ◌+◌, ◌<◌}
use lib.Dec.{eqb, ltb}
use borrow.Author.Tests.{lt-ltb}
use Rattle.words.specs.Small.{is_none, some_below}
use Rattle.words.proofs.Bools.{decide, and_both, and_make, or_right, below-same}
use Rattle.cases.specs.declared.Case.{Case}
use Rattle.runs.specs.Replay.{replay}
use Rattle.rules.specs.Kinds.{reading, writing, syncs}
use Rattle.rules.specs.Order.{Order}
use Rattle.rules.specs.State.{State, Action, initial, kind_of, item_value, stands_at}
use Rattle.rules.specs.Commit.{writes, visible}
use Rattle.rules.specs.Step.{Step}
use Rattle.rules.specs.Womm.{womm}
use Rattle.rules.proofs.Actions.{item_cases}
use Rattle.oneorder.specs.OneOrder.{OneState, stands_in, limited, view, visible_one, initial_one, womm_one}
use Rattle.oneorder.proofs.OneOrder.{stands_at_lem, stands_initial, same-replay}

-- the order of l between items that stand there is the one order
pub limited-same : (x : Bool) (A : ℕ → Action) (l : ℕ) (R : Order) (a b : ℕ) → x ≡ true → stands_in A l a ≡ true → stands_in A l b ≡ true → (x && limited A l R a b) ≡ R a b
limited-same x A l R a b h y z = rw (h, y, z) refl

writes_stands : (s : State) (l e : ℕ) → writes s l e ≡ true → stands_in s.actions l e ≡ true
writes_stands s l e h =
    ⊎_elim (λ q. stands_initial s.actions l e q.0 ∙ q.1)
    (λ q.
    let a = s.actions q.0 in
    let b = and_both (writing (kind_of a)) (eqb a.loc l) q.2 in
    ap (stands_in s.actions l) q.1 ∙ stands_at_lem s.actions l q.0 ∙ or_right (syncs (kind_of a)) _ (and_make _ _ (or_right (reading (kind_of a)) (writing (kind_of a)) b.0) b.1))
    (item_cases (eqb e l) (λ a. writing (kind_of a) && eqb a.loc l) s e h)

pub visible_as_is : (c : Case) (s : OneState) (l i e : ℕ) → l < c.locs → stands_in s.actions l i ≡ true → visible_one c s l i e ≡ visible c (view c s) l i e
unfolding visible_one visible
visible_as_is c s l i e m h = ⊎_elim same (λ q. rw q refl) (decide (writes (view c s) l e))
  where
    R : Order
    R = (view c s).orders l

    plain : (a b : ℕ) → stands_in s.actions l a ≡ true → stands_in s.actions l b ≡ true → R a b ≡ s.order a b
    plain a b x y = limited-same (ltb l c.locs) s.actions l s.order a b (lt-ltb _ _ m) x y

    there : writes (view c s) l e ≡ true → (w : ℕ) → (b : Bool) → writes (view c s) l w ≡ b → (b && (s.order e w && s.order w i)) ≡ (b && (R e w && R w i))
    there x w true y = let sw = writes_stands (view c s) l w y in ap₂ (λ (u v : Bool). u && v) (sym (plain e w (writes_stands (view c s) l e x) sw)) (sym (plain w i sw h))
    there x w false y = refl

    same : writes (view c s) l e ≡ true
        → (writes (view c s) l e && not (is_none (item_value c (view c s) e)) && not (some_below (8 + s.count) (λ w. writes (view c s) l w && (s.order e w && s.order w i))) && not (s.order i e))
        ≡ (writes (view c s) l e && not (is_none (item_value c (view c s) e)) && not (some_below (8 + s.count) (λ w. writes (view c s) l w && (R e w && R w i))) && not (R i e))
    same x =
        ap₂ (λ (y z : Bool). writes (view c s) l e && not (is_none (item_value c (view c s) e)) && not y && not z)
        (below-same (8 + s.count) (λ w. writes (view c s) l w && (s.order e w && s.order w i)) (λ w. writes (view c s) l w && (R e w && R w i)) (λ w q. there x w (writes (view c s) l w) refl))
        (sym (plain i e h (writes_stands (view c s) l e x)))

-- 'The same answer to every visibility question': after every schedule, of item 8 + k in the order of a location l below M, and any item e
pub same_answers : (c : Case) (ts : List Step) (l k e : ℕ) → l < c.locs → stands_at l ((replay (womm c) (initial c) ts).state.actions k) ≡ true → visible_one c (replay (womm_one c) (initial_one c) ts).state l (8 + k) e ≡ visible c (replay (womm c) (initial c) ts).state l (8 + k) e
same_answers c ts l k e m h =
    let q = (same-replay c ts).state in
    let s = (replay (womm_one c) (initial_one c) ts).state in
    visible_as_is c s l (8 + k) e m (stands_at_lem s.actions l k ∙ ap (λ (z : State). stands_at l (z.actions k)) q ∙ h) ∙ ap (λ (z : State). visible c z l (8 + k) e) q
