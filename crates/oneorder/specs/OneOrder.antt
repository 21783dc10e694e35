-- Document 02, request 04: 'keep one order over all items and take a location's order from it'. Assumes nothing.
use Rattle.std.specs.Prelude.{Bool, false, ◌&&◌, ◌||◌, cond, not, ℕ, ◌+◌, ◌-◌, eqb, ltb}
use Rattle.std.proofs.Math.Option.{Option}
use Rattle.words.specs.Small.{is_none, some_below}
use Rattle.cases.specs.declared.Case.{Case}
use Rattle.runs.specs.Model.{Model}
use Rattle.rules.specs.Kinds.{acquiring, accesses, syncs}
use Rattle.rules.specs.Order.{Order, joined_if}
use Rattle.rules.specs.State.{State, Action, Name, initial, kind_of, item_is, item_value, stands_at}
use Rattle.rules.specs.Issue.{new_action, issued}
use Rattle.rules.specs.Commit.{writes, input, released, committed}
use Rattle.rules.specs.Step.{Step, issue, commit, neither, step_code}
use Rattle.rules.specs.Result.{finished, registers}

pub record OneState : Type 0 where
  pub count : ℕ
  pub actions : ℕ → Action
  pub places : ℕ → Option ℕ
  pub names : ℕ → ℕ → Name
  pub holders : ℕ → Option ℕ
  -- over all items
  pub order : Order

-- Item e stands in the order of location l.
abbrev pub stands_in : (ℕ → Action) → ℕ → ℕ → Bool
stands_in A l e = cond (ltb e 8) (eqb e l) (stands_at l (A (e - 8)))

-- The order R between the items that stand at l.
abbrev pub limited : (ℕ → Action) → ℕ → Order → Order
limited A l R a b = stands_in A l a && stands_in A l b && R a b

-- 'Take a location's order from it': the state of the rules that it stands for.
abbrev pub view : Case → OneState → State
view c s =
    record {
      count = s.count;
      actions = s.actions;
      places = s.places;
      names = s.names;
      holders = s.holders;
      orders = λ l a b. ltb l c.locs && limited s.actions l s.order a b;
    }

-- The state s with the order R in place of its orders.
abbrev pub with_order : State → Order → OneState
with_order s R =
    record {
      count = s.count;
      actions = s.actions;
      places = s.places;
      names = s.names;
      holders = s.holders;
      order = R;
    }

abbrev pub has_item : Action → Bool
has_item a = syncs (kind_of a) || accesses (kind_of a)

-- The new item stands after the initial write of each location at which it stands, and after all earlier items of its processor.
abbrev pub earlier_one : Case → OneState → ℕ → ℕ → Bool
earlier_one c s p e = item_is (stands_at e (new_action c (view c s) p)) (λ a. eqb a.proc p && has_item a) (view c s) e

unfoldable pub issued_one : Case → OneState → ℕ → OneState
issued_one c s p =
    with_order (issued c (view c s) p) (joined_if (has_item (new_action c (view c s) p)) s.order (8 + s.count) (8 + s.count) (earlier_one c s p))

unfoldable pub committed_one : Case → OneState → ℕ → ℕ → ℕ → OneState
committed_one c s p k e =
    let z = view c s in
    with_order (committed c z p k e) (joined_if (acquiring (kind_of (s.actions k))) s.order (8 + k) (8 + s.count) (released c z p k e (input c z p k e 0)))

-- A visibility question, asked of the one order as it is.
unfoldable pub visible_one : Case → OneState → ℕ → ℕ → ℕ → Bool
visible_one c s l i e =
    let R = s.order in
    writes (view c s) l e
    && not (is_none (item_value c (view c s) e))
    && not (some_below (8 + s.count) (λ w. writes (view c s) l w && (R e w && R w i)))
    && not (R i e)

abbrev pub initial_one : Case → OneState
initial_one c = with_order (initial c) (λ a b. false)

unfoldable pub after_one : Case → OneState → Step → OneState
after_one c s (issue p) = issued_one c s p
after_one c s (commit p k e) = committed_one c s p k e
after_one c s neither = s

-- The machine with one order, as a model.
abbrev pub womm_one : Case → Model
womm_one c =
    record {
      State = OneState;
      Step = Step;
      initial = initial_one c;
      code = λ s. step_code c (view c s);
      next = after_one c;
      finished = λ s. finished c (view c s);
      registers = λ s. registers c (view c s);
    }
