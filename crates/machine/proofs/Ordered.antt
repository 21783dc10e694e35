-- One order for all locations: what an accepted step makes of it, and visibility asked of it. Assumes nothing.
use mathlib.Core.Path.{◌≡◌, sym, ◌∙◌, ap, subst}
use mathlib.Core.Bool.{true}
use mathlib.Core.List.{List}
use Prim.Native.Nat.{ℕ, ◌<◌}
use Rattle.cases.specs.declared.Case.{Case}
use Rattle.runs.specs.Reachable.{Reachable}
use Rattle.runs.proofs.Reachable.{reachable_step}
use Rattle.runs.proofs.Always.{always_after}
use Rattle.rules.specs.State.{State}
use Rattle.rules.specs.Commit.{visible}
use Rattle.rules.specs.Step.{Step, step_code, after}
use Rattle.oneorder.specs.OneOrder.{OneState, stands_in, view, with_order, visible_one, after_one, womm_one}
use Rattle.oneorder.proofs.OneOrder.{One, one_initial, one_step, view_step}
use Rattle.oneorder.proofs.Visible.{visible_as_is}
use Rattle.orders.specs.Rows.{order_of}
use Rattle.machine.specs.declared.Machine.{Machine}
use Rattle.machine.specs.Shown.{shown_one, shown, orders_of}

one : (c : Case) (s : OneState) → Reachable (womm_one c) s → One s
one c s r = always_after (womm_one c) One (λ x t h v. one_step c x t v h) (one_initial c) r.schedule s r.leads

-- a machine that keeps the one order of an accepted step shows the rules' orders after it, and is reached too
module _ (c : Case) (m r : Machine) (t : Step) (here : Reachable (womm_one c) (shown_one c m)) (go : step_code c (shown c m) t ≡ 0) (kept : shown_one c r ≡ after_one c (shown_one c m) t) where
  pub after_shows : shown c r ≡ after c (shown c m) t
  after_shows = ap (view c) kept ∙ view_step c (shown_one c m) t (one c (shown_one c m) here) go

  pub after-reached : Reachable (womm_one c) (shown_one c r)
  after-reached = subst (Reachable (womm_one c)) (sym kept) (reachable_step (womm_one c) here t go)

-- 'the same answer to every visibility question': the rows are asked as they are
pub visible_rows : (c : Case) (s : State) (rows : List ℕ) (l i e : ℕ) → s.orders ≡ orders_of c s.actions rows → l < c.locs → stands_in s.actions l i ≡ true → visible_one c (with_order s (order_of rows)) l i e ≡ visible c s l i e
visible_rows c s rows l i e h m q =
    visible_as_is c (with_order s (order_of rows)) l i e m q
    ∙ (λ j. visible c (record { count = s.count; actions = s.actions; places = s.places; names = s.names; holders = s.holders; orders = sym h j }) l i e)
