-- The start is reachable, and so is what an accepted step of a reachable state leads to. Assumes nothing.
use mathlib.Core.Path.{◌≡◌, refl, sym, subst}
use mathlib.Core.List.{List, [], ◌∷◌, ◌++◌}
use Rattle.runs.specs.Model.{Model}
use Rattle.runs.specs.Reachable.{Reachable}
use Rattle.runs.proofs.Walk.{Walk, stop, go, walk, leads}

module _ (m : Model) where
  pub reachable_start : Reachable m m.initial
  reachable_start = record { schedule = []; leads = leads m (stop refl) }

  one_more : {s e : m.State} {ts : List m.Step} → Walk m s ts e → (t : m.Step) → m.code e t ≡ 0 → Walk m s (ts ++ (t ∷ [])) (m.next e t)
  one_more (stop {s = s} {e = e} q) t h = subst (λ (x : m.State). Walk m x (t ∷ []) (m.next e t)) (sym q) (go h (stop refl))
  one_more (go g w) t h = go g (one_more w t h)

  pub reachable_step : {s : m.State} → Reachable m s → (t : m.Step) → m.code s t ≡ 0 → Reachable m (m.next s t)
  reachable_step {s} r t h = record { schedule = r.schedule ++ (t ∷ []); leads = leads m (one_more (walk m r.schedule m.initial s r.leads) t h) }
