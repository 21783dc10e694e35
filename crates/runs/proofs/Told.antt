-- What a replay tells: the steps taken are accepted and lead to its state; then nothing is left, or the next step is refused with its code.
-- It tells that and nothing else does. Assumes nothing.
use mathlib.Core.Path.{◌≡◌, refl, sym, ◌∙◌, ap, subst}
use mathlib.Core.List.{List, [], ◌∷◌, ◌++◌}
use Prim.Native.Nat.{ℕ, zero, suc}
use native.Mathlib.Omega.{arith}
use lib.ListN.{length}
use Rattle.runs.specs.Model.{Model}
use Rattle.runs.specs.Replay.{Replay, resumed, replay}
use Rattle.runs.specs.Outcome.{Leads}
use Rattle.runs.proofs.Walk.{Walk, stop, go, walk, leads}

-- code n, met in state e with these steps left
abbrev pub Stops : (m : Model) → ℕ → m.State → List m.Step → Type 0
Stops m n e [] = n ≡ 0
Stops m n e (t ∷ ts) = (m.code e t ≡ n) × (n ≡ 0 → ⊥)

pub record Told (m : Model) (s : m.State) (ts : List m.Step) (r : Replay m.State) : Type 0 where
  pub first : List m.Step
  pub rest : List m.Step
  pub whole : ts ≡ first ++ rest
  pub taken : r.taken ≡ length first
  pub leads : Leads m s first r.state
  pub stops : Stops m r.code r.state rest

module _ (m : Model) where
  pub replay-told : (ts : List m.Step) (s : m.State) → Told m s ts (replay m s ts)
  unfolding replay
  replay-told [] s = record { first = []; rest = []; whole = refl; taken = refl; leads = leads m (stop refl); stops = refl }
  replay-told (t ∷ ts) s = step (m.code s t) refl (replay-told ts (m.next s t))
    where
      step : (n : ℕ) → m.code s t ≡ n → Told m (m.next s t) ts (replay m (m.next s t) ts) → Told m s (t ∷ ts) (resumed n s (replay m (m.next s t) ts))
      step zero h k =
          record {
            first = t ∷ k.first;
            rest = k.rest;
            whole = ap (λ (l : List m.Step). t ∷ l) k.whole;
            taken = ap suc k.taken;
            leads = leads m (go h (walk m k.first (m.next s t) _ k.leads));
            stops = k.stops;
          }
      step (suc n) h k = record { first = []; rest = t ∷ ts; whole = refl; taken = refl; leads = leads m (stop refl); stops = (h, λ q. absurd (omega arith)) }

  one_only : {s e : m.State} {first : List m.Step} → Walk m s first e → (rest : List m.Step) (n k : ℕ) → k ≡ length first → Stops m n e rest → ◌≡◌ {A = Replay m.State} (record { code = n; taken = k; state = e }) (replay m s (first ++ rest))
  unfolding replay
  one_only (stop h) [] n k q d = λ i. record { code = d i; taken = q i; state = sym h i }
  one_only (stop {s = s} {e = e} h) (t ∷ ts) n k q d = step (m.code s t) (ap (λ (z : m.State). m.code z t) h ∙ d.0)
    where
      step : (c : ℕ) → c ≡ n → ◌≡◌ {A = Replay m.State} (record { code = n; taken = k; state = e }) (resumed c s (replay m (m.next s t) ts))
      step zero p = absurd (d.1 (sym p))
      step (suc c) p = λ i. record { code = sym p i; taken = q i; state = sym h i }
  one_only (go {s = s} {e = e} {t = t} {ts = ts} h w) rest n k q d =
      let more = one_only w rest n (length ts) refl d in
      rw h (λ i. record { code = (more i).code; taken = (q ∙ ap (λ (r : Replay m.State). suc r.taken) more) i; state = (more i).state })

  pub told_only : (s : m.State) (ts : List m.Step) (r : Replay m.State) → Told m s ts r → r ≡ replay m s ts
  told_only s ts r k = subst (λ (l : List m.Step). r ≡ replay m s l) (sym k.whole) (one_only (walk m k.first s r.state k.leads) k.rest r.code r.taken k.taken k.stops)
