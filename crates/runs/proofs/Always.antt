-- The invariant rule: what holds at the start and is kept by every accepted step holds after every accepted schedule. Assumes nothing.
use mathlib.Core.Path.{◌≡◌, subst}
use mathlib.Core.List.{List}
use Prim.Native.Nat.{ℕ, suc, ◌+◌}
use native.Mathlib.Omega.{arith}
use lib.ListN.{length}
use Rattle.runs.specs.Model.{Model}
use Rattle.runs.specs.Outcome.{Leads}
use Rattle.runs.proofs.Walk.{Walk, stop, go, walk}

module _ (m : Model) where
  -- of what also speaks of the number of steps taken
  module _ (P : ℕ → m.State → Type 0) (keeps : (n : ℕ) (s : m.State) (t : m.Step) → m.code s t ≡ 0 → P n s → P (suc n) (m.next s t)) where
    pub counted : (n : ℕ) {s e : m.State} {ts : List m.Step} → Walk m s ts e → P n s → P (n + length ts) e
    counted n (stop {s = s} h) p = subst (P (n + 0)) h (subst (λ (k : ℕ). P k s) (omega arith) p)
    counted n {e = e} (go {s = s} {t = t} {ts = ts} h w) p = subst (λ (k : ℕ). P k e) (omega arith) (counted (suc n) w (keeps n s t h p))

    -- after every accepted schedule from the start
    pub counted-after : P 0 m.initial → (ts : List m.Step) (e : m.State) → Leads m m.initial ts e → P (length ts) e
    counted-after p ts e l = subst (λ (k : ℕ). P k e) (omega arith) (counted 0 (walk m ts m.initial e l) p)

  module _ (P : m.State → Type 0) (keeps : (s : m.State) (t : m.Step) → m.code s t ≡ 0 → P s → P (m.next s t)) where
    pub always : {s e : m.State} {ts : List m.Step} → Walk m s ts e → P s → P e
    always w p = counted (λ n. P) (λ n. keeps) 0 w p

    pub always_after : P m.initial → (ts : List m.Step) (e : m.State) → Leads m m.initial ts e → P e
    always_after p ts e l = always (walk m ts m.initial e l) p
