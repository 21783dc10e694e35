-- Accepted schedules, step by step. Assumes nothing.
use mathlib.Core.Path.{◌≡◌, refl, sym, ◌∙◌}
use mathlib.Core.List.{List, [], ◌∷◌}
use Prim.Native.Nat.{ℕ, zero, suc}
use native.Mathlib.Omega.{arith}
use Rattle.runs.specs.Model.{Model}
use Rattle.runs.specs.Replay.{Replay, resumed, replay}
use Rattle.runs.specs.Outcome.{Leads}

pub data Walk (m : Model) : m.State → List m.Step → m.State → Type 0 where
  stop : {s e : m.State} → s ≡ e → Walk m s [] e
  go : {s e : m.State} {t : m.Step} {ts : List m.Step} → m.code s t ≡ 0 → Walk m (m.next s t) ts e → Walk m s (t ∷ ts) e

module _ (m : Model) where
  go_code : (s : m.State) (t : m.Step) (ts : List m.Step) → m.code s t ≡ 0 → (replay m s (t ∷ ts)).code ≡ (replay m (m.next s t) ts).code
  unfolding replay
  go_code s t ts h = rw h

  go_state : (s : m.State) (t : m.Step) (ts : List m.Step) → m.code s t ≡ 0 → (replay m s (t ∷ ts)).state ≡ (replay m (m.next s t) ts).state
  unfolding replay
  go_state s t ts h = rw h

  go_first : (n : ℕ) (s : m.State) (r : Replay m.State) → (resumed n s r).code ≡ 0 → n ≡ 0
  go_first zero s r h = refl
  go_first (suc n) s r h = absurd (omega arith)

  pub walk : (ts : List m.Step) (s e : m.State) → Leads m s ts e → Walk m s ts e
  unfolding replay
  walk [] s e l = stop l.ends
  walk (t ∷ ts) s e l =
      let h = go_first (m.code s t) s (replay m (m.next s t) ts) l.accepted in
      go h (walk ts (m.next s t) e (record { accepted = sym (go_code s t ts h) ∙ l.accepted; ends = sym (go_state s t ts h) ∙ l.ends }))

  pub leads : {ts : List m.Step} {s e : m.State} → Walk m s ts e → Leads m s ts e
  unfolding replay
  leads (stop h) = record { accepted = refl; ends = h }
  leads (go {s = s} {t = t} {ts = ts} h w) =
      let l = leads w in
      record { accepted = go_code s t ts h ∙ l.accepted; ends = go_state s t ts h ∙ l.ends }
