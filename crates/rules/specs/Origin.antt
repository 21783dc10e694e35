-- Request 09: what a register that an action reads is bound to. Assumes nothing.
use Rattle.std.specs.Prelude.{◌≡◌, ℕ, suc, ◌<◌, ◌≤◌}
use Rattle.std.proofs.Math.Option.{none, some}
use Rattle.cases.specs.declared.Case.{Case}
use Rattle.cases.specs.Case.{count_of, instr_at, preset_of}
use Rattle.rules.specs.Kinds.{assigns}
use Rattle.rules.specs.State.{State, Name, start, given}

-- Some instruction of processor p assigns register r.
pub record Assigned (c : Case) (p r : ℕ) : Type 0 where
  pub place : ℕ
  pub inside : place < count_of c p
  pub sets : assigns (instr_at c p place) ≡ some r

-- Action k is of processor p and assigns register r.
pub record Sets (s : State) (p r k : ℕ) : Type 0 where
  pub proc : (s.actions k).proc ≡ p
  pub sets : assigns (s.actions k).instr ≡ some r

-- None of the actions from, from + 1, .., n - 1 does.
abbrev pub Unset : State → ℕ → ℕ → ℕ → ℕ → Type 0
Unset s p r from n = (k : ℕ) → from ≤ k → k < n → Sets s p r k → ⊥

-- What register r of processor p is bound to where action n reads it: a preset that no earlier action has replaced; the newest earlier
-- action of its processor that assigns it; or nothing, and then none has assigned it yet, and some instruction of the processor would.
pub data Origin (c : Case) (s : State) (n p r : ℕ) : Name → Type 0 where
  preset : (v : ℕ) → preset_of c p r ≡ some v → Unset s p r 0 n → Origin c s n p r (start (some v))
  earlier : (k : ℕ) → k < n → Sets s p r k → Unset s p r (suc k) n → Origin c s n p r (given k)
  later : preset_of c p r ≡ none → Unset s p r 0 n → Assigned c p r → Origin c s n p r (start none)
