-- How many steps a run takes at least until it finishes. Assumes nothing.
use Rattle.std.specs.Prelude.{cond, List, [], ◌∷◌, map, ℕ, zero, suc, ◌+◌, ◌*◌, leb, ltb}
use Rattle.std.proofs.Math.Option.{Option, none, some}
use Rattle.words.specs.Small.{is_none}
use Rattle.cases.specs.declared.Case.{Case}
use Rattle.cases.specs.Case.{count_of, instr_at}
use Rattle.rules.specs.Kinds.{branching}
use Rattle.rules.specs.State.{State, Action, kind_of}
use Rattle.sure.specs.Ahead.{leads_to}

-- The least of some numbers, 0 of none.
abbrev pub least_of : List ℕ → ℕ
least_of [] = 0
least_of (x ∷ []) = x
least_of (x ∷ y ∷ l) = cond (leb x (least_of (y ∷ l))) x (least_of (y ∷ l))

-- The fewest instructions from place i of processor p to its end, counted up to m.
unfoldable pub fewest : Case → ℕ → ℕ → ℕ → ℕ
fewest c p zero i = 0
fewest c p (suc m) i = cond (ltb i (count_of c p)) (suc (least_of (map (fewest c p m) (leads_to (instr_at c p i) i)))) 0

-- The same from a place counter.
abbrev pub fewest_of : Case → ℕ → ℕ → Option ℕ → ℕ
fewest_of c p m none = 0
fewest_of c p m (some i) = fewest c p m i

-- The steps of a queued action: its commit, and behind a branch an issue and a commit for each instruction to the end.
abbrev pub owes : Case → ℕ → Action → ℕ
owes c m a = cond (is_none a.result) (suc (2 * cond (branching (kind_of a)) (least_of (map (fewest c a.proc m) (leads_to a.instr a.place))) 0)) 0

-- What f gives of 0, 1, .., n - 1, in all.
unfoldable pub total : ℕ → (ℕ → ℕ) → ℕ
total zero f = 0
total (suc n) f = f n + total n f

-- The steps that a run from s takes at least, with ways to the end counted up to m.
unfoldable pub least : Case → ℕ → State → ℕ
least c m s = total s.count (λ k. owes c m (s.actions k)) + 2 * total c.procs (λ p. fewest_of c p m (s.places p))
