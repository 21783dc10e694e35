-- Document 02, request 10: a race, and the first one. Assumes nothing.
use Rattle.std.specs.Prelude.{◌≡◌, ◌⊎◌, true, ◌&&◌, ◌||◌, List, ℕ, ◌≤◌, ◌<◌}
use Rattle.rules.specs.Kinds.{writing, accesses}
use Rattle.rules.specs.State.{State, kind_of}
use Rattle.rules.specs.Step.{Step}
use Rattle.races.specs.Happens.{HappensBefore}

-- s is the state after the schedule ts.
module _ (ts : List Step) (s : State) where
  -- 'Two different reads or writes of one location, at least one a write, that neither way stand ordered.'
  pub record Race (j k : ℕ) : Type 0 where
    pub first : j < k
    pub there : k < s.count
    pub access : (accesses (kind_of (s.actions j)) && accesses (kind_of (s.actions k))) ≡ true
    pub location : (s.actions j).loc ≡ (s.actions k).loc
    pub write : (writing (kind_of (s.actions j)) || writing (kind_of (s.actions k))) ≡ true
    pub not_before : HappensBefore ts s.actions j k → ⊥
    pub not_after : HappensBefore ts s.actions k j → ⊥

  -- 'The first pair is the one with the lowest earlier action number, then the lowest later one; with none .. both numbers are 255.'
  pub data FirstRace (j k : ℕ) : Type 0 where
    found : Race j k → ((i m : ℕ) → Race i m → (j < i) ⊎ ((j ≡ i) × (k ≤ m))) → FirstRace j k
    clear : j ≡ 255 → k ≡ 255 → ((i m : ℕ) → Race i m → ⊥) → FirstRace j k
