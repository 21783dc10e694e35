-- Questions that the kept sets answer. Assumes nothing.
use Rattle.std.specs.Prelude.{◌≡◌, Bool, true, ◌&&◌, ◌||◌, List, ℕ, ◌/◌, ◌%◌, ◌≤◌, ◌<◌, eqb}
use Rattle.words.specs.Sets.{has}
use Rattle.rules.specs.Kinds.{writing, held_by}
use Rattle.cases.specs.declared.Case.{Case}
use Rattle.rules.specs.State.{State, Action, unissued, kind_of, waiting}
use Rattle.oneorder.specs.OneOrder.{stands_in}
use Rattle.machine.specs.Shown.{orders_of}
use Rattle.machine.specs.Kept.{Kept}

-- An action of the queue of processor p holds back the commit of a kind at a location.
abbrev pub holding : ℕ → ℕ → ℕ → Action → Bool
holding p kind loc a = waiting p a && held_by kind (kind_of a) (eqb a.loc loc)

-- The action k of processor p, of a kind and at a location, that is asked about.
pub record Held (p k kind loc : ℕ) : Type 0 where
  pub proc : p < 4
  pub upto : k ≤ 48
  pub kind-low : kind < 8
  pub loc_low : loc < 8

-- A kind and a location.
pub record KindAt (kind loc : ℕ) : Type 0 where
  pub kind-low : kind < 8
  pub loc_low : loc < 8

-- The row of committing kind k: bit q where one of kind q holds it back, bit 8 + q where it does so at the same location.
pub record HoldRow (k row : ℕ) : Type 0 where
  pub low : row < 65536
  pub says : (q : ℕ) → q < 8 → (same : Bool) → (has (row % 256) q || (has (row / 256) q && (writing q && same))) ≡ held_by k q same

-- A state that the sets show, of a case with these masks of presets.
pub record Names (c : Case) (s : State) (masks sets : List ℕ) : Type 0 where
  pub kept : Kept c s sets
  pub ends : (k : ℕ) → s.count ≤ k → s.actions k ≡ unissued
  pub presets : c.masks ≡ masks

-- A state that the sets and the rows show, with a read item i of location l.
pub record Sight (c : Case) (s : State) (sets rows : List ℕ) (l i : ℕ) : Type 0 where
  pub kept : Kept c s sets
  pub low : s.count ≤ 48
  pub ends : (k : ℕ) → s.count ≤ k → s.actions k ≡ unissued
  pub orders : s.orders ≡ orders_of c s.actions rows
  pub loc : l < c.locs
  pub stands : stands_in s.actions l i ≡ true
