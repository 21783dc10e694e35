-- How many stores wait in the buffers of a board. Assumes nothing.
use Rattle.std.specs.Prelude.{List, ℕ, zero, suc, ◌+◌, length}
use Rattle.cases.specs.declared.Case.{Case}
use Rattle.boards.specs.Board.{Store}

-- The sum of what f gives of 0, 1, .., n - 1.
unfoldable pub sum_to : ℕ → (ℕ → ℕ) → ℕ
sum_to zero f = 0
sum_to (suc n) f = f n + sum_to n f

unfoldable pub held : Case → (ℕ → ℕ → List Store) → ℕ
held c f = sum_to c.procs (λ p. sum_to c.locs (λ n. length (f p n)))
