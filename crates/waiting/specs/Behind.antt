-- The reason behind the code that the commit of a queue's oldest action, from item 0, would get. Assumes nothing.
use Rattle.std.specs.Prelude.{Bool, cond, ℕ, eqb}

-- 29, 30 and 31 are its causes, of an acquire or of a release; with any other code there is none.
abbrev pub behind : ℕ → Bool → ℕ
behind code acquire = cond (eqb code 29) 2 (cond (eqb code 30) 3 (cond (eqb code 31) (cond acquire 4 5) 1))
