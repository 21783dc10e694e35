-- Document 01, 'How a step changes the machine', Finished; 'Codes', the result of a replay. Assumes nothing.
use Rattle.std.specs.Prelude.{ℕ, zero, suc, ◌+◌, ◌/◌, ◌%◌, Bool, cond, not, ◌&&◌, List, [], ◌∷◌, ◌++◌, nat_lt}
use Rattle.std.proofs.Math.Option.{Option, none, some}
use Rattle.words.specs.Small.{all, is, counting, some_below, each, concat_map}
use Rattle.cases.specs.declared.Case.{Case}
use Rattle.cases.specs.Case.{count_of}
use Rattle.rules.specs.State.{State, waiting, value_of}

-- 'Finished: every queue empty, every place counter at its processor's count.'
unfoldable pub finished : Case → State → Bool
finished c s = all (λ p. not (some_below s.count (λ k. waiting p (s.actions k))) && is (count_of c p) (s.places p)) (counting 0 c.procs)

-- 'A register is 0,0,0 if undefined, else 1, high byte, low byte.'
abbrev pub register_bytes : Option ℕ → List ℕ
register_bytes none = 0 ∷ 0 ∷ 0 ∷ []
register_bytes (some n) = 1 ∷ n / 256 ∷ n % 256 ∷ []

-- The value of a register, none of an absent processor.
abbrev pub register_of : Case → State → ℕ → ℕ → Option ℕ
register_of c s p k = cond (nat_lt p c.procs) (value_of s (s.names p k)) none

-- The 96 bytes of registers.
unfoldable pub registers : Case → State → List ℕ
registers c s = concat_map (λ p. concat_map (λ k. register_bytes (register_of c s p k)) (counting 0 8)) (counting 0 4)

-- How many numbers below n pass the test.
unfoldable pub how_many : ℕ → (ℕ → Bool) → ℕ
how_many zero f = 0
how_many (suc n) f = cond (f n) 1 0 + how_many n f

-- A place counter as a byte: 255 undefined.
abbrev pub place_byte : Option ℕ → ℕ
place_byte none = 255
place_byte (some n) = n

-- A byte for each processor, 0 of an absent one.
abbrev pub present : Case → (ℕ → ℕ) → List ℕ
present c f = each 4 (λ p. cond (nat_lt p c.procs) (f p) 0)

-- '96 bytes of registers, 4 place counters (255 undefined), 4 queue lengths; bytes of absent processors are 0.'
unfoldable pub result_bytes : Case → State → List ℕ
result_bytes c s = registers c s ++ (present c (λ p. place_byte (s.places p)) ++ present c (λ p. how_many s.count (λ k. waiting p (s.actions k))))
