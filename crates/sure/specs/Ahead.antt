-- Code that may still be issued. Assumes nothing.
use Rattle.std.specs.Prelude.{Bool, false, ◌&&◌, ◌||◌, List, [], ◌∷◌, ℕ, zero, suc, ltb, get_or}
use Rattle.std.proofs.Math.Option.{Option, none, some}
use Rattle.words.specs.Small.{is_none, is, any, some_below}
use Rattle.cases.specs.declared.Instr.{Instr}
use Rattle.cases.specs.declared.Instr.TheVariants.{Empty, Read, Write, Local, Branch, Goto, Acquire, Release}
use Rattle.cases.specs.declared.Case.{Case}
use Rattle.cases.specs.Case.{count_of, instr_at, preset_of}
use Rattle.rules.specs.Kinds.{branching, reads, assigns}
use Rattle.rules.specs.State.{State, Action, kind_of}

-- Where the instruction at place i may lead.
abbrev pub leads_to : Instr → ℕ → List ℕ
leads_to Empty i = suc i ∷ []
leads_to (Read d a) i = suc i ∷ []
leads_to (Write a b) i = suc i ∷ []
leads_to (Local d e) i = suc i ∷ []
leads_to (Branch a l) i = l ∷ suc i ∷ []
leads_to (Goto l) i = l ∷ []
leads_to (Acquire a) i = suc i ∷ []
leads_to (Release a) i = suc i ∷ []

-- Of the n instructions that processor p issues next from place i on, whichever way it goes, one may pass the test.
unfoldable pub ahead : Case → ℕ → (Instr → Bool) → ℕ → ℕ → Bool
ahead c p f zero i = false
ahead c p f (suc n) i = ltb i (count_of c p) && (f (instr_at c p i) || any (ahead c p f n) (leads_to (instr_at c p i) i))

-- The same from a place counter.
abbrev pub ahead_of : Case → ℕ → (Instr → Bool) → ℕ → Option ℕ → Bool
ahead_of c p f n none = false
ahead_of c p f n (some i) = ahead c p f n i

-- The same behind a branch in the queue.
abbrev pub ahead_by : Case → (ℕ → Instr → Bool) → ℕ → Action → Bool
ahead_by c f n a = is_none a.result && (branching (kind_of a) && any (ahead c a.proc (f a.proc) n) (leads_to a.instr a.place))

-- With n steps to go from s, some processor p may issue an instruction that passes the test f p.
unfoldable pub comes : Case → (ℕ → Instr → Bool) → ℕ → State → Bool
comes c f n s = some_below c.procs (λ p. ahead_of c p (f p) n (s.places p)) || some_below s.count (λ k. ahead_by c f n (s.actions k))

-- Some instruction of processor p assigns register a.
unfoldable pub assigned : Case → ℕ → ℕ → Bool
assigned c p a = some_below (count_of c p) (λ i. is a (assigns (instr_at c p i)))

-- The first register that instruction x of processor p reads may hold l: it is assigned, or starts with l.
abbrev pub may_name : Case → ℕ → ℕ → Instr → Bool
may_name c l p x = assigned c p (get_or (reads x) 0 0) || is l (preset_of c p (get_or (reads x) 0 0))
