-- What it is for an outcome to meet clauses. An outcome is 96 bytes: register k of processor p stands at 24p + 3k, as 0, 0, 0 where it is
-- undefined, and else as 1, the value's high byte and its low byte. Assumes nothing.
use Rattle.std.specs.Prelude.{ℕ, ◌+◌, ◌-◌, ◌*◌, ◌≤◌, ◌<◌, Bool, true, false, ◌&&◌, List, [], ◌∷◌, ◌++◌, eqb, ltb, get_or, set, take, replicate}
use Rattle.clauses.specs.declared.Clause.{Clause}
use Rattle.clauses.specs.declared.Asked.{Asked}

-- The clause names a processor and a register that an outcome has.
abbrev pub Named : Clause → Type 0
Named c = (c.processor < 4) × (c.register < 8)

abbrev pub AllNamed : List Clause → Type 0
AllNamed [] = Unit {0}
AllNamed (c ∷ cs) = Named c × AllNamed cs

-- Where its register stands.
abbrev pub place : Clause → ℕ
place c = 24 * c.processor + 3 * c.register

abbrev pub pick_bool : Bool → Bool → Bool → Bool
pick_bool true a b = a
pick_bool false a b = b

-- The register has the value; or it is undefined, where the clause says so, and then its value is not looked at.
abbrev pub holds_in : Clause → List ℕ → Bool
holds_in c o = pick_bool c.defined (eqb (get_or o (place c) 0) 1 && eqb (256 * get_or o (place c + 1) 0 + get_or o (place c + 2) 0) c.value) (eqb (get_or o (place c) 0) 0)

-- All of the clauses hold.
unfoldable pub meets_all : List Clause → List ℕ → Bool
meets_all [] o = true
meets_all (c ∷ cs) o = holds_in c o && meets_all cs o

-- Clauses held by value: at most 8, each of which names what an outcome has.
abbrev pub Askable : Asked → Type 0
Askable a = (a.count ≤ 8) × AllNamed (take a.count a.clauses)

-- An outcome meets them all.
abbrev pub wanted : Asked → List ℕ → Bool
wanted a = meets_all (take a.count a.clauses)

abbrev pub no_clause : Clause
no_clause = record { processor = 0; register = 0; defined = false; value = 0 }

abbrev pub no_clauses : Asked
no_clauses = record { clauses = no_clause ∷ no_clause ∷ no_clause ∷ no_clause ∷ no_clause ∷ no_clause ∷ no_clause ∷ no_clause ∷ []; count = 0 }

-- The clauses that are held; those past the eighth are only counted.
abbrev pub clauses_of : Asked → List Clause
clauses_of a = take a.count a.clauses ++ replicate (a.count - 8) no_clause

abbrev pub pick_asked : Bool → Asked → Asked → Asked
pick_asked true a b = a
pick_asked false a b = b

-- One clause more; those past the eighth are only counted.
abbrev pub with_clause : Asked → Clause → Asked
with_clause a c = pick_asked (ltb a.count 8) (record { clauses = set a.clauses a.count c; count = a.count + 1 }) (record { clauses = a.clauses; count = a.count + 1 })

-- A list of clauses more, and a list of clauses alone.
unfoldable pub with_all : Asked → List Clause → Asked
with_all a [] = a
with_all a (c ∷ cs) = with_all (with_clause a c) cs

abbrev pub gathered : List Clause → Asked
gathered cs = with_all no_clauses cs
