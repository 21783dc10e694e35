-- Request 07: small cases that tell the machines apart, one row each, all in one table. Assumes nothing.
use Rattle.std.specs.Prelude.{◌≡◌, Bool, true, false, List, [], ◌∷◌, ◌++◌, ◌↔◌, ℕ, replicate}
use Rattle.std.proofs.Math.Option.{Option, none, some}
use Rattle.words.specs.Small.{concat_map}
use Rattle.cases.specs.declared.Instr.{Instr}
use Rattle.cases.specs.declared.Instr.TheVariants.{Read, Write, Goto, Acquire, Release}
use Rattle.cases.specs.declared.Case.{Case}
use Rattle.cases.specs.Block.{Sound}
use Rattle.runs.specs.Listing.{RecordsOf}
use Rattle.rules.specs.Result.{register_bytes}
use Rattle.rules.specs.Building.{shape, plain}
use Rattle.boards.specs.declared.Buffering.{Buffering}
use Rattle.boards.specs.declared.Buffering.TheVariants.{Direct, Shared, Split}
use Rattle.boards.specs.Listing.{Outcome, Cut}

-- A row: the machine, the case, the bound, the records and the cut mark.
pub data Claim : Type 0 where
  lists : Buffering → Case → ℕ → List (List ℕ) → Bool → Claim

-- It holds: its case is sound, and the list is as it says.
abbrev pub Holds : Claim → Type 0
Holds (lists k c n rs cut) = Sound c × (RecordsOf (Outcome k c n) rs × ((cut ≡ true) ↔ Cut k c n))

-- Two processors, two locations.
abbrev pub pair : List Instr → List Instr → Case
pair is js = plain 2 (is ∷ js ∷ [])

-- Registers 2, 3 and 4 of a processor.
abbrev pub registers_of : Option ℕ → Option ℕ → Option ℕ → List ℕ
registers_of x y z = concat_map register_bytes (some 0 ∷ some 1 ∷ x ∷ y ∷ z ∷ none ∷ none ∷ none ∷ [])

-- A record of two processors: registers 2 and 3 of each.
abbrev pub both : Option ℕ → Option ℕ → Option ℕ → Option ℕ → List ℕ
both a b x y = registers_of a b none ++ (registers_of x y none ++ replicate 48 0)

-- H: 1 to x, then 1 to y; the other reads y, then x.
abbrev pub message : Case
message = pair (Write 0 1 ∷ Write 1 1 ∷ []) (Read 2 1 ∷ Read 3 0 ∷ [])

abbrev pub received : ℕ → ℕ → List ℕ
received y x = both none none (some y) (some x)

-- Store buffering: each writes 1 to its location, then reads the other's.
abbrev pub crossing : Case
crossing = pair (Write 0 1 ∷ Read 2 1 ∷ []) (Write 1 1 ∷ Read 2 0 ∷ [])

-- Load buffering: each reads a location, then writes 1 to the other's.
abbrev pub loading : Case
loading = pair (Read 2 0 ∷ Write 1 1 ∷ []) (Read 2 1 ∷ Write 0 1 ∷ [])

-- What the two reads give.
abbrev pub gives : ℕ → ℕ → List ℕ
gives a b = both (some a) none (some b) none

-- H with acquire before and release after, on location 2, at both sides.
abbrev pub locked : Case
locked =
    shape 3
    (record { fourth = some 2; instrs = Acquire 4 ∷ Write 0 1 ∷ Write 1 1 ∷ Release 4 ∷ [] }
    ∷ record { fourth = some 2; instrs = Acquire 4 ∷ Read 2 1 ∷ Read 3 0 ∷ Release 4 ∷ [] }
    ∷ [])

abbrev pub handed : ℕ → List ℕ
handed v = registers_of none none (some 2) ++ (registers_of (some v) (some v) (some 2) ++ replicate 48 0)

-- One processor.
abbrev pub lone : List Instr → Case
lone is = plain 2 (is ∷ [])

abbrev pub got : Option ℕ → List ℕ
got x = registers_of x none none ++ replicate 72 0

-- 'Stores reach memory at once': no stale read. 'One first-in first-out buffer a processor': both reads of the crossing can miss.
-- 'One a processor and location': stores to two locations can change places. On none a read takes a later store.
abbrev pub apart : List Claim
apart =
    lists Direct message 4 (received 0 0 ∷ received 0 1 ∷ received 1 1 ∷ []) false
    ∷ lists Shared message 4 (received 0 0 ∷ received 0 1 ∷ received 1 1 ∷ []) false
    ∷ lists Split message 4 (received 0 0 ∷ received 0 1 ∷ received 1 0 ∷ received 1 1 ∷ []) false
    ∷ lists Direct crossing 4 (gives 0 1 ∷ gives 1 0 ∷ gives 1 1 ∷ []) false
    ∷ lists Shared crossing 4 (gives 0 0 ∷ gives 0 1 ∷ gives 1 0 ∷ gives 1 1 ∷ []) false
    ∷ lists Split crossing 4 (gives 0 0 ∷ gives 0 1 ∷ gives 1 0 ∷ gives 1 1 ∷ []) false
    ∷ lists Direct loading 4 (gives 0 0 ∷ gives 0 1 ∷ gives 1 0 ∷ []) false
    ∷ lists Shared loading 4 (gives 0 0 ∷ gives 0 1 ∷ gives 1 0 ∷ []) false
    ∷ lists Split loading 4 (gives 0 0 ∷ gives 0 1 ∷ gives 1 0 ∷ []) false
    ∷ []

-- 'A read takes its processor's newest buffered store.' 'Acquire and release need that processor's buffers empty.'
abbrev pub buffered : List Claim
buffered =
    lists Split (lone (Write 0 0 ∷ Write 0 1 ∷ Read 2 0 ∷ [])) 3 (got (some 1) ∷ []) false
    ∷ lists Split (lone (Write 0 1 ∷ Acquire 1 ∷ Release 1 ∷ Read 2 1 ∷ [])) 4 (got (some 0) ∷ []) false
    ∷ lists Direct locked 8 (handed 0 ∷ handed 1 ∷ []) false
    ∷ lists Shared locked 8 (handed 0 ∷ handed 1 ∷ []) false
    ∷ lists Split locked 8 (handed 0 ∷ handed 1 ∷ []) false
    ∷ []

-- 'Cut means a run of exactly A instructions after which some place counter is not at its processor's count, buffers aside.'
abbrev pub bounds : List Claim
bounds =
    lists Shared message 3 [] true
    ∷ lists Split (lone (Write 0 1 ∷ [])) 1 (got none ∷ []) false
    ∷ lists Shared (lone (Release 0 ∷ [])) 0 [] true
    ∷ lists Shared (lone (Release 0 ∷ [])) 1 [] false
    ∷ lists Direct (lone (Goto 0 ∷ [])) 9 [] true
    ∷ lists Direct (lone []) 0 (got none ∷ []) false
    ∷ []

abbrev pub shapes : List Claim
shapes = apart ++ (buffered ++ bounds)
