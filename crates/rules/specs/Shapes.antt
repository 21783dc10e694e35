-- Document 01, 'Shapes run on the bench': the starred ones, one row each, all in one table. Assumes nothing.
use Rattle.std.specs.Prelude.{true, false, List, [], ◌∷◌, ◌++◌, replicate}
use Rattle.std.proofs.Math.Option.{none, some}
use Rattle.cases.specs.declared.Instr.TheVariants.{Read, Write, Local, Goto, Acquire, Release}
use Rattle.cases.specs.declared.Expr.TheVariants.{Sum, Difference}
use Rattle.rules.specs.Step.{issue, commit}
use Rattle.rules.specs.Building.{shape, alone, left}
use Rattle.rules.specs.Claims.{Claim, lists, replays, finishes}

-- 'Write 1 to x, read x: only 1. Read x, write 1 to x: only 0 (both bound 4).'
abbrev pub one_location : List Claim
one_location =
    lists (alone (Write 0 1 ∷ Read 2 0 ∷ [])) 4 (left (some 1) none ∷ []) false
    ∷ lists (alone (Read 2 0 ∷ Write 0 1 ∷ [])) 4 (left (some 0) none ∷ []) false
    ∷ []

-- 'One processor, no instructions, bound 0: one outcome, cut no. `goto 0` alone, bound 1: none, cut yes; its 49th issue in a row: 23.'
abbrev pub bounds : List Claim
bounds =
    lists (alone []) 0 (left none none ∷ []) false
    ∷ lists (alone (Goto 0 ∷ [])) 1 [] true
    ∷ replays (alone (Goto 0 ∷ [])) (replicate 49 (issue 0)) 48 23
    ∷ []

-- 'A lone release: bound 1 cut yes; bound 2 none, cut no. Acquire, acquire, release of one location: finishes in 6 steps.
-- A second acquire's commit before the first's: 28. An acquire of location M, committed: 30.'
abbrev pub locks : List Claim
locks =
    lists (alone (Release 0 ∷ [])) 1 [] true
    ∷ lists (alone (Release 0 ∷ [])) 2 [] false
    ∷ finishes (alone (Acquire 0 ∷ Acquire 0 ∷ Release 0 ∷ [])) (issue 0 ∷ issue 0 ∷ issue 0 ∷ commit 0 0 0 ∷ commit 0 1 0 ∷ commit 0 2 0 ∷ [])
    ∷ replays (alone (Acquire 0 ∷ Acquire 0 ∷ [])) (issue 0 ∷ issue 0 ∷ commit 0 1 0 ∷ []) 2 28
    ∷ replays (alone (Acquire 1 ∷ [])) (issue 0 ∷ commit 0 0 0 ∷ []) 1 30
    ∷ []

-- 'The two wrapping sums above': 65,535 + 1 is 0 and 0 − 1 is 65,535.
abbrev pub sums : List Claim
sums =
    lists (shape 1 (record { fourth = some 65535; instrs = Local 2 (Sum 4 1) ∷ [] } ∷ [])) 2 (left (some 0) (some 65535) ∷ []) false
    ∷ lists (alone (Local 2 (Difference 0 1) ∷ [])) 2 (left (some 65535) none ∷ []) false
    ∷ []

-- 'All together in a single table.'
abbrev pub shapes : List Claim
shapes = one_location ++ (bounds ++ (locks ++ sums))
