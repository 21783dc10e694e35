-- Document 01, 'Wrong readings to shut out', and request 03: small cases where the right and the wrong reading differ. Assumes nothing.
use Rattle.std.specs.Prelude.{true, false, List, [], ◌∷◌, ◌++◌}
use Rattle.std.proofs.Math.Option.{some}
use Rattle.cases.specs.declared.Case.{Case}
use Rattle.cases.specs.declared.Instr.TheVariants.{Read, Write, Local, Branch, Goto, Acquire, Release}
use Rattle.cases.specs.declared.Expr.TheVariants.{Constant, Sum}
use Rattle.rules.specs.Step.{Step, issue, commit}
use Rattle.rules.specs.Building.{plain, alone}
use Rattle.rules.specs.Claims.{Claim, lists, replays, finishes, leaves, orders}

-- Processor 0 writes 1 to x, processor 1 reads x.
abbrev pub passed : Case
passed = plain 1 ((Write 0 1 ∷ []) ∷ (Read 2 0 ∷ []) ∷ [])

-- Processor 0 acquires location 1, writes 1 to x and releases; processor 1 acquires it and reads x.
abbrev pub locked : Case
locked = plain 2 ((Acquire 1 ∷ Write 0 1 ∷ Release 1 ∷ []) ∷ (Acquire 1 ∷ Read 2 0 ∷ []) ∷ [])

-- Processor 0 commits its three actions.
abbrev pub writer : List Step
writer = commit 0 0 0 ∷ commit 0 1 0 ∷ commit 0 2 0 ∷ []

-- The release is committed before the second acquire is issued.
abbrev pub late : List Step
late = issue 0 ∷ issue 0 ∷ issue 0 ∷ (writer ++ (issue 1 ∷ []))

-- The release is committed after the second acquire is issued, and before that is committed.
abbrev pub early : List Step
early = issue 0 ∷ issue 0 ∷ issue 0 ∷ issue 1 ∷ issue 1 ∷ (writer ++ (commit 1 3 0 ∷ []))

-- 'Showing a read only the newest write': it may take the newest, and the one before.
abbrev pub older : List Claim
older =
    leaves passed (issue 0 ∷ commit 0 0 0 ∷ issue 1 ∷ commit 1 1 8 ∷ []) 1 2 (some 1)
    ∷ leaves passed (issue 0 ∷ commit 0 0 0 ∷ issue 1 ∷ commit 1 1 0 ∷ []) 1 2 (some 0)
    ∷ []

-- 'Treating an issued write without a value as readable.'
abbrev pub valueless : List Claim
valueless = replays passed (issue 0 ∷ issue 1 ∷ commit 1 1 8 ∷ []) 2 32 ∷ []

-- 'Binding a register at commit': at the commit of the sum register 1 is 5, at its issue it was 1.
abbrev pub bound : List Claim
bound = leaves (alone (Local 2 (Sum 1 1) ∷ Local 1 (Constant 5) ∷ [])) (issue 0 ∷ issue 0 ∷ commit 0 1 0 ∷ commit 0 0 0 ∷ []) 0 2 (some 2) ∷ []

-- 'Letting a read take its own processor's later write.'
abbrev pub own : List Claim
own = replays (alone (Read 2 0 ∷ Write 0 1 ∷ [])) (issue 0 ∷ issue 0 ∷ commit 0 1 0 ∷ commit 0 0 9 ∷ []) 3 32 ∷ []

-- 'Adding an acquire's order at issue': the release stands before it from its commit on, also one that was committed after its issue.
abbrev pub acquired : List Claim
acquired =
    orders locked late 0 10 11 false
    ∷ orders locked (late ++ (commit 1 3 0 ∷ [])) 0 10 11 true
    ∷ replays locked (early ++ (commit 1 4 0 ∷ [])) 9 32
    ∷ leaves locked (early ++ (commit 1 4 9 ∷ [])) 1 2 (some 1)
    ∷ []

-- Request 03, 'branches must wait for the lock': an acquire of location M never commits, so nothing after it does, and no run has a
-- third step; past the lock a branch or a goto commits.
abbrev pub jumped : List Claim
jumped =
    lists (alone (Acquire 1 ∷ Branch 1 0 ∷ [])) 3 [] false
    ∷ lists (alone (Acquire 1 ∷ Goto 2 ∷ [])) 3 [] false
    ∷ finishes (alone (Acquire 0 ∷ Branch 1 2 ∷ [])) (issue 0 ∷ issue 0 ∷ commit 0 0 0 ∷ commit 0 1 0 ∷ [])
    ∷ finishes (alone (Acquire 0 ∷ Goto 2 ∷ [])) (issue 0 ∷ issue 0 ∷ commit 0 0 0 ∷ commit 0 1 0 ∷ [])
    ∷ []

abbrev pub readings : List Claim
readings = older ++ (valueless ++ (bound ++ (own ++ (acquired ++ jumped))))
