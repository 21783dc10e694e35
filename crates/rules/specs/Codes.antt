-- Document 01, 'Codes, in the order they are tried', Step: each code, and where two apply the first. Assumes nothing.
use Rattle.std.specs.Prelude.{ℕ, List, [], ◌∷◌, ◌++◌, replicate}
use Rattle.cases.specs.declared.Instr.{Instr}
use Rattle.cases.specs.declared.Instr.TheVariants.{Read, Write, Local, Branch, Goto, Acquire, Release}
use Rattle.cases.specs.declared.Expr.TheVariants.{Constant}
use Rattle.cases.specs.declared.Case.{Case}
use Rattle.rules.specs.Step.{Step, issue, commit, step_of}
use Rattle.rules.specs.Building.{plain, alone}
use Rattle.rules.specs.Claims.{Claim, replays}

-- Processor 0 can issue for ever, processor 1 has these instructions.
abbrev pub beside : List Instr → Case
beside is = plain 1 ((Goto 0 ∷ []) ∷ is ∷ [])

-- Register 3 is set, after its use.
abbrev pub late : Instr
late = Local 3 (Constant 0)

-- n issues of processor 0, then one of processor 1.
abbrev pub following : ℕ → List Step
following n = replicate n (issue 0) ++ (issue 1 ∷ [])

-- Two issues of one processor, then the commit of its second action from item e.
abbrev pub second : ℕ → List Step
second e = issue 0 ∷ issue 0 ∷ commit 0 1 e ∷ []

-- '20 kind over 1, processor not below P, or an issue with byte 2 or 3 not zero.'
abbrev pub formed : List Claim
formed =
    replays (alone []) (step_of 2 0 0 0 ∷ []) 0 20
    ∷ replays (alone []) (issue 1 ∷ []) 0 20
    ∷ replays (alone []) (commit 1 0 0 ∷ []) 0 20
    ∷ replays (alone []) (step_of 0 0 1 0 ∷ []) 0 20
    ∷ replays (alone []) (step_of 0 0 0 1 ∷ []) 0 20
    ∷ []

-- '21 place counter undefined; 22 at the end; 23 48 actions issued already; 24 address register of a read or write undefined; 25 its
-- value not below M.' Register 3 is set too late or by its own reader, so it is undefined; register 1 is M.
abbrev pub issues : List Claim
issues =
    replays (beside (Branch 0 0 ∷ [])) (issue 1 ∷ following 0) 1 21
    ∷ replays (beside (Branch 0 0 ∷ [])) (issue 1 ∷ following 47) 48 21
    ∷ replays (beside []) (following 48) 48 22
    ∷ replays (beside (Read 3 3 ∷ [])) (following 48) 48 23
    ∷ replays (beside (Read 2 1 ∷ [])) (following 48) 48 23
    ∷ replays (beside (Write 3 0 ∷ late ∷ [])) (following 0) 0 24
    ∷ replays (beside (Write 1 0 ∷ [])) (following 0) 0 25
    ∷ []

-- '26 no such action in this processor's queue; 27 byte 3 not zero and not a read; 28 held back by the table', with request 03's rows.
abbrev pub queued : List Claim
queued =
    replays (alone []) (commit 0 0 1 ∷ []) 0 26
    ∷ replays (beside []) (issue 0 ∷ commit 1 0 0 ∷ []) 1 26
    ∷ replays (alone (Goto 0 ∷ [])) (issue 0 ∷ commit 0 0 0 ∷ commit 0 0 0 ∷ []) 2 26
    ∷ replays (alone (Acquire 0 ∷ Acquire 0 ∷ [])) (second 1) 2 27
    ∷ replays (alone (Acquire 0 ∷ Acquire 3 ∷ late ∷ [])) (second 0) 2 28
    ∷ replays (alone (Acquire 0 ∷ Acquire 1 ∷ [])) (second 0) 2 28
    ∷ replays (alone (Goto 1 ∷ Release 0 ∷ [])) (second 0) 2 28
    ∷ replays (alone (Acquire 0 ∷ Read 2 0 ∷ [])) (second 9) 2 28
    ∷ replays (alone (Acquire 0 ∷ Branch 1 0 ∷ [])) (second 0) 2 28
    ∷ replays (alone (Acquire 0 ∷ Goto 0 ∷ [])) (second 0) 2 28
    ∷ []

-- '29 a register it reads is undefined; 30 acquire or release of a location not below M; 31 acquire while another holds it, or release
-- while this processor does not; 32 the named item is not visible': not issued, not a write, of another location.
abbrev pub commits : List Claim
commits =
    replays (alone (Release 3 ∷ late ∷ [])) (issue 0 ∷ commit 0 0 0 ∷ []) 1 29
    ∷ replays (alone (Release 1 ∷ [])) (issue 0 ∷ commit 0 0 0 ∷ []) 1 30
    ∷ replays (alone (Release 0 ∷ [])) (issue 0 ∷ commit 0 0 0 ∷ []) 1 31
    ∷ replays (plain 1 ((Acquire 0 ∷ []) ∷ (Acquire 0 ∷ []) ∷ [])) (issue 0 ∷ commit 0 0 0 ∷ issue 1 ∷ commit 1 1 0 ∷ []) 3 31
    ∷ replays (alone (Read 2 0 ∷ [])) (issue 0 ∷ commit 0 0 9 ∷ []) 1 32
    ∷ replays (alone (Read 2 0 ∷ [])) (issue 0 ∷ commit 0 0 8 ∷ []) 1 32
    ∷ replays (plain 2 ((Read 2 0 ∷ []) ∷ [])) (issue 0 ∷ commit 0 0 1 ∷ []) 1 32
    ∷ []

abbrev pub codes : List Claim
codes = formed ++ (issues ++ (queued ++ commits))
