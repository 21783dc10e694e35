-- Request 06, 'name the instruction': each answer of a replay with its place. Assumes nothing.
use Rattle.std.specs.Prelude.{List, [], ◌∷◌, ◌++◌, replicate}
use Rattle.cases.specs.declared.Instr.{Instr}
use Rattle.cases.specs.declared.Instr.TheVariants.{Read, Local, Branch, Goto, Acquire, Release}
use Rattle.cases.specs.declared.Expr.TheVariants.{Sum}
use Rattle.cases.specs.declared.Case.{Case}
use Rattle.rules.specs.Step.{Step, issue, commit, step_of}
use Rattle.rules.specs.Building.{alone}
use Rattle.rules.specs.Claims.{Claim, names}

-- A goto over the instruction i, and a branch back to it.
abbrev pub back : Instr → Case
back i = alone (Goto 2 ∷ i ∷ Branch 1 1 ∷ [])

-- Both are issued and the branch is committed: then i, at place 1, is issued as action 2.
abbrev pub round : List Step → List Step
round ts = issue 0 ∷ issue 0 ∷ commit 0 1 0 ∷ ts

-- '255 for all other answers': all steps taken, 20, 21, 22 and 26. Action 1 is committed, at place 2.
abbrev pub unnamed : List Claim
unnamed =
    names (back (Goto 3)) (round (issue 0 ∷ [])) 0 255
    ∷ names (back (Goto 3)) (round (step_of 2 0 0 0 ∷ [])) 20 255
    ∷ names (back (Goto 3)) (issue 0 ∷ issue 0 ∷ issue 0 ∷ []) 21 255
    ∷ names (back (Goto 3)) (round (issue 0 ∷ issue 0 ∷ [])) 22 255
    ∷ names (back (Goto 3)) (round (commit 0 1 0 ∷ [])) 26 255
    ∷ []

-- 'For 23 to 25 it is the place counter.' The goto leads to itself until 48 actions are issued.
abbrev pub counted : List Claim
counted =
    names (back (Goto 1)) (round (replicate 47 (issue 0))) 23 1
    ∷ names (back (Read 2 2)) (round (issue 0 ∷ [])) 24 1
    ∷ names (back (Read 2 1)) (round (issue 0 ∷ [])) 25 1
    ∷ []

-- '27 to 32': action 2 is at place 1, and the place counter past it.
abbrev pub remembered : List Claim
remembered =
    names (back (Goto 3)) (round (issue 0 ∷ commit 0 2 1 ∷ [])) 27 1
    ∷ names (back (Release 0)) (round (issue 0 ∷ commit 0 2 0 ∷ [])) 28 1
    ∷ names (back (Local 2 (Sum 2 2))) (round (issue 0 ∷ commit 0 2 0 ∷ [])) 29 1
    ∷ names (back (Acquire 1)) (round (issue 0 ∷ commit 0 2 0 ∷ [])) 30 1
    ∷ names (back (Release 0)) (round (issue 0 ∷ commit 0 0 0 ∷ commit 0 2 0 ∷ [])) 31 1
    ∷ names (back (Read 2 0)) (round (issue 0 ∷ commit 0 2 9 ∷ [])) 32 1
    ∷ []

abbrev pub places : List Claim
places = unnamed ++ (counted ++ remembered)
