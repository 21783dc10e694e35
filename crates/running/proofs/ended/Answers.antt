use mathlib.Core.Path.{◌∙◌, refl}
use Prim.Native.Nat.{ℕ}
use native.Mathlib.Omega.{arith}
use lib.Dec.{eqb}
use lib.ListN.{get_or}
use borrow.Author.Rules.{rules}
use borrow.Author.Tests.{tests}
use Rattle.std.proofs.lemmas.Iterator.{YieldsList-from_range}
use Rattle.std.proofs.lemmas.Iterator.Search.{all_from_yields_List}
use Rattle.cases.specs.Case.{count_of}
use Rattle.boards.specs.Machine.{ended}
use Rattle.running.proofs.Records.{range_all}
use Rattle.running.proofs.ended.Goals as goal

pub returns : goal.returns
unfolding ended
returns c =
    let C = c.args.case.now in
    let test : ℕ → _ = λ p. eqb (get_or c.args.s.now.places p 0) (count_of C p) in
    λ k. all_from_yields_List test _ _ _ c.all.ensures.ran (YieldsList-from_range 0 C.procs C.procs refl (omega arith)) (λ x b q k. search (rules, tests)) ∙ range_all test C.procs 0
