use Rattle.openings.proofs.Opens.{absent_issue, present_issue}
use mathlib.Core.Option.{Option}
use borrow.Author.Tests.{le-ltb}
use native.Mathlib.Omega.{arith}
use Prim.Native.Nat.{ℕ}
use mathlib.Core.Path.{ap, ◌∙◌}
use Rattle.openings.proofs.may_issue.Goals as goal

pub returns-else-p-case : goal.returns-else-p-case
returns-else-p-case c = λ t s L h p n. le-ltb c.args.p c.args.case.now.procs c.if-p-case.false ∙ absent_issue t s c.args.p (omega (arith, c.if-p-case.false, L.present))

pub issue_code-requires : goal.issue_code-requires
issue_code-requires c =
    record { issued = c.requires.0.issued; counted = c.requires.0.counted c.args.p; names_long = c.requires.0.names_long; proc = c.requires.1 }

pub returns-then-p-case : goal.returns-then-p-case
returns-then-p-case c =
    let a = c.args in
    λ t s L h p n. present_issue t s a.p c.issue_code.result (omega (arith, c.if-p-case.true, L.present)) (c.issue_code.ensures t s L h (ap (λ (f : ℕ → Option ℕ). f a.p) p) n)
