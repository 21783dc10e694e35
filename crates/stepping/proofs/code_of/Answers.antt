use mathlib.Core.Path.{◌∙◌, refl}
use native.Mathlib.Omega.{arith}
use Rattle.stepping.proofs.Bytes.{step_kind, step_action, step_source, code_neither, code_absent, issue_code, commit_code}
use Rattle.stepping.proofs.code_of.Goals as goal

pub returns-then-case-proc : goal.returns-then-case-proc
returns-then-case-proc c = let a = c.args in λ x L v. code_absent x _ a.kind a.proc a.action a.source (omega (arith, L.present, c.if-case-proc.true))

pub returns-in-0 : goal.returns-in-0
returns-in-0 c =
    let a = c.args in
    λ x L v.
    c.issue_code.ensures x _ L (record { count = refl; actions = refl }) refl refl
    ∙ issue_code x _ a.kind a.proc a.action a.source a.proc c.in-0.is c.if-action-eq0.true c.if-source-eq0.true refl (omega (arith, L.present, c.if-case-proc.false))

pub returns-in-1 : goal.returns-in-1
returns-in-1 c =
    let a = c.args in
    λ x L v.
    c.commit_code.ensures x _ L.starts (record { count = refl; actions = refl }) (record { entries = v.entries; kept = v.kept; orders = refl; locks = refl; present = L.located })
    ∙ commit_code x _ a.kind a.proc a.action a.source a.proc a.action a.source (omega (arith, c.in-1.is)) (λ q. omega (arith, c.in-1.is, q)) refl refl refl (omega (arith, L.present, c.if-case-proc.false))

pub returns-in_default : goal.returns-in_default
returns-in_default c = let a = c.args in λ x L v. code_neither x _ _ (step_source a.kind a.proc a.action a.source c.in-0.is c.if-source-eq0.false)

pub returns-in_default-2 : goal.returns-in_default-2
returns-in_default-2 c = let a = c.args in λ x L v. code_neither x _ _ (step_action a.kind a.proc a.action a.source c.in-0.is c.if-action-eq0.false)

pub returns-in_default-3 : goal.returns-in_default-3
returns-in_default-3 c = let a = c.args in λ x L v. code_neither x _ _ (step_kind a.kind a.proc a.action a.source (omega arith))
