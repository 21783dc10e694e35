use mathlib.Core.Path.{refl, sym, ap, ◌∙◌}
use Prim.Native.Nat.{◌/◌, ◌<◌}
use native.Mathlib.Omega.{arith}
use lib.Dec.{ltb}
use Rattle.rules.specs.State.{Action}
use Rattle.rules.specs.Bytes.{step_bytes}
use Rattle.machine.specs.declared.Entry.{Entry}
use Rattle.machine.specs.Shown.{shown}
use Rattle.machine.proofs.Entries.{action_at_lem as action-is}
use Rattle.choices.proofs.Answers.{issue_at, commit_at, there_at}
use Rattle.asking.proofs.Rows.{source_small}
use borrow.Author.Rules.{rules}
use Rattle.asking.proofs.bytes_at.Goals as goal

pub returns-then-j-ge49 : goal.returns-then-j-ge49
returns-then-j-ge49 c = let a = c.args in ap step_bytes (sym (issue_at a.case.now (shown a.case.now a.m.now) a.j c.if-j-ge49.true))

pub entry_at-e-requires : goal.entry_at-e-requires
entry_at-e-requires c =
    let a = c.args in
    let u = c.action_at-k in
    let l = there_at a.case.now (shown a.case.now a.m.now) a.j u.result c.if-j-ge49.false u.ensures c.requires.fits in
    omega (arith, c.requires.valid.issued)

pub overflow_cast-result-2 : goal.overflow_cast-result-2
overflow_cast-result-2 c =
    let a = c.args in
    let u = c.action_at-k in
    let l = there_at a.case.now (shown a.case.now a.m.now) a.j u.result c.if-j-ge49.false u.ensures c.requires.fits in
    let k : u.result < 48 = omega (arith, c.requires.valid.issued) in
    search rules

pub overflow_cast-result-3 : goal.overflow_cast-result-3
overflow_cast-result-3 c =
    let a = c.args in
    let l = source_small (ltb (a.j / 64) 48) c.source_at.result a.j c.source_at.ensures in
    search rules

pub returns : goal.returns
returns c =
    let a = c.args in
    let s = shown a.case.now a.m.now in
    let u = c.action_at-k in
    let h = c.if-j-ge49.false in
    let l = there_at a.case.now s a.j u.result h u.ensures c.requires.fits in
    ap step_bytes (sym (commit_at a.case.now s a.j _ u.result c.source_at.result h u.ensures c.source_at.ensures (ap (λ (x : Entry). x.proc) c.entry_at-e.ensures ∙ sym (ap (λ (x : Action). x.proc) (action-is a.case.now a.m.now.issued a.m.now.acts s (record { count = refl; actions = refl }) u.result l)))))
