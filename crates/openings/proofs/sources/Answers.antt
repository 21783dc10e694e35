use Rattle.openings.proofs.Opens.{ready_reads, read_shut, read_open}
use Rattle.committing.proofs.Refusing.{read_stands}
use Rattle.rules.specs.Commit.{visible}
use Rattle.rules.specs.State.{Action, kind_of}
use Prim.Native.Nat.{ℕ, ◌+◌}
use mathlib.Core.Path.{◌∙◌, sym, ap}
use Rattle.openings.proofs.sources.Goals as goal

pub returns-else-read_ready : goal.returns-else-read_ready
returns-else-read_ready c =
    let v = c.read_ready in
    let a = c.args in
    λ t s E i. read_shut t s a.k i c.requires.low E.there (sym (v.ensures t s a.m.now.rows E) ∙ c.if-read_ready.false)

pub returns-then-read_ready : goal.returns-then-read_ready
returns-then-read_ready c =
    let v = c.read_ready in
    let a = c.args in
    λ t s E i.
    let ready = sym (v.ensures t s a.m.now.rows E) ∙ c.if-read_ready.true in
    let x = read_stands t s a.e a.k (kind_of (s.actions a.k)) E.valid E.same (ap kind_of E.same) (ready_reads t s a.k ready) in
    c.visible_items.ensures t s (record { kept = E.kept; low = E.low; ends = E.ends; orders = E.orders; loc = x.0; stands = x.1 }) i
    ∙ ap (λ (l : ℕ). visible t s l (8 + a.k) i) (ap (λ (x : Action). x.loc) (sym E.same))
    ∙ sym (read_open t s a.k i c.requires.low E.there ready)
