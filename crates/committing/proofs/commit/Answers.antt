use mathlib.Core.Path.{◌∙◌, sym, ap, subst, refl}
use Prim.Native.Nat.{◌<◌}
use native.Mathlib.Omega.{arith}
use Rattle.words.specs.Small.{or_zero}
use Rattle.machine.specs.declared.Entry.{Entry}
use Rattle.machine.specs.Shown.{shown, Acts}
use Rattle.machine.specs.Lent.{machine_of}
use Rattle.committing.proofs.Settling.{commit_low, commit_there, commit_entry, commit_packable, settled_is}
use Rattle.committing.proofs.commit.Goals as goal

pub entry_at-e-requires : goal.entry_at-e-requires
entry_at-e-requires c =
    let a = c.args in
    let m = machine_of a.m.now.issued a.m.now.places c.requires.names a.m.now.holders a.m.now.acts a.m.now.rows a.m.now.sets in
    let q = commit_there c.requires.case m a.p a.k a.src c.requires.accepted in
    let there : a.k < 48 = omega (arith, c.requires.accepted.valid.issued) in
    there

pub overflow_add-k : goal.overflow_add-k
overflow_add-k c =
    let a = c.args in
    let m = machine_of a.m.now.issued a.m.now.places c.requires.names a.m.now.holders a.m.now.acts a.m.now.rows a.m.now.sets in
    let q = commit_there c.requires.case m a.p a.k a.src c.requires.accepted in
    let there : a.k < 48 = omega (arith, c.requires.accepted.valid.issued) in
    omega arith

pub order_acquire-requires : goal.order_acquire-requires
order_acquire-requires c =
    let a = c.args in
    let m = machine_of a.m.now.issued a.m.now.places c.requires.names a.m.now.holders a.m.now.acts a.m.now.rows a.m.now.sets in
    let q = commit_there c.requires.case m a.p a.k a.src c.requires.accepted in
    let there : a.k < 48 = omega (arith, c.requires.accepted.valid.issued) in
    record { issued = c.requires.accepted.valid.issued; item = omega arith; rows_long = c.requires.accepted.valid.rows_long }

pub settle_sets-requires : goal.settle_sets-requires
settle_sets-requires c =
    let a = c.args in
    let m = machine_of a.m.now.issued a.m.now.places c.requires.names a.m.now.holders a.m.now.acts a.m.now.rows a.m.now.sets in
    let q = commit_there c.requires.case m a.p a.k a.src c.requires.accepted in
    let there : a.k < 48 = omega (arith, c.requires.accepted.valid.issued) in
    let low = commit_low c.requires.case m a.p a.k a.src c.requires.accepted in
    record { sets_long = c.requires.accepted.valid.kept.long; proc = low; action = there }

pub lock-requires : goal.lock-requires
lock-requires c =
    let a = c.args in
    let m = machine_of a.m.now.issued a.m.now.places c.requires.names a.m.now.holders a.m.now.acts a.m.now.rows a.m.now.sets in
    let low = commit_low c.requires.case m a.p a.k a.src c.requires.accepted in
    record { proc = low; holders_long = c.requires.accepted.valid.holders_long }

pub bounds-m-p : goal.bounds-m-p
bounds-m-p c =
    let a = c.args in
    let m = machine_of a.m.now.issued a.m.now.places c.requires.names a.m.now.holders a.m.now.acts a.m.now.rows a.m.now.sets in
    let low = commit_low c.requires.case m a.p a.k a.src c.requires.accepted in
    low

pub place_by-requires : goal.place_by-requires
place_by-requires c =
    let a = c.args in
    let m = machine_of a.m.now.issued a.m.now.places c.requires.names a.m.now.holders a.m.now.acts a.m.now.rows a.m.now.sets in
    subst (λ (e : Entry). e.place < 12) (sym c.entry_at-e.ensures) (commit_entry c.requires.case m a.p a.k a.src c.requires.accepted).place

pub bounds-m-p-2 : goal.bounds-m-p-2
bounds-m-p-2 c =
    let a = c.args in
    let m = machine_of a.m.now.issued a.m.now.places c.requires.names a.m.now.holders a.m.now.acts a.m.now.rows a.m.now.sets in
    let low = commit_low c.requires.case m a.p a.k a.src c.requires.accepted in
    low

pub packed-requires : goal.packed-requires
packed-requires c =
    let a = c.args in
    let m = machine_of a.m.now.issued a.m.now.places c.requires.names a.m.now.holders a.m.now.acts a.m.now.rows a.m.now.sets in
    commit_packable c.requires.case m a.p a.k a.src c.requires.accepted c.entry_at-e.result c.result_by-result.result c.entry_at-e.ensures

pub offset_bounds-m-k : goal.offset_bounds-m-k
offset_bounds-m-k c =
    let a = c.args in
    let m = machine_of a.m.now.issued a.m.now.places c.requires.names a.m.now.holders a.m.now.acts a.m.now.rows a.m.now.sets in
    let q = commit_there c.requires.case m a.p a.k a.src c.requires.accepted in
    let there : a.k < 48 = omega (arith, c.requires.accepted.valid.issued) in
    omega arith

pub bounds-m-k : goal.bounds-m-k
bounds-m-k c =
    let a = c.args in
    let m = machine_of a.m.now.issued a.m.now.places c.requires.names a.m.now.holders a.m.now.acts a.m.now.rows a.m.now.sets in
    let q = commit_there c.requires.case m a.p a.k a.src c.requires.accepted in
    let there : a.k < 48 = omega (arith, c.requires.accepted.valid.issued) in
    there

pub returns-clause-whatever_named : goal.returns-clause-whatever_named
returns-clause-whatever_named c =
    let a = c.args in
    λ d names starts memory ok.
    let n = machine_of a.m.now.issued a.m.now.places names a.m.now.holders a.m.now.acts a.m.now.rows a.m.now.sets in
    let s = shown d n in
    let u : Acts d a.m.now.issued a.m.now.acts s = record { count = refl; actions = refl } in
    settled_is d n a.p a.k a.src ok c.entry_at-e.result c.entry_at-e.ensures c.kind_of-kind.result c.or_zero-v.result c.input-x.result c.input-y.result c.place_by.result c.result_by-result.result c.packed.result c.lock.new.holders c.order_acquire.new.rows c.settle_sets.new.sets
    c.kind_of-kind.ensures.0 (c.or_zero-v.ensures ∙ ap or_zero (c.item_value.ensures d s memory u)) (c.input-x.ensures d s starts u) (c.input-y.ensures d s starts u) c.order_acquire.ensures c.settle_sets.ensures c.place_by.ensures c.lock.ensures c.result_by-result.ensures c.packed.ensures

-- the same of the machine's own names
pub returns-clause-showing : goal.returns-clause-showing
returns-clause-showing c = λ d starts memory ok. returns-clause-whatever_named c d c.args.m.now.names starts memory ok
