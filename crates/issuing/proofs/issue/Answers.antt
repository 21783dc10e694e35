use mathlib.Core.Path.{refl}
use native.Mathlib.Omega.{arith}
use Rattle.issuing.proofs.Entering.{issue_low, issue_room, issue_place, issue_packs, issue_fine, grown_is}
use borrow.Author.Rules.{rules}
use Rattle.issuing.proofs.issue.Goals as goal

pub bounds-m-p : goal.bounds-m-p
bounds-m-p c = issue_low c.requires.accepted

pub overflow_mul-p : goal.overflow_mul-p
overflow_mul-p c = let low = issue_low c.requires.accepted in search rules

pub overflow_add-p : goal.overflow_add-p
overflow_add-p c = let low = issue_low c.requires.accepted in search rules

pub instr_at-i-requires : goal.instr_at-i-requires
instr_at-i-requires c = let ok = c.requires.accepted in omega (arith, issue_low ok, issue_place ok)

pub rename-requires : goal.rename-requires
rename-requires c =
    let ok = c.requires.accepted in
    record {
      names_long = ok.valid.names_long;
      names-low = ok.valid.names;
      proc = issue_low ok;
      action = issue_room ok;
      fine = issue_fine ok c.requires.coded refl c.instr_at-i.ensures;
    }

pub new_entry-e-requires : goal.new_entry-e-requires
new_entry-e-requires c =
    let ok = c.requires.accepted in
    record {
      issued = ok.valid.issued;
      names_long = search rules;
      proc = issue_low ok;
      fine = issue_fine ok c.requires.coded refl c.instr_at-i.ensures;
    }

pub join_order-requires : goal.join_order-requires
join_order-requires c =
    let ok = c.requires.accepted in
    record { room = issue_room ok; rows_long = ok.valid.rows_long; loc = (issue_packs ok c.new_entry-e.ensures).loc }

pub join_sets-requires : goal.join_sets-requires
join_sets-requires c =
    let ok = c.requires.accepted in
    let packs = issue_packs ok c.new_entry-e.ensures in
    record { sets_long = ok.valid.kept.long; room = issue_room ok; proc = packs.proc; loc = packs.loc }

pub packed-requires : goal.packed-requires
packed-requires c = issue_packs c.requires.accepted c.new_entry-e.ensures

pub offset_bounds-m-k : goal.offset_bounds-m-k
offset_bounds-m-k c = omega (arith, issue_room c.requires.accepted)

pub bounds-m-k : goal.bounds-m-k
bounds-m-k c = let ok = c.requires.accepted in omega (arith, issue_room ok, ok.valid.acts_long)

pub place_after-requires : goal.place_after-requires
place_after-requires c = issue_place c.requires.accepted

pub bounds-m-p-2 : goal.bounds-m-p-2
bounds-m-p-2 c = let ok = c.requires.accepted in omega (arith, issue_low ok, ok.valid.places_long)

pub returns-clause-whoever_holds : goal.returns-clause-whoever_holds
returns-clause-whoever_holds c =
    λ k holders coded starts ok.
    grown_is ok coded refl c.instr_at-i.ensures c.packed.result starts c.new_entry-e.ensures c.place_after.ensures c.packed.ensures c.rename.ensures c.join_order.ensures c.join_sets.ensures

-- the same of the machine's own holders
pub returns-clause-showing : goal.returns-clause-showing
returns-clause-showing c = λ k coded starts ok. returns-clause-whoever_holds c k c.args.m.now.holders coded starts ok
