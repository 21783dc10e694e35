use Rattle.openings.proofs.Opens.{arrays_entries, entry_in, read_past, lone-set}
use Rattle.spending.specs.Words.{opens}
use Rattle.committing.proofs.Refusing.{loc_low}
use Rattle.orders.specs.Rows.{SetOf}
use lib.ListN.{get_or}
use native.Mathlib.Omega.{arith}
use Prim.Native.Nat.{ℕ}
use mathlib.Core.Path.{◌≡◌, ◌∙◌, sym, ap, subst}
use Rattle.openings.proofs.open_word.Goals as goal

pub sources-requires : goal.sources-requires
sources-requires c =
    record { few = c.requires.few; low = (omega (arith, c.if-w-ge48.false)); loc = loc_low c.entry_at.result (get_or c.args.m.now.acts c.args.w 0) c.entry_at.ensures }

pub returns-then-w-m : goal.returns-then-w-m
returns-then-w-m c =
    let i = c.entry_at in
    let a = c.args in
    λ t s E e l.
    let D = arrays_entries t s a.case.now.masks a.case.now.presets a.case.now.procs a.case.now.locs a.m.now.issued a.m.now.acts a.m.now.rows a.m.now.sets a.m.now.holders E in
    c.sources.ensures t s (entry_in t s a.case.now.masks a.m.now.rows a.m.now.sets a.case.now.procs a.m.now.issued a.m.now.acts D c.requires.issued a.w c.if-w-m.true i.result i.ensures) e

pub returns-else-w-m : goal.returns-else-w-m
returns-else-w-m c = let a = c.args in λ t s E e l. read_past t s a.w e (omega (arith, c.if-w-ge48.false)) a.m.now.issued a.m.now.acts E.shows c.if-w-m.false

pub returns-then-w-ge48 : goal.returns-then-w-ge48
returns-then-w-ge48 c =
    let q : 48 ≡ c.args.w = omega (arith, c.if-w-ge48.true, c.requires.low) in
    λ t s E e l.
    lone-set t s c.commits.result (subst (λ (n : ℕ). SetOf n (opens t s 48) c.commits.result) (sym E.shows.count) (c.commits.ensures t s E)) e
    ∙ ap (λ (w : ℕ). opens t s w e) q
