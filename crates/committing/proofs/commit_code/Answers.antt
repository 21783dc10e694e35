use mathlib.Core.Path.{◌≡◌, ◌∙◌, sym, ap, refl}
use mathlib.Core.Bool.{true, false, not, false≢true}
use Prim.Native.Nat.{ℕ}
use native.Mathlib.Omega.{arith}
use lib.ListN.{get_or}
use Rattle.cases.specs.declared.Instr.{Instr}
use Rattle.cases.specs.declared.Instr.TheVariants.{Empty, Read, Write, Local, Branch, Goto, Acquire, Release}
use Rattle.rules.specs.Kinds.{kind, syncs}
use Rattle.rules.specs.State.{input_of}
use Rattle.machine.specs.Shown.{shown_entry}
use Rattle.machine.proofs.Entries.{action_at_lem}
use Rattle.committing.proofs.Refusing.{loc_low, shows_at, sync_first, commit_unissued, commit_gone, commit_rest}
use Rattle.committing.proofs.commit_code.Goals.{in-Acquire, in_default}
use Rattle.committing.proofs.commit_code.Goals as goal

pub returns-then-m-k : goal.returns-then-m-k
returns-then-m-k c = let a = c.args in λ x s q h v. commit_unissued x s a.p a.k a.src (omega (arith, h.count, c.if-m-k.true))

pub returns-then-not-queued : goal.returns-then-not-queued
returns-then-not-queued c =
    let a = c.args in
    let e = c.entry_at-e in
    let t = c.if-m-k.false in
    λ x s q h v.
    commit_gone x s a.p a.k a.src (shown_entry x e.result) (action_at_lem x a.m.now.issued a.m.now.acts s h a.k t ∙ ap (shown_entry x) (sym e.ensures)) (omega (arith, h.count, t)) (ap not (sym (c.queued.ensures x) ∙ c.if-not-queued.true))

pub rest_code-requires : goal.rest_code-requires
rest_code-requires c =
    let t = c.if-m-k.false in
    let e = c.entry_at-e in
    record {
      holders_long = c.requires.holders_long;
      proc = c.requires.proc;
      low = omega (arith, c.requires.issued);
      loc = loc_low e.result (get_or c.args.m.now.acts c.args.k 0) e.ensures;
    }

-- no other instruction has a location to look up
unsynced : (i : Instr) → ((l : ℕ) → i ≡ Acquire l → ⊥) → ((l : ℕ) → i ≡ Release l → ⊥) → syncs (kind i) ≡ false
unsynced Empty h k = refl
unsynced (Read d a) h k = refl
unsynced (Write a b) h k = refl
unsynced (Local d e) h k = refl
unsynced (Branch a l) h k = refl
unsynced (Goto l) h k = refl
unsynced (Acquire a) h k = absurd (h a refl)
unsynced (Release a) h k = absurd (k a refl)

pub returns : goal.returns
returns c =
    let a = c.args in
    let t = c.if-m-k.false in
    let e = c.entry_at-e in
    let i = e.result in
    λ x s q h v.
    let w = shows_at x a.m.now.issued a.m.now.acts s a.case.now.masks a.case.now.presets a.m.now.rows a.m.now.sets a.m.now.holders a.case.now.locs a.k i q h v c.requires.issued t e.ensures in
    let at : syncs (kind i.instr) ≡ true → c.match-e.x ≡ input_of s (shown_entry x i) 0 =
    λ d. elim c.match-e.branch [
      | in-Acquire u ↦ u.x-is ∙ u.input.ensures x s q h ∙ sync_first x s i.first i.second i.instr d
      | in_default u ↦ absurd (false≢true (sym (unsynced i.instr u.in_default.not-Acquire u.in_default.not-Release) ∙ d))
    ] in
    c.rest_code.ensures x s w at
    ∙ commit_rest x s a.p a.k a.src (shown_entry x i) w.action w.there (ap not (sym (c.queued.ensures x) ∙ c.if-not-queued.false))
