use mathlib.Core.Path.{◌≡◌, ◌∙◌, sym, ap, subst}
use Prim.Native.Nat.{ℕ}
use native.Mathlib.Omega.{arith}
use Rattle.rules.specs.State.{waiting}
use Rattle.rules.specs.Result.{how_many}
use Rattle.machine.specs.declared.Entry.{Entry}
use Rattle.machine.specs.Shown.{shown_entry}
use Rattle.machine.proofs.Entries.{action_at_lem}
use Rattle.replaying.proofs.Results.{many_none, many_next}
use borrow.Author.Rules.{rules}
use Rattle.replaying.proofs.queue_length.Goals as goal

pub loop-k-init : goal.loop-k-init
loop-k-init c = let a = c.args in (search rules, search rules, λ k s h. many_none (λ j. waiting a.p (s.actions j)))

pub loop-k-preserved : goal.loop-k-preserved
loop-k-preserved c =
    let a = c.args in (
      search rules,
      search rules,
      λ k s h. many_next c.loop-k.k (λ j. waiting a.p (s.actions j)) c.from-n.result c.loop-k.n c.queued.result
          (c.queued.ensures k ∙ ap (λ (e : Entry). waiting a.p (shown_entry k e)) c.entry_at.ensures ∙ ap (waiting a.p) (sym (action_at_lem k a.m.now.issued a.m.now.acts s h c.loop-k.k (omega arith)))) c.from-n.ensures (c.loop-k.invariant.2 k s h),
    )

pub returns : goal.returns
returns c =
    let a = c.args in
    let q : c.loop-k.k ≡ a.m.now.issued = omega arith in
    λ k s h. subst (λ (x : ℕ). c.loop-k.n ≡ how_many x (λ j. waiting a.p (s.actions j))) (q ∙ sym h.count) (c.loop-k.invariant.2 k s h)
