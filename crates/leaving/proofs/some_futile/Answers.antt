use mathlib.Core.Path.{◌∙◌, sym, ap, subst}
use mathlib.Core.Bool.{false≢true}
use Prim.Native.Nat.{ℕ, ◌<◌}
use native.Mathlib.Omega.{arith}
use Rattle.words.proofs.Bools.{below_make}
use Rattle.sure.specs.Futile.{futile}
use Rattle.machine.specs.Shown.{shown_entry}
use Rattle.machine.proofs.Entries.{action_at_lem, action_out}
use Rattle.leaving.proofs.some_futile.Goals as goal

pub returns-then-futile_at : goal.returns-then-futile_at
returns-then-futile_at c =
    let k = c.loop-k.k in
    let a = c.args in
    λ x s q h w o t. below_make s.count (futile s) k (subst (λ (n : ℕ). k < n) (sym h.count) c.loop-k-test.true)
    (c.futile_at.ensures x s (record {
      names = record { kept = w; ends = λ j d. action_out x a.m.now.issued a.m.now.acts s h j (omega (arith, h.count, d)); presets = q.masks };
      locks = o;
      there = subst (λ (n : ℕ). k < n) (sym h.count) c.loop-k-test.true;
      action = action_at_lem x a.m.now.issued a.m.now.acts s h k c.loop-k-test.true ∙ ap (shown_entry x) (sym c.entry_at-e.ensures);
      input = c.input-x.ensures x s q h;
    }) c.if-futile_at.true)

pub returns : goal.returns
returns c = λ x s q h w o t. absurd (false≢true t)
