use mathlib.Core.Path.{◌≡◌, sym, ◌∙◌, subst}
use mathlib.Core.Logic.{⊎_elim}
use mathlib.Core.Bool.{true}
use Prim.Native.Nat.{ℕ}
use Rattle.words.specs.Sets.{has}
use Rattle.words.proofs.Bools.{or_cases}
use Rattle.words.proofs.Sets.{has_or}
use Rattle.boards.specs.Apart.{apart}
use Rattle.running.specs.Shown.{shown}
use Rattle.boardlisting.specs.Moves.{move_at}
use Rattle.boardlisting.proofs.kept.Goals as goal

pub loop-j-preserved : goal.loop-j-preserved
loop-j-preserved c =
    let a = c.args in
    let b = shown a.k a.case.now a.s.now in
    λ x e. ⊎_elim (c.loop-j.invariant x)
    (λ h.
    let w = c.spared-left.ensures (move_at a.i) c.touched-m.ensures x h in
    (subst (λ (n : ℕ). has a.done n ≡ true) (sym w.here) w.had, subst (λ (n : ℕ). apart a.k a.case.now b (move_at a.i) (move_at n) ≡ true) (sym w.here) w.far))
    (or_cases _ _ (sym (has_or c.loop-j.left c.spared-left.result x) ∙ e))
