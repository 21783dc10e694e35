use mathlib.Core.Path.{sym, ◌∙◌, ap}
use Prim.Native.Nat.{ℕ}
use borrow.Author.Tests.{eqb-true}
use Rattle.words.specs.Sets.{has}
use Rattle.words.proofs.Sets.{has_one}
use Rattle.boardlisting.proofs.Sparing.{apart_is}
use Rattle.boardlisting.proofs.spared.Goals as goal

pub returns-then-apart : goal.returns-then-apart
returns-then-apart c =
    let a = c.args in
    λ move T j e. record {
      here = eqb-true j a.i (sym (has_one a.i j) ∙ ap (λ (n : ℕ). has n j) (sym c.one.ensures) ∙ e);
      had = sym c.has.ensures ∙ c.if-has.true;
      far = sym (apart_is T c.touched.ensures) ∙ sym c.apart.ensures ∙ c.if-apart.true;
    }
