use mathlib.Core.Path.{refl, sym, ◌∙◌}
use mathlib.Core.Logic.{inl, inr}
use native.Mathlib.Omega.{arith}
use Rattle.searching.proofs.positions.Goals as goal

pub returns-then-is_spent : goal.returns-then-is_spent
returns-then-is_spent c k s ends shows = record { sure = λ _. (refl, inl (refl, sym c.is_spent.ensures ∙ c.if-is_spent.true)); lone = λ _. refl; rest = λ h. absurd (omega (arith, c.if-j-lt3200.true)) }

pub returns-else-is_spent : goal.returns-else-is_spent
returns-else-is_spent c k s ends shows = record { sure = λ _. (refl, inr refl); lone = λ _. refl; rest = λ h. absurd (omega (arith, c.if-j-lt3200.true)) }

pub returns-then-k-lt48 : goal.returns-then-k-lt48
returns-then-k-lt48 c k s ends shows =
    let low = c.if-k-lt48.true in
    let read = c.quiet_read-quiet.ensures.1 k s ends shows in
    let found = read.found low in
    record {
      sure = λ h. absurd (omega (arith, c.if-j-lt3200.false));
      lone = λ h. absurd (omega (arith, c.if-j-lt3200.false));
      rest = λ _. inl (record { read = c.quiet_read-quiet.result.read; item = found.1.0; small = low; calm = found.0; seen = found.1.1; from = refl; to = refl; sources = read.seen low });
    }

pub returns : goal.returns
returns c k s ends shows =
    record {
      sure = λ h. absurd (omega (arith, c.if-j-lt3200.false));
      lone = λ h. absurd (omega (arith, c.if-j-lt3200.false));
      rest = λ _. inr (refl, refl, refl);
    }
