use native.Mathlib.Omega.{arith}
use Rattle.racing.proofs.Testing.{pair_found, pair-none, opened_meets}
use Rattle.racing.proofs.first.Goals as goal

pub returns-in_err-j : goal.returns-in_err-j
returns-in_err-j c = λ k s h o e. rw (c.from_residual.ensures) (pair-none s s.count (c.in_err-j.ensures.lowest k s h o e) (omega arith))

pub returns-in_err-k : goal.returns-in_err-k
returns-in_err-k c =
    λ k s h o e. absurd (omega (arith, c.in_err-k.ensures.lowest k s h o e, opened_meets s c.in_ok-j.j (c.in_ok-j.ensures.lowest k s h o e) (omega (arith, h.count, c.in_ok-j.ensures.there))))

pub returns : goal.returns
returns c =
    λ k s h o e. pair_found s c.in_ok-j.j c.in_ok-k.k (c.in_ok-j.ensures.lowest k s h o e) (omega (arith, h.count, c.in_ok-j.ensures.there)) (c.in_ok-k.ensures.lowest k s h o e)
