-- The export for the boot hand-off has at most one answer: code, verdict, length and bytes. Assumes nothing.
use mathlib.Core.Path.{◌≡◌, ap}
use mathlib.Core.List.{List}
use Prim.Native.Nat.{ℕ}
use lib.ListN.{length}
use Rattle.handoffs.specs.Verdict.{Handed}
use Rattle.handoffs.proofs.Verdicts.{handoff_unique}
use Rattle.womm.specs.Handing.{HandedAs}

pub one_handoff : (sending receiving before : List ℕ) (r r' v v' n n' : ℕ) (out out' : List ℕ) → HandedAs sending receiving before r v n out → HandedAs sending receiving before r' v' n' out'
    → (r ≡ r') × (v ≡ v') × (n ≡ n') × (out ≡ out')
one_handoff sending receiving before r r' v v' n n' out out' x y =
    let same = handoff_unique sending receiving (length before) _ _ out out' x.handoff y.handoff in
    (ap (λ (a : Handed). a.code) same.0, ap (λ (a : Handed). a.verdict) same.0, ap (λ (a : Handed). a.length) same.0, same.1)
