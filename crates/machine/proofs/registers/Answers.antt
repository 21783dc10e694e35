use mathlib.Core.Path.{refl, ◌∙◌, ap}
use Prim.Native.Nat.{ℕ, ◌/◌, ◌%◌, ◌<◌}
use native.Mathlib.Omega.{arith}
use lib.ListN.{get_or-replicate}
use Rattle.rules.specs.State.{Name}
use Rattle.machine.proofs.Entries.{name_at}
use Rattle.machine.proofs.Answers.{register-present, three_long, three_past, three_more, registers_are}
use Rattle.machine.proofs.registers.Goals as goal

pub loop-n-init : goal.loop-n-init
loop-n-init c = (refl, λ j h l. get_or-replicate 96 j 0 0 l, λ k s p q h m j l. absurd (omega arith))

pub loop-n-preserved : goal.loop-n-preserved
loop-n-preserved c =
    let a = c.args in
    let n = c.loop-n.n in
    let out = c.loop-n.out in
    let x = c.byte_of in
    let y = c.byte_of-in-loop-n in
    let z = c.byte_of-in-loop-n-2 in
    let v = c.register-v in
    let low : n < 32 = omega arith in (
      three_long out n x.result y.result z.result c.loop-n.invariant.0,
      λ j h l. three_past out n x.result y.result z.result j h ∙ c.loop-n.invariant.1 j (omega arith) l,
      λ k s p q h m. three_more k s out n x.result y.result z.result _ low c.loop-n.invariant.0
          (v.ensures k s q h (ap (λ (f : ℕ → ℕ → Name). f (n / 8) (n % 8)) m ∙ name_at k a.m.now.names n low) ∙ register-present k s (n / 8) (n % 8) (omega (arith, p)))
          x.ensures y.ensures z.ensures (c.loop-n.invariant.2 k s p q h m),
    )

pub returns : goal.returns
returns c =
    λ k s p q h m. registers_are k s c.loop-n.out c.loop-n.n c.loop-n.invariant.0 (omega (arith, p)) (c.loop-n.invariant.2 k s p q h m) c.loop-n.invariant.1
