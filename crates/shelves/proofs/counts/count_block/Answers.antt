use mathlib.Core.Path.{◌≡◌, ap, ◌∙◌}
use Prim.Native.Nat.{ℕ, ◌+◌, ◌*◌, ◌-◌}
use native.Mathlib.Omega.{arith}
use lib.ListN.{take, drop}
use Rattle.shelves.specs.Tallies.{counted}
use Rattle.shelves.proofs.counts.count_block.Goals as goal

pub returns : goal.returns
returns c =
    let a = c.args in
    let size : 512 * a.i + 512 - 512 * a.i ≡ 512 = omega arith in
    c.counted.ensures ∙ ap (λ (n : ℕ). counted a.t.now (take n (drop (512 * a.i) a.file.now))) size
