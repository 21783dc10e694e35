use mathlib.Core.Path.{sym, ap}
use Prim.Native.Nat.{ℕ}
use lib.ListN.{set}
use lib.Seq.{set_out}
use Rattle.shelves.proofs.counts.raise.Goals as goal

pub returns-then-k-counts : goal.returns-then-k-counts
returns-then-k-counts c =
    let a = c.args in
    ap (λ (v : ℕ). set a.counts.now a.k v) c.saturating_add.ensures

pub returns-else-k-counts : goal.returns-else-k-counts
returns-else-k-counts c = let a = c.args in sym (set_out a.counts.now a.k _ c.if-k-counts.false)
