use mathlib.Core.Path.{◌≡◌, sym, ◌∙◌, subst}
use Prim.Native.Nat.{ℕ, ◌+◌}
use lib.ListN.{set, length-set}
use native.Mathlib.Omega.{arith}
use Rattle.orders.specs.Rows.{JoinedTo}
use Rattle.orders.proofs.Joins.{joined-none, joined_more}
use Rattle.orders.proofs.spread.Goals as goal

pub loop-b-init : goal.loop-b-init
loop-b-init c = (c.requires, joined-none c.args.rows.now c.args.i c.args.mask)

pub loop-b-preserved : goal.loop-b-preserved
loop-b-preserved c =
    let a = c.args in
    let rows = c.loop-b.rows in (
      length-set rows _ _ ∙ c.loop-b.invariant.0,
      subst (λ (n : ℕ). JoinedTo a.rows.now (set rows c.loop-b.b n) a.i a.mask (c.loop-b.b + 1)) (sym c.joined_row.ensures)
          (joined_more a.rows.now rows a.i a.mask c.loop-b.b c.loop-b.invariant.0 (omega arith) c.loop-b.invariant.1),
    )

pub returns : goal.returns
returns c =
    let q : c.loop-b.b ≡ 56 = omega arith in
    let a = c.args in
    (c.loop-b.invariant.0, subst (λ (n : ℕ). JoinedTo a.rows.now c.loop-b.rows a.i a.mask n) q c.loop-b.invariant.1)
