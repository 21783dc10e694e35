use Rattle.sights.proofs.Seeing.{row_is, row_none}
use Rattle.sights.proofs.row_at.Goals as goal

pub returns-then-w-lt56 : goal.returns-then-w-lt56
returns-then-w-lt56 c = let s = c.args in λ a. row_is s.rows.now a s.w c.if-w-lt56.true

pub returns-else-w-lt56 : goal.returns-else-w-lt56
returns-else-w-lt56 c = let s = c.args in λ a. row_none s.rows.now a s.w c.if-w-lt56.false
