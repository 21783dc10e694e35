use native.Mathlib.Omega.{arith}
use Rattle.boardlisting.proofs.Refusals.{read_fit, refused_block, refused_bound, listed_case}
use Rattle.boardlisting.proofs.outcomes.Goals as goal

pub returns-then-read-ne0 : goal.returns-then-read-ne0
returns-then-read-ne0 c =
    refused_block c.args.k c.args.block.now c.read_case-read.ensures c.if-read-ne0.true c.refuse.ensures.refused c.refuse.ensures.position

pub returns-then-bound-gt48 : goal.returns-then-bound-gt48
returns-then-bound-gt48 c =
    refused_bound c.args.k c.args.block.now c.read_case-read.ensures c.if-read-ne0.false c.if-bound-gt48.true c.refuse-then-bound-gt48.ensures.refused c.refuse-then-bound-gt48.ensures.position

pub search-requires : goal.search-requires
search-requires c =
    record { fit = read_fit c.args.k c.args.block.now c.read_case-read.ensures c.if-read-ne0.false; bound = omega arith }

pub returns-else-bound-gt48 : goal.returns-else-bound-gt48
returns-else-bound-gt48 c =
    listed_case c.args.k c.args.block.now c.read_case-read.ensures c.if-read-ne0.false c.if-bound-gt48.false c.search.ensures.listed c.search.ensures.position
