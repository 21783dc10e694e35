use native.Mathlib.Omega.{arith}
use Rattle.listing.proofs.Refusals.{read_fit, refused_block, refused_bound, listed_case}
use Rattle.listing.proofs.outcomes.Goals as goal

pub returns-then-code-ne0 : goal.returns-then-code-ne0
returns-then-code-ne0 c =
    refused_block c.args.block.now c.read_case-read.ensures c.if-code-ne0.true c.refuse.ensures.refused c.refuse.ensures.position

pub returns-then-bound-gt96 : goal.returns-then-bound-gt96
returns-then-bound-gt96 c =
    refused_bound c.args.block.now c.read_case-read.ensures c.if-code-ne0.false c.if-bound-gt96.true c.refuse-then-bound-gt96.ensures.refused c.refuse-then-bound-gt96.ensures.position

pub search-requires : goal.search-requires
search-requires c =
    record { fit = read_fit c.args.block.now c.read_case-read.ensures c.if-code-ne0.false; bound = omega arith }

pub returns : goal.returns
returns c =
    listed_case c.args.block.now c.read_case-read.ensures c.if-code-ne0.false c.if-bound-gt96.false c.search.ensures.listed c.search.ensures.position
