use mathlib.Core.Path.{◌≡◌, sym, ◌∙◌}
use lib.ListN.{length}
use Rattle.asking.proofs.Refusing.{read_fit, can_ask, refused_block, refused_bound, refused_clauses, refused_buffer, settled_case}
use borrow.Author.Rules.{rules}
use Rattle.cases.proofs.Puts.{long_of}
use Rattle.asking.proofs.ask.Goals as goal

-- The block's codes, 10, 12 and 13 first, then the answer for the case that was read. Assumes nothing.
pub returns-then-read-ne0 : goal.returns-then-read-ne0
returns-then-read-ne0 c =
    let a = c.args in
    refused_block a.block.now c.read_case-read.ensures a.bound a.asked (length a.out.now) c.if-read-ne0.true c.refuse.ensures

pub returns-then-bound-gt96 : goal.returns-then-bound-gt96
returns-then-bound-gt96 c =
    let a = c.args in
    refused_bound a.block.now c.read_case-read.ensures a.bound a.asked (length a.out.now) c.if-read-ne0.false c.if-bound-gt96.true c.refuse-then-bound-gt96.ensures

pub returns-then-unaskable : goal.returns-then-unaskable
returns-then-unaskable c =
    let a = c.args in
    refused_clauses a.block.now c.read_case-read.ensures a.bound a.asked (length a.out.now) c.if-read-ne0.false c.if-bound-gt96.false (sym c.unaskable.ensures ∙ c.if-unaskable.true) c.refuse-then-unaskable.ensures

pub returns-then-out-ne384 : goal.returns-then-out-ne384
returns-then-out-ne384 c =
    let a = c.args in
    refused_buffer a.block.now c.read_case-read.ensures a.bound a.asked (length a.out.now) c.if-read-ne0.false c.if-bound-gt96.false (sym c.unaskable.ensures ∙ c.if-unaskable.false) c.if-out-ne384.true c.refuse-then-out-ne384.ensures

pub settle-requires : goal.settle-requires
settle-requires c =
    let a = c.args in
    let long : length a.asked.clauses ≡ 8 = search (long_of, rules) in
    record {
      fit = read_fit a.block.now c.read_case-read.ensures c.if-read-ne0.false;
      few = c.if-bound-gt96.false;
      asks = can_ask a.block.now c.read_case-read.ensures a.bound a.asked (length a.out.now) c.if-read-ne0.false c.if-bound-gt96.false (sym c.unaskable.ensures ∙ c.if-unaskable.false) long;
      long = c.if-out-ne384.false;
    }

pub returns : goal.returns
returns c =
    let a = c.args in
    let long : length a.asked.clauses ≡ 8 = search (long_of, rules) in
    settled_case a.block.now c.read_case-read.ensures a.bound a.asked (length a.out.now) c.if-read-ne0.false c.if-bound-gt96.false (sym c.unaskable.ensures ∙ c.if-unaskable.false) long c.if-out-ne384.false c.settle.ensures
