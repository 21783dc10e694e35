use native.Mathlib.Omega.{arith}
use lib.Dec.{lit<}
use Rattle.cases.proofs.Fields.{row_of, sums_row, locks_row}
use Rattle.cases.proofs.faults.fields.Goals as goal

pub returns-in-1 : goal.returns-in-1
returns-in-1 c = λ k. row_of 1 c.args.op k c.in-1.is (lit< tt)

pub returns-in-2 : goal.returns-in-2
returns-in-2 c = λ k. row_of 2 c.args.op k c.in-2.is (lit< tt)

pub returns-in-3 : goal.returns-in-3
returns-in-3 c = λ k. row_of 3 c.args.op k c.in-3.is (lit< tt)

pub returns-in-4 : goal.returns-in-4
returns-in-4 c =
    let no = c.in-4.in_default-own.rest in
    λ k. sums_row c.args.op k (omega (arith, no.0.0.0.0.1, no.0.0.0.1, no.0.0.1)) c.in-4.if-op-lt7-own.true

pub returns-in-7 : goal.returns-in-7
returns-in-7 c = λ k. row_of 7 c.args.op k c.in-7.is (lit< tt)

pub returns-in-8 : goal.returns-in-8
returns-in-8 c = λ k. row_of 8 c.args.op k c.in-8.is (lit< tt)

pub returns-in-9 : goal.returns-in-9
returns-in-9 c =
    let no = c.in-9.in_default-own.rest in
    λ k. locks_row c.args.op k (omega (arith, no.0.1, no.1)) c.in-9.if-op-lt11-own.true

pub returns-in_default : goal.returns-in_default
returns-in_default c = λ k. row_of 0 c.args.op k (omega (arith, c.in_default.if-op-lt1-own.true)) (lit< tt)
