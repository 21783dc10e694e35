-- How long a line and its pieces are at most. Assumes nothing.
use mathlib.Core.Bool.{Bool, true, false, cond}
use mathlib.Core.List.{List}
use Prim.Native.Nat.{ℕ, ◌+◌, ◌*◌, ◌^◌, ◌≤◌, ◌<◌}
use native.Mathlib.Omega.{arith}
use lib.Dec.{eqb, lit≤}
use lib.ListN.{length, get_or, length-append}
use Rattle.lines.specs.Decimal.{decimal}
use Rattle.lines.specs.Answers.{of_block, ending, refusal_line, replay_line, header_line}
use Rattle.lines.specs.Outcome.{register, register_at, registers, processor, gap}
use Rattle.lines.proofs.Digits.{decimal_few}

either : (b : Bool) (s t : List ℕ) (n : ℕ) → length s ≤ n → length t ≤ n → length (cond b s t) ≤ n
either true s t n h k = h
either false s t n h k = k

register_short : (defined high low : ℕ) → high < 256 → low < 256 → length (register defined high low) ≤ 5
unfolding register
register_short defined high low h l = either (eqb defined 0) _ _ 5 (lit≤ tt) (decimal_few 4 (256 * high + low) (omega arith))

gap_short : (p : ℕ) → length (gap p) ≤ 1
gap_short p = either (eqb p 0) _ _ 1 (lit≤ tt) (lit≤ tt)

pub register_at_short : (outcome : List ℕ) (p k : ℕ) → get_or outcome (24 * p + 3 * k + 1) 0 < 256 → get_or outcome (24 * p + 3 * k + 2) 0 < 256 → length (register_at outcome p k) ≤ 6
unfolding register_at
register_at_short outcome p k h l = omega (arith, register_short (get_or outcome (24 * p + 3 * k) 0) _ _ h l)

pub processor_short : (outcome : List ℕ) (p : ℕ) → p < 256 → length (registers outcome p) ≤ 48 → length (processor outcome p) ≤ 53
unfolding processor
processor_short outcome p h few = simp length-append (omega (arith, gap_short p, decimal_few 2 p (omega arith)))

-- a number of 64 bits has at most 20 digits
wide_short : (n : ℕ) → n < 2 ^ 64 → length (decimal n) ≤ 20
wide_short n h = decimal_few 19 n (omega arith)

pub ending_short : (code position : ℕ) → position < 2 ^ 64 → length (ending code position) ≤ 25
unfolding ending
ending_short code position h = either (of_block code) _ _ 25 (simp length-append (omega (arith, wide_short position h))) (lit≤ tt)

pub refusal_short : (code position : ℕ) → code < 256 → length (ending code position) ≤ 25 → length (refusal_line code position) ≤ 36
unfolding refusal_line
refusal_short code position h few = simp length-append (omega (arith, decimal_few 2 code (omega arith)))

pub replay_short : (code steps position : ℕ) → code < 256 → steps < 2 ^ 64 → length (ending code position) ≤ 25 → length (replay_line code steps position) ≤ 66
unfolding replay_line
replay_short code steps position h k few = simp length-append (omega (arith, decimal_few 2 code (omega arith), wide_short steps k))

pub header_short : (count : ℕ) (cut : Bool) → count < 2 ^ 64 → length (header_line count cut) ≤ 38
unfolding header_line
header_short count true h = simp length-append (omega (arith, wide_short count h))
header_short count false h = simp length-append (omega (arith, wide_short count h))
