use mathlib.Core.Path.{subst, sym, ◌≡◌}
use mathlib.Core.Bool.{false}
use mathlib.Core.List.{List}
use Prim.Native.Nat.{ℕ, ◌<◌, ◌≤◌}
use native.Mathlib.Omega.{arith}
use Rattle.cases.specs.Block.{bad}
use Rattle.cases.proofs.Spans.{after_3, after_4, after_5, after_rest}
use borrow.Author.Rules.{rules}
use Rattle.cases.proofs.faults.end_of.Goals as goal

-- a code that is matched
at_code : (code n to : ℕ) → code ≡ n → ((s : List ℕ) (k : ℕ) → to ≤ k → bad s n k ≡ false) → (s : List ℕ) (k : ℕ) → to ≤ k → k < 510 → bad s code k ≡ false
at_code code n to e h s k b l = subst (λ (m : ℕ). bad s m k ≡ false) (sym e) (h s k b)

pub returns-in-3 : goal.returns-in-3
returns-in-3 c = record { within = search rules; none-behind = at_code c.args.code 3 4 c.in-3.is after_3 }

pub returns-in-4 : goal.returns-in-4
returns-in-4 c = record { within = search rules; none-behind = at_code c.args.code 4 8 c.in-4.is after_4 }

pub returns-in-5 : goal.returns-in-5
returns-in-5 c = record { within = search rules; none-behind = at_code c.args.code 5 92 c.in-5.is after_5 }

pub returns-in-7 : goal.returns-in-7
returns-in-7 c = record { within = search rules; none-behind = λ s k h b. absurd (omega arith) }

pub returns-in_default : goal.returns-in_default
returns-in_default c =
    let no = c.in_default.in_default-own.rest in
    record { within = search rules; none-behind = λ s k h b. after_rest s k c.args.code c.requires no.0.0.0.1 no.0.0.1 no.0.1 no.1 h }
