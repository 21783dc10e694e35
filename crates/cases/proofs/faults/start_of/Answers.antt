use mathlib.Core.Path.{subst, sym, ◌≡◌}
use mathlib.Core.Bool.{false}
use mathlib.Core.List.{List}
use Prim.Native.Nat.{ℕ, ◌<◌}
use native.Mathlib.Omega.{arith}
use Rattle.cases.specs.Block.{bad}
use Rattle.cases.proofs.Spans.{before_4, before_5, before_rest}
use borrow.Author.Rules.{rules}
use Rattle.cases.proofs.faults.start_of.Goals as goal

-- a code that is matched
at_code : (code n from : ℕ) → code ≡ n → ((s : List ℕ) (k : ℕ) → k < from → bad s n k ≡ false) → (s : List ℕ) (k : ℕ) → k < from → bad s code k ≡ false
at_code code n from e h = subst (λ (m : ℕ). (s : List ℕ) (k : ℕ) → k < from → bad s m k ≡ false) (sym e) h

pub returns-in-3 : goal.returns-in-3
returns-in-3 c = record { within = search rules; none_before = λ s k h. absurd (omega arith) }

pub returns-in-4 : goal.returns-in-4
returns-in-4 c = record { within = search rules; none_before = at_code c.args.code 4 4 c.in-4.is before_4 }

pub returns-in-5 : goal.returns-in-5
returns-in-5 c = record { within = search rules; none_before = at_code c.args.code 5 8 c.in-5.is before_5 }

pub returns-in_default : goal.returns-in_default
returns-in_default c =
    let no = c.in_default.in_default-own.rest in
    record { within = search rules; none_before = λ s k h. before_rest s k c.args.code c.requires no.0.0.1 no.0.1 no.1 h }
