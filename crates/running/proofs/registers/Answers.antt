use Rattle.running.proofs.Records.{byte_at, registers_are, made_all}
use mathlib.Core.Path.{◌≡◌}
use borrow.Author.Rules.{rules}
use Rattle.running.proofs.registers.Goals as goal

pub returns : goal.returns
returns c =
    let C = c.args.case.now in
    let s = c.args.s.now in
    λ k. registers_are k C s c.from_fn.result c.from_fn.ensures.items.long (made_all (λ n y. y ≡ byte_at C s.values n) 0 c.from_fn.result c.from_fn.ensures.items (λ i y q k. (search rules, search rules)))
