use Rattle.std.specs.Option.{unwrap_or}
use Rattle.choices.proofs.Found.{fresh_or}
use Rattle.choices.proofs.Next.{next_in, pass_none}
use native.Mathlib.Omega.{arith}
use Rattle.choices.proofs.next_source.Goals as goal

pub first_fresh-requires : goal.first_fresh-requires
first_fresh-requires c = c.requires.stretch

pub returns : goal.returns
returns c =
    let f = c.first_fresh in
    let u = c.unechoed-left in
    let a = c.args in
    λ t s m h o. rw c.unwrap_or.ensures (next_in t s a.spent.now a.at a.at a.to a.sources c.requires.stretch.one (λ e l. o e) u.result (u.ensures t s m h) (unwrap_or f.result a.to) (omega arith) (fresh_or u.result a.spent.now a.at a.to f.result f.ensures) (pass_none t s a.spent.now a.at))
