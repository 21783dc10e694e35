use mathlib.Core.Path.{◌≡◌, ◌∙◌, sym, ap}
use lib.ListN.{get_or}
use Rattle.machine.specs.Shown.{Value, shown_value}
use Rattle.rules.specs.Result.{register_bytes}
use Rattle.machine.proofs.Answers.{byte_none}
use Rattle.machine.proofs.byte_of.Goals as goal

pub returns-in-None : goal.returns-in-None
returns-in-None c = let a = c.args in byte_none a.j c.requires ∙ ap (λ (o : Value). get_or (register_bytes (shown_value o)) a.j 0) (sym c.in-None.is)

pub returns-in-Some : goal.returns-in-Some
returns-in-Some c = let a = c.args in ap (λ (o : Value). get_or (register_bytes (shown_value o)) a.j 0) (sym c.in-Some.is)
