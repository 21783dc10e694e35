use native.Mathlib.Omega.{arith}
use Rattle.machine.proofs.Packing.{kind_first, kind_local, kind_later, kind-none}
use Rattle.machine.proofs.word.kind_at.Goals as goal

pub returns-in-0-to-2 : goal.returns-in-0-to-2
returns-in-0-to-2 c = (kind_first _ (omega arith), omega arith)

pub returns-in-3-to-6 : goal.returns-in-3-to-6
returns-in-3-to-6 c = (kind_local _ (omega arith) (omega arith), omega arith)

pub returns-in-7-to-10 : goal.returns-in-7-to-10
returns-in-7-to-10 c = (kind_later _ (omega arith) (omega arith), omega arith)

pub returns-in_default : goal.returns-in_default
returns-in_default c = (kind-none _ (omega arith), omega arith)
