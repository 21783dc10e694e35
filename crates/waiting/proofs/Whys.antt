-- At most one answer and one content of the buffer are right. Assumes nothing.
use mathlib.Core.Path.{◌≡◌}
use mathlib.Core.List.{List}
use Prim.Native.Nat.{ℕ}
use Rattle.replaying.specs.declared.Replayed.{Replayed}
use Rattle.replaying.proofs.Answers.{answer_unique}
use Rattle.waiting.specs.Why.{waits, IsWhy}

pub why_unique : (block schedule : List ℕ) (size : ℕ) (r r' : Replayed) (out out' : List ℕ) → IsWhy block schedule size r out → IsWhy block schedule size r' out' → (r ≡ r') × (out ≡ out')
why_unique = answer_unique waits
