use mathlib.Core.Path.{◌≡◌, refl}
use mathlib.Core.Bool.{false}
use Prim.Native.Nat.{ℕ}
use Rattle.cases.specs.declared.Instr.{Instr}
use Rattle.cases.specs.declared.Instr.TheVariants.{Empty, Read, Write, Local, Branch, Goto, Acquire, Release}
use Rattle.rules.specs.Kinds.{kind, releasing}
use Rattle.committing.proofs.frees.Goals as goal

keeps : (i : Instr) → ((l : ℕ) → i ≡ Release l → ⊥) → releasing (kind i) ≡ false
keeps Empty h = refl
keeps (Read d a) h = refl
keeps (Write a b) h = refl
keeps (Local d e) h = refl
keeps (Branch a l) h = refl
keeps (Goto l) h = refl
keeps (Acquire a) h = refl
keeps (Release a) h = absurd (h a refl)

pub returns-then-e : goal.returns-then-e
returns-then-e c = λ k. rw (c.in-Release.is, c.if-e.true)

pub returns-else-e : goal.returns-else-e
returns-else-e c = λ k. rw (c.in-Release.is, c.if-e.false)

pub returns-in_default : goal.returns-in_default
returns-in_default c = λ k. rw (keeps c.args.e.instr c.in_default.not-Release) refl
