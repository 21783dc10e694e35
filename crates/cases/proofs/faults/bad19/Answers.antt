use mathlib.Core.Path.{◌≡◌, ap, sym, ◌∙◌}
use mathlib.Core.Bool.{Bool, ◌&&◌, not}
use mathlib.Core.List.{List}
use Prim.Native.Nat.{ℕ, ◌-◌, ◌/◌, ◌%◌}
use Rattle.cases.specs.Block.{within, byte, used, reads_at, is_set}
use Rattle.cases.proofs.Registers.{reading, read_unset, not-reading}
use Rattle.cases.proofs.faults.bad19.Goals as goal

-- the test that the code makes
tests : (s : List ℕ) (i : ℕ) (w u r : Bool) (p₁ p₂ p₃ p₄ op : ℕ) → p₁ ≡ i - 92 → p₂ ≡ i - 92 → p₃ ≡ i - p₂ % 6 → p₄ ≡ i - 92 → op ≡ byte s p₃ → w ≡ within 92 380 i → u ≡ used s (p₁ / 72) (p₄ % 72 / 6) → r ≡ reads_at op i → (w && u && r) ≡ reading s i
tests s i w u r p₁ p₂ p₃ p₄ op h₁ h₂ h₃ h₄ ho hw hu hr =
    let eu = hu ∙ (λ t. used s (h₁ t / 72) (h₄ t % 72 / 6)) in
    let er = hr ∙ ap (λ (o : ℕ). reads_at o i) (ho ∙ ap (byte s) (h₃ ∙ ap (λ (n : ℕ). i - n % 6) h₂)) in
    λ t. hw t && eu t && er t

pub returns-then-reads : goal.returns-then-reads
returns-then-reads c =
    let a = c.args in
    let tested = tests a.block.now a.i c.within.result c.used.result c.reads_at.result c.saturating_sub-p.result c.saturating_sub.result c.saturating_sub-2.result c.saturating_sub-3.result c.number-op.result c.saturating_sub-p.ensures c.saturating_sub.ensures c.saturating_sub-2.ensures c.saturating_sub-3.ensures c.number-op.ensures.is c.within.ensures c.used.ensures c.reads_at.ensures in
    ap not (c.is_set.ensures ∙ (λ t. is_set a.block.now (c.saturating_sub-p.ensures t / 72) (c.number.ensures.is t))) ∙ read_unset a.block.now a.i (sym tested ∙ c.if-reads.true)

pub returns-else-reads : goal.returns-else-reads
returns-else-reads c =
    let a = c.args in
    let tested = tests a.block.now a.i c.within.result c.used.result c.reads_at.result c.saturating_sub-p.result c.saturating_sub.result c.saturating_sub-2.result c.saturating_sub-3.result c.number-op.result c.saturating_sub-p.ensures c.saturating_sub.ensures c.saturating_sub-2.ensures c.saturating_sub-3.ensures c.number-op.ensures.is c.within.ensures c.used.ensures c.reads_at.ensures in
    c.if-reads.false ∙ not-reading a.block.now a.i (sym tested ∙ c.if-reads.false)
