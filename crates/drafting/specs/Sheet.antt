-- The reader's record of a case in the making, against the draft that it shows. Assumes nothing.
use Rattle.std.specs.Prelude.{◌≡◌, ⊤, Option, Some, None, ℕ, ◌+◌, ◌*◌, ◌≤◌}
use Rattle.std.proofs.Math.Option as maybe
use Rattle.words.specs.Small.{each, or_zero}
use Rattle.judging.specs.Draft.{Draft, mask_of}
use Rattle.drafting.specs.declared.Sheet.{Sheet}

pub record Shows (s : Sheet) (d : Draft) : Type 0 where
  pub procs : s.procs ≡ d.procs
  pub locs : s.locs ≡ d.locs
  pub dropped : s.dropped ≡ or_zero d.dropped
  pub next : s.next ≡ d.next
  pub need : s.need ≡ d.need
  pub counts : s.counts ≡ each 4 d.counts
  pub masks : s.masks ≡ each 4 (λ p. mask_of d.presets (8 * p))
  pub presets : s.presets ≡ each 32 (λ n. or_zero (d.presets n))
  pub memory : s.memory ≡ each 8 d.words
  pub code : s.code ≡ each 48 (λ n. record { instr = d.instrs n })
  pub few : d.procs ≤ 4
  pub small : d.locs ≤ 8
  pub free : (n : ℕ) → d.next ≤ 8 + n → d.presets n ≡ maybe.none

-- The sheet after some lines, if there is one, and the draft of these lines, if there is one.
abbrev pub Holds : Option Sheet → maybe.Option Draft → Type 0
Holds None maybe.none = ⊤
Holds None (maybe.some d) = ⊥
Holds (Some s) maybe.none = ⊥
Holds (Some s) (maybe.some d) = Shows s d
