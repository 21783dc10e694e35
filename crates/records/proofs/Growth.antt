-- How additions to a buffer compose: none, one after the other, the same in other words, and one that had no room. Assumes nothing.
use mathlib.Core.Path.{◌≡◌, refl, sym, ◌∙◌, subst}
use mathlib.Core.Logic.{◌⊎◌, inl, inr, ⊎_elim, ◌↔◌}
use mathlib.Core.Bool.{Bool, false, true≢false}
use mathlib.Core.List.{List}
use Prim.Native.Nat.{ℕ, ◌/◌}
use lib.ListN.{length}
use Rattle.records.specs.Buffer.{Held}
use Rattle.records.specs.Growth.{MoreThan, Filled}

-- one of two

pub iff_trans : {A B C : Type 0} → A ↔ B → B ↔ C → A ↔ C
iff_trans f g = (λ a. g.0 (f.0 a), λ c. f.1 (g.1 c))

pub iff_sym : {A B : Type 0} → A ↔ B → B ↔ A
iff_sym f = (f.1, f.0)

pub in_second : {A B C : Type 0} → (B → C) → A ⊎ B → A ⊎ C
in_second f = ⊎_elim inl (λ b. inr (f b))

pub none_first : {A B : Type 0} → (A → ⊥) → (A ⊎ B) ↔ B
none_first f = (⊎_elim (λ a. absurd (f a)) (λ b. b), inr)

-- a buffer that is filled

pub more_of : {P Q : List ℕ → Type 0} {m : ℕ} → ((r : List ℕ) → P r → Q r) → MoreThan m P → MoreThan m Q
more_of f x = record { some = x.some; sorted = x.sorted; pass = λ r h. f r (x.pass r h); many = x.many }

module _ {P : List ℕ → Type 0} where
  pub filled_none : {bs : List ℕ} {n : ℕ} {full : Bool} → full ≡ false → Held bs n → Filled P bs bs n full
  filled_none z h = record { size = refl; held = λ _. h; lacks = λ e. absurd (true≢false (sym e ∙ z)) }

  pub filled_of : {Q : List ℕ → Type 0} {before after : List ℕ} {m : ℕ} {full : Bool} →
      ((r : List ℕ) → P r → Q r) → Filled P before after m full → Filled Q before after m full
  filled_of f g = record { size = g.size; held = g.held; lacks = λ e. more_of f (g.lacks e) }

  -- the second of two additions speaks of the first one's buffer
  pub filled_then : {before mid after : List ℕ} {m : ℕ} {full : Bool} → length mid ≡ length before → Filled P mid after m full → Filled P before after m full
  filled_then e g = record { size = g.size ∙ e; held = g.held; lacks = λ z. subst (λ (k : ℕ). MoreThan (k / 96) P) e (g.lacks z) }
