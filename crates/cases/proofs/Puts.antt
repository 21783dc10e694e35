-- Buffers that are filled from the front on. Assumes nothing.
use mathlib.Core.Path.{◌≡◌, refl, ap, sym, ◌∙◌}
use mathlib.Core.List.{List, [], ◌∷◌, ◌++◌, map, append_assoc, append-nil}
use Prim.Native.Nat.{ℕ, ◌+◌, ◌*◌, ◌-◌, ◌/◌, ◌%◌, ◌<◌}
use native.Mathlib.Nat.{mul-suc, mul-zero}
use native.Mathlib.Numerals.{add-one}
use native.Mathlib.Omega.{arith}
use lib.ListN.{length, get_or, take, replicate, length-append, length-map}
use lib.Seq.{take-length, length-take-le, take-append-add, take_all, take_at}
use Rattle.std.proofs.Common.{w16}
use Rattle.std.specs.Int.{to_le_bytes}
use Rattle.words.specs.Small.{concat_map}
use Rattle.words.proofs.Lists.{concat_map_more, concat_map-length}
use Rattle.cases.specs.declared.Expr.{Expr}
use Rattle.cases.specs.declared.Expr.TheVariants.{Constant, Sum, Difference, Equal}
use Rattle.cases.specs.declared.Instr.{Instr}
use Rattle.cases.specs.declared.Instr.TheVariants.{Empty, Read, Write, Local, Branch, Goto, Acquire, Release}
use Rattle.cases.specs.declared.Slot.{Slot}
use Rattle.cases.specs.declared.Case.{Case}
use Rattle.cases.specs.Instruction.{two, local_bytes, instr_bytes}
use Rattle.cases.specs.Block.{check, slot_bytes, contents}
use Rattle.cases.specs.Putting.{Put}

-- put_words, put_code: one part of m bytes more

module _ {A : Type 0} (f : A → List ℕ) (m : ℕ) (wide : (x : A) → length (f x) ≡ m) (l : List A) (b₀ : List ℕ) (at : ℕ) where
  pub parts_none : take (at + m * 0) b₀ ≡ take at b₀ ++ concat_map f (take 0 l)
  parts_none =
      let q : at + m * 0 ≡ at = omega (arith, mul-zero m) in
      ap (λ (n : ℕ). take n b₀) q ∙ sym (append-nil (take at b₀))

  pub parts_more : (b b' : List ℕ) (i : ℕ) (d : A) → i < length l → take (at + m * i) b ≡ take at b₀ ++ concat_map f (take i l) → Put b (at + m * i) (f (get_or l i d)) b' → take (at + m * (i + 1)) b' ≡ take at b₀ ++ concat_map f (take (i + 1) l)
  parts_more b b' i d h e p =
      let q : at + m * (i + 1) ≡ at + m * i + length (f (get_or l i d)) = omega (arith, mul-suc m i, wide (get_or l i d), ap (λ (n : ℕ). m * n) (add-one i)) in
      ap (λ (n : ℕ). take n b') q
      ∙ p.front
      ∙ ap (λ (t : List ℕ). t ++ f (get_or l i d)) e
      ∙ append_assoc (take at b₀) (concat_map f (take i l)) (f (get_or l i d))
      ∙ ap (λ (t : List ℕ). take at b₀ ++ t) (sym (concat_map_more f l i d h))
      ∙ ap (λ (n : ℕ). take at b₀ ++ concat_map f (take n l)) (sym (add-one i))

  pub parts_all : (b : List ℕ) (i : ℕ) → i ≡ length l → length b ≡ length b₀ → take (at + m * i) b ≡ take at b₀ ++ concat_map f (take i l) → Put b₀ at (concat_map f l) b
  parts_all b i q long e =
      record {
        long = long;
        front =
            ap (λ (n : ℕ). take (at + n) b) (concat_map-length f m wide l ∙ ap (λ (n : ℕ). m * n) (sym q))
            ∙ e
            ∙ ap (λ (n : ℕ). take at b₀ ++ concat_map f (take n l)) q
            ∙ ap (λ (t : List A). take at b₀ ++ concat_map f t) (take-length l);
      }

-- fill: the parts one after the other

-- the two bytes of a number, as std gives them
pub two_bytes : (n : ℕ) → n < 65536 → to_le_bytes w16 n ≡ two n
two_bytes n h = let e : n / 256 % 256 ≡ n / 256 = omega arith in ap (λ (z : ℕ). n % 256 ∷ z ∷ []) e

pub two-wide : (n : ℕ) → length (two n) ≡ 2
two-wide n = refl

pub six-wide : (s : Slot) → length (slot_bytes s) ≡ 6
six-wide s = wide s.instr
  where
    local_wide : (d : ℕ) (e : Expr) → length (local_bytes d e) ≡ 6
    local_wide d (Constant n) = refl
    local_wide d (Sum a b) = refl
    local_wide d (Difference a b) = refl
    local_wide d (Equal a b) = refl

    wide : (i : Instr) → length (instr_bytes i) ≡ 6
    wide Empty = refl
    wide (Read d a) = refl
    wide (Write a b) = refl
    wide (Local d e) = local_wide d e
    wide (Branch a l) = refl
    wide (Goto l) = refl
    wide (Acquire a) = refl
    wide (Release a) = refl

take-front : (s t : List ℕ) (k n : ℕ) → length s ≡ k → take (k + n) (s ++ t) ≡ s ++ take n t
take-front s t k n h = ap (λ (m : ℕ). take (m + n) (s ++ t)) (sym h) ∙ take-append-add s t n

-- what was put at k, behind a front of k bytes
put_on : (front s new s' : List ℕ) (k n : ℕ) → take k s ≡ front → k + length new ≡ n → Put s k new s' → take n s' ≡ front ++ new
put_on front s new s' k n e q p = ap (λ (m : ℕ). take m s') (sym q) ∙ p.front ∙ ap (λ (l : List ℕ). l ++ new) e

module _ (c : Case) (counts : length c.counts ≡ 4) (masks : length c.masks ≡ 4) where
  -- bytes 0 to 11
  abbrev head : List ℕ
  head = ((c.procs ∷ c.locs ∷ 0 ∷ 0 ∷ []) ++ c.counts) ++ c.masks

  head_long : length head ≡ 12
  head_long = omega (arith, length-append ((c.procs ∷ c.locs ∷ 0 ∷ 0 ∷ []) ++ c.counts) c.masks, length-append (c.procs ∷ c.locs ∷ 0 ∷ 0 ∷ []) c.counts)

  head_is : take 12 (contents c) ≡ head
  unfolding contents
  head_is =
      let rest = concat_map two c.presets ++ (concat_map two c.memory ++ (concat_map slot_bytes c.code ++ replicate 130 0)) in
      let whole : contents c ≡ head ++ rest = sym (simp append_assoc) in
      ap (take 12) whole ∙ take_at head rest 12 head_long

  pub headed : (s₀ s₁ s₂ s₃ : List ℕ) → Put s₀ 0 (c.procs ∷ c.locs ∷ 0 ∷ 0 ∷ []) s₁ → Put s₁ 4 c.counts s₂ → Put s₂ 8 c.masks s₃ → Put s₀ 0 (take 12 (contents c)) s₃
  headed s₀ s₁ s₂ s₃ p₁ p₂ p₃ =
      let e₂ = put_on _ s₁ c.counts s₂ 4 8 p₁.front (omega arith) p₂ in
      let e₃ = put_on _ s₂ c.masks s₃ 8 12 e₂ (omega arith) p₃ in
      let n = ap length head_is ∙ head_long in
      record { long = p₃.long ∙ p₂.long ∙ p₁.long; front = ap (λ (n : ℕ). take (0 + n) s₃) n ∙ e₃ ∙ sym head_is }

  pub filled : length c.presets ≡ 32 → length c.memory ≡ 8 → length c.code ≡ 48 → (s₀ s₃ s₄ s₅ s₆ s₇ : List ℕ) → length s₆ ≡ 512 → Put s₀ 0 (take 12 (contents c)) s₃ → Put s₃ 12 (concat_map two c.presets) s₄ → Put s₄ 76 (concat_map two c.memory) s₅ → Put s₅ 92 (concat_map slot_bytes c.code) s₆ → s₇ ≡ take 380 s₆ ++ replicate (length s₆ - 380) 0 → take 510 s₇ ≡ contents c
  unfolding contents
  filled presets memory code s₀ s₃ s₄ s₅ s₆ s₇ long p₃ p₄ p₅ p₆ e =
      let n : 12 ≡ 0 + length (take 12 (contents c)) = omega (arith, ap length head_is ∙ head_long) in
      let e₃ = ap (λ (n : ℕ). take n s₃) n ∙ p₃.front ∙ head_is in
      let e₄ = put_on _ s₃ (concat_map two c.presets) s₄ 12 76 e₃ (omega (arith, concat_map-length two 2 two-wide c.presets)) p₄ in
      let e₅ = put_on _ s₄ (concat_map two c.memory) s₅ 76 92 e₄ (omega (arith, concat_map-length two 2 two-wide c.memory)) p₅ in
      let e₆ = put_on _ s₅ (concat_map slot_bytes c.code) s₆ 92 380 e₅ (omega (arith, concat_map-length slot_bytes 6 six-wide c.code)) p₆ in
      let f : length (take 380 s₆) ≡ 380 = length-take-le 380 s₆ (omega arith) in
      ap (take 510) e
      ∙ ap (λ (n : ℕ). take 510 (take 380 s₆ ++ replicate (n - 380) 0)) long
      ∙ take-front (take 380 s₆) (replicate 132 0) 380 130 f
      ∙ ap (λ (l : List ℕ). l ++ replicate 130 0) e₆
      ∙ simp append_assoc

-- the length of a list from that of its values

pub signed : (b b' pair : List ℕ) (sum : ℕ) → length b ≡ 512 → sum ≡ check b → pair ≡ two sum → Put b 510 pair b' → b' ≡ take 510 b ++ two (check b)
signed b b' pair sum long e q p =
    sym (take_all 512 b' (omega (arith, p.long)))
    ∙ put_on (take 510 b) b pair b' 510 512 refl (omega (arith, ap length q)) p
    ∙ ap (λ (l : List ℕ). take 510 b ++ l) (q ∙ ap two e)

-- a list is as long as what a function makes of it
pub long_of : {X Y : Type 0} (g : X → Y) (l : List X) (n : ℕ) → length (map g l) ≡ n → length l ≡ n
long_of g l n h = sym (length-map l g) ∙ h
