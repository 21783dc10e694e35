-- Texts laid one behind the other are laid as one, and a text that fits stands there whole. Assumes nothing.
use mathlib.Core.Path.{◌≡◌, refl, sym, ap, ◌∙◌, subst}
use mathlib.Core.List.{List, [], ◌∷◌, ◌++◌, append_assoc}
use Prim.Native.Nat.{ℕ, suc, ◌+◌, ◌≤◌}
use native.Mathlib.Nat.{add-zero}
use native.Mathlib.Omega.{arith}
use native.Mathlib.Decide.{dec_lt}
use lib.ListN.{length, take, drop, set, length-set, length-append}
use lib.Seq.{set_out, set-append_seam, take_at, length-take-le}
use Rattle.lines.specs.Laid.{laid, Laid, Printed}

pub laid-length : (bytes : List ℕ) (at : ℕ) (text : List ℕ) → length (laid bytes at text) ≡ length bytes
unfolding laid
laid-length bytes at [] = refl
laid-length bytes at (b ∷ text) = laid-length (set bytes at b) (suc at) text ∙ length-set bytes at b

-- past the end nothing changes
laid_out : (bytes : List ℕ) (at : ℕ) (text : List ℕ) → length bytes ≤ at → laid bytes at text ≡ bytes
unfolding laid
laid_out bytes at [] h = refl
laid_out bytes at (b ∷ text) h =
    let k : length (set bytes at b) ≤ suc at = omega (arith, length-set bytes at b) in
    laid_out (set bytes at b) (suc at) text k ∙ set_out bytes at b h

laid-append : (bytes : List ℕ) (at : ℕ) (s t : List ℕ) → laid bytes at (s ++ t) ≡ laid (laid bytes at s) (at + length s) t
unfolding laid
laid-append bytes at [] t = ap (λ (k : ℕ). laid bytes k t) (sym (add-zero at))
laid-append bytes at (b ∷ s) t =
    let e : suc at + length s ≡ at + suc (length s) = omega arith in
    laid-append (set bytes at b) (suc at) s t ∙ ap (λ (k : ℕ). laid (laid (set bytes at b) (suc at) s) k t) e

-- ONE TEXT BEHIND ANOTHER
pub laid_then : {a b c : List ℕ} {i j k : ℕ} {s t : List ℕ} → Laid a i s b j → Laid b j t c k → Laid a i (s ++ t) c k
laid_then {a} {b} {c} {i} {j} {k} {s} {t} x y = record { bytes = y.bytes ∙ ap (λ (l : List ℕ). laid l j t) x.bytes ∙ shown ∙ sym (laid-append a i s t); ends = omega (arith, x.ends, y.ends, size, length-append s t) }
  where
    size : length b ≡ length a
    size = ap length x.bytes ∙ laid-length a i s

    -- where the first text reaches the end of the bytes, the second changes nothing
    shown : laid (laid a i s) j t ≡ laid (laid a i s) (i + length s) t
    shown =
        elim (dec_lt (length a) (i + length s)) [
          | yes over ↦
              let far : length (laid a i s) ≤ i + length s = omega (arith, laid-length a i s) in
              let near : length (laid a i s) ≤ j = omega (arith, laid-length a i s, x.ends) in
              laid_out (laid a i s) j t near ∙ sym (laid_out (laid a i s) (i + length s) t far)
          | no fits ↦ let e : j ≡ i + length s = omega (arith, x.ends) in ap (λ (n : ℕ). laid (laid a i s) n t) e
        ]

pub laid_none : (bytes : List ℕ) (at : ℕ) → Laid bytes at [] bytes at
unfolding laid
laid_none bytes at = record { bytes = refl; ends = omega arith }

-- the same text in other words
pub laid_as : {a b : List ℕ} {i j : ℕ} {s t : List ℕ} → s ≡ t → Laid a i s b j → Laid a i t b j
laid_as {a} {b} {i} {j} e x = subst (λ (u : List ℕ). Laid a i u b j) e x

-- AT MOST ONE ANSWER
pub laid_only : {a b c : List ℕ} {i j k : ℕ} {s : List ℕ} → Laid a i s b j → Laid a i s c k → (b ≡ c) × (j ≡ k)
laid_only x y = (x.bytes ∙ sym y.bytes, x.ends ∙ sym y.ends)

-- A TEXT THAT FITS STANDS THERE WHOLE

laid_seam : (front bytes text : List ℕ) → length text ≤ length bytes → laid (front ++ bytes) (length front) text ≡ front ++ (text ++ drop (length text) bytes)
unfolding laid
laid_seam front bytes [] h = refl
laid_seam front [] (b ∷ text) h = absurd (omega arith)
laid_seam front (x ∷ bytes) (b ∷ text) h =
    let long : length (front ++ (b ∷ [])) ≡ suc (length front) = simp length-append (omega arith) in
    let joined : set (front ++ (x ∷ bytes)) (length front) b ≡ (front ++ (b ∷ [])) ++ bytes = set-append_seam front x bytes b ∙ sym (append_assoc front (b ∷ []) bytes) in
    ap (λ (l : List ℕ). laid l (suc (length front)) text) joined
    ∙ ap (λ (n : ℕ). laid ((front ++ (b ∷ [])) ++ bytes) n text) (sym long)
    ∙ laid_seam (front ++ (b ∷ [])) bytes text (omega arith)
    ∙ append_assoc front (b ∷ []) (text ++ drop (length text) bytes)

pub laid_printed : {before text after : List ℕ} {end : ℕ} → Laid before 0 text after end → length text ≤ length before → Printed text before after end
laid_printed {before} {text} x fits = record { bytes = x.bytes ∙ laid_seam [] before text fits; ends = omega (arith, x.ends) }

-- what is printed is a part of the bytes
pub printed_within : {text before after : List ℕ} {end : ℕ} → Printed text before after end → end ≤ length after
printed_within {text} {before} x = omega (arith, x.ends, ap length x.bytes, length-append text (drop (length text) before))

pub printed_text : {text before after : List ℕ} {end : ℕ} → Printed text before after end → take end after ≡ text
printed_text {text} {before} {after} {end} x = ap (λ (l : List ℕ). take end l) x.bytes ∙ take_at text (drop (length text) before) end (sym x.ends)

pub printed_as : {s t before after : List ℕ} {end : ℕ} → s ≡ t → Printed s before after end → Printed t before after end
printed_as {before = before} {after} {end} e x = subst (λ (u : List ℕ). Printed u before after end) e x

pub printed_count : {text before after : List ℕ} {end : ℕ} → Printed text before after end → end ≡ length (take end after)
printed_count {after = after} {end} x = sym (length-take-le end after (printed_within x))
