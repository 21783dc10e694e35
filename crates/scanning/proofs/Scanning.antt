-- Words of a line, and the first place of a byte. Assumes nothing.
use mathlib.Core.Path.{◌≡◌, refl, ap, sym, ◌∙◌, subst}
use mathlib.Core.Bool.{Bool, ◌&&◌, cond}
use mathlib.Core.List.{List, [], ◌∷◌}
use Prim.Native.Nat.{ℕ, suc, ◌+◌, ◌-◌, ◌<◌, ◌≤◌}
use native.Mathlib.Omega.{arith}
use native.Mathlib.Numerals.{add-one}
use denote.Ref.{Bor}
use lib.Dec.{eqb}
use lib.ListN.{length, get_or, take, drop, drop_of_length-le}
use lib.Seq.{drop-cons}
use Rattle.std.specs.List.{slice_get, slice_split, onto_first, AllWithin, HoldsAt}
use Rattle.std.specs.Option.{option_map}
use Rattle.std.specs.Prelude.{Option, Some, None, unwrap_or}
use Rattle.std.specs.Str.{bytes_eq}
use Rattle.std.proofs.lemmas.List.{get_or-drop, length-drop}
use Rattle.std.proofs.lemmas.Option.{unwrap_or-slice_get}
use Rattle.scanning.specs.Found.{Found, part}
use Rattle.judging.specs.Parse.{front, words_in, word_at, same, grown, value_from}

pub part-cons : (f t : ℕ) (p : List ℕ) → f < t → t ≤ length p → part f t p ≡ get_or p f 0 ∷ part (suc f) t p
part-cons f t p h k =
    let e : t - f ≡ suc (t - suc f) = omega arith in
    (λ j. take (e j) (drop-cons p f 0 (omega arith) j))

pub part_none : (f t : ℕ) (p : List ℕ) → t ≤ f → part f t p ≡ []
part_none f t p h = let e : t - f ≡ 0 = omega arith in ap (λ (n : ℕ). take n (drop f p)) e

-- the first place of a byte: none, or one ahead
abbrev Other : ℕ → ℕ → Type 0
Other b x = x ≡ b → ⊥

pub found_end : (b : ℕ) (p : List ℕ) (from : ℕ) → from ≤ length p → AllWithin (Other b) (drop from p) 0 (length (drop from p)) → Found b p from (length p)
found_end b p from h never = record { low = h; high = omega arith; none = others; here = λ l. absurd (omega arith) }
  where
    others : (i : ℕ) → from ≤ i → i < length p → get_or p i 0 ≡ b → ⊥
    others i a l =
        let e : from + (i - from) ≡ i = omega arith in
        subst (λ (n : ℕ). Other b (get_or p n 0)) e (subst (Other b) (get_or-drop from p (i - from) 0) (never (i - from) 0 (omega arith) (omega (arith, length-drop from p))))

pub found_ahead : (b : ℕ) (p : List ℕ) (from k : ℕ) → (k < length (drop from p)) × HoldsAt (λ x. x ≡ b) (drop from p) k × AllWithin (Other b) (drop from p) 0 k → Found b p from (from + k)
found_ahead b p from k h =
    let long = length-drop from p in
    record { low = omega arith; high = omega (arith, h.0); none = others; here = λ l. sym (get_or-drop from p k 0) ∙ h.1 0 }
  where
    others : (i : ℕ) → from ≤ i → i < from + k → get_or p i 0 ≡ b → ⊥
    others i a l =
        let e : from + (i - from) ≡ i = omega arith in
        subst (λ (n : ℕ). Other b (get_or p n 0)) e (subst (Other b) (get_or-drop from p (i - from) 0) (h.2 (i - from) 0 (omega arith) (omega arith)))

-- the words of a line are its parts round the spaces
front_is : (b : ℕ) (ws : List (List ℕ)) → front b ws ≡ onto_first b ws
front_is b [] = refl
front_is b (w ∷ ws) = refl

split_words : (p : List ℕ) → slice_split (λ b. eqb b 32) p ≡ words_in p
unfolding words_in
split_words [] = refl
split_words (b ∷ t) = ap (λ (ws : List (List ℕ)). cond (eqb b 32) ([] ∷ ws) (onto_first b ws)) (split_words t) ∙ ap (λ (ws : List (List ℕ)). cond (eqb b 32) ([] ∷ words_in t) ws) (sym (front_is b (words_in t)))

now_or : (o : Option (Bor (List ℕ))) (d : Bor (List ℕ)) → (unwrap_or o d).now ≡ unwrap_or (option_map (λ x. x.now) o) d.now
now_or None d = refl
now_or (Some x) d = refl

pub word_is : (p : List ℕ) (k : ℕ) (o : Option (Bor (List ℕ))) (d r : Bor (List ℕ)) → option_map (λ x. x.now) o ≡ slice_get (slice_split (λ b. eqb b 32) p) k → d.now ≡ [] → r ≡ unwrap_or o d → r.now ≡ word_at (words_in p) k
word_is p k o d r h n e =
    ap (λ (x : Bor (List ℕ)). x.now) e
    ∙ now_or o d
    ∙ (λ j. unwrap_or (h j) (n j))
    ∙ unwrap_or-slice_get (slice_split (λ b. eqb b 32) p) k []
    ∙ ap (λ (ws : List (List ℕ)). word_at ws k) (split_words p)

-- value: one byte more
pub value_more : (w : List ℕ) (i v n : ℕ) → i < length w → n ≡ value_from v (drop i w) → n ≡ value_from (grown v (get_or w i 0)) (drop (i + 1) w)
unfolding value_from
value_more w i v n h e = e ∙ ap (value_from v) (drop-cons w i 0 h) ∙ ap (λ (m : ℕ). value_from (grown v (get_or w i 0)) (drop m w)) (sym (add-one i))

pub value_all : (w : List ℕ) (i v n : ℕ) → length w ≤ i → n ≡ value_from v (drop i w) → v ≡ n
unfolding value_from
value_all w i v n h e = sym (e ∙ ap (value_from v) (drop_of_length-le w {i = i} h))

-- two runs of bytes
pub same_is : (a b : List ℕ) → bytes_eq a b ≡ same a b
same_is [] [] = refl
same_is [] (y ∷ b) = refl
same_is (x ∷ a) [] = refl
same_is (x ∷ a) (y ∷ b) = ap (λ (t : Bool). eqb x y && t) (same_is a b)
