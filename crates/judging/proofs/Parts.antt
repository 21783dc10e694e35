-- A text and its lines. Assumes nothing.
use mathlib.Core.Path.{◌≡◌, refl, ap, sym, ◌∙◌}
use mathlib.Core.Logic.{⊎_elim}
use mathlib.Core.Bool.{Bool, true, false, not}
use mathlib.Core.List.{List, [], ◌∷◌, ◌++◌, map, append_assoc}
use Prim.Native.Nat.{ℕ, zero, suc, ◌+◌, ◌≤◌}
use native.Mathlib.Omega.{arith}
use lib.Dec.{eqb, ltb}
use lib.ListN.{length, take}
use borrow.Author.Tests.{eqb-true, ne_eqb, ltb-true}
use Rattle.words.specs.Small.{all, concat_map}
use Rattle.words.proofs.Bools.{decide, and_both, and_make, cond-true, cond-false}
use Rattle.texts.specs.Lines.{Line}
use Rattle.texts.specs.Text.{body, line_bytes}
use Rattle.texts.specs.Reading.{feeds, up_to}
use Rattle.judging.specs.Parse.{before, parts}
use Rattle.judging.proofs.Words.{over, over_body}

-- a line with its line feed
abbrev pub ended : List ℕ → List ℕ
ended p = p ++ (10 ∷ [])

-- by the first byte
module _ (b : ℕ) (t : List ℕ) where
  pub parts_feed : eqb b 10 ≡ true → parts (b ∷ t) ≡ [] ∷ parts t
  unfolding parts
  parts_feed h = cond-true (eqb b 10) ([] ∷ parts t) (before b (parts t)) h

  pub parts_other : eqb b 10 ≡ false → parts (b ∷ t) ≡ before b (parts t)
  unfolding parts
  parts_other h = cond-false (eqb b 10) ([] ∷ parts t) (before b (parts t)) h

  up_to_feed : (n : ℕ) → eqb b 10 ≡ true → up_to (suc n) (b ∷ t) ≡ b ∷ up_to n t
  unfolding up_to
  up_to_feed n h = ap (λ (l : List ℕ). b ∷ l) (cond-true (eqb b 10) (up_to n t) (up_to (suc n) t) h)

  up_to_other : (n : ℕ) → eqb b 10 ≡ false → up_to (suc n) (b ∷ t) ≡ b ∷ up_to (suc n) t
  unfolding up_to
  up_to_other n h = ap (λ (l : List ℕ). b ∷ l) (cond-false (eqb b 10) (up_to n t) (up_to (suc n) t) h)

  feeds_feed : eqb b 10 ≡ true → feeds (b ∷ t) ≡ suc (feeds t)
  unfolding feeds
  feeds_feed h = ap (λ (n : ℕ). n + feeds t) (cond-true {A = ℕ} (eqb b 10) 1 0 h) ∙ omega arith

  feeds_other : eqb b 10 ≡ false → feeds (b ∷ t) ≡ feeds t
  unfolding feeds
  feeds_other h = ap (λ (n : ℕ). n + feeds t) (cond-false {A = ℕ} (eqb b 10) 1 0 h) ∙ omega arith

before-length : (b : ℕ) (ps : List (List ℕ)) → length (before b ps) ≡ length ps
before-length b [] = refl
before-length b (p ∷ ps) = refl

-- as many line feeds as ended lines
pub feeds-parts : (t : List ℕ) → feeds t ≡ length (parts t)
unfolding feeds parts
feeds-parts [] = refl
feeds-parts (b ∷ t) = ⊎_elim (λ h. feeds_feed b t h ∙ ap suc (feeds-parts t) ∙ sym (ap length (parts_feed b t h))) (λ h. feeds_other b t h ∙ feeds-parts t ∙ sym (before-length b (parts t)) ∙ sym (ap length (parts_other b t h))) (decide (eqb b 10))

-- the text up to a line's end is its lines
before-take : (b n : ℕ) (ps : List (List ℕ)) → suc n ≤ length ps → b ∷ concat_map ended (take (suc n) ps) ≡ concat_map ended (take (suc n) (before b ps))
before-take b n [] h = absurd (omega arith)
before-take b n (p ∷ ps) h = refl

pub up_to-parts : (t : List ℕ) (n : ℕ) → n ≤ length (parts t) → up_to n t ≡ concat_map ended (take n (parts t))
unfolding up_to parts
up_to-parts [] zero h = refl
up_to-parts [] (suc n) h = refl
up_to-parts (b ∷ t) zero h = refl
up_to-parts (b ∷ t) (suc n) h =
    ⊎_elim
    (λ e. up_to_feed b t n e ∙ (λ j. eqb-true b 10 e j ∷ up_to-parts t n (omega (arith, ap length (parts_feed b t e))) j) ∙ sym (ap (λ (ps : List (List ℕ)). concat_map ended (take (suc n) ps)) (parts_feed b t e)))
    (λ e.
    let long : suc n ≤ length (parts t) = omega (arith, ap length (parts_other b t e), before-length b (parts t)) in
    up_to_other b t n e ∙ ap (λ (l : List ℕ). b ∷ l) (up_to-parts t (suc n) long) ∙ before-take b n (parts t) long ∙ sym (ap (λ (ps : List (List ℕ)). concat_map ended (take (suc n) ps)) (parts_other b t e)))
    (decide (eqb b 10))

-- lines without line feeds

abbrev pub free : List ℕ → Bool
free p = all (λ b. not (eqb b 10)) p

abbrev pub frees : List (List ℕ) → Bool
frees ps = all free ps

before_free : (b : ℕ) (ps : List (List ℕ)) → eqb b 10 ≡ false → frees ps ≡ true → frees (before b ps) ≡ true
before_free b [] e h = refl
before_free b (p ∷ ps) e h = let r = and_both (free p) (frees ps) h in and_make (free (b ∷ p)) (frees ps) (and_make (not (eqb b 10)) (free p) (ap not e) r.0) r.1

pub parts_free : (t : List ℕ) → frees (parts t) ≡ true
unfolding parts
parts_free [] = refl
parts_free (b ∷ t) = ⊎_elim (λ e. ap frees (parts_feed b t e) ∙ parts_free t) (λ e. ap frees (parts_other b t e) ∙ before_free b (parts t) e (parts_free t)) (decide (eqb b 10))

pub take_free : (n : ℕ) (ps : List (List ℕ)) → frees ps ≡ true → frees (take n ps) ≡ true
take_free zero ps h = refl
take_free (suc n) [] h = refl
take_free (suc n) (p ∷ ps) h = let r = and_both (free p) (frees ps) h in and_make (free p) _ r.0 (take_free n ps r.1)

one_part : (q r : List ℕ) → free q ≡ true → parts (q ++ (10 ∷ r)) ≡ q ∷ parts r
unfolding parts
one_part [] r h = refl
one_part (b ∷ q) r h =
    let z = and_both (not (eqb b 10)) (free q) h in
    parts_other b (q ++ (10 ∷ r)) (borrow.Author.Tests.not-true (eqb b 10) z.0) ∙ ap (before b) (one_part q r z.1)

-- the lines of ended lines and more are these lines and more
pub parts-append : (qs : List (List ℕ)) (s : List ℕ) → frees qs ≡ true → parts (concat_map ended qs ++ s) ≡ qs ++ parts s
parts-append [] s h = refl
parts-append (q ∷ qs) s h =
    let z = and_both (free q) (frees qs) h in
    ap parts (append_assoc (ended q) (concat_map ended qs) s ∙ append_assoc q (10 ∷ []) (concat_map ended qs ++ s))
    ∙ one_part q (concat_map ended qs ++ s) z.0
    ∙ ap (λ (l : List (List ℕ)). q ∷ l) (parts-append qs s z.1)

over_free : (w : List ℕ) → over 10 w ≡ true → free w ≡ true
over_free [] h = refl
over_free (b ∷ w) h = let r = and_both (ltb 10 b) (over 10 w) h in and_make (not (eqb b 10)) _ (ap not (ne_eqb b 10 (λ e. omega (arith, ltb-true 10 b r.0)))) (over_free w r.1)

pub bodies_free : (ls : List Line) → frees (map body ls) ≡ true
bodies_free [] = refl
bodies_free (l ∷ ls) = and_make (free (body l)) _ (over_free (body l) (over_body l)) (bodies_free ls)

-- the bytes of lines
pub lines_bytes : (ls : List Line) → concat_map line_bytes ls ≡ concat_map ended (map body ls)
unfolding line_bytes
lines_bytes [] = refl
lines_bytes (l ∷ ls) = ap (λ (t : List ℕ). ended (body l) ++ t) (lines_bytes ls)

-- the lines in front of mapped lines
pub map-front : {A B : Type 0} (f : A → B) (qs rs : List B) (xs : List A) → qs ++ rs ≡ map f xs → (a : List A) × (b : List A) × (xs ≡ a ++ b) × (qs ≡ map f a)
map-front f [] rs xs h = ([], xs, refl, refl)
map-front f (q ∷ qs) rs [] h = absurd (nil-cons (sym h))
  where
    nil-cons : {B : Type 0} {x : B} {l : List B} → [] ≡ x ∷ l → ⊥
    nil-cons {B} {x} {l} e = let z : ◌≡◌ {A = ℕ} 0 1 = ap (λ (l : List B). size l) e in omega arith
      where
        size : List B → ℕ
        size [] = 0
        size (y ∷ l) = 1
map-front f (q ∷ qs) rs (x ∷ xs) h =
    let e : q ≡ f x = cc in
    let t : qs ++ rs ≡ map f xs = cc in
    let r = map-front f qs rs xs t in
    (x ∷ r.0, r.1, ap (λ (l : List _). x ∷ l) r.2, λ j. e j ∷ r.3 j)
