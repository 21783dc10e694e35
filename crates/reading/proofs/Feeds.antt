-- Lines found in a text byte by byte. Assumes nothing.
use mathlib.Core.Path.{◌≡◌, ap, sym, ◌∙◌}
use mathlib.Core.Bool.{Bool, true, false}
use mathlib.Core.List.{List, [], ◌∷◌}
use Prim.Native.Nat.{ℕ, zero, suc, ◌+◌, ◌-◌, ◌<◌, ◌≤◌}
use native.Mathlib.Omega.{arith}
use native.Mathlib.Numerals.{add-one}
use lib.Dec.{eqb}
use lib.ListN.{length, get_or, drop, drop_of_length-le}
use lib.Seq.{drop-cons}
use borrow.Author.Tests.{eq-eqb, ne_eqb}
use Rattle.scanning.specs.Found.{Found, part}
use Rattle.judging.specs.Parse.{before, parts, whole_from, whole}
use Rattle.judging.proofs.Parts.{parts_feed, parts_other}
use Rattle.scanning.proofs.Scanning.{part-cons, part_none}

-- the lines from a position on: the first ends at the first line feed
pub parts_at : (m : ℕ) (t : List ℕ) (from e : ℕ) → e - from ≡ m → e < length t → Found 10 t from e → parts (drop from t) ≡ part from e t ∷ parts (drop (e + 1) t)
parts_at zero t from e h l s =
    let lo = s.low in
    let q : from ≡ e = omega arith in
    ap (λ (n : ℕ). parts (drop n t)) q
    ∙ ap parts (drop-cons t e 0 l)
    ∙ parts_feed (get_or t e 0) (drop (suc e) t) (eq-eqb (get_or t e 0) 10 (s.here l))
    ∙ (λ j. sym (part_none from e t (omega arith)) j ∷ parts (drop (sym (add-one e) j) t))
parts_at (suc m) t from e h l s =
    let hi = s.high in
    let more = parts_at m t (suc from) e (omega arith) l (record { low = omega arith; high = hi; none = λ i a b. s.none i (omega arith) b; here = s.here }) in
    ap parts (drop-cons t from 0 (omega arith))
    ∙ parts_other (get_or t from 0) (drop (suc from) t) (ne_eqb (get_or t from 0) 10 (s.none from (omega arith) (omega arith)))
    ∙ ap (before (get_or t from 0)) more
    ∙ ap (λ (w : List ℕ). w ∷ parts (drop (e + 1) t)) (sym (part-cons from e t (omega arith) hi))

pub nil-parts : (l : List ℕ) → l ≡ [] → parts l ≡ []
unfolding parts
nil-parts l h = ap parts h

pub nil-whole : (l : List ℕ) → l ≡ [] → whole l ≡ true
unfolding whole_from
nil-whole l h = ap whole h

-- no line is ended any more
pub parts_end : (m : ℕ) (t : List ℕ) (from e : ℕ) → e - from ≡ m → length t ≤ e → Found 10 t from e → parts (drop from t) ≡ []
parts_end zero t from e h l s = nil-parts (drop from t) (drop_of_length-le t {i = from} (omega (arith, s.low)))
parts_end (suc m) t from e h l s =
    let hi = s.high in
    let more = parts_end m t (suc from) e (omega arith) l (record { low = omega arith; high = hi; none = λ i a b. s.none i (omega arith) b; here = s.here }) in
    ap parts (drop-cons t from 0 (omega arith))
    ∙ parts_other (get_or t from 0) (drop (suc from) t) (ne_eqb (get_or t from 0) 10 (s.none from (omega arith) (omega arith)))
    ∙ ap (before (get_or t from 0)) more

-- the end of the text, past a line and in one that is not ended
pub whole_at : (m : ℕ) (t : List ℕ) (from e : ℕ) (x : Bool) → e - from ≡ m → e < length t → Found 10 t from e → whole_from x (drop from t) ≡ whole (drop (e + 1) t)
unfolding whole_from
whole_at zero t from e x h l s =
    let lo = s.low in
    let q : from ≡ e = omega arith in
    ap (λ (n : ℕ). whole_from x (drop n t)) q
    ∙ ap (whole_from x) (drop-cons t e 0 l)
    ∙ (λ j. whole_from (eq-eqb (get_or t e 0) 10 (s.here l) j) (drop (sym (add-one e) j) t))
whole_at (suc m) t from e x h l s =
    let hi = s.high in
    ap (whole_from x) (drop-cons t from 0 (omega arith))
    ∙ whole_at m t (suc from) e (eqb (get_or t from 0) 10) (omega arith) l (record { low = omega arith; high = hi; none = λ i a b. s.none i (omega arith) b; here = s.here })

pub whole-none : (m : ℕ) (t : List ℕ) (from e : ℕ) (x : Bool) → e - from ≡ m → length t ≤ e → Found 10 t from e → (e ≡ from → x ≡ false) → whole_from x (drop from t) ≡ false
unfolding whole_from
whole-none zero t from e x h l s f = ap (whole_from x) (drop_of_length-le t {i = from} (omega (arith, s.low))) ∙ f (omega (arith, s.low))
whole-none (suc m) t from e x h l s f =
    let hi = s.high in
    ap (whole_from x) (drop-cons t from 0 (omega arith))
    ∙ whole-none m t (suc from) e (eqb (get_or t from 0) 10) (omega arith) l (record { low = omega arith; high = hi; none = λ i a b. s.none i (omega arith) b; here = s.here }) (λ q. ne_eqb (get_or t from 0) 10 (s.none from (omega arith) (omega arith)))
