-- What is read does not depend on where the pieces end. Assumes nothing.
use mathlib.Core.Path.{◌≡◌, sym, ap, ◌∙◌, subst}
use mathlib.Core.List.{List, [], ◌∷◌, ◌++◌, append-nil}
use Prim.Native.Nat.{ℕ}
use lib.ListN.{take}
use Rattle.words.specs.Small.{concat_map}
use Rattle.words.proofs.Lists.{concat_map-append}
use Rattle.shelves.specs.declared.Reading.{Reading}
use Rattle.shelves.specs.Readings.{After, ReadIn, unread, onwards}

-- the pieces, one behind the other
abbrev joined : List (List ℕ) → List ℕ
joined = concat_map (λ piece. piece)

-- A FILE READ IN PIECES IS READ
pub read_in : (pieces : List (List ℕ)) {r : Reading} → ReadIn pieces r → After (joined pieces) r
read_in pieces (unread h) = h
read_in pieces (onwards {pieces = ps} {piece = p} {s = s} before next) =
    let e : joined ps ++ p ≡ joined (ps ++ (p ∷ [])) = ap (λ (l : List ℕ). joined ps ++ l) (sym (append-nil p)) ∙ sym (concat_map-append (λ piece. piece) ps (p ∷ [])) in
    subst (λ (file : List ℕ). After file s) e (next.after (joined ps) (read_in ps before))

-- AT MOST ONE READING OF A FILE
pub after_only : (file : List ℕ) {r s : Reading} → After file r → After file s → (r.tally ≡ s.tally) × (r.over ≡ s.over) × (take r.over r.rest ≡ take s.over s.rest)
after_only file x y = (x.counts ∙ sym y.counts, x.over ∙ sym y.over, x.rest ∙ sym y.rest)

-- WHEREVER THE PIECES END
pub same-reading :
    (ps qs : List (List ℕ)) {r s : Reading} → joined ps ≡ joined qs → ReadIn ps r → ReadIn qs s
    → (r.tally ≡ s.tally) × (r.over ≡ s.over) × (take r.over r.rest ≡ take s.over s.rest)
same-reading ps qs {r} {s} e x y = after_only (joined qs) (subst (λ (file : List ℕ). After file r) e (read_in ps x)) (read_in qs y)
