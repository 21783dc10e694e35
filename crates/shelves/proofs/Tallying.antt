-- A tally with more blocks is the tally of all of them. Assumes nothing.
use mathlib.Core.Path.{◌≡◌, refl, sym, ap, ◌∙◌, fun_ext}
use mathlib.Core.Bool.{Bool, true, false, cond}
use mathlib.Core.List.{List, [], ◌∷◌, ◌++◌, append_assoc, append-nil}
use Prim.Native.Nat.{ℕ, ◌+◌, ◌<◌}
use native.Mathlib.Omega.{arith}
use lib.Dec.{eqb}
use lib.ListN.{length, get_or, length-set, length-append}
use lib.Seq.{get_or-set_same, get_or-set_other}
use borrow.Author.Tests.{eqb-true, eqb-false}
use Rattle.words.specs.Small.{each, concat_map}
use Rattle.words.proofs.Lists.{each_length, each_at, each_is, concat_map-append}
use Rattle.shelves.specs.declared.Tally.{Tally}
use Rattle.shelves.specs.Counts.{count, code_of, ops_in, refused, instructions}
use Rattle.shelves.specs.Tallies.{kept, tally_of, raised, raised_all, counted, counted_all}

pub count-append : {A : Type 0} (f : A → Bool) (xs ys : List A) → count f (xs ++ ys) ≡ count f xs + count f ys
unfolding count
count-append f [] ys = omega arith
count-append f (x ∷ xs) ys = omega (arith, count-append f xs ys)

-- one more at k
module _ (n k : ℕ) (f : ℕ → ℕ) where
  abbrev counts : List ℕ
  counts = each n (λ j. kept (f j))

  at : (j : ℕ) → j < n → (b : Bool) → eqb k j ≡ b → get_or (raised counts k) j 0 ≡ kept (f j + cond b 1 0)
  at j h true e =
      let same : k ≡ j = eqb-true k j e in
      ap (λ (i : ℕ). get_or (raised counts i) j 0) same
      ∙ get_or-set_same counts j (kept (get_or counts j 0 + 1)) 0 (omega (arith, each_length (λ i. kept (f i)) n))
      ∙ omega (arith, each_at (λ i. kept (f i)) n j 0 h)
  at j h false e =
      get_or-set_other counts k j (kept (get_or counts k 0 + 1)) 0 (λ q. absurd (eqb-false k j e (sym q)))
      ∙ omega (arith, each_at (λ i. kept (f i)) n j 0 h)

  raised_each : raised counts k ≡ each n (λ j. kept (f j + cond (eqb k j) 1 0))
  raised_each =
      each_is (λ j. kept (f j + cond (eqb k j) 1 0)) 0 (raised counts k) n
      (length-set counts k (kept (get_or counts k 0 + 1)) ∙ each_length (λ j. kept (f j)) n)
      (λ j h. at j h (eqb k j) refl)

-- one more at each k of a list
raised_all_lem : (n : ℕ) (f : ℕ → ℕ) (ks : List ℕ) → raised_all (each n (λ j. kept (f j))) ks ≡ each n (λ j. kept (f j + count (λ k. eqb k j) ks))
unfolding raised_all count
raised_all_lem n f [] = ap (each n) (fun_ext λ j. omega arith)
raised_all_lem n f (k ∷ ks) =
    ap (λ (counts : List ℕ). raised_all counts ks) (raised_each n k f)
    ∙ raised_all_lem n (λ j. f j + cond (eqb k j) 1 0) ks
    ∙ ap (each n) (fun_ext λ j. omega arith)

module _ (bs : List (List ℕ)) (b : List ℕ) where
  code_more : (code : ℕ) → refused bs code + cond (eqb (code_of b) code) 1 0 ≡ refused (bs ++ (b ∷ [])) code
  unfolding count
  code_more code = omega (arith, count-append (λ block. eqb (code_of block) code) bs (b ∷ []))

  op_more : (op : ℕ) → instructions bs op + count (λ k. eqb k op) (ops_in b) ≡ instructions (bs ++ (b ∷ [])) op
  op_more op =
      sym (count-append (λ k. eqb k op) (concat_map ops_in bs) (ops_in b))
      ∙ ap (count (λ k. eqb k op)) (ap (λ (l : List ℕ). concat_map ops_in bs ++ l) (sym (append-nil (ops_in b))) ∙ sym (concat_map-append ops_in bs (b ∷ [])))

  tally_more : counted (tally_of bs) b ≡ tally_of (bs ++ (b ∷ []))
  unfolding counted tally_of
  tally_more =
      let blocks : kept (kept (length bs) + 1) ≡ kept (length (bs ++ (b ∷ []))) = omega (arith, length-append bs (b ∷ [])) in
      let codes = raised_each 20 (code_of b) (refused bs) ∙ ap (each 20) (fun_ext λ code. ap kept (code_more code)) in
      let ops = raised_all_lem 11 (instructions bs) (ops_in b) ∙ ap (each 11) (fun_ext λ op. ap kept (op_more op)) in
      λ j. record { blocks = blocks j; codes = codes j; ops = ops j }

pub tally_all : (bs cs : List (List ℕ)) → counted_all (tally_of bs) cs ≡ tally_of (bs ++ cs)
unfolding counted_all
tally_all bs [] = ap tally_of (sym (append-nil bs))
tally_all bs (c ∷ cs) =
    ap (λ (t : Tally). counted_all t cs) (tally_more bs c)
    ∙ tally_all (bs ++ (c ∷ [])) cs
    ∙ ap tally_of (append_assoc bs (c ∷ []) cs)
