-- An array that is stored to, and what it shows. Assumes nothing.
use mathlib.Core.Path.{◌≡◌, sym, ◌∙◌, ap, subst, fun_ext}
use mathlib.Core.Logic.{⊎_elim}
use mathlib.Core.Bool.{true, false, cond}
use mathlib.Core.List.{List}
use mathlib.Core.Option.{some}
use Prim.Native.Nat.{ℕ, ◌<◌}
use lib.Dec.{eqb, ltb}
use lib.ListN.{length, get_or, set}
use lib.Seq.{get_or-set_same, get_or-set_other}
use borrow.Author.Tests.{lt-ltb, ne_eqb, eqb-true, eqb-false}
use Rattle.words.specs.Small.{put}
use Rattle.words.proofs.Bools.{decide}
use Rattle.cases.specs.declared.Case.{Case}
use Rattle.machine.specs.declared.Entry.{Entry}
use Rattle.machine.specs.Word.{entry_of}
use Rattle.machine.specs.Shown.{shown_entry, actions_of, place_of}

-- seen through f
pub set_put : {A B : Type 0} (f : A → B) (l : List A) (d : A) (p : ℕ) (v : A) (w : B) → p < length l → f v ≡ w → (λ (q : ℕ). f (get_or (set l p v) q d)) ≡ put (λ (q : ℕ). f (get_or l q d)) p w
set_put f l d p v w h e = fun_ext at
  where
    at : (q : ℕ) → f (get_or (set l p v) q d) ≡ cond (eqb q p) w (f (get_or l q d))
    at q = ⊎_elim same other (decide (eqb q p))
      where
        same : eqb q p ≡ true → f (get_or (set l p v) q d) ≡ cond (eqb q p) w (f (get_or l q d))
        same x = rw x (ap (λ (y : ℕ). f (get_or (set l p v) y d)) (eqb-true q p x) ∙ ap f (get_or-set_same l p v d h) ∙ e)

        other : eqb q p ≡ false → f (get_or (set l p v) q d) ≡ cond (eqb q p) w (f (get_or l q d))
        other x = rw x (ap f (get_or-set_other l p q v d (eqb-false q p x)))

-- what holds of one element
pub set_at : {A : Type 0} (Q : A → Type 0) (l : List A) (d : A) (p q : ℕ) (v : A) → p < length l → (q ≡ p → Q v) → ((q ≡ p → ⊥) → Q (get_or l q d)) → Q (get_or (set l p v) q d)
set_at Q l d p q v h new old = ⊎_elim
    (λ x. subst Q (sym (ap (λ (y : ℕ). get_or (set l p v) y d) (eqb-true q p x) ∙ get_or-set_same l p v d h)) (new (eqb-true q p x)))
    (λ x. subst Q (sym (get_or-set_other l p q v d (eqb-false q p x))) (old (eqb-false q p x)))
    (decide (eqb q p))

-- what holds of the elements below n
pub set_all : {A : Type 0} (Q : A → Type 0) (l : List A) (d : A) (n p : ℕ) (v : A) → p < length l → Q v → ((q : ℕ) → q < n → (q ≡ p → ⊥) → Q (get_or l q d)) → (q : ℕ) → q < n → Q (get_or (set l p v) q d)
set_all Q l d n p v h new old q lt = set_at Q l d p q v h (λ e. new) (old q lt)

-- the actions, where word k of the first n becomes w
pub actions_set : (c : Case) (m n k : ℕ) (acts : List ℕ) (w : ℕ) (e : Entry) → entry_of w ≡ e → k < n → k < length acts → ((j : ℕ) → (j ≡ k → ⊥) → ltb j n ≡ ltb j m) → actions_of c n (set acts k w) ≡ put (actions_of c m acts) k (shown_entry c e)
actions_set c m n k acts w e holds lt long same = fun_ext at
  where
    at : (j : ℕ) → actions_of c n (set acts k w) j ≡ put (actions_of c m acts) k (shown_entry c e) j
    at j = ⊎_elim here there (decide (eqb j k))
      where
        here : eqb j k ≡ true → actions_of c n (set acts k w) j ≡ put (actions_of c m acts) k (shown_entry c e) j
        here h = rw h (ap (actions_of c n (set acts k w)) (eqb-true j k h) ∙ rw (lt-ltb k n lt, get_or-set_same acts k w 0 long, holds))

        there : eqb j k ≡ false → actions_of c n (set acts k w) j ≡ put (actions_of c m acts) k (shown_entry c e) j
        there h = rw (h, same j (eqb-false j k h), get_or-set_other acts k j w 0 (eqb-false j k h))

pub place-some : (n : ℕ) → (n ≡ 255 → ⊥) → place_of n ≡ some n
place-some n h = rw (ne_eqb n 255 h)
