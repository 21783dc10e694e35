-- Moves that may change places. Assumes nothing.
use mathlib.Core.Path.{◌≡◌, refl, sym, ◌∙◌, ap, fun_ext}
use mathlib.Core.Bool.{Bool, true, false}
use mathlib.Core.List.{List}
use mathlib.Core.Option.{Option}
use Prim.Native.Nat.{ℕ}
use Rattle.words.specs.Small.{is, put}
use Rattle.words.proofs.Bools.{put_swap}
use Rattle.cases.specs.declared.Case.{Case}
use Rattle.boards.specs.declared.Buffering.{Buffering}
use Rattle.boards.specs.Board.{Store, Board}
use Rattle.boards.specs.Machine.{Move, allowed, moved}
use Rattle.boards.specs.Apart.{who}
use Rattle.boards.proofs.Buffers.{same-board}
use Rattle.boards.proofs.Views.{View, view, set, lent, effect, board, after_other, allowed_other, allowed_view}
use Rattle.boards.proofs.Footprints.{Agree, Foot}

-- each can be made after the other, and both ways lead to one board
pub record Crossing (k : Buffering) (c : Case) (b : Board) (m z : Move) : Type 0 where
  pub later : allowed k c (moved k c b m) z ≡ true
  pub sooner : allowed k c (moved k c b z) m ≡ true
  pub meets : moved k c (moved k c b m) z ≡ moved k c (moved k c b z) m

-- what a change of the view w of a board leaves of what is touched at o
pub record Leaves (b : Board) (w : View) (o : Option ℕ) : Type 0 where
  pub locks : (l : ℕ) → is l o ≡ true → w.locks l ≡ b.holders l
  pub mem : (l : ℕ) → is l o ≡ true → w.mem l ≡ b.memory l

-- MOVES OF TWO PROCESSORS, each of which leaves what the other touches
module _ (k : Buffering) (c : Case) (b : Board) (m z : Move) (d : who z ≡ who m → ⊥)
    (o q : Option ℕ) (F : Foot k c m (view b (who m)) o) (G : Foot k c z (view b (who z)) q) where
  abbrev v : View
  v = view b (who m)

  abbrev u : View
  u = view b (who z)

  abbrev E : View
  E = effect k c m (view b (who m))

  abbrev H : View
  H = effect k c z (view b (who z))

  module _ (L : Leaves b E q) (M : Leaves b H o) where
    near_z : Agree q u E
    near_z = record { locks = L.locks; mem = L.mem }

    near_m : Agree o v H
    near_m = record { locks = M.locks; mem = M.mem }

    second : View
    second = effect k c z (lent (view b (who z)) (effect k c m (view b (who m))))

    first : View
    first = effect k c m (lent (view b (who m)) (effect k c z (view b (who z))))

    -- a part that all share, at l: that of a board x, after one, after the other, after both either way
    merge : {A : Type 0} (x e h s f : A) (l : ℕ) → (is l q ≡ true → s ≡ h) → (is l q ≡ false → s ≡ e) → (is l o ≡ true → f ≡ e) → (is l o ≡ false → f ≡ h)
        → (is l q ≡ true → e ≡ x) → (is l o ≡ true → h ≡ x) → (is l o ≡ false → e ≡ x) → (is l q ≡ false → h ≡ x) → s ≡ f
    merge x e h s f l st sf ft ff ex hx eo hq = step (is l q) (is l o) refl refl
      where
        step : (y w : Bool) → is l q ≡ y → is l o ≡ w → s ≡ f
        step true true p r = st p ∙ hx r ∙ sym (ex p) ∙ sym (ft r)
        step true false p r = st p ∙ sym (ff r)
        step false true p r = sf p ∙ sym (ft r)
        step false false p r = sf p ∙ eo r ∙ sym (hq p) ∙ sym (ff r)

    locks_meet : second.locks ≡ first.locks
    unfolding second first
    locks_meet = fun_ext λ l. merge (b.holders l) (E.locks l) (H.locks l) (second.locks l) (first.locks l) l
        (G.locks E near_z l) (G.keeps_locks E l) (F.locks H near_m l) (F.keeps_locks H l) (L.locks l) (M.locks l) (F.keeps_locks v l) (G.keeps_locks u l)

    mem_meet : second.mem ≡ first.mem
    unfolding second first
    mem_meet = fun_ext λ l. merge (b.memory l) (E.mem l) (H.mem l) (second.mem l) (first.mem l) l
        (G.mem E near_z l) (G.keeps_mem E l) (F.mem H near_m l) (F.keeps_mem H l) (L.mem l) (M.mem l) (F.keeps_mem v l) (G.keeps_mem u l)

    -- a part of each processor
    swapped : {A : Type 0} (f : ℕ → A) (e h s t : A) → s ≡ h → t ≡ e → put (put f (who m) e) (who z) s ≡ put (put f (who z) h) (who m) t
    swapped f e h s t p r = ap (put (put f (who m) e) (who z)) p ∙ put_swap f (who m) (who z) e h (λ x. d (sym x)) ∙ ap (put (put f (who z) h) (who m)) (sym r)

    boards_meet : set (set b (who m) E) (who z) second ≡ set (set b (who z) H) (who m) first
    unfolding second first
    boards_meet =
        same-board (set (set b (who m) E) (who z) second) (set (set b (who z) H) (who m) first)
        (swapped b.places E.place H.place second.place first.place (G.place E near_z) (F.place H near_m))
        (swapped b.values E.vals H.vals second.vals first.vals (G.vals E near_z) (F.vals H near_m))
        locks_meet mem_meet
        (λ p n. ap (λ (f : ℕ → ℕ → List Store). f p n) (swapped b.buffers E.bufs H.bufs second.bufs first.bufs (G.bufs E near_z) (F.bufs H near_m)))

    pub crossing-two : allowed k c b m ≡ true → allowed k c b z ≡ true → Crossing k c b m z
    unfolding second first
    crossing-two am az =
        record {
          later = allowed_other k c b m z d ∙ G.fits E near_z (sym (allowed_view k c b z) ∙ az);
          sooner = allowed_other k c b z m (λ e. d (sym e)) ∙ F.fits H near_m (sym (allowed_view k c b m) ∙ am);
          meets = after_other k c b m z d ∙ boards_meet ∙ sym (after_other k c b z m (λ e. d (sym e)));
        }
