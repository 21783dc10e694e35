-- What can be found from a board, an outcome or the cut: at the end, with no instruction left, and move by move. Assumes nothing.
use mathlib.Core.Path.{◌≡◌, refl, sym, ◌∙◌, ap, subst}
use mathlib.Core.Logic.{◌⊎◌, ⊎_elim}
use mathlib.Core.Bool.{Bool, true, false, cond, not, ◌&&◌, false≢true}
use mathlib.Core.List.Memᴰ
use mathlib.Core.List.{List, [], ◌∷◌, Memᴰ}
use mathlib.Core.Option.{Option, none}
use Prim.Native.Nat.{ℕ, zero, suc, ◌+◌, ◌≤◌, ◌<◌}
use native.Mathlib.Omega.{arith}
use lib.Dec.{eqb, ltb}
use borrow.Author.Tests.{not-false}
use Rattle.words.specs.Small.{all, counting, concat_map, some_below}
use Rattle.words.proofs.Bools.{decide, and_both, and_make, below_cases}
use Rattle.cases.specs.declared.Case.{Case}
use Rattle.cases.specs.Case.{count_of}
use Rattle.runs.proofs.Walk.{stop, go}
use Rattle.rules.specs.Result.{register_bytes}
use Rattle.boards.specs.declared.Buffering.{Buffering}
use Rattle.boards.specs.Board.{Store, Board, filled}
use Rattle.boards.specs.Drain.{drained}
use Rattle.boards.specs.Machine.{Move, run, drain, allowed, moved, ended, finished, registers}
use Rattle.boards.specs.Question.{Question, outcome, cut, Yes}
use Rattle.boards.specs.Waiting.{held}
use Rattle.boards.specs.Listing.{instructions, counted}
use Rattle.boards.proofs.Accepted.{Runs, code_allowed, move_first, drain_make}
use Rattle.boards.proofs.Stable.{outcome_of, cut_of, outcome_run, cut_run, unended}
use Rattle.boards.proofs.Waiting.{held_drain}

-- drains alone

counting-low : (n k i : ℕ) → Memᴰ i (counting k n) → i < k + n
counting-low zero k i m = absurd (Memᴰ.not-nil m)
counting-low (suc n) k i m = ⊎_elim (λ e. omega arith) (λ t. omega (arith, counting-low n (suc k) i t)) (Memᴰ.cases_cons m)

all_fails : {A : Type 0} (f : A → Bool) (l : List A) → all f l ≡ false → (x : A) × Memᴰ x l × (f x ≡ false)
all_fails f [] h = absurd (false≢true (sym h))
all_fails f (x ∷ xs) h = step (all_fails f xs) (f x) refl h
  where
    step : (all f xs ≡ false → (y : _) × Memᴰ y xs × (f y ≡ false)) → (b : Bool) → f x ≡ b → (b && all f xs) ≡ false → (y : _) × Memᴰ y (x ∷ xs) × (f y ≡ false)
    step more true e h = let r = more h in (r.0, Memᴰ.tail r.1, r.2)
    step more false e h = (x, Memᴰ.head refl, e)

-- what they leave
pub record Same (b d : Board) : Type 0 where
  pub places : d.places ≡ b.places
  pub values : d.values ≡ b.values

drained-same : (b : Board) (p n : ℕ) (xs : List Store) → Same b (drained b p n xs)
drained-same b p n [] = record { places = refl; values = refl }
drained-same b p n (x ∷ xs) = record { places = refl; values = refl }

-- the buffers of all processors are empty
abbrev bare : Case → Board → Bool
bare c b = all (λ p. not (some_below c.locs (λ n. filled (b.buffers p n)))) (counting 0 c.procs)

module _ (c : Case) {b d : Board} (S : Same b d) where
  pub same_ended : ended c d ≡ ended c b
  unfolding ended
  same_ended = ap (λ (f : ℕ → ℕ). all (λ p. eqb (f p) (count_of c p)) (counting 0 c.procs)) S.places

  pub same-registers : registers c d ≡ registers c b
  unfolding registers
  same-registers = ap (λ (f : ℕ → ℕ → Option ℕ). concat_map (λ p. concat_map (λ r. register_bytes (cond (ltb p c.procs) (f p r) none)) (counting 0 8)) (counting 0 4)) S.values

module _ (k : Buffering) (c : Case) where
  -- a run without an instruction
  pub drains-same : (ms : List Move) {b e : Board} → Runs k c b ms e → instructions ms ≡ 0 → Same b e
  unfolding instructions moved
  drains-same [] (stop h) z = record { places = ap (λ (b : Board). b.places) (sym h); values = ap (λ (b : Board). b.values) (sym h) }
  drains-same (run p ∷ ms) w z = absurd (omega arith)
  drains-same (drain p n ∷ ms) {b} (go h w) z =
      let S = drains-same ms w z in
      let T = drained-same b p n (b.buffers p n) in
      record { places = S.places ∙ T.places; values = S.values ∙ T.values }

  -- drains that leave the buffers empty
  record Emptied (b : Board) : Type 0 where
    moves : List Move
    end : Board
    walk : Runs k c b moves end
    alone : instructions moves ≡ 0
    empty : bare c end ≡ true

  emptied_more : (b : Board) (p n : ℕ) → allowed k c b (drain p n) ≡ true → Emptied (moved k c b (drain p n)) → Emptied b
  unfolding instructions
  emptied_more b p n h r = record { moves = drain p n ∷ r.moves; end = r.end; walk = move_first k c b (drain p n) h r.walk; alone = r.alone; empty = r.empty }

  emptied_none : (b : Board) → bare c b ≡ true → Emptied b
  unfolding instructions
  emptied_none b h = record { moves = []; end = b; walk = stop refl; alone = refl; empty = h }

  full_at : (b : Board) → bare c b ≡ false → (p : ℕ) × (n : ℕ) × (allowed k c b (drain p n) ≡ true)
  full_at b h =
      let v = all_fails (λ p. not (some_below c.locs (λ n. filled (b.buffers p n)))) (counting 0 c.procs) h in
      let w = below_cases c.locs (λ n. filled (b.buffers v.0 n)) (not-false _ v.2) in
      (v.0, w.0, drain_make k c b v.0 w.0 (record { proc = omega (arith, counting-low c.procs 0 v.0 v.1); buffer = w.1; holds = w.2 }))

  emptied : (f : ℕ) (b : Board) → held c b.buffers ≤ f → Emptied b
  emptied zero b h = ⊎_elim (emptied_none b) (λ e. let v = full_at b e in absurd (omega (arith, held_drain k c b v.0 v.1 v.2))) (decide (bare c b))
  emptied (suc f) b h =
      ⊎_elim (emptied_none b)
      (λ e. let v = full_at b e in emptied_more b v.0 v.1 v.2 (emptied f (moved k c b (drain v.0 v.1)) (omega (arith, held_drain k c b v.0 v.1 v.2))))
      (decide (bare c b))

  -- no instruction runs where every place counter is at its count
  ended-alone : (ms : List Move) {b e : Board} → Runs k c b ms e → ended c b ≡ true → instructions ms ≡ 0
  unfolding instructions moved
  ended-alone [] w h = refl
  ended-alone (run p ∷ ms) {b} (go g w) h = absurd (false≢true (sym (unended k c b p (code_allowed k c b (run p) g)) ∙ h))
  ended-alone (drain p n ∷ ms) {b} (go g w) h = ended-alone ms w (same_ended c (drained-same b p n (b.buffers p n)) ∙ h)

  module _ (b : Board) (h : ended c b ≡ true) where
    -- AT THE END: the registers are an outcome, whatever is buffered, and the only one
    pub end_yes : (n : ℕ) → Yes k c b n (outcome (registers c b))
    unfolding finished
    end_yes n =
        let E = emptied (held c b.buffers) b (omega arith) in
        let S = drains-same E.moves E.walk E.alone in
        outcome_of k c E.walk (omega (arith, E.alone)) (and_make _ _ (same_ended c S ∙ h) E.empty) (same-registers c S)

    pub end_only : (n : ℕ) (q : Question) → Yes k c b n q → q ≡ outcome (registers c b)
    end_only n (outcome r) o =
        let w = outcome_run k c o in
        ap outcome (sym o.gives ∙ same-registers c (drains-same o.moves w (ended-alone o.moves w h)))
    end_only n cut o =
        let w = cut_run k c o in
        absurd (false≢true (sym o.undone ∙ same_ended c (drains-same o.moves w (ended-alone o.moves w h)) ∙ h))

  module _ (b : Board) (h : ended c b ≡ false) where
    -- NO INSTRUCTION TO GO: the run is cut
    pub stop_yes : Yes k c b 0 cut
    unfolding instructions
    stop_yes = cut_of k c (stop refl) refl h

    pub stop_only : (q : Question) → Yes k c b 0 q → q ≡ cut
    unfolding finished
    stop_only (outcome r) o =
        let w = outcome_run k c o in
        absurd (false≢true (sym (same_ended c (drains-same o.moves w (omega (arith, o.short))) ∙ h) ∙ (and_both (ended c o.end) _ o.done).0))
    stop_only cut o = refl

  -- the instructions to go after a move, of n + 1
  abbrev pub left : Move → ℕ → ℕ
  left (run p) n = n
  left (drain p m) n = suc n

  -- A MOVE MORE
  pub move_more : (b : Board) (m : Move) (n : ℕ) → allowed k c b m ≡ true → (q : Question) → Yes k c (moved k c b m) n q → Yes k c b (counted m n) q
  unfolding instructions
  move_more b (run p) n h (outcome r) o = outcome_of k c (move_first k c b (run p) h (outcome_run k c o)) (omega (arith, o.short)) o.done o.gives
  move_more b (run p) n h cut o = cut_of k c (move_first k c b (run p) h (cut_run k c o)) (ap suc o.exact) o.undone
  move_more b (drain p m) n h (outcome r) o = outcome_of k c (move_first k c b (drain p m) h (outcome_run k c o)) o.short o.done o.gives
  move_more b (drain p m) n h cut o = cut_of k c (move_first k c b (drain p m) h (cut_run k c o)) o.exact o.undone

  pub counted-left : (m : Move) (n : ℕ) → counted m (left m n) ≡ suc n
  counted-left (run p) n = refl
  counted-left (drain p m) n = refl

  pub left_only : (m : Move) (n r : ℕ) → suc n ≡ counted m r → r ≡ left m n
  left_only (run p) n r e = omega arith
  left_only (drain p m) n r e = sym e

  pub move_yes : (b : Board) (m : Move) (n : ℕ) → allowed k c b m ≡ true → (q : Question) → Yes k c (moved k c b m) (left m n) q → Yes k c b (suc n) q
  move_yes b m n h q y = subst (λ (i : ℕ). Yes k c b i q) (counted-left m n) (move_more b m (left m n) h q y)

  -- a first move after which the answer is yes
  pub record First (b : Board) (n : ℕ) (q : Question) : Type 0 where
    pub move : Move
    pub taken : allowed k c b move ≡ true
    pub rest : Yes k c (moved k c b move) (left move n) q

  first_outcome : (ms : List Move) {b e : Board} (n : ℕ) (r : List ℕ) → Runs k c b ms e → ended c b ≡ false → instructions ms ≤ suc n → finished c e ≡ true → registers c e ≡ r → First b n (outcome r)
  unfolding finished instructions
  first_outcome [] {b} {e} n r (stop x) h s d g = absurd (false≢true (sym h ∙ ap (ended c) x ∙ (and_both (ended c e) _ d).0))
  first_outcome (run p ∷ ms) {b} n r (go a w) h s d g = record { move = run p; taken = code_allowed k c b (run p) a; rest = outcome_of k c w (omega arith) d g }
  first_outcome (drain p m ∷ ms) {b} n r (go a w) h s d g = record { move = drain p m; taken = code_allowed k c b (drain p m) a; rest = outcome_of k c w s d g }

  first_cut : (ms : List Move) {b e : Board} (n : ℕ) → Runs k c b ms e → instructions ms ≡ suc n → ended c e ≡ false → First b n cut
  unfolding instructions
  first_cut [] n w s d = absurd (omega arith)
  first_cut (run p ∷ ms) {b} n (go a w) s d = record { move = run p; taken = code_allowed k c b (run p) a; rest = cut_of k c w (omega arith) d }
  first_cut (drain p m ∷ ms) {b} n (go a w) s d = record { move = drain p m; taken = code_allowed k c b (drain p m) a; rest = cut_of k c w s d }

  pub first_move : (b : Board) (n : ℕ) → ended c b ≡ false → (q : Question) → Yes k c b (suc n) q → First b n q
  first_move b n h (outcome r) o = first_outcome o.moves n r (outcome_run k c o) h o.short o.done o.gives
  first_move b n h cut o = first_cut o.moves n (cut_run k c o) o.exact o.undone
