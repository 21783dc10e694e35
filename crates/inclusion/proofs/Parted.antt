-- The outcomes with one buffer a processor are among those with one a processor and location. Assumes nothing.
use mathlib.Core.Path.{◌≡◌, refl, sym, ◌∙◌, ap, ap₂, subst}
use mathlib.Core.Logic.{◌⊎◌, inl, inr, ⊎_elim}
use mathlib.Core.Bool.{Bool, true, false, cond, not, ◌&&◌, false≢true}
use mathlib.Core.List.{List, [], ◌∷◌, ◌++◌}
use mathlib.Core.Option.{Option, none, some}
use Prim.Native.Nat.{ℕ, ◌<◌}
use native.Mathlib.Omega.{arith}
use lib.Dec.{eqb}
use borrow.Author.Tests.{eqb-true, eqb-false, eq-eqb, ne_eqb, not-true}
use Rattle.words.specs.Small.{or_zero, put, some_below, counting}
use Rattle.words.proofs.Bools.{decide, and_both, and_make, all_make, all_at, fails, below_cases, below_make, cond-true, cond-false}
use Rattle.cases.specs.declared.Case.{Case}
use Rattle.cases.specs.declared.Instr.{Instr}
use Rattle.cases.specs.declared.Instr.TheVariants.{Empty, Read, Write, Local, Branch, Goto, Acquire, Release}
use Rattle.runs.proofs.Walk.{stop, go}
use Rattle.rules.specs.Kinds.{kind, assigns, writing, syncs}
use Rattle.boards.specs.Board.{Store, Board, opening, newer, newest_to, or_else, filled}
use Rattle.boards.specs.Drain.{drained}
use Rattle.boards.specs.Listing.{instructions, Outcome}
use Rattle.boards.specs.Machine.{Move, run, drain, allowed, moved, ended, finished, registers}
use Rattle.boards.specs.Run.{in_buffer, assigned, instruction, operand, holding, yields, new_store, ran}
use Rattle.boards.specs.declared.Buffering.{Buffering}
use Rattle.boards.specs.declared.Buffering.TheVariants.{Shared, Split, Direct}
use Rattle.boards.proofs.Accepted.{CanRun, can_run, write_accesses, Runs, CanDrain, can_drain, drain_make, code_allowed, run_make, access_low}
use Rattle.boards.proofs.Buffers.{put2_cases, entered_cases, same-board}
use Rattle.boards.proofs.Stable.{outcome_of, outcome_run}
use Rattle.inclusion.proofs.Direct.{Redone, once, drain_first, direct_within}

-- the stores to location l
pub only : ℕ → List Store → List Store
only l [] = []
only l (x ∷ xs) = cond (eqb x.loc l) (x ∷ only l xs) (only l xs)

only_same : (l : ℕ) (x : Store) (xs : List Store) → x.loc ≡ l → only l (x ∷ xs) ≡ x ∷ only l xs
unfolding only
only_same l x xs h = cond-true _ _ _ (eq-eqb _ _ h)

only_other : (l : ℕ) (x : Store) (xs : List Store) → (x.loc ≡ l → ⊥) → only l (x ∷ xs) ≡ only l xs
unfolding only
only_other l x xs h = cond-false _ _ _ (ne_eqb _ _ h)

only_more : (l : ℕ) (x : Store) (xs : List Store) → only l (xs ++ (x ∷ [])) ≡ cond (eqb x.loc l) (only l xs ++ (x ∷ [])) (only l xs)
unfolding only
only_more l x [] = refl
only_more l x (y ∷ ys) = ap (λ t. cond (eqb y.loc l) (y ∷ t) t) (only_more l x ys) ∙ step (eqb y.loc l) (eqb x.loc l)
  where
    step : (a b : Bool) → cond a (y ∷ cond b (only l ys ++ (x ∷ [])) (only l ys)) (cond b (only l ys ++ (x ∷ [])) (only l ys)) ≡ cond b (cond a (y ∷ only l ys) (only l ys) ++ (x ∷ [])) (cond a (y ∷ only l ys) (only l ys))
    step true true = refl
    step true false = refl
    step false true = refl
    step false false = refl

newer-none : (o : Option ℕ) → newer o none ≡ o
newer-none none = refl
newer-none (some v) = refl

newest_only : (l : ℕ) (xs : List Store) → newest_to l (only l xs) ≡ newest_to l xs
unfolding only newest_to
newest_only l [] = refl
newest_only l (x ∷ xs) = step (newest_only l xs) (eqb x.loc l) refl
  where
    step : newest_to l (only l xs) ≡ newest_to l xs → (b : Bool) → eqb x.loc l ≡ b → newest_to l (cond b (x ∷ only l xs) (only l xs)) ≡ newer (newest_to l xs) (cond b (some x.value) none)
    step e true h = ap₂ (λ (o : Option ℕ) (t : Bool). newer o (cond t (some x.value) none)) e h
    step e false h = e ∙ sym (newer-none (newest_to l xs))

only_filled : (l : ℕ) (xs : List Store) → filled (only l xs) ≡ true → filled xs ≡ true
unfolding only
only_filled l [] h = h
only_filled l (x ∷ xs) h = refl

abbrev Low : ℕ → List Store → Type 0
Low n [] = Unit {0}
Low n (x ∷ xs) = (x.loc < n) × Low n xs

low_more : (n : ℕ) (x : Store) (xs : List Store) → Low n xs → x.loc < n → Low n (xs ++ (x ∷ []))
low_more n x [] h g = (g, tt)
low_more n x (y ∷ ys) h g = (h.0, low_more n x ys h.1 g)

-- a board with one buffer a processor
pub record Single (c : Case) (b : Board) : Type 0 where
  pub rest : (p n : ℕ) → (n ≡ 0 → ⊥) → b.buffers p n ≡ []
  pub low : (p : ℕ) → Low c.locs (b.buffers p 0)

-- each location's stores to a buffer of their own
abbrev pub parted : Board → Board
parted b =
    record {
      places = b.places;
      values = b.values;
      holders = b.holders;
      memory = b.memory;
      buffers = λ p l. only l (b.buffers p 0);
    }

module _ (c : Case) (b : Board) (S : Single c b) (p : ℕ) where
  abbrev ins : Instr
  ins = instruction Shared c b p

  abbrev l : ℕ
  l = operand Shared c b p 0

  abbrev new : Store
  new = new_store Shared c b p

  abbrev w : Bool
  w = writing (kind ins)

  part_filled : (q : ℕ) → some_below c.locs (λ m. filled (only m (b.buffers q 0))) ≡ true → some_below c.locs (λ n. filled (b.buffers q n)) ≡ true
  part_filled q h =
      let v = below_cases c.locs (λ m. filled (only m (b.buffers q 0))) h in
      below_make c.locs (λ n. filled (b.buffers q n)) 0 (omega (arith, v.1)) (only_filled v.0 (b.buffers q 0) v.2)

  part_can : CanRun Shared c b p → CanRun Split c (parted b) p
  part_can R =
      record {
        low = R.low;
        inside = R.inside;
        ready = R.ready;
        near = R.near;
        free = R.free;
        empty = fails (syncs (kind ins) && holding Shared c b p) _ (λ h. let v = and_both (syncs (kind ins)) (holding Split c (parted b) p) h in and_make _ _ v.0 (part_filled p v.1)) R.empty;
      }

  yields_same : (i : Instr) → yields Split c (parted b) p i ≡ yields Shared c b p i
  yields_same Empty = refl
  yields_same (Read d a) = ap (λ (o : Option ℕ). or_else o (b.memory l)) (newest_only l (b.buffers p 0))
  yields_same (Write a v) = refl
  yields_same (Local d e) = refl
  yields_same (Branch a t) = refl
  yields_same (Goto t) = refl
  yields_same (Acquire a) = refl
  yields_same (Release a) = refl

  near : CanRun Shared c b p → w ≡ true → l < c.locs
  near R h = access_low Shared c b p R (write_accesses (kind ins) h)

  part-run : ran Split c (parted b) p ≡ parted (ran Shared c b p)
  unfolding ran
  part-run = same-board (ran Split c (parted b) p) (parted (ran Shared c b p)) refl (ap (λ (v : ℕ). put b.values p (assigned (b.values p) (assigns ins) (some v))) (yields_same ins)) refl refl buffers
    where
      F : ℕ → ℕ → List Store
      F = λ q m. only m (b.buffers q 0)

      L : ℕ → ℕ → List Store
      L q m = cond w (put F p (in_buffer (some l) (F p) new)) F q m

      G : ℕ → List Store
      G q = cond w (put b.buffers p (in_buffer (some 0) (b.buffers p) new)) b.buffers q 0

      step : (q m : ℕ)
          → ((q ≡ p) × (w ≡ true) × (some l ≡ some m) × (L q m ≡ F q m ++ (new ∷ []))) ⊎ ((q ≡ p → w ≡ true → some l ≡ some m → ⊥) × (L q m ≡ F q m))
          → ((q ≡ p) × (w ≡ true) × (◌≡◌ {A = Option ℕ} (some 0) (some 0)) × (G q ≡ b.buffers q 0 ++ (new ∷ []))) ⊎ ((q ≡ p → w ≡ true → ◌≡◌ {A = Option ℕ} (some 0) (some 0) → ⊥) × (G q ≡ b.buffers q 0))
          → L q m ≡ only m (G q)
      step q m (inl x) (inl y) = x.3 ∙ sym (cond-true _ _ _ (eq-eqb l m (ap or_zero x.2))) ∙ sym (only_more m new (b.buffers q 0)) ∙ ap (only m) (sym y.3)
      step q m (inl x) (inr y) = absurd (y.0 x.0 x.1 refl)
      step q m (inr x) (inl y) = x.1 ∙ sym (cond-false _ _ _ (ne_eqb l m (λ h. x.0 y.0 y.1 (ap some h)))) ∙ sym (only_more m new (b.buffers q 0)) ∙ ap (only m) (sym y.3)
      step q m (inr x) (inr y) = x.1 ∙ ap (only m) (sym y.1)

      buffers : (q m : ℕ) → L q m ≡ only m (G q)
      buffers q m = step q m (entered_cases F w (some l) new p q m) (entered_cases b.buffers w (some 0) new p q 0)

  single_run : CanRun Shared c b p → Single c (ran Shared c b p)
  unfolding ran
  single_run R =
      record {
        rest = λ q n d. ⊎_elim (λ h. absurd (d (ap or_zero (sym h.2)))) (λ h. h.1 ∙ S.rest q n d) (entered_cases b.buffers w (some 0) new p q n);
        low = λ q. ⊎_elim (λ h. subst (Low c.locs) (sym h.3) (low_more c.locs new (b.buffers q 0) (S.low q) (near R h.1))) (λ h. subst (Low c.locs) (sym h.1) (S.low q)) (entered_cases b.buffers w (some 0) new p q 0);
      }

  -- the drain of store x
  module _ (x : Store) (xs : List Store) (e : b.buffers p 0 ≡ x ∷ xs) where
    oldest-low : Low c.locs (x ∷ xs)
    oldest-low = subst (Low c.locs) e (S.low p)

    oldest : only x.loc (b.buffers p 0) ≡ x ∷ only x.loc xs
    oldest = ap (only x.loc) e ∙ only_same x.loc x xs refl

    part_allowed : p < c.procs → allowed Split c (parted b) (drain p x.loc) ≡ true
    part_allowed h = drain_make Split c (parted b) p x.loc (record { proc = h; buffer = oldest-low.0; holds = ap filled oldest })

    part_drain : moved Split c (parted b) (drain p x.loc) ≡ parted (moved Shared c b (drain p 0))
    unfolding moved
    part_drain =
        ap (drained (parted b) p x.loc) oldest
        ∙ same-board (drained (parted b) p x.loc (x ∷ only x.loc xs)) (parted (drained b p 0 (x ∷ xs))) refl refl refl refl buffers
        ∙ ap (λ t. parted (drained b p 0 t)) (sym e)
      where
        F : ℕ → ℕ → List Store
        F = λ q m. only m (b.buffers q 0)

        step : (q m : ℕ)
            → ((q ≡ p) × (m ≡ x.loc) × (put F p (put (F p) x.loc (only x.loc xs)) q m ≡ only x.loc xs)) ⊎ (((q ≡ p) × (m ≡ x.loc) → ⊥) × (put F p (put (F p) x.loc (only x.loc xs)) q m ≡ F q m))
            → ((q ≡ p) × (◌≡◌ {A = ℕ} 0 0) × (put b.buffers p (put (b.buffers p) 0 xs) q 0 ≡ xs)) ⊎ (((q ≡ p) × (◌≡◌ {A = ℕ} 0 0) → ⊥) × (put b.buffers p (put (b.buffers p) 0 xs) q 0 ≡ b.buffers q 0))
            → put F p (put (F p) x.loc (only x.loc xs)) q m ≡ only m (put b.buffers p (put (b.buffers p) 0 xs) q 0)
        step q m (inl u) (inl v) = u.2 ∙ ap₂ only (sym u.1) (sym v.2)
        step q m (inl u) (inr v) = absurd (v.0 (u.0, refl))
        step q m (inr u) (inl v) = u.1 ∙ ap (λ (y : ℕ). only m (b.buffers y 0)) v.0 ∙ ap (only m) e ∙ only_other m x xs (λ h. u.0 (v.0, sym h)) ∙ ap (only m) (sym v.2)
        step q m (inr u) (inr v) = u.1 ∙ ap (only m) (sym v.1)

        buffers : (q m : ℕ) → put F p (put (F p) x.loc (only x.loc xs)) q m ≡ only m (put b.buffers p (put (b.buffers p) 0 xs) q 0)
        buffers q m = step q m (put2_cases F p x.loc (only x.loc xs) q m) (put2_cases b.buffers p 0 xs q 0)

    single_drain : Single c (moved Shared c b (drain p 0))
    unfolding moved
    single_drain = subst (λ t. Single c (drained b p 0 t)) (sym e)
        record {
          rest = λ q n d. ⊎_elim (λ h. absurd (d h.1)) (λ h. h.1 ∙ S.rest q n d) (put2_cases b.buffers p 0 xs q n);
          low = λ q. ⊎_elim (λ h. subst (Low c.locs) (sym h.2) oldest-low.1) (λ h. subst (Low c.locs) (sym h.1) (S.low q)) (put2_cases b.buffers p 0 xs q 0);
        }

moved_run : (k : Buffering) (c : Case) (b : Board) (p : ℕ) → moved k c b (run p) ≡ ran k c b p
unfolding moved
moved_run k c b p = refl

module _ (c : Case) where
  drain_cases : (b : Board) → Single c b → (p n : ℕ) → CanDrain c b p n → (n ≡ 0) × ((x : Store) × (xs : List Store) × (b.buffers p 0 ≡ x ∷ xs))
  drain_cases b S p n D = (zero', by_list (b.buffers p 0) refl)
    where
      zero' : n ≡ 0
      zero' = ⊎_elim (λ q. eqb-true n 0 q) (λ q. absurd (false≢true (sym (ap filled (S.rest p n (eqb-false n 0 q))) ∙ D.holds))) (decide (eqb n 0))

      by_list : (xs : List Store) → b.buffers p 0 ≡ xs → (x : Store) × (ys : List Store) × (b.buffers p 0 ≡ x ∷ ys)
      by_list [] e = absurd (false≢true (sym (ap filled e) ∙ ap (λ (m : ℕ). filled (b.buffers p m)) (sym zero') ∙ D.holds))
      by_list (x ∷ ys) e = (x, ys, e)

  redo : (ms : List Move) (b e : Board) → Single c b → Runs Shared c b ms e → Redone Split c (parted b) (parted e) (instructions ms)
  unfolding instructions
  redo [] b e S (stop h) = record { moves = []; walk = stop (ap parted h); same = refl }
  redo (run p ∷ ms) b e S (go h w) =
      let R = can_run Shared c b p (code_allowed Shared c b (run p) h) in
      let w' = subst (λ x. Runs Shared c x ms e) (moved_run Shared c b p) w in
      let r = redo ms (ran Shared c b p) e (single_run c b S p R) w' in
      once Split c (parted b) (parted e) p (instructions ms) (run_make Split c (parted b) p (part_can c b S p R)) (subst (λ x. Redone Split c x (parted e) (instructions ms)) (sym (part-run c b S p)) r)
  redo (drain p n ∷ ms) b e S (go h w) =
      let D = can_drain Shared c b p n (code_allowed Shared c b (drain p n) h) in
      let d = drain_cases b S p n D in
      let at0 : moved Shared c b (drain p n) ≡ moved Shared c b (drain p 0) = ap (λ (m : ℕ). moved Shared c b (drain p m)) d.0 in
      let x = d.1.0 in
      let r = redo ms (moved Shared c b (drain p n)) e (subst (Single c) (sym at0) (single_drain c b S p x d.1.1 d.1.2)) w in
      drain_first Split c (parted b) (parted e) p x.loc (instructions ms) (part_allowed c b S p x d.1.1 d.1.2 D.proc) (subst (λ y. Redone Split c y (parted e) (instructions ms)) (ap parted at0 ∙ sym (part_drain c b S p x d.1.1 d.1.2)) r)

  part-finished : (b : Board) → finished c b ≡ true → finished c (parted b) ≡ true
  unfolding finished ended
  part-finished b h =
      let v = and_both (ended c b) _ h in
      and_make _ _ v.0 (all_make _ (counting 0 c.procs) (λ q m. ap not (fails _ _ (filled-some q) (not-true _ (all_at (λ p. not (some_below c.locs (λ n. filled (b.buffers p n)))) m v.1)))))
    where
      filled-some : (q : ℕ) → some_below c.locs (λ m. filled (only m (b.buffers q 0))) ≡ true → some_below c.locs (λ n. filled (b.buffers q n)) ≡ true
      filled-some q g =
          let v = below_cases c.locs (λ m. filled (only m (b.buffers q 0))) g in
          below_make c.locs (λ n. filled (b.buffers q n)) 0 (omega (arith, v.1)) (only_filled v.0 (b.buffers q 0) v.2)

  part-registers : (b : Board) → registers c (parted b) ≡ registers c b
  unfolding registers
  part-registers b = refl

  opening-same : parted (opening c) ≡ opening c
  unfolding only
  opening-same = same-board (parted (opening c)) (opening c) refl refl refl refl (λ p n. refl)

  pub shared_within : (n : ℕ) (r : List ℕ) → Outcome Shared c n r → Outcome Split c n r
  shared_within n r o =
      let e = o.end in
      let d : Redone Split c (opening c) (parted e) (instructions o.moves) = subst (λ x. Redone Split c x (parted e) (instructions o.moves)) opening-same (redo o.moves (opening c) e (record { rest = λ p m h. refl; low = λ p. tt }) (outcome_run Shared c o)) in
      outcome_of Split c d.walk (omega (arith, d.same, o.short)) (part-finished e o.done) (part-registers e ∙ o.gives)

-- the next machine of each
abbrev pub looser : Buffering → Buffering
looser Direct = Shared
looser Shared = Split
looser Split = Split

-- EACH MACHINE'S OUTCOMES ARE AMONG THE NEXT ONE'S
pub looser_within : (k : Buffering) (c : Case) (n : ℕ) (r : List ℕ) → Outcome k c n r → Outcome (looser k) c n r
looser_within Direct c n r o = direct_within Shared c n r o
looser_within Shared c n r o = shared_within c n r o
looser_within Split c n r o = o
