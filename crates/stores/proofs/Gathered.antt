-- The buffers that the log holds: whether one holds a store, its newest, one more, one less. Assumes nothing.
use mathlib.Core.Path.{◌≡◌, refl, sym, ◌∙◌, ap, ap₂, subst}
use mathlib.Core.Logic.{◌⊎◌, inl, inr, ⊎_elim}
use mathlib.Core.Bool.{Bool, true, false, cond, not, ◌&&◌, ◌||◌, false≢true}
use mathlib.Core.List.{List, [], ◌∷◌, ◌++◌, append-nil}
use mathlib.Core.Option.{Option, none, some}
use Prim.Native.Nat.{ℕ, zero, suc, ◌+◌, ◌*◌, ◌^◌, ◌≤◌, ◌<◌}
use native.Mathlib.Numerals.{add-one}
use native.Mathlib.Omega.{arith}
use lib.Dec.{eqb}
use lib.Bits.{bit_or}
use lib.ListN.{length, get_or, set, take}
use Rattle.std.proofs.lemmas.Grind.{common_steps}
use lib.Seq.{get_or-set_same, get_or-set_other}
use borrow.Author.Tests.{eqb-true, eqb-false, eq-eqb, ne_eqb}
use Rattle.std.specs.Prelude.{Some, None, is_some, unwrap_or}
use Rattle.std.specs.List.{list_any, range_with_len}
use Rattle.words.specs.Small.{is_none, or_zero, is, some_below}
use Rattle.words.specs.Sets.{has}
use Rattle.words.proofs.Sets.{has_or, has_zero, has_one}
use Rattle.words.proofs.Bools.{bool_eq, below-same, and_make, decide, and_both}
use Rattle.machine.specs.Shown.{Value, option_of, shown_value}
use Rattle.boards.specs.declared.Buffering.{Buffering}
use Rattle.boards.specs.declared.Buffering.TheVariants.{Direct, Shared, Split}
use Rattle.boards.specs.Board.{slot, Store, filled, newer, newest_to}
use Rattle.stores.specs.declared.Logged.{Logged}
use Rattle.boards.specs.Apart.{oldest_at}
use Rattle.stores.specs.Log.{Waits, blank, sits_in, store_of, gathered, buffer_of}
use Rattle.boards.specs.Apart.{oldest_at}
use Rattle.stores.specs.Log.{Waits, Oldest, slot_by, newer_by}

-- the number of a buffer

slot_shown : (k : Buffering) (l : ℕ) → option_of (is_some (slot_by k l)) (unwrap_or (slot_by k l) 0) ≡ slot k l
slot_shown Direct l = refl
slot_shown Shared l = refl
slot_shown Split l = refl

pub slot-some : (k : Buffering) (l b : ℕ) → slot_by k l ≡ Some b → slot k l ≡ some b
slot-some k l b e = sym (slot_shown k l) ∙ (λ i. option_of (is_some (e i)) (unwrap_or (e i) 0))

pub slot-none : (k : Buffering) (l : ℕ) → slot_by k l ≡ None → slot k l ≡ none
slot-none k l e = sym (slot_shown k l) ∙ (λ i. option_of (is_some (e i)) (unwrap_or (e i) 0))

is_here : (b : ℕ) (o : Option ℕ) → is b o ≡ true → o ≡ some b
is_here b none h = absurd (false≢true h)
is_here b (some m) h = ap some (eqb-true m b h)

-- a store sits in one buffer
pub sits_cases : (k : Buffering) (p b : ℕ) (x : Logged) → sits_in k p b x ≡ true → (x.proc ≡ p) × (slot k x.loc ≡ some b)
sits_cases k p b x h =
    let v = and_both x.waits _ h in
    let u = and_both (eqb x.proc p) _ v.1 in
    (eqb-true _ _ u.0, is_here b (slot k x.loc) u.1)

-- gathered

module _ {A : Type 0} (g : ℕ → A) where
  gathered-same : (f h : ℕ → Bool) (n : ℕ) → ((i : ℕ) → i < n → f i ≡ h i) → gathered f g n ≡ gathered h g n
  unfolding gathered
  gathered-same f h zero e = refl
  gathered-same f h (suc n) e = ap₂ (λ (l : List A) (b : Bool). l ++ cond b (g n ∷ []) []) (gathered-same f h n (λ i l. e i (omega arith))) (e n (omega arith))

  gathered_none : (f : ℕ → Bool) (n : ℕ) → ((i : ℕ) → i < n → f i ≡ false) → gathered f g n ≡ []
  unfolding gathered
  gathered_none f zero e = refl
  gathered_none f (suc n) e = ap₂ (λ (l : List A) (b : Bool). l ++ cond b (g n ∷ []) []) (gathered_none f n (λ i l. e i (omega arith))) (e n (omega arith))

  filled_step : (xs : List A) (b : Bool) (y : A) → filled (xs ++ cond b (y ∷ []) []) ≡ (b || filled xs)
  filled_step [] true y = refl
  filled_step [] false y = refl
  filled_step (x ∷ xs) true y = refl
  filled_step (x ∷ xs) false y = refl

  pub gathered-filled : (f : ℕ → Bool) (n : ℕ) → filled (gathered f g n) ≡ some_below n f
  unfolding gathered some_below
  gathered-filled f zero = refl
  gathered-filled f (suc n) = filled_step (gathered f g n) (f n) (g n) ∙ ap (λ (b : Bool). f n || b) (gathered-filled f n)

  -- the first that passes, and the others
  gathered_first : (f : ℕ → Bool) (n j : ℕ) → j < n → f j ≡ true → ((i : ℕ) → i < j → f i ≡ false) → gathered f g n ≡ g j ∷ gathered (λ i. f i && not (eqb i j)) g n
  unfolding gathered
  gathered_first f zero j l t e = absurd (omega arith)
  gathered_first f (suc n) j l t e = step (gathered_first f n j) (decide (eqb j n))
    where
      f' : ℕ → Bool
      f' i = f i && not (eqb i j)

      last : j ≡ n → gathered f g n ++ cond (f n) (g n ∷ []) [] ≡ g j ∷ (gathered (λ i. f i && not (eqb i j)) g n ++ cond (f n && not (eqb n j)) (g n ∷ []) [])
      last q =
          let none_before = gathered_none f n (λ i h. e i (omega arith)) in
          let none_left = gathered_none (λ i. f i && not (eqb i j)) n (λ i h. ap (λ (b : Bool). b && not (eqb i j)) (e i (omega arith))) in
          rw (none_before, none_left, eq-eqb n j (sym q), subst (λ (i : ℕ). f i ≡ true) q t) (ap (λ (i : ℕ). g i ∷ []) (sym q))

      step : (j < n → f j ≡ true → ((i : ℕ) → i < j → f i ≡ false) → gathered f g n ≡ g j ∷ gathered (λ i. f i && not (eqb i j)) g n) → (eqb j n ≡ true) ⊎ (eqb j n ≡ false)
          → gathered f g n ++ cond (f n) (g n ∷ []) [] ≡ g j ∷ (gathered (λ i. f i && not (eqb i j)) g n ++ cond (f n && not (eqb n j)) (g n ∷ []) [])
      step ih (inl q) = last (eqb-true j n q)
      step ih (inr q) =
          let low : j < n = omega (arith, eqb-false j n q) in
          ap₂ (λ (l : List A) (b : Bool). l ++ cond b (g n ∷ []) []) (ih low t e) (sym (both (f n) ∙ refl))
        where
          both : (b : Bool) → (b && not (eqb n j)) ≡ b
          both true = ap not (ne_eqb n j (λ x. eqb-false j n q (sym x)))
          both false = refl

-- the newest

abbrev match : ℕ → Store → Option ℕ
match l y = cond (eqb y.loc l) (some y.value) none

newer_assoc : (a b d : Option ℕ) → newer (newer a b) d ≡ newer a (newer b d)
newer_assoc none b d = refl
newer_assoc (some v) b d = refl

newest_more : (l : ℕ) (xs : List Store) (y : Store) → newest_to l (xs ++ (y ∷ [])) ≡ newer (match l y) (newest_to l xs)
unfolding newest_to
newest_more l [] y = last (match l y)
  where
    last : (o : Option ℕ) → newer none o ≡ newer o none
    last none = refl
    last (some v) = refl
newest_more l (x ∷ xs) y = ap (λ (o : Option ℕ). newer o (match l x)) (newest_more l xs y) ∙ newer_assoc (match l y) (newest_to l xs) (match l x)

module _ (k : Buffering) (log : List Logged) (p b l : ℕ) where
  pub newest-none : none ≡ newest_to l (buffer_of k log 0 p b)
  unfolding gathered newest_to
  newest-none = refl

  pub newest_next : (j : ℕ) (v : Value) → shown_value v ≡ newest_to l (buffer_of k log j p b)
      → shown_value (newer_by (sits_in k p b (get_or log j blank) && eqb (get_or log j blank).loc l) (get_or log j blank).value v) ≡ newest_to l (buffer_of k log (j + 1) p b)
  unfolding gathered
  newest_next j v h = rw (add-one j) (step (sits_in k p b (get_or log j blank)) refl)
    where
      x : Logged
      x = get_or log j blank

      on : (t : Bool) → eqb (get_or log j blank).loc l ≡ t → shown_value (newer_by t (get_or log j blank).value v) ≡ newer (cond t (some (get_or log j blank).value) none) (newest_to l (buffer_of k log j p b))
      on true e = refl
      on false e = h

      step : (s : Bool) → sits_in k p b (get_or log j blank) ≡ s
          → shown_value (newer_by (s && eqb (get_or log j blank).loc l) (get_or log j blank).value v) ≡ newest_to l (buffer_of k log j p b ++ cond s (store_of (get_or log j blank) ∷ []) [])
      step true e = on (eqb (get_or log j blank).loc l) refl ∙ sym (newest_more l (buffer_of k log j p b) (store_of (get_or log j blank)))
      step false e = h ∙ ap (newest_to l) (sym (append-nil (buffer_of k log j p b)))

-- one store more

module _ (k : Buffering) (log : List Logged) (n : ℕ) (x : Logged) (room : n < length log) where
  pub buffer_more : (q m : ℕ) → buffer_of k (set log n x) (n + 1) q m ≡ buffer_of k log n q m ++ cond (sits_in k q m x) (store_of x ∷ []) []
  unfolding gathered
  buffer_more q m = rw (add-one n) (ap₂ (λ (l : List Store) (y : Logged). l ++ cond (sits_in k q m y) (store_of y ∷ []) []) before (get_or-set_same log n x blank room))
    where
      old : (i : ℕ) → i < n → get_or (set log n x) i blank ≡ get_or log i blank
      old i h = get_or-set_other log n i x blank (λ e. omega arith)

      before : gathered (λ j. sits_in k q m (get_or (set log n x) j blank)) (λ j. store_of (get_or (set log n x) j blank)) n ≡ buffer_of k log n q m
      before = both n (λ i h. old i h)
        where
          both : (w : ℕ) → ((i : ℕ) → i < w → get_or (set log n x) i blank ≡ get_or log i blank) → gathered (λ j. sits_in k q m (get_or (set log n x) j blank)) (λ j. store_of (get_or (set log n x) j blank)) w ≡ buffer_of k log w q m
          both zero e = refl
          both (suc w) e = ap₂ (λ (l : List Store) (y : Logged). l ++ cond (sits_in k q m y) (store_of y ∷ []) []) (both w (λ i h. e i (omega arith))) (e w (omega arith))

-- one store less

abbrev pub gone : Logged → Logged
gone x = record { proc = x.proc; loc = x.loc; value = x.value; waits = false }

module _ (k : Buffering) (log : List Logged) (n j : ℕ) (low : j < n) (room : n ≤ length log) where
  abbrev after : List Logged
  after = set log j (gone (get_or log j blank))

  store_same : (i : ℕ) → store_of (get_or after i blank) ≡ store_of (get_or log i blank)
  store_same i =
      ⊎_elim (λ e. ap (λ (m : ℕ). store_of (get_or after m blank)) (eqb-true i j e) ∙ ap store_of (get_or-set_same log j _ blank (omega arith)) ∙ ap (λ (m : ℕ). store_of (get_or log m blank)) (sym (eqb-true i j e)))
      (λ e. ap store_of (get_or-set_other log j i _ blank (eqb-false i j e)))
      (decide (eqb i j))

  sits_after : (q m i : ℕ) → sits_in k q m (get_or after i blank) ≡ (sits_in k q m (get_or log i blank) && not (eqb i j))
  sits_after q m i =
      ⊎_elim
      (λ e. ap (λ (w : ℕ). sits_in k q m (get_or after w blank)) (eqb-true i j e) ∙ ap (sits_in k q m) (get_or-set_same log j _ blank (omega arith)) ∙ sym (rw e (no (sits_in k q m (get_or log i blank)))))
      (λ e. ap (sits_in k q m) (get_or-set_other log j i _ blank (eqb-false i j e)) ∙ sym (rw e (yes' (sits_in k q m (get_or log i blank)))))
      (decide (eqb i j))
    where
      no : (b : Bool) → (b && false) ≡ false
      no true = refl
      no false = refl

      yes' : (b : Bool) → (b && true) ≡ b
      yes' true = refl
      yes' false = refl

  pub after_is : (q m : ℕ) → buffer_of k after n q m ≡ gathered (λ i. sits_in k q m (get_or log i blank) && not (eqb i j)) (λ i. store_of (get_or log i blank)) n
  unfolding gathered
  after_is q m = both n
    where
      both : (w : ℕ) → buffer_of k after w q m ≡ gathered (λ i. sits_in k q m (get_or log i blank) && not (eqb i j)) (λ i. store_of (get_or log i blank)) w
      both zero = refl
      both (suc w) = λ t. both w t ++ cond (sits_after q m w t) (store_same w t ∷ []) []

  module _ (p b : ℕ) (sits : sits_in k p b (get_or log j blank) ≡ true) where
    -- of its own buffer the oldest is gone
    pub buffer_less : ((i : ℕ) → i < j → sits_in k p b (get_or log i blank) ≡ false) → buffer_of k log n p b ≡ store_of (get_or log j blank) ∷ buffer_of k after n p b
    buffer_less e = gathered_first (λ i. store_of (get_or log i blank)) (λ i. sits_in k p b (get_or log i blank)) n j low sits e ∙ ap (λ (l : List Store). store_of (get_or log j blank) ∷ l) (sym (after_is p b))

    -- the others stay
    pub buffer_other : (q m : ℕ) → ((q ≡ p) × (m ≡ b) → ⊥) → buffer_of k after n q m ≡ buffer_of k log n q m
    buffer_other q m d = after_is q m ∙ gathered-same (λ i. store_of (get_or log i blank)) _ _ n (λ i h. ⊎_elim (at i) (else i) (decide (eqb i j)))
      where
        not_here : sits_in k q m (get_or log j blank) ≡ true → ⊥
        not_here s =
            let u = sits_cases k q m (get_or log j blank) s in
            let v = sits_cases k p b (get_or log j blank) sits in
            d (sym u.0 ∙ v.0, ap or_zero (sym u.1 ∙ v.1))

        absent : (x : Bool) → (x ≡ true → ⊥) → (x && false) ≡ x
        absent true h = absurd (h refl)
        absent false h = refl

        at : (i : ℕ) → eqb i j ≡ true → (sits_in k q m (get_or log i blank) && not (eqb i j)) ≡ sits_in k q m (get_or log i blank)
        at i e = rw e (absent (sits_in k q m (get_or log i blank)) (λ s. not_here (subst (λ (w : ℕ). sits_in k q m (get_or log w blank) ≡ true) (eqb-true i j e) s)))

        else : (i : ℕ) → eqb i j ≡ false → (sits_in k q m (get_or log i blank) && not (eqb i j)) ≡ sits_in k q m (get_or log i blank)
        else i e = rw e (whole (sits_in k q m (get_or log i blank)))
          where
            whole : (x : Bool) → (x && true) ≡ x
            whole true = refl
            whole false = refl

-- the oldest store of a buffer sits in it

oldest_either : (xs ys : List Store) (l : ℕ) → oldest_at (xs ++ ys) ≡ some l → (oldest_at xs ≡ some l) ⊎ (oldest_at ys ≡ some l)
oldest_either [] ys l h = inr h
oldest_either (x ∷ xs) ys l h = inl h

module _ (k : Buffering) (log : List Logged) (p b : ℕ) where
  pub oldest_enters : (n l : ℕ) → oldest_at (buffer_of k log n p b) ≡ some l → slot k l ≡ some b
  unfolding gathered
  oldest_enters zero l h = absurd (false≢true (sym (ap is_none h)))
  oldest_enters (suc n) l h =
      ⊎_elim (oldest_enters n l) (last (sits_in k p b (get_or log n blank)) refl) (oldest_either (buffer_of k log n p b) (cond (sits_in k p b (get_or log n blank)) (store_of (get_or log n blank) ∷ []) []) l h)
    where
      last : (t : Bool) → sits_in k p b (get_or log n blank) ≡ t → oldest_at (cond t (store_of (get_or log n blank) ∷ []) []) ≡ some l → slot k l ≡ some b
      last true s e = ap (slot k) (sym (ap or_zero e)) ∙ (sits_cases k p b (get_or log n blank) s).1
      last false s e = absurd (false≢true (sym (ap is_none e)))

-- the set of the buffers that hold a store

or_swap : (x y : Bool) → (x || y) ≡ (y || x)
or_swap true true = refl
or_swap true false = refl
or_swap false true = refl
or_swap false false = refl

two_numbers : (p b q d : ℕ) → b < 8 → d < 8 → eqb (8 * p + b) (8 * q + d) ≡ (eqb q p && eqb d b)
two_numbers p b q d h g =
    bool_eq (eqb (8 * p + b) (8 * q + d)) (eqb q p && eqb d b)
    (λ e. let s = eqb-true (8 * p + b) (8 * q + d) e in and_make _ _ (eq-eqb q p (omega arith)) (eq-eqb d b (omega arith)))
    (λ e. let w = and_both (eqb q p) (eqb d b) e in eq-eqb (8 * p + b) (8 * q + d) (omega (arith, eqb-true q p w.0, eqb-true d b w.1)))

-- it waits in buffer d of its processor
pub home_set : (k : Buffering) (x : Logged) (p b d : ℕ) → b < 8 → slot_by k x.loc ≡ Some d → x.waits ≡ true → d < 8 → has (2 ^ (8 * x.proc + d)) (8 * p + b) ≡ sits_in k p b x
home_set k x p b d few e w h =
    has_one (8 * x.proc + d) (8 * p + b) ∙ two_numbers p b x.proc d few h
    ∙ ap (λ (o : Option ℕ). eqb x.proc p && is b o) (sym (slot-some k x.loc d e))
    ∙ sym (ap (λ (t : Bool). t && (eqb x.proc p && is b (slot k x.loc))) w)

module _ (k : Buffering) (log : List Logged) where
  -- one more of the log
  pub waits_next : (j found h : ℕ) → Waits k log j found → ((p b : ℕ) → p < 4 → b < 8 → has h (8 * p + b) ≡ sits_in k p b (get_or log j blank)) → Waits k log (j + 1) (bit_or found h)
  unfolding gathered
  waits_next j found h W s =
      record {
        holds = λ p b low few. rw (add-one j)
            (has_or found h (8 * p + b) ∙ or_swap (has found (8 * p + b)) (has h (8 * p + b))
            ∙ ap₂ ◌||◌ (s p b low few) (W.holds p b low few)
            ∙ sym (filled_step (λ i. store_of (get_or log i blank)) (buffer_of k log j p b) (sits_in k p b (get_or log j blank)) (store_of (get_or log j blank))));
      }

  pub waits-none : Waits k log 0 0
  unfolding gathered
  waits-none = record { holds = λ p b low few. has_zero (8 * p + b) }

-- some number of a range passes a test

below_first : (f : ℕ → Bool) (n : ℕ) → some_below (suc n) f ≡ (f 0 || some_below n (λ i. f (suc i)))
unfolding some_below
below_first f zero = refl
below_first f (suc n) = ap (λ (t : Bool). f (suc n) || t) (below_first f n) ∙ exchange (f (suc n)) (f 0) (some_below n (λ i. f (suc i)))
  where
    exchange : (x y z : Bool) → (x || (y || z)) ≡ (y || (x || z))
    exchange true true z = refl
    exchange true false z = refl
    exchange false y z = refl

range_any : (f : ℕ → Bool) (n a : ℕ) → list_any f (range_with_len a n) ≡ some_below n (λ i. f (a + i))
unfolding some_below
range_any f zero a = refl
range_any f (suc n) a =
    (λ i. f a || range_any f n (a + 1) i) ∙ ap₂ ◌||◌ (ap f (omega arith)) (below-same n _ _ (λ i l. ap f (omega arith))) ∙ sym (below_first (λ i. f (a + i)) n)

pub any_below : (f : ℕ → Bool) (n : ℕ) → list_any f (range_with_len 0 n) ≡ some_below n f
any_below f n = range_any f n 0 ∙ below-same n _ _ (λ i l. ap f (omega arith))

-- the stores that are in the log so far

module _ (log : List Logged) (n : ℕ) (few : n ≤ length log) {l : List Logged} (e : l ≡ take n log) where
  taken_at : (j : ℕ) → j < n → get_or l j blank ≡ get_or log j blank
  taken_at j h = rw e (grind (arith, common_steps))

  pub taken_long : length l ≡ n
  taken_long = rw e (grind (arith, common_steps))

  taken_below : (k : Buffering) (p b m : ℕ) → m ≤ n → buffer_of k l m p b ≡ buffer_of k log m p b
  unfolding gathered
  taken_below k p b zero h = refl
  taken_below k p b (suc m) h = ap₂ (λ (xs : List Store) (y : Logged). xs ++ cond (sits_in k p b y) (store_of y ∷ []) []) (taken_below k p b m (omega arith)) (taken_at m (omega arith))

  pub taken_buffer : (k : Buffering) (p b : ℕ) → buffer_of k l (length l) p b ≡ buffer_of k log n p b
  taken_buffer k p b = ap (λ (m : ℕ). buffer_of k l m p b) taken_long ∙ taken_below k p b n (omega arith)

  pub taken_oldest : (k : Buffering) (p b r : ℕ) → Oldest k l (length l) p b r → Oldest k log n p b r
  taken_oldest k p b r o =
      record {
        most = omega (arith, o.most, taken_long);
        found = λ h. ap (sits_in k p b) (sym (taken_at r h)) ∙ o.found (omega (arith, taken_long));
        before = λ j h. ap (sits_in k p b) (sym (taken_at j (omega (arith, o.most, taken_long)))) ∙ o.before j h;
      }

  -- none is the oldest
  pub taken-none : (k : Buffering) (p b : ℕ) → Oldest k l (length l) p b (length l) → Oldest k log n p b n
  taken-none k p b o = subst (Oldest k log n p b) taken_long (taken_oldest k p b (length l) o)

  pub taken_waits : (k : Buffering) (w : ℕ) → Waits k l (length l) w → Waits k log n w
  taken_waits k w W = record { holds = λ p b low few. W.holds p b low few ∙ ap filled (taken_buffer k p b) }

-- the location of the oldest

module _ (k : Buffering) (log : List Logged) (n p b : ℕ) where
  pub oldest_location : (j : ℕ) → j < n → Oldest k log n p b j → oldest_at (buffer_of k log n p b) ≡ some (get_or log j blank).loc
  oldest_location j low o =
      ap oldest_at (gathered_first (λ i. store_of (get_or log i blank)) (λ i. sits_in k p b (get_or log i blank)) n j low (o.found low) o.before)

  pub oldest-none : Oldest k log n p b n → oldest_at (buffer_of k log n p b) ≡ none
  oldest-none o = ap oldest_at (gathered_none (λ i. store_of (get_or log i blank)) (λ i. sits_in k p b (get_or log i blank)) n o.before)
