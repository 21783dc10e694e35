-- The descent to the lowest schedule over a case's rules: which step is taken, and what stands in the buffer. Assumes nothing.
use mathlib.Core.Path.{◌≡◌, refl, sym, ◌∙◌, ap, subst}
use mathlib.Core.Logic.{◌⊎◌, inl, inr, ⊎_elim}
use mathlib.Core.Bool.{Bool, true, false, false≢true}
use mathlib.Core.List.{List, [], ◌∷◌, ◌++◌, append-nil, append_assoc}
use Prim.Native.Nat.{ℕ, zero, suc, ◌+◌, ◌*◌, ◌-◌, ◌≤◌, ◌<◌}
use native.Mathlib.Omega.{arith}
use native.Mathlib.Decide.{dec_lt}
use lib.ListN.{length, take, drop, replicate, length-append, length-replicate}
use Rattle.words.specs.Small.{concat_map}
use Rattle.words.proofs.Lists.{concat_map-append}
use Rattle.cases.specs.declared.Case.{Case}
use Rattle.clauses.specs.declared.Asked.{Asked}
use Rattle.clauses.specs.Wanted.{Askable}
use Rattle.runs.specs.Listing.{below}
use Rattle.runs.specs.Reachable.{Reachable}
use Rattle.runs.specs.Wanted.{Wish, Reaches, LowestFrom}
use Rattle.runs.specs.Asking.{Laid}
use Rattle.runs.proofs.Reachable.{reachable_start, reachable_step}
use Rattle.runs.proofs.Lowest.{wanted_reaches, reaches_wanted, reaches_none, reaches_parts, lowest_end, lowest_step}
use Rattle.rules.specs.State.{State, initial}
use Rattle.rules.specs.Step.{Step, issue, commit, neither, steps_of, step_code, after}
use Rattle.rules.specs.Result.{finished, registers}
use Rattle.rules.specs.Womm.{womm}
use Rattle.rules.specs.Bytes.{step_bytes, bytes_of}
use Rattle.rules.proofs.Bytes.{bytes_steps, bytes_length}
use Rattle.rules.proofs.Listing.{still}
use Rattle.rules.proofs.Lowest.{written}
use Rattle.sure.specs.Sure.{forward}
use Rattle.sure.specs.Spent.{Key, taking, issuing, step_by}
use Rattle.sure.specs.Equal.{Needless}
use Rattle.machine.specs.declared.Machine.{Machine}
use Rattle.machine.specs.Shown.{shown}
use Rattle.machine.specs.Kept.{Kept}
use Rattle.machine.specs.Valid.{Valid}
use Rattle.machine.specs.Given.{Showing}
use Rattle.machine.specs.Lent.{Lent, Ending}
use Rattle.spending.specs.Words.{spent_by, key_at, opens_at}
use Rattle.choices.specs.Choice.{NextAt}
use Rattle.choices.specs.Given.{Scanning}
use Rattle.std.specs.declared.ops.Range.{Range}
use Rattle.searching.proofs.Opened.{opens_step}
use Rattle.searching.proofs.Starts.{spent_none}
use Rattle.asking.specs.Inner.{Standing, InReach, ReachOf, step_at, FirstInReach, row_of, rank_in, Placed, RowSpan, LowestAt}
use Rattle.asking.specs.declared.Reach.{Reach}
use Rattle.asking.proofs.Rows.{lower_rows, row_below}

-- what the branch of a step is given
pub standing_next : {c : Case} {program : List ℕ} {m next : Machine} {n : ℕ} {ahead : Bool} {asked : Asked} → Standing c program m n ahead asked → (t : Step) → step_code c (shown c m) t ≡ 0
    → Showing c (after c (shown c m) t) next → Standing c program next (n - 1) ahead asked
standing_next {c} S t h took =
    record { coded = S.coded; valid = took.valid; reached = subst (Reachable (womm c)) (sym took.shows) (reachable_step (womm c) S.reached t h); forwards = S.forwards; few = omega (arith, S.few); asks = S.asks }

-- what the next step is asked of, and what it answers
pub scanning_at : {c : Case} {program : List ℕ} {m : Machine} {n : ℕ} {ahead : Bool} {asked : Asked} {at to : ℕ} → Standing c program m n ahead asked → at ≤ to → to ≤ 3200
    → Scanning c.counts m.names m.holders c.procs m.issued (replicate 50 0) at to
scanning_at S rising upto =
    let v = S.valid in
    record {
      asking = record { issued = v.issued; few = v.fit.procs; counted = v.fit.counts; names_long = v.names_long; holders_long = v.holders_long };
      rising = rising;
      upto = upto;
      long = refl;
    }

pub next_at : {c : Case} {program : List ℕ} {m : Machine} {n : ℕ} {ahead : Bool} {asked : Asked} {at to j : ℕ} → Standing c program m n ahead asked
    → ((d : Case) → Lent d program c.counts c.masks c.presets c.procs c.locs → d.memory ≡ c.memory → Valid d m → NextAt d (shown d m) (replicate 50 0) at to j) → NextAt c (shown c m) (replicate 50 0) at to j
next_at {c} S next = next c (record { coded = S.coded; counted = refl; starts = record { masks = refl; presets = refl }; present = refl; located = refl }) refl S.valid

-- whether a machine is finished
pub ended_at : {c : Case} {m : Machine} {r : Bool} → Valid c m → ((d : Case) (s : State) → Ending d s c.counts m.places c.procs → Kept d s m.sets → r ≡ finished d s) → r ≡ finished c (shown c m)
ended_at {c} {m} v ends = ends c (shown c m) (record { fit = v.fit; present = refl; counted = refl; placed = refl }) v.kept

-- what a search after a step says
module _ {c : Case} {W : List ℕ → Bool} (s : State) {next : State} {n : ℕ} {r : Reach} (t : Step) (shows : next ≡ after c s t) (F : ReachOf c W next n r) where
  pub held_after_lem : r.found ≡ true → InReach c W (after c s t) n
  held_after_lem e = subst (λ (x : State). InReach c W x n) shows (F.found.0 e)

  pub vain_after : r.found ≡ false → InReach c W (after c s t) n → ⊥
  vain_after e h = false≢true (sym e ∙ F.found.1 (subst (λ (x : State). InReach c W x n) (sym shows) h))

-- no step is spent
unspent : (a : Key) → spent_by (replicate 50 0) a ≡ true → ⊥
unspent a h = false≢true (ap (λ (f : Key → Bool). f a) (sym spent_none) ∙ h)

-- so none is needless
needed : (c : Case) (s : State) (a : Key) → Needless c s (spent_by (replicate 50 0)) a → ⊥
needed c s (taking k e) (inl h) = unspent (taking k e) h
needed c s (taking k e) (inr x) = unspent (taking k x.source) x.rests
needed c s (issuing p) h = unspent (issuing p) h

module _ (c : Case) (W : Wish) (s : State) (n : ℕ) where
  -- within n steps after the step at position j none is wanted
  abbrev pub Vain : ℕ → Type 0
  Vain j = InReach c W (after c s (step_at s j)) n → ⊥

  -- the positions from `from` on and before `at` are in vain
  abbrev pub Skipped : ℕ → ℕ → ℕ → Type 0
  Skipped from to at = (from ≤ at) × (at ≤ to + 1) × ((i : ℕ) → from ≤ i → i < at → i < to → opens_at c s i ≡ true → Vain i)

  pub skipped_start : (from to : ℕ) → from ≤ to → Skipped from to from
  skipped_start from to l = (omega arith, omega arith, λ i a b. absurd (omega arith))

  module _ {from to at : ℕ} (S : Skipped from to at) (j : ℕ) (N : NextAt c s (replicate 50 0) at to j) where
    upto_next : (i : ℕ) → from ≤ i → i < j → i < to → opens_at c s i ≡ true → Vain i
    upto_next i a b l o =
        elim (dec_lt i at) [
          | yes h ↦ S.2 i a h l o
          | no h ↦ absurd (needed c s (key_at i) (N.skipped i (omega arith) b o))
        ]

    pub skipped_more : (j < to → Vain j) → Skipped from to (j + 1)
    skipped_more vain = (omega (arith, S.0, N.from), omega (arith, N.upto), rest)
      where
        rest : (i : ℕ) → from ≤ i → i < j + 1 → i < to → opens_at c s i ≡ true → Vain i
        rest i a b l o =
            elim (dec_lt i j) [
              | yes h ↦ upto_next i a h l o
              | no h ↦ let e : j ≡ i = omega arith in subst Vain e (vain (omega arith))
            ]

    pub first_here : j < to → InReach c W (after c s (step_at s j)) n → FirstInReach c W s n from to j
    first_here l held =
        record {
          least = omega (arith, S.0, N.from);
          upto = N.upto;
          skipped = λ i a b o. upto_next i a b (omega arith) o;
          found = λ _. (opens_step c s _ _ (N.found l).0, held);
        }

  pub first_none : {from to at : ℕ} → from ≤ to → Skipped from to at → to ≤ at → FirstInReach c W s n from to to
  first_none rising S end = record { least = rising; upto = omega arith; skipped = λ i a b o. S.2 i a (omega arith) b o; found = λ l. absurd (omega arith) }

  -- no step of the rows before i will do
  abbrev pub Passed : ℕ → Type 0
  Passed i = (u : Step) → step_code c s u ≡ 0 → row_of u < i → InReach c W (after c s u) n → ⊥

  pub passed_start : Passed 0
  passed_start u h l = absurd (omega arith)

  module _ {i : ℕ} (P : Passed i) {r : Range ℕ} (R : RowSpan c s i r) (j : ℕ) (F : FirstInReach c W s n r.start r.end j) where
    -- nor one of row i that is placed before j
    in_row : (u : Step) (x : Placed c s r u) → x.at < j → InReach c W (after c s u) n → ⊥
    in_row u x l held = F.skipped x.at x.from l x.opened (subst (λ (t : Step). InReach c W (after c s t) n) x.step held)

    pub passed_more : r.end ≤ j → Passed (i + 1)
    passed_more end u h l held =
        elim (dec_lt (row_of u) i) [
          | yes b ↦ P u h b held
          | no b ↦ let x = R.covers u h (omega arith) in in_row u x (omega (arith, x.to)) held
        ]

    pub lowest_here : s.count ≤ 48 → j < r.end → LowestAt c W s n j
    lowest_here few l =
        record { small = omega (arith, R.upto); fits = (F.found l).0; held = (F.found l).1; barred = λ u h b. bar u h (lower_rows c s few u (step_at s j) h (F.found l).0 b) }
      where
        bar : (u : Step) → step_code c s u ≡ 0 → (row_of u < row_of (step_at s j)) ⊎ ((row_of u ≡ row_of (step_at s j)) × (rank_in u < rank_in (step_at s j))) → InReach c W (after c s u) n → ⊥
        bar u h (inl b) held = P u h (omega (arith, b, (R.inside j F.least l).0)) held
        bar u h (inr b) held =
            let here = R.inside j F.least l in
            let x = R.covers u h (b.0 ∙ here.0) in
            in_row u x (omega (arith, x.order, here.1, b.1)) held

  -- one of them will do
  pub passed_all : {i : ℕ} → Passed i → 193 ≤ i → s.count ≤ 48 → c.procs ≤ 4 → finished c s ≡ false → InReach c W s (suc n) → ⊥
  passed_all {i} P end few procs f held = let x = wanted_reaches (womm c) W held in step x.0 x.1
    where
      step : (ts : List Step) → Reaches (womm c) W s (suc n) ts → ⊥
      step [] r = false≢true (sym f ∙ (reaches_none (womm c) W r).0)
      step (u ∷ us) r = let w = reaches_parts (womm c) W r in P u w.fits (omega (arith, row_below c s few procs u w.fits)) (reaches_wanted (womm c) W (w.rest n refl))

-- THE INVARIANT of the descent: the steps ps are taken and stand in the buffer, and the lowest schedule from here completes them
pub record Descending (c : Case) (W : Wish) (n : ℕ) (m : Machine) (left at : ℕ) (out : List ℕ) : Type 0 where
  pub valid : Valid c m
  pub reached : Reachable (womm c) (shown c m)
  pub held : InReach c W (shown c m) left
  pub steps : List Step
  pub count : length steps + left ≡ n
  pub size : at ≡ 4 * length steps
  pub laid : out ≡ bytes_of steps ++ replicate (384 - at) 0
  pub on : (ts : List Step) → LowestFrom (womm c) W step_bytes (shown c m) left ts → LowestFrom (womm c) W step_bytes (initial c) n (steps ++ ts)

-- the same of equal numbers
pub descending_at : {c : Case} {W : Wish} {n : ℕ} {m : Machine} {left at left' at' : ℕ} {out : List ℕ} → left ≡ left' → at ≡ at' → Descending c W n m left at out → Descending c W n m left' at' out
descending_at {c} {W} {n} {m} {out = out} e f D = subst (λ (x : Type 0). x) (λ i. Descending c W n m (e i) (f i) out) D

append_one : {A : Type 0} (l : List A) (x : A) (m : List A) → ((l ++ (x ∷ [])) ++ m) ≡ (l ++ (x ∷ m))
append_one [] x m = refl
append_one (y ∷ l) x m = ap (λ (l : List _). y ∷ l) (append_one l x m)

append-length : {A : Type 0} (l : List A) (x : A) → length (l ++ (x ∷ [])) ≡ length l + 1
append-length [] x = refl
append-length (y ∷ l) x = let e = append-length l x in omega (arith, e)

taken : (a b : List ℕ) (n : ℕ) → n ≡ length a → take n (a ++ b) ≡ a
taken [] b n e = ap (λ (k : ℕ). take k b) e
taken (x ∷ a) b n e = ap (λ (k : ℕ). take k (x ∷ (a ++ b))) e ∙ ap (λ (l : List ℕ). x ∷ l) (taken a b (length a) refl)

dropped : (a b : List ℕ) (n k : ℕ) → n ≡ length a + k → drop n (a ++ b) ≡ drop k b
dropped [] b n k e = let z : n ≡ k = omega (arith, e) in ap (λ (k : ℕ). drop k b) z
dropped (x ∷ a) b n k e = let z : n ≡ suc (length a + k) = omega (arith, e) in ap (λ (k : ℕ). drop k (x ∷ (a ++ b))) z ∙ dropped a b (length a + k) k refl

-- bytes over the first four of the zeros
pub put_over : (a bytes : List ℕ) (rest at : ℕ) → at ≡ length a → take at (a ++ replicate (suc (suc (suc (suc rest)))) 0) ++ (bytes ++ drop (at + 4) (a ++ replicate (suc (suc (suc (suc rest)))) 0)) ≡ a ++ (bytes ++ replicate rest 0)
put_over a bytes rest at e =
    let b : List ℕ = replicate (suc (suc (suc (suc rest)))) 0 in
    let past : at + 4 ≡ length a + 4 = ap (λ (k : ℕ). k + 4) e in
    λ i. taken a b at e i ++ (bytes ++ dropped a b (at + 4) 4 past i)

module _ (c : Case) (W : Wish) (n : ℕ) (most : n ≤ 96) where
  pub descending_start : {m : Machine} {out : List ℕ} → shown c m ≡ initial c → Valid c m → InReach c W (initial c) n → out ≡ replicate 384 0 → Descending c W n m n 0 out
  descending_start {m} shows valid held cleared =
      record {
        valid = valid;
        reached = subst (Reachable (womm c)) (sym shows) (reachable_start (womm c));
        held = subst (λ (s : State). InReach c W s n) (sym shows) held;
        steps = [];
        count = omega arith;
        size = refl;
        laid = cleared;
        on = λ ts L. subst (λ (s : State). LowestFrom (womm c) W step_bytes s n ts) shows L;
      }

  module _ {m : Machine} {left at : ℕ} {out : List ℕ} (D : Descending c W n m left at out) where
    -- a finished state from which one is within reach is one that is wanted
    here : finished c (shown c m) ≡ true → W (registers c (shown c m)) ≡ true
    here f = let x = wanted_reaches (womm c) W D.held in step x.0 x.1
      where
        step : (ts : List Step) → Reaches (womm c) W (shown c m) left ts → W (registers c (shown c m)) ≡ true
        step [] r = (reaches_none (womm c) W r).1
        step (u ∷ us) r = absurd (still c (shown c m) u f (reaches_parts (womm c) W r).fits)

    pub descended : finished c (shown c m) ≡ true → Laid (womm c) W step_bytes n 384 at out
    descended f =
        let whole = append-nil D.steps in
        let long : at ≡ length (bytes_of D.steps) = D.size ∙ sym (bytes_length D.steps) in
        record {
          schedule = D.steps;
          lowest = subst (LowestFrom (womm c) W step_bytes (initial c) n) whole (D.on [] (lowest_end (womm c) (still c) W step_bytes (shown c m) left f (here f)));
          whole = long;
          filled = D.laid;
        }

    -- with no step to go it is finished
    pub at_last : left ≤ 0 → finished c (shown c m) ≡ true
    at_last z = let x = wanted_reaches (womm c) W D.held in step x.0 x.1
      where
        step : (ts : List Step) → Reaches (womm c) W (shown c m) left ts → finished c (shown c m) ≡ true
        step [] r = (reaches_none (womm c) W r).0
        step (u ∷ us) r = absurd ((reaches_parts (womm c) W r).room (omega arith))

    pub laid-length : length out ≡ 384
    laid-length = let e = ap length D.laid ∙ length-append (bytes_of D.steps) (replicate (384 - at) 0) in omega (arith, e, bytes_length D.steps, length-replicate {A = ℕ} (384 - at) 0, D.size, D.count)

    pub room_left : 0 < left → at + 4 ≤ 384
    room_left l = omega (arith, D.size, D.count)

    -- one step down
    pub descending_more : 0 < left → finished c (shown c m) ≡ false → (j : ℕ) → LowestAt c W (shown c m) (left - 1) j → {next : Machine} → Showing c (after c (shown c m) (step_at (shown c m) j)) next
        → (four : List ℕ) → step_bytes (step_at (shown c m) j) ≡ four → Descending c W n next (left - 1) (at + 4) (take at out ++ (four ++ drop (at + 4) out))
    descending_more l f j T {next} took four written_as =
        let t = step_at (shown c m) j in
        let one : suc (left - 1) ≡ left = omega arith in
        record {
          valid = took.valid;
          reached = subst (Reachable (womm c)) (sym took.shows) (reachable_step (womm c) D.reached t T.fits);
          held = subst (λ (s : State). InReach c W s (left - 1)) (sym took.shows) T.held;
          steps = D.steps ++ (t ∷ []);
          count = omega (arith, append-length D.steps t, D.count);
          size = omega (arith, append-length D.steps t, D.size);
          laid = laid;
          on = λ ts L.
              subst (LowestFrom (womm c) W step_bytes (initial c) n) (sym (append_one D.steps t ts))
              (D.on (t ∷ ts)
              (subst (λ (k : ℕ). LowestFrom (womm c) W step_bytes (shown c m) k (t ∷ ts)) one
              (lowest_step (womm c) (still c) W step_bytes (written c) (shown c m) (left - 1) t ts f T.fits T.barred
              (subst (λ (s : State). LowestFrom (womm c) W step_bytes s (left - 1) ts) took.shows L))));
        }
      where
        rest : ℕ
        rest = 384 - (at + 4)

        zeros : 384 - at ≡ suc (suc (suc (suc rest)))
        zeros = omega (arith, D.size, D.count)

        bytes : bytes_of (D.steps ++ (step_at (shown c m) j ∷ [])) ≡ bytes_of D.steps ++ four
        bytes = concat_map-append step_bytes D.steps (step_at (shown c m) j ∷ []) ∙ ap (λ (l : List ℕ). bytes_of D.steps ++ l) (append-nil (step_bytes (step_at (shown c m) j)) ∙ written_as)

        laid : take at out ++ (four ++ drop (at + 4) out) ≡ bytes_of (D.steps ++ (step_at (shown c m) j ∷ [])) ++ replicate rest 0
        laid =
            ap (λ (l : List ℕ). take at l ++ (four ++ drop (at + 4) l)) (D.laid ∙ ap (λ (k : ℕ). bytes_of D.steps ++ replicate k 0) zeros)
            ∙ put_over (bytes_of D.steps) four rest at (omega (arith, D.size, bytes_length D.steps))
            ∙ sym (append_assoc (bytes_of D.steps) four (replicate rest 0))
            ∙ ap (λ (l : List ℕ). l ++ replicate rest 0) (sym bytes)
