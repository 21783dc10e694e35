-- A machine with one entry committed. Assumes nothing.
use mathlib.Core.Path.{◌≡◌, refl, sym, ◌∙◌, ap, subst}
use mathlib.Core.Logic.{inr}
use mathlib.Core.Bool.{Bool, true, false, cond, ◌&&◌, false≢true}
use mathlib.Core.List.{List, [], ◌∷◌}
use mathlib.Core.Option.{Option, none, some}
use Prim.Native.Nat.{ℕ, zero, suc, ◌+◌, ◌-◌, ◌%◌, ◌≤◌, ◌<◌}
use native.Mathlib.Numerals.{add-one}
use native.Mathlib.Omega.{arith}
use lib.Dec.{eqb, leb}
use lib.ListN.{length, get_or, set, length-set}
use lib.Seq.{set-get_or}
use borrow.Author.Tests.{ne_eqb, leb-false}
use Rattle.words.specs.Small.{put, or_zero}
use Rattle.cases.specs.declared.Case.{Case}
use Rattle.cases.specs.declared.Instr.{Instr}
use Rattle.cases.specs.declared.Instr.TheVariants.{Empty, Read, Write, Local, Branch, Goto, Acquire, Release}
use Rattle.rules.specs.Kinds.{kind, branching, acquiring, syncs, label_of}
use Rattle.rules.specs.Order.{Order, joined_if}
use Rattle.rules.specs.State.{Action, State, kind_of, value_of, input_of, item_value}
use Rattle.rules.specs.Commit.{input, result_of, committed}
use Rattle.rules.specs.Step.{commit, after as afterStep}
use Rattle.rules.proofs.Accepted.{CanCommit, can_commit}
use Rattle.oneorder.specs.OneOrder.{OneState, view, committed_one, after_one}
use Rattle.orders.specs.Rows.{order_of}
use Rattle.machine.specs.declared.Entry.{Entry}
use Rattle.machine.specs.declared.Machine.{Machine}
use Rattle.machine.specs.Word.{entry_of, Packable}
use Rattle.machine.specs.Shown.{shown_entry, shown_one, shown, name_of, place_of, holder_of}
use Rattle.machine.specs.Fit.{Fine}
use Rattle.machine.specs.Kept.{Kept}
use Rattle.machine.specs.Valid.{Valid, ValidEntry, ValidPlace}
use Rattle.machine.specs.Given.{Accepted, Showing}
use Rattle.machine.proofs.Entries.{action_at_lem}
use Rattle.machine.proofs.Ordered.{after_shows, after-reached}
use Rattle.machine.proofs.Packing.{packable}
use Rattle.machine.proofs.Stores.{set_put, set_all, actions_set, place-some}
use Rattle.committing.specs.Committed.{releases, Acquired, KeptBy, result_by, branch_to, place_by, locked_by}
use Rattle.committing.proofs.Inputs.{branch_input, sync_input, sync_test, order_input, result_inputs}

module _ (c : Case) (one : OneState) (p k e : ℕ) where
  abbrev here : State
  here = view c one

  abbrev order₀ : Order
  order₀ = one.order

  result_is : (i : Instr) → result_of c here p k e i ≡ result_by (or_zero (item_value c here e)) (input c here p k e 0) (input c here p k e 1) i
  result_is Empty = refl
  result_is (Read d a) = refl
  result_is (Write a b) = refl
  result_is (Local d x) = refl
  result_is (Branch a l) = refl
  result_is (Goto l) = refl
  result_is (Acquire a) = refl
  result_is (Release a) = refl

  -- the state after the commit of an action a
  abbrev committed_by : Action → OneState
  committed_by a =
      record {
        count = here.count;
        actions = put here.actions k (record {
          proc = a.proc;
          place = a.place;
          instr = a.instr;
          inputs = a.inputs;
          loc = a.loc;
          result = some (result_by (or_zero (item_value c here e)) (input_of here a 0) (input_of here a 1) a.instr);
        });
        places = cond (branching (kind_of a)) (put here.places p (some (cond (eqb (input_of here a 0) 0) (suc a.place) (label_of a.instr)))) here.places;
        names = here.names;
        holders = cond (syncs (kind_of a)) (put here.holders (input_of here a 0) (cond (acquiring (kind_of a)) (some p) none)) here.holders;
        order = joined_if (acquiring (kind_of a)) order₀ (8 + k) (8 + here.count) (releases here (input_of here a 0));
      }

  committed_is : committed_one c one p k e ≡ committed_by (here.actions k)
  unfolding committed committed_one
  committed_is =
      let a = here.actions k in
      let u = result_is a.instr in
      λ j. record {
        count = here.count;
        actions = put here.actions k (record { proc = a.proc; place = a.place; instr = a.instr; inputs = a.inputs; loc = a.loc; result = some (u j) });
        places = (committed_by a).places;
        names = here.names;
        holders = (committed_by a).holders;
        order = (committed_by a).order;
      }

-- the place counters
module _ (places : List ℕ) (p place label x : ℕ) (low : p < length places) (h : place < 12) (small : label ≤ 12) where
  abbrev counters : List ℕ → ℕ → Option ℕ
  counters l q = place_of (get_or l q 0)

  target : (b : Bool) → place_of (cond b (place + 1) (label % 256)) ≡ some (cond b (suc place) label)
  target true = place-some (place + 1) (λ e. omega arith) ∙ ap some (add-one place)
  target false = let q : label % 256 ≡ label = omega arith in rw q (place-some label (λ e. omega arith))

  places-set : (b : Bool) → counters (set places p (cond b (branch_to x place label) (get_or places p 0))) ≡ cond b (put (counters places) p (some (cond (eqb x 0) (suc place) label))) (counters places)
  places-set true = set_put place_of places 0 p (branch_to x place label) (some (cond (eqb x 0) (suc place) label)) low (target (eqb x 0))
  places-set false = ap counters (set-get_or places p 0)

  range : (b : Bool) → ValidPlace (cond b (place + 1) (label % 256))
  range true = inr (omega arith)
  range false = inr (omega arith)

  place_valid : (b : Bool) → ValidPlace (get_or places p 0) → ValidPlace (cond b (branch_to x place label) (get_or places p 0))
  place_valid true o = range (eqb x 0)
  place_valid false o = o

-- a store past the end changes nothing
pub set_past : {A : Type 0} (l : List A) (i : ℕ) (v : A) → length l ≤ i → set l i v ≡ l
set_past [] i v h = refl
set_past (a ∷ l) zero v h = absurd (omega arith)
set_past (a ∷ l) (suc i) v h = ap (λ (r : List _). a ∷ r) (set_past l i v (omega arith))

-- the locks
module _ (holders : List ℕ) (x p : ℕ) (long : length holders ≡ 8) where
  abbrev locks : List ℕ → ℕ → Option ℕ
  locks l q = holder_of (get_or l q 0)

  holder_by : (b : Bool) → holder_of (cond b (p + 1) 0) ≡ cond b (some p) none
  holder_by true = let q : p + 1 - 1 ≡ p = omega arith in rw (ne_eqb (p + 1) 0 (λ e. omega arith), q)
  holder_by false = refl

  holders_set : (b a : Bool) → (b ≡ true → x < 8) → locks (cond b (set holders x (cond a (p + 1) 0)) holders) ≡ cond b (put (locks holders) x (cond a (some p) none)) (locks holders)
  holders_set true a h = set_put holder_of holders 0 x (cond a (p + 1) 0) (cond a (some p) none) (omega (arith, h refl)) (holder_by a)
  holders_set false a h = refl

  holders_long : (b a : Bool) → length (cond b (set holders x (cond a (p + 1) 0)) holders) ≡ 8
  holders_long true a = length-set holders x _ ∙ long
  holders_long false a = long

abbrev pub done_by : Entry → ℕ → Entry
done_by e r = record { instr = e.instr; proc = e.proc; place = e.place; first = e.first; second = e.second; loc = e.loc; done = true; result = r }

abbrev pub settled : Machine → ℕ → ℕ → ℕ → List ℕ → ℕ → List ℕ → List ℕ → Machine
settled m p k place holders w rows sets = record { issued = m.issued; places = set m.places p place; names = m.names; holders = holders; acts = set m.acts k w; rows = rows; sets = sets }

label_small : (i : Instr) → Fine i → label_of i ≤ 12
label_small Empty f = omega arith
label_small (Read d a) f = omega arith
label_small (Write a b) f = omega arith
label_small (Local d e) f = omega arith
label_small (Branch a l) f = f.1
label_small (Goto l) f = f
label_small (Acquire a) f = omega arith
label_small (Release a) f = omega arith

-- an accepted commit
module _ (c : Case) (m : Machine) (p k src : ℕ) (ok : Accepted c m (commit p k src)) where
  abbrev v : Valid c m
  v = ok.valid

  abbrev pub e : Entry
  e = entry_of (get_or m.acts k 0)

  abbrev pub s : State
  s = shown c m

  abbrev pub first : ℕ
  first = or_zero (value_of s (name_of c e.first))

  abbrev pub second : ℕ
  second = or_zero (value_of s (name_of c e.second))

  abbrev pub value : ℕ
  value = or_zero (item_value c s src)

  can : CanCommit c s p k src
  can = can_commit c s p k src ok.fits

  pub commit_low : p < 4
  commit_low = omega (arith, can.proc, v.fit.procs)

  pub commit_there : k < m.issued
  commit_there = can.there

  pub commit_entry : ValidEntry c e
  commit_entry = v.entries k commit_there

  -- the entry fits a word once it is done
  pub commit_packable : (f : Entry) (r : ℕ) → f ≡ e → Packable (done_by f r)
  commit_packable f r h =
      let v = subst Packable (sym h) (packable c (get_or m.acts k 0) commit_entry) in
      record { fine = v.fine; proc = v.proc; place = v.place; first = v.first; second = v.second; loc = v.loc }

  self_is : s.actions k ≡ shown_entry c e
  self_is = action_at_lem c m.issued m.acts s (record { count = refl; actions = refl }) k commit_there

  sync_below : syncs (kind e.instr) ≡ true → first < 8
  sync_below h =
      let t : (syncs (kind e.instr) && leb c.locs (input_of s (shown_entry c e) 0)) ≡ false = subst (λ (a : Action). (syncs (kind_of a) && leb c.locs (input_of s a 0)) ≡ false) self_is can.low in
      let u = sync_test c s e.first e.second (leb c.locs) e.instr ∙ t in
      omega (arith, leb-false c.locs first (right (syncs (kind e.instr)) (leb c.locs first) h u), v.fit.locs)
    where
      right : (a b : Bool) → a ≡ true → (a && b) ≡ false → b ≡ false
      right true b h k = k
      right false b h k = absurd (false≢true h)

  module _ (w : ℕ) (rows sets : List ℕ) (holds : entry_of w ≡ done_by e (result_by value first second e.instr)) (keep : KeptBy p k m.sets sets) (long : length rows ≡ 56) (ho : order_of rows ≡ joined_if (acquiring (kind e.instr)) (order_of m.rows) (8 + k) (8 + m.issued) (releases s first)) where
    abbrev after : Machine
    after = settled m p k (place_by (kind e.instr) (get_or m.places p 0) first e.place e.instr) (locked_by (kind e.instr) m.holders first p) w rows sets

    -- the one order is kept as the rules with one order say
    as_one : shown_one c after ≡ after_one c (shown_one c m) (commit p k src)
    unfolding after_one
    as_one =
        let i = e.instr in
        let q = kind i in
        let one = shown_one c m in
        let inside : k < length m.acts = omega (arith, v.acts_long, v.issued, commit_there) in
        let room : p < length m.places = omega (arith, v.places_long, commit_low) in
        let r = result_inputs c s e.first e.second value i in
        let a = actions_set c m.issued m.issued k m.acts w (done_by e (result_by value first second i)) holds commit_there inside (λ j h. refl) ∙ ap (λ (n : ℕ). put s.actions k (shown_entry c (done_by e n))) r in
        let n = places-set m.places p e.place (label_of i) first room commit_entry.place (label_small i commit_entry.fine) (branching q)
        ∙ branch_input c s e.first e.second (λ n. put s.places p (some (cond (eqb n 0) (suc e.place) (label_of i)))) s.places i in
        let h = holders_set m.holders first p v.holders_long (syncs q) (acquiring q) sync_below ∙ sync_input c s e.first e.second (λ n. put s.holders n (cond (acquiring q) (some p) none)) s.holders i in
        let o : order_of rows ≡ (committed_by c one p k src (shown_entry c e)).order = ho ∙ order_input c s e.first e.second (order_of m.rows) (8 + k) (8 + m.issued) (releases s) i in
        let whole : shown_one c after ≡ committed_by c one p k src (shown_entry c e) = λ j. record { count = m.issued; actions = a j; places = n j; names = s.names; holders = h j; order = o j } in
        whole ∙ ap (committed_by c one p k src) (sym self_is) ∙ sym (committed_is c one p k src)

    shows : shown c after ≡ committed c s p k src
    unfolding afterStep
    shows = after_shows c m after (commit p k src) v.reached ok.fits as_one

    valid : Valid c after
    valid =
        let i = e.instr in
        let room : p < length m.places = omega (arith, v.places_long, commit_low) in
        record {
          fit = v.fit;
          issued = v.issued;
          acts_long = length-set m.acts k _ ∙ v.acts_long;
          places_long = length-set m.places p _ ∙ v.places_long;
          names_long = v.names_long;
          holders_long = holders_long m.holders first p v.holders_long (syncs (kind i)) (acquiring (kind i));
          rows_long = long;
          places = set_all ValidPlace m.places 0 4 p _ room (place_valid m.places p e.place (label_of i) first room commit_entry.place (label_small i commit_entry.fine) (branching (kind i)) (v.places p commit_low)) (λ q h n. v.places q h);
          names = v.names;
          entries = set_all (λ (x : ℕ). ValidEntry c (entry_of x)) m.acts 0 m.issued k w (omega (arith, v.acts_long, v.issued, commit_there)) (subst (ValidEntry c) (sym holds) (record { fine = commit_entry.fine; place = commit_entry.place; loc = commit_entry.loc; present = commit_entry.present })) (λ q h n. v.entries q h);
          kept = subst (λ (t : State). Kept c t sets) (sym shows) (keep.keeps c s src commit_there can.waits v.kept);
          reached = after-reached c m after (commit p k src) v.reached ok.fits as_one;
        }

  -- what the parts of the commit of an entry f give
  abbrev Settles : Entry → Type 0
  Settles f = (q z x y place result w : ℕ) (holders rows sets : List ℕ) → q ≡ kind f.instr → z ≡ value → x ≡ or_zero (value_of s (name_of c f.first)) → y ≡ or_zero (value_of s (name_of c f.second))
      → Acquired m.issued m.acts q x (8 + k) m.rows rows → KeptBy p k m.sets sets → place ≡ place_by q (get_or m.places p 0) x f.place f.instr → holders ≡ locked_by q m.holders x p
      → result ≡ result_by z x y f.instr → entry_of w ≡ done_by f result → Showing c (committed c s p k src) (settled m p k place holders w rows sets)

  settles : Settles e
  settles q z x y place result w holders rows sets hq hz hx hy ho hk hp hh hr hw =
      let i = e.instr in
      let qo : order_of rows ≡ joined_if (acquiring (kind i)) (order_of m.rows) (8 + k) (8 + m.issued) (releases s first) = ho.joins c s (record { count = refl; actions = refl }) ∙ (λ j. joined_if (acquiring (hq j)) (order_of m.rows) (8 + k) (8 + m.issued) (releases s (hx j))) in
      let qp = hp ∙ (λ j. place_by (hq j) (get_or m.places p 0) (hx j) e.place i) in
      let qh = hh ∙ (λ j. locked_by (hq j) m.holders (hx j) p) in
      let qr = hr ∙ (λ j. result_by (hz j) (hx j) (hy j) i) in
      let qw : entry_of w ≡ done_by e (result_by value first second i) = hw ∙ (λ j. done_by e (qr j)) in
      let path : settled m p k place holders w rows sets ≡ after w rows sets qw hk ho.size qo = λ j. settled m p k (qp j) (qh j) w rows sets in
      subst (Showing c (committed c s p k src)) (sym path) (record { shows = shows w rows sets qw hk ho.size qo; valid = valid w rows sets qw hk ho.size qo })

  pub settled_is : (f : Entry) → f ≡ e → Settles f
  settled_is f h = subst Settles (sym h) settles
