-- A machine with one entry more. Assumes nothing.
use mathlib.Core.Path.{◌≡◌, refl, sym, ◌∙◌, ap, subst, fun_ext}
use mathlib.Core.Logic.{inl, inr, ⊎_elim}
use mathlib.Core.Bool.{Bool, true, false, cond, ◌&&◌, false≢true}
use mathlib.Core.List.{List}
use mathlib.Core.Option.{Option, none, some}
use Prim.Native.Nat.{ℕ, suc, ◌+◌, ◌*◌, ◌-◌, ◌%◌, ◌≤◌, ◌<◌}
use native.Mathlib.Numerals.{add-one}
use native.Mathlib.Omega.{arith}
use lib.Dec.{eqb, ltb, leb}
use lib.ListN.{length, get_or, set, length-set}
use lib.Seq.{get_or-set_same, get_or-set_other}
use borrow.Author.Tests.{ltb-true, lt-ltb, le-ltb, eqb-true, eqb-false, leb-false}
use Rattle.words.specs.Small.{put, is_none, or_zero}
use Rattle.words.proofs.Bools.{decide, and_both, cond-true, cond-false}
use Rattle.cases.specs.declared.Case.{Case}
use Rattle.cases.specs.declared.Instr.{Instr}
use Rattle.cases.specs.declared.Instr.TheVariants.{Empty, Read, Write, Local, Branch, Goto, Acquire, Release}
use Rattle.cases.specs.Case.{count_of, instr_at}
use Rattle.rules.specs.Kinds.{accesses, assigns}
use Rattle.rules.specs.Order.{joined_if}
use Rattle.rules.specs.State.{Name, given, Action, State, kind_of}
use Rattle.rules.specs.Issue.{place_after, renamed, new_action, issued}
use Rattle.rules.specs.Step.{issue, after as afterStep}
use Rattle.rules.proofs.Accepted.{CanIssue, can_issue}
use Rattle.oneorder.specs.OneOrder.{OneState, has_item, issued_one, after_one}
use Rattle.orders.specs.Rows.{order_of}
use Rattle.orders.proofs.Reached.{ltb_next}
use Rattle.machine.specs.declared.Entry.{Entry}
use Rattle.machine.specs.declared.Machine.{Machine}
use Rattle.machine.specs.Word.{instr_from, entry_of, Packable}
use Rattle.machine.specs.Shown.{shown_entry, shown_one, shown, name_of, names_of, place_of, Presets}
use Rattle.machine.specs.Fit.{Fine}
use Rattle.machine.specs.Kept.{Kept}
use Rattle.machine.specs.Valid.{Valid, ValidEntry, ValidPlace}
use Rattle.machine.specs.Given.{Accepted, Showing}
use Rattle.machine.specs.Lent.{machine_of, Program}
use Rattle.machine.proofs.Ordered.{after_shows, after-reached}
use Rattle.machine.proofs.Stores.{set_put, set_all, actions_set, place-some}
use Rattle.issuing.specs.Issued.{Low, assigned_by, place_by, fresh, Bound, after, Ordered, KeptBy}
use Rattle.issuing.specs.Given.{Renamed}
use Rattle.issuing.proofs.Binding.{fresh_is, new_low, new_present}

next_place : (n : ℕ) → n < 12 → (place_of (n + 1) ≡ some (suc n)) × ValidPlace (n + 1)
next_place n h = (place-some (n + 1) (λ e. omega arith) ∙ ap some (add-one n), inr (omega arith))

pub place_by_lem : (i : Instr) (n : ℕ) → Fine i → n < 12 → (place_of (place_by i n) ≡ place_after i n) × ValidPlace (place_by i n)
place_by_lem Empty n f h = absurd f
place_by_lem (Read d a) n f h = next_place n h
place_by_lem (Write a b) n f h = next_place n h
place_by_lem (Local d e) n f h = next_place n h
place_by_lem (Branch a l) n f h = (refl, inl refl)
place_by_lem (Goto l) n f h = let q : l % 256 ≡ l = omega arith in rw q (place-some l (λ e. omega arith), inr f)
place_by_lem (Acquire a) n f h = next_place n h
place_by_lem (Release a) n f h = next_place n h

assigned-some : (i : Instr) → Fine i → assigned_by i < 8 → assigns i ≡ some (assigned_by i)
assigned-some Empty f h = absurd f
assigned-some (Read d a) f h = refl
assigned-some (Write a b) f h = absurd (omega arith)
assigned-some (Local d e) f h = refl
assigned-some (Branch a l) f h = absurd (omega arith)
assigned-some (Goto l) f h = absurd (omega arith)
assigned-some (Acquire a) f h = absurd (omega arith)
assigned-some (Release a) f h = absurd (omega arith)

assigned-none : (i : Instr) → Fine i → 8 ≤ assigned_by i → assigns i ≡ none
assigned-none Empty f h = absurd f
assigned-none (Read d a) f h = absurd (omega (arith, f.0))
assigned-none (Write a b) f h = refl
assigned-none (Local d e) f h = absurd (omega (arith, f.0))
assigned-none (Branch a l) f h = refl
assigned-none (Goto l) f h = refl
assigned-none (Acquire a) f h = refl
assigned-none (Release a) f h = refl

given_name : (c : Case) (k : ℕ) → name_of c (32 + k) ≡ given k
given_name c k = let q : 32 + k - 32 ≡ k = omega arith in rw (le-ltb (32 + k) 32 (omega arith), q)

module _ (c : Case) (names : List ℕ) (p d k v : ℕ) (long : length names ≡ 32) (hp : p < 4) (hd : d < 8) (hv : v ≡ 32 + k) where
  abbrev stored : List ℕ
  stored = set names (8 * p + d) v

  abbrev target : ℕ → ℕ → Name
  target = put (names_of c names) p (put (names_of c names p) d (given k))

  stored_same : names_of c stored p d ≡ given k
  stored_same = rw (lt-ltb p 4 hp, lt-ltb d 8 hd, get_or-set_same names (8 * p + d) v 0 (omega arith)) (ap (name_of c) hv ∙ given_name c k)

  stored_other : (q j : ℕ) → ((q ≡ p) × (j ≡ d) → ⊥) → names_of c stored q j ≡ names_of c names q j
  stored_other q j n = ⊎_elim inside outside (decide (ltb q 4 && ltb j 8))
    where
      apart : q < 4 → j < 8 → 8 * q + j ≡ 8 * p + d → ⊥
      apart a b e = n (omega arith, omega arith)

      inside : (ltb q 4 && ltb j 8) ≡ true → names_of c stored q j ≡ names_of c names q j
      inside h = let u = and_both (ltb q 4) (ltb j 8) h in rw h (ap (name_of c) (get_or-set_other names (8 * p + d) (8 * q + j) v 0 (apart (ltb-true q 4 u.0) (ltb-true j 8 u.1))))

      outside : (ltb q 4 && ltb j 8) ≡ false → names_of c stored q j ≡ names_of c names q j
      outside h = rw h

  names_put : names_of c stored ≡ target
  names_put = fun_ext (λ (q : ℕ). fun_ext (at q))
    where
      at : (q j : ℕ) → names_of c stored q j ≡ target q j
      at q j = ⊎_elim here there (decide (eqb q p))
        where
          row : eqb q p ≡ true → target q j ≡ put (names_of c names p) d (given k) j
          row h = ap (λ (f : ℕ → Name). f j) (cond-true (eqb q p) _ _ h)

          here : eqb q p ≡ true → names_of c stored q j ≡ target q j
          here h = ⊎_elim
              (λ e. ap (λ (x : ℕ). names_of c stored x j) (eqb-true q p h) ∙ ap (names_of c stored p) (eqb-true j d e) ∙ stored_same ∙ sym (row h ∙ cond-true (eqb j d) _ _ e))
              (λ e. stored_other q j (λ n. eqb-false j d e n.1) ∙ ap (λ (x : ℕ). names_of c names x j) (eqb-true q p h) ∙ sym (row h ∙ cond-false (eqb j d) _ _ e))
              (decide (eqb j d))

          there : eqb q p ≡ false → names_of c stored q j ≡ target q j
          there h = stored_other q j (λ n. eqb-false q p h n.0) ∙ sym (ap (λ (f : ℕ → Name). f j) (cond-false (eqb q p) _ _ h))

pub names-some : (c : Case) (names : List ℕ) (p k d v : ℕ) (i : Instr) → length names ≡ 32 → p < 4 → Fine i → d ≡ assigned_by i → d < 8 → v ≡ 32 + k
    → names_of c (set names (8 * p + d) v) ≡ put (names_of c names) p (renamed (names_of c names p) (assigns i) (given k))
names-some c names p k d v i long low f q lt e = names_put c names p d k v long low lt e ∙ sym (ap (λ (o : Option ℕ). put (names_of c names) p (renamed (names_of c names p) o (given k))) (assigned-some i f (omega arith) ∙ ap some (sym q)))

put_same : {A : Type 0} (f : ℕ → A) (p : ℕ) → f ≡ put f p (f p)
put_same f p = fun_ext (λ (q : ℕ). ⊎_elim (λ h. rw h (ap f (eqb-true q p h))) (λ h. rw h) (decide (eqb q p)))

pub names-none : (c : Case) (names : List ℕ) (p k d : ℕ) (i : Instr) → Fine i → d ≡ assigned_by i → 8 ≤ d
    → names_of c names ≡ put (names_of c names) p (renamed (names_of c names p) (assigns i) (given k))
names-none c names p k d i f q le = put_same (names_of c names) p ∙ sym (ap (λ (o : Option ℕ). put (names_of c names) p (renamed (names_of c names p) o (given k))) (assigned-none i f (omega arith)))

pub names_stored : (names : List ℕ) (p k d v : ℕ) → Low names → length names ≡ 32 → p < 4 → k < 48 → d < 8 → v ≡ 32 + k → Low (set names (8 * p + d) v)
names_stored names p k d v low long hp hk hd hv = set_all (λ (n : ℕ). n < 80) names 0 32 (8 * p + d) v (omega arith) (omega arith) (λ q h n. low q h)

-- the state with the action a of processor p issued
abbrev entered : Case → Machine → ℕ → Action → OneState
entered c m p a =
    let s = shown c m in
    record {
      count = suc s.count;
      actions = put s.actions s.count a;
      places = put s.places p (place_after a.instr a.place);
      names = put s.names p (renamed (s.names p) (assigns a.instr) (given s.count));
      holders = s.holders;
      order = joined_if (has_item a) (order_of m.rows) (8 + s.count) (8 + s.count) (after p a s);
    }

entered_is : (c : Case) (m : Machine) (p : ℕ) → entered c m p (new_action c (shown c m) p) ≡ after_one c (shown_one c m) (issue p)
unfolding issued issued_one after_one
entered_is c m p = refl

-- an accepted issue
module _ {c : Case} {m : Machine} {p : ℕ} (ok : Accepted c m (issue p)) where
  abbrev at : ℕ
  at = get_or m.places p 0

  abbrev s : State
  s = shown c m

  abbrev v : Valid c m
  v = ok.valid

  can : CanIssue c s p
  can = can_issue c s p ok.fits

  pub issue_low : p < 4
  issue_low = omega (arith, can.proc, v.fit.procs)

  pub issue_room : m.issued < 48
  issue_room = leb-false 48 m.issued can.room

  there : place_of at ≡ some at
  there = defined (eqb at 255) can.place
    where
      defined : (b : Bool) → is_none (cond b none (some at)) ≡ false → cond b none (some at) ≡ some at
      defined true h = absurd (false≢true (sym h))
      defined false h = refl

  inside : at < count_of c p
  inside = leb-false (count_of c p) at (subst (λ (o : Option ℕ). leb (count_of c p) (or_zero o) ≡ false) there can.inside)

  pub issue_place : at < 12
  issue_place = omega (arith, inside, v.fit.counts p)

  pub issue_packs : {masks presets : List ℕ} {i : Instr} {e : Entry} → Bound masks presets m.names m.acts m.issued p at i e → Packable e
  issue_packs b = b.packs v.names (omega (arith, issue_place))

  -- of the instruction i of a program
  module _ {program : List ℕ} {i : Instr} {n : ℕ} (coded : Program c program) (hn : n ≡ at) (from : i ≡ instr_from (get_or program (12 * p + n) 0 % 8388608)) where
    instr_is : i ≡ instr_at c p at
    instr_is = from ∙ ap (λ (x : ℕ). instr_from (get_or program (12 * p + x) 0 % 8388608)) hn ∙ coded.instr p at issue_low inside

    pub issue_fine : Fine i
    issue_fine = subst Fine (sym instr_is) (v.fit.fine p at issue_low inside)

    fresh_new : fresh s p at i ≡ new_action c s p
    fresh_new = ap (fresh s p at) instr_is ∙ ap (λ (o : Option ℕ). fresh s p (or_zero o) (instr_at c p (or_zero o))) (sym there) ∙ fresh_is c s p v.fit.locs can.low

    abbrev at_place : (place_of (place_by i at) ≡ place_after i at) × ValidPlace (place_by i at)
    at_place = place_by_lem i at issue_fine issue_place

    -- with all that it stores
    module _ {masks presets names rows sets : List ℕ} {e : Entry} {place : ℕ} (w : ℕ) (starts : Presets c masks presets) (b : Bound masks presets m.names m.acts m.issued p at i e) (hp : place ≡ place_by i at) (holds : entry_of w ≡ e) (r : Renamed m.names p m.issued i names) (o : Ordered m.issued m.acts p e m.rows rows) (k : KeptBy m.issued e m.sets sets) where
      h : shown_entry c e ≡ fresh s p at i
      h = b.shows c s starts (record { count = refl; actions = refl }) refl

      new : shown_entry c e ≡ new_action c s p
      new = h ∙ fresh_new

      entry : ValidEntry c e
      entry = record {
        fine = subst Fine (sym (ap (λ (a : Action). a.instr) h)) issue_fine;
        place = omega (arith, ap (λ (a : Action). a.place) h, issue_place);
        loc = omega (arith, ap (λ (a : Action). a.loc) new, new_low c s p v.fit.locs can.low);
        present = λ a. subst (λ (l : ℕ). l < c.locs) (sym (ap (λ (x : Action). x.loc) new)) (new_present c s p v.fit.locs can.low (subst (λ (x : Action). accesses (kind_of x) ≡ true) new a));
      }

      abbrev grown : Machine
      grown = machine_of (m.issued + 1) (set m.places p place) names m.holders (set m.acts m.issued w) rows sets

      -- the one order is kept as the rules with one order say
      grown_one : shown_one c grown ≡ after_one c (shown_one c m) (issue p)
      grown_one =
          let n = add-one m.issued in
          let u = actions_set c m.issued (m.issued + 1) m.issued m.acts w e holds (omega arith) (omega (arith, v.acts_long, issue_room)) (λ k h. ltb_next k m.issued h) ∙ ap (put s.actions m.issued) h in
          let y = set_put place_of m.places 0 p place (place_after i at) (omega (arith, v.places_long, issue_low)) (ap place_of hp ∙ at_place.0) in
          let j = o.joins c s (record { count = refl; actions = refl }) ∙ ap (λ (a : Action). joined_if (has_item a) (order_of m.rows) (8 + m.issued) (8 + m.issued) (after p a s)) h in
          let x = r.shows c in
          let whole : shown_one c grown ≡ entered c m p (fresh s p at i) = λ i. record { count = n i; actions = u i; places = y i; names = x i; holders = s.holders; order = j i } in
          whole ∙ ap (entered c m p) fresh_new ∙ entered_is c m p

      grown_shows : shown c grown ≡ issued c s p
      unfolding afterStep
      grown_shows = after_shows c m grown (issue p) v.reached ok.fits grown_one

      pub grown_is : Showing c (issued c s p) grown
      grown_is = record {
        shows = grown_shows;
        valid = record {
          fit = v.fit;
          issued = omega (arith, issue_room);
          acts_long = length-set m.acts m.issued w ∙ v.acts_long;
          places_long = length-set m.places p place ∙ v.places_long;
          names_long = r.long;
          holders_long = v.holders_long;
          rows_long = o.size;
          places = set_all ValidPlace m.places 0 4 p place (omega (arith, v.places_long, issue_low)) (subst ValidPlace (sym hp) at_place.1) (λ q h n. v.places q h);
          names = r.low;
          entries = set_all (λ (x : ℕ). ValidEntry c (entry_of x)) m.acts 0 (m.issued + 1) m.issued w (omega (arith, v.acts_long, issue_room)) (subst (ValidEntry c) (sym holds) entry) (λ q h n. v.entries q (omega arith));
          kept = subst (λ (s : State). Kept c s sets) (sym grown_shows) (k.keeps c s p refl new v.kept);
          reached = after-reached c m grown (issue p) v.reached ok.fits grown_one;
        };
      }
