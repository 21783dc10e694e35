-- The accepted steps of each word. Assumes nothing.
use mathlib.Core.Path.{◌≡◌, refl, sym, ap, ap₂, subst, ◌∙◌}
use mathlib.Core.Bool.{Bool, true, false, ◌&&◌, ◌||◌, not, false≢true}
use mathlib.Core.List.{List}
use Prim.Native.Nat.{ℕ, ◌+◌, ◌<◌, ◌≤◌}
use native.Mathlib.Omega.{arith}
use native.Mathlib.Decide.{dec_lt}
use lib.Bits.{bit_and}
use lib.Dec.{eqb, leb}
use lib.ListN.{get_or}
use borrow.Author.Tests.{lt-ltb, le-ltb, lt-leb, leb-false, eqb-true, eq-eqb, ne_eqb, not-true, not-false}
use Rattle.words.specs.Small.{is_none, any, some_below}
use Rattle.words.specs.Sets.{has}
use Rattle.words.specs.Refusals.{first_code_of}
use Rattle.words.proofs.Bools.{bool_eq, and_both, and_make, and_left, and_right, or_left, or_none, or_nothing, or_false}
use Rattle.words.proofs.Sets.{has_zero}
use Rattle.cases.specs.declared.Case.{Case}
use Rattle.cases.specs.declared.Instr.{Instr}
use Rattle.cases.specs.declared.Instr.TheVariants.{Empty, Read, Write, Local, Branch, Goto, Acquire, Release}
use Rattle.rules.specs.Kinds.{kind, reading, reads}
use Rattle.rules.specs.State.{Name, State, Action, kind_of, value_of}
use Rattle.rules.specs.Issue.{issue_refusals}
use Rattle.rules.specs.Commit.{visible, commit_refusals}
use Rattle.rules.specs.Step.{issue, commit, step_code}
use Rattle.rules.proofs.Accepted.{CanCommit, can_issue, can_commit, commit_ok}
use Rattle.orders.specs.Rows.{SetOf}
use Rattle.machine.specs.declared.Entry.{Entry}
use Rattle.machine.specs.declared.Machine.{Machine}
use Rattle.machine.specs.Word.{entry_of}
use Rattle.machine.specs.Shown.{name_of, inputs_of, option_of, shown_entry, shown, Acts}
use Rattle.machine.specs.Fit.{Fine}
use Rattle.machine.specs.Valid.{ValidEntry, Valid}
use Rattle.machine.specs.Lent.{Lent}
use Rattle.machine.proofs.Entries.{none_option, action_at_lem, action_out}
use Rattle.sights.specs.Sights.{holding}
use Rattle.spending.specs.Words.{opens}
use Rattle.openings.specs.Given.{EntryIn, EntriesIn, ArraysIn}
use Rattle.openings.specs.Opening.{queued_read, ready_read, Queued, FirstOf, Leading}
use Rattle.openings.proofs.Queued.{lead_out}

never : (b : Bool) → (b ≡ true → ⊥) → b ≡ false
never true h = absurd (h refl)
never false h = refl

refused : (n : ℕ) → (n ≡ 0 → ⊥) → false ≡ eqb n 0
refused n h = sym (ne_eqb n 0 h)

-- a set of numbers below n is one of those below r if none between passes
set_over : (P : ℕ → Bool) (n r x : ℕ) → n ≤ r → ((i : ℕ) → n ≤ i → i < r → P i ≡ false) → SetOf n P x → SetOf r P x
set_over P n r x h f S e =
    elim (dec_lt e n) [
      | yes a ↦ S e ∙ rw (lt-ltb e n a, lt-ltb e r (omega arith))
      | no a ↦
          S e
          ∙ rw (le-ltb e n (omega arith))
          (elim (dec_lt e r) [
            | yes b ↦ rw (lt-ltb e r b) (sym (f e (omega arith) b))
            | no b ↦ rw (le-ltb e r (omega arith))
          ])
    ]

-- the test of a queued read, of an entry

queued_is : (k q : ℕ) (d : Bool) (v : ℕ) (z : Bool) → k ≡ q → (eqb k 1 && (not d && not z)) ≡ (reading q && (is_none (option_of d v) && not z))
queued_is k q d v z h = λ j. eqb (h j) 1 && (none_option d v j && not z)

other_open : (a d : Bool) → (not a || d) ≡ false → (a ≡ true) × (not d ≡ true)
other_open true true h = absurd (false≢true (sym h))
other_open true false h = (refl, refl)
other_open false d h = absurd (false≢true (sym h))

-- a read has one input
one_input : (c : Case) (f : Name → Bool) (i : Instr) (x y : ℕ) → kind i ≡ 1 → any f (inputs_of c (reads i) x y) ≡ f (name_of c x)
one_input c f Empty x y h = absurd (omega arith)
one_input c f (Read d a) x y h = or_nothing (f (name_of c x))
one_input c f (Write a b) x y h = absurd (omega arith)
one_input c f (Local d e) x y h = absurd (omega arith)
one_input c f (Branch a l) x y h = absurd (omega arith)
one_input c f (Goto l) x y h = absurd (omega arith)
one_input c f (Acquire a) x y h = absurd (omega arith)
one_input c f (Release a) x y h = absurd (omega arith)

module _ (c : Case) (s : State) (masks rows sets : List ℕ) (procs : ℕ) (e : Entry) (k : ℕ) (E : EntryIn c s masks rows sets procs e k) (q : ℕ) (same : q ≡ kind e.instr) where
  queue_test : queued_read c.procs (s.actions k) ≡ (eqb q 1 && (not e.done && not (leb procs e.proc)))
  queue_test = ap₂ queued_read E.present E.same ∙ sym (queued_is q (kind e.instr) e.done e.result (leb procs e.proc) same)

  module _ (t : (not (eqb q 1) || e.done) ≡ false) (l : e.proc < procs) where
    is_queued : queued_read c.procs (s.actions k) ≡ true
    is_queued = let b = other_open (eqb q 1) e.done t in queue_test ∙ and_make (eqb q 1) _ b.0 (and_make (not e.done) _ b.1 (ap not (lt-leb procs e.proc l)))

    module _ (p : ℕ) (x : Bool) (w : p ≡ e.proc) (h : x ≡ some_below k (λ j. holding p 1 e.loc (s.actions j))) where
      is_held : x ≡ some_below k (λ j. holding (s.actions k).proc 1 (s.actions k).loc (s.actions j))
      is_held = h ∙ ap (λ (n : ℕ). some_below k (λ j. holding n 1 e.loc (s.actions j))) w ∙ ap (λ (a : Action). some_below k (λ j. holding a.proc 1 a.loc (s.actions j))) (sym E.same)

      pub ready_held : x ≡ true → false ≡ ready_read c s k
      ready_held y = sym (and_right (queued_read c.procs (s.actions k)) _ (ap not (or_left _ _ (sym is_held ∙ y))))

      pub ready_known : (r : Bool) → x ≡ false → r ≡ not (is_none (value_of s (name_of c e.first))) → r ≡ ready_read c s k
      ready_known r y g =
          let b = other_open (eqb q 1) e.done t in
          let i : any (λ n. is_none (value_of s n)) (s.actions k).inputs ≡ is_none (value_of s (name_of c e.first)) = ap (λ (a : Action). any (λ n. is_none (value_of s n)) a.inputs) E.same ∙ one_input c (λ n. is_none (value_of s n)) e.instr e.first e.second (sym same ∙ eqb-true q 1 b.0) in
          g ∙ (λ j. sym is_queued j && not ((sym y ∙ is_held) j || sym i j))

pub ready_reads : (c : Case) (s : State) (k : ℕ) → ready_read c s k ≡ true → reading (kind_of (s.actions k)) ≡ true
ready_reads c s k h = (and_both (reading (kind_of (s.actions k))) _ (and_both (queued_read c.procs (s.actions k)) _ h).0).0

-- what the arrays show, and those of a valid machine

pub arrays_entries : (c : Case) (s : State) (masks presets : List ℕ) (procs locs n : ℕ) (acts rows sets holders : List ℕ) → ArraysIn c s masks presets procs locs n acts rows sets holders → EntriesIn c s masks rows sets procs n acts
arrays_entries c s masks presets procs locs n acts rows sets holders E = record { presets = E.starts.masks; present = E.present; kept = E.arrays.kept; orders = E.arrays.orders; shows = E.shows; entries = E.arrays.entries }

pub fine_in : (c : Case) (s : State) (masks presets : List ℕ) (procs locs n : ℕ) (acts rows sets holders : List ℕ) → ArraysIn c s masks presets procs locs n acts rows sets holders → (k : ℕ) → k < s.count → Fine (s.actions k).instr
fine_in c s masks presets procs locs n acts rows sets holders E k h =
    let l : k < n = omega (arith, E.shows.count) in
    subst (λ (a : Action). Fine a.instr) (sym (action_at_lem c n acts s E.shows k l)) (E.arrays.entries k l).fine

module _ (c : Case) (m : Machine) (v : Valid c m) (program counts masks presets : List ℕ) (procs locs : ℕ) (L : Lent c program counts masks presets procs locs) where
  pub arrays_of : ArraysIn c (shown c m) masks presets procs locs m.issued m.acts m.rows m.sets m.holders
  arrays_of =
      record {
        starts = L.starts;
        present = L.present;
        shows = record { count = refl; actions = refl };
        arrays = record { entries = v.entries; kept = v.kept; orders = refl; locks = refl; present = L.located };
      }

  pub entries_of : EntriesIn c (shown c m) masks m.rows m.sets procs m.issued m.acts
  entries_of = arrays_entries c (shown c m) masks presets procs locs m.issued m.acts m.rows m.sets m.holders arrays_of

-- one of the words that show a state
pub entry_in : (c : Case) (s : State) (masks rows sets : List ℕ) (procs n : ℕ) (acts : List ℕ) → EntriesIn c s masks rows sets procs n acts → n ≤ 48 → (k : ℕ) → k < n → (e : Entry) → e ≡ entry_of (get_or acts k 0) → EntryIn c s masks rows sets procs e k
entry_in c s masks rows sets procs n acts E h k l e q =
    record {
      presets = E.presets;
      present = E.present;
      kept = E.kept;
      orders = E.orders;
      low = omega (arith, E.shows.count);
      ends = λ j g. action_out c n acts s E.shows j (omega (arith, E.shows.count));
      there = omega (arith, E.shows.count);
      valid = subst (ValidEntry c) (sym q) (E.entries k l);
      same = action_at_lem c n acts s E.shows k l ∙ ap (shown_entry c) (sym q);
    }

-- the processor of one of the words that show a state
pub proc_at_lem : (c : Case) (n : ℕ) (acts : List ℕ) (s : State) → Acts c n acts s → (k : ℕ) → k < n → (e : Entry) → e ≡ entry_of (get_or acts k 0) → e.proc ≡ (s.actions k).proc
proc_at_lem c n acts s A k l e q = ap (λ (x : Entry). x.proc) q ∙ sym (ap (λ (a : Action). a.proc) (action_at_lem c n acts s A k l))

module _ (c : Case) (s : State) where
  -- reads

  module _ (k e : ℕ) (low : k < 48) where
    abbrev self : Action
    self = s.actions k

    opens_read : opens c s k e ≡ (reading (kind_of self) && eqb (step_code c s (commit self.proc k e)) 0)
    unfolding opens
    opens_read = rw (lt-ltb k 48 low)

    ready_from : CanCommit c s self.proc k e → reading (kind_of self) ≡ true → (ready_read c s k && visible c s self.loc (8 + k) e) ≡ true
    ready_from T r =
        let q : kind_of self ≡ 1 = eqb-true (kind_of self) 1 r in
        let w = and_both (eqb self.proc self.proc) (is_none self.result) T.waits in
        let f : some_below k (λ j. holding self.proc 1 self.loc (s.actions j)) ≡ false = rw q at T.free in
        and_make (ready_read c s k) (visible c s self.loc (8 + k) e)
        (and_make (queued_read c.procs self) _
        (and_make (reading (kind_of self)) _ r (and_make (is_none self.result) _ w.1 (ap not (lt-leb c.procs self.proc T.proc))))
        (ap not (or_false _ _ f T.ready)))
        (not-false (visible c s self.loc (8 + k) e) (rw r at T.sees))

    ready_to : k < s.count → ready_read c s k ≡ true → visible c s self.loc (8 + k) e ≡ true → (reading (kind_of self) && eqb (step_code c s (commit self.proc k e)) 0) ≡ true
    ready_to there h v =
        let a = and_both (queued_read c.procs self) _ h in
        let b = and_both (reading (kind_of self)) _ a.0 in
        let d = and_both (is_none self.result) _ b.1 in
        let q : kind_of self ≡ 1 = eqb-true (kind_of self) 1 b.0 in
        let n = or_none _ _ (not-true _ a.1) in
        and_make (reading (kind_of self)) _ b.0 (eq-eqb _ 0 (commit_ok c s self.proc k e (record {
          proc = leb-false c.procs self.proc (not-true _ d.1);
          there = there;
          waits = and_make (eqb self.proc self.proc) (is_none self.result) (eq-eqb self.proc self.proc refl) d.0;
          plain = rw b.0 (none (not (eqb e 0)));
          free = rw q n.0;
          ready = n.1;
          low = rw q;
          allowed = rw q;
          sees = rw (b.0, v);
        })))
      where
        none : (b : Bool) → (b && false) ≡ false
        none true = refl
        none false = refl

    pub read_opens : k < s.count → opens c s k e ≡ (ready_read c s k && visible c s self.loc (8 + k) e)
    read_opens there =
        opens_read
        ∙ bool_eq (reading (kind_of self) && eqb (step_code c s (commit self.proc k e)) 0) (ready_read c s k && visible c s self.loc (8 + k) e)
        (λ h. let b = and_both (reading (kind_of self)) _ h in ready_from (can_commit c s self.proc k e (eqb-true _ 0 b.1)) b.0)
        (λ h. let b = and_both (ready_read c s k) _ h in ready_to there b.0 b.1)

    pub read_shut : k < s.count → ready_read c s k ≡ false → has 0 e ≡ opens c s k e
    read_shut there h = has_zero e ∙ sym (read_opens there ∙ and_left (ready_read c s k) _ h)

    pub read_open : k < s.count → ready_read c s k ≡ true → opens c s k e ≡ visible c s self.loc (8 + k) e
    read_open there h = read_opens there ∙ rw h

    pub opens_accepts : opens c s k e ≡ true → (reading (kind_of self) ≡ true) × (step_code c s (commit self.proc k e) ≡ 0)
    opens_accepts h = let b = and_both (reading (kind_of self)) _ (sym opens_read ∙ h) in (b.0, eqb-true _ 0 b.1)

    pub read_past : (n : ℕ) (acts : List ℕ) → Acts c n acts s → n ≤ k → has 0 e ≡ opens c s k e
    read_past n acts A h = has_zero e ∙ sym (opens_read ∙ and_left (reading (kind_of self)) _ (rw (action_out c n acts s A k h)))

  -- commits of other actions

  pub lone_other : (k : ℕ) (b : Bool) → not (reading (kind_of (s.actions k))) ≡ true → b ≡ eqb (step_code c s (commit (s.actions k).proc k 0)) 0 → b ≡ opens c s 48 k
  unfolding opens
  lone_other k b n e = e ∙ rw (not-true (reading (kind_of (s.actions k))) n)

  module _ (few : c.procs ≤ 4) (x y : ℕ) (Q : Queued s (λ q. not (reading q)) x) (L : Leading s y) (fine : (k : ℕ) → k < s.count → Fine (s.actions k).instr) where
    lone_shut : (k : ℕ) → has (bit_and x y) k ≡ false → opens c s 48 k ≡ false
    unfolding opens
    lone_shut k h = never (opens c s 48 k) (λ z. let b = and_both (not (reading (kind_of (s.actions k)))) _ z in lead_out c s few (λ q. not (reading q)) x Q y L fine k 0 b.0 h (eqb-true _ 0 b.1))

    -- up to the next that is queued and leads
    pub lone_over : (n end r items : ℕ) → FirstOf (bit_and x y) n end r → SetOf n (opens c s 48) items → SetOf r (opens c s 48) items
    lone_over n end r items F = set_over (opens c s 48) n r items F.from (λ i a b. lone_shut i (F.skipped i a b))

  pub lone_accepts : (e : ℕ) → opens c s 48 e ≡ true → step_code c s (commit (s.actions e).proc e 0) ≡ 0
  unfolding opens
  lone_accepts e y = eqb-true _ 0 (and_both (not (reading (kind_of (s.actions e)))) _ y).1

  pub lone-set : (x : ℕ) → SetOf s.count (opens c s 48) x → (e : ℕ) → has x e ≡ opens c s 48 e
  lone-set x S e =
      elim (dec_lt e s.count) [
        | yes h ↦ S e ∙ rw (lt-ltb e s.count h)
        | no h ↦ S e ∙ rw (le-ltb e s.count (omega arith)) (sym (never (opens c s 48 e) (past (omega arith))))
      ]
    where
      past : s.count ≤ e → opens c s 48 e ≡ true → ⊥
      past h y = omega (arith, (can_commit c s (s.actions e).proc e 0 (lone_accepts e y)).there)

  -- the processor of a step is present

  pub absent_commit : (k e p : ℕ) → p ≡ (s.actions k).proc → c.procs ≤ p → false ≡ eqb (step_code c s (commit (s.actions k).proc k e)) 0
  absent_commit k e p q h = refused (step_code c s (commit (s.actions k).proc k e)) (λ z. omega (arith, (can_commit c s (s.actions k).proc k e z).proc))

  pub present_commit : (k e p n : ℕ) → p ≡ (s.actions k).proc → p < c.procs → n ≡ first_code_of (commit_refusals c s p k e) → eqb n 0 ≡ eqb (step_code c s (commit (s.actions k).proc k e)) 0
  unfolding step_code first_code_of
  present_commit k e p n q h w = rw (sym q, lt-leb c.procs p h, w)

  pub absent_issue : (p : ℕ) → c.procs ≤ p → false ≡ opens c s 49 p
  unfolding opens
  absent_issue p h = refused (step_code c s (issue p)) (λ z. omega (arith, (can_issue c s p z).proc))

  pub present_issue : (p n : ℕ) → p < c.procs → n ≡ first_code_of (issue_refusals c s p) → eqb n 0 ≡ opens c s 49 p
  unfolding step_code first_code_of opens
  present_issue p n h w = rw (lt-leb c.procs p h, w)

  pub issue_set : (x : ℕ) → c.procs ≤ 4 → SetOf 4 (opens c s 49) x → (e : ℕ) → has x e ≡ opens c s 49 e
  issue_set x f S e =
      elim (dec_lt e 4) [
        | yes h ↦ S e ∙ rw (lt-ltb e 4 h)
        | no h ↦ S e ∙ rw (le-ltb e 4 (omega arith)) (absent_issue e (omega arith))
      ]

  pub issue_accepts : (p : ℕ) → opens c s 49 p ≡ true → step_code c s (issue p) ≡ 0
  unfolding opens
  issue_accepts p h = eqb-true _ 0 h
