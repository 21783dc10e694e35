-- The code of a commit. Assumes nothing.
use mathlib.Core.Path.{◌≡◌, refl, sym, ◌∙◌, ap, subst}
use mathlib.Core.Logic.{⊎_elim}
use mathlib.Core.Bool.{Bool, true, false, ◌&&◌, not, false≢true}
use mathlib.Core.List.{List, [], ◌∷◌}
use mathlib.Core.Option.{Option, none}
use Prim.Native.Nat.{ℕ, ◌+◌, ◌≤◌, ◌<◌}
use native.Mathlib.Omega.{arith}
use lib.Dec.{eqb, leb, ltb}
use lib.ListN.{get_or}
use borrow.Author.Tests.{lt-ltb, le-ltb, eq-eqb, ne_eqb}
use Rattle.words.specs.Small.{or_zero}
use Rattle.words.specs.Refusals.{Refusal, ◌when◌, first_code_of}
use Rattle.words.proofs.First.{First, first, hit, miss}
use Rattle.words.proofs.Bools.{decide, and_left, and_make, or_left, or_right, or_none}
use Rattle.cases.specs.declared.Case.{Case}
use Rattle.cases.specs.declared.Instr.{Instr}
use Rattle.cases.specs.declared.Instr.TheVariants.{Empty, Read, Write, Local, Branch, Goto, Acquire, Release}
use Rattle.rules.specs.Kinds.{kind, reading, accesses, syncs, reads}
use Rattle.rules.specs.State.{State, Action, start, waiting, value_of, stands_at}
use Rattle.rules.specs.Commit.{barred, commit_refusals}
use Rattle.oneorder.specs.OneOrder.{stands_in}
use Rattle.oneorder.proofs.OneOrder.{stands_at_lem}
use Rattle.machine.specs.declared.Entry.{Entry}
use Rattle.machine.specs.Word.{entry_of}
use Rattle.machine.specs.Shown.{name_of, inputs_of, shown_entry, Presets, Acts}
use Rattle.machine.specs.Valid.{ValidEntry}
use Rattle.machine.proofs.Entries.{action_at_lem, action_out}
use Rattle.sights.specs.Sights.{Sight}
use Rattle.committing.specs.Given.{Arrays, Shows}
use Rattle.committing.specs.Committed.{rest_refusals}

-- the item of a read stands at its location, which is present
pub read_stands : (c : Case) (s : State) (e : Entry) (k n : ℕ) → ValidEntry c e → s.actions k ≡ shown_entry c e → n ≡ kind e.instr → reading n ≡ true → (e.loc < c.locs) × (stands_in s.actions e.loc (8 + k) ≡ true)
read_stands c s e k n v h q r =
    let a : accesses (kind e.instr) ≡ true = or_left (eqb (kind e.instr) 1) (eqb (kind e.instr) 2) (ap (λ (x : ℕ). eqb x 1) (sym q) ∙ r) in
    (v.present a, stands_at_lem s.actions e.loc k ∙ ap (stands_at e.loc) h ∙ or_right (syncs (kind e.instr)) _ (and_make _ _ a (eq-eqb e.loc e.loc refl)))

-- what a read sees is asked of the sets and the rows
pub read_sight : (c : Case) (s : State) (masks rows sets holders : List ℕ) (locs : ℕ) (e : Entry) (k n : ℕ) → Shows c s masks rows sets holders locs e k → n ≡ kind e.instr → reading n ≡ true → Sight c s sets rows e.loc (8 + k)
read_sight c s masks rows sets holders locs e k n v q r =
    let z = read_stands c s e k n v.entry v.action q r in
    record { kept = v.names.kept; low = v.low; ends = v.names.ends; orders = v.orders; loc = z.0; stands = z.1 }

-- the location of an entry fits
pub loc_low : (e : Entry) (w : ℕ) → e ≡ entry_of w → e.loc < 8
unfolding entry_of
loc_low e w h = subst (λ (x : Entry). x.loc < 8) (sym h) (omega arith)

-- the arrays of a machine show its entries
pub shows_at : (c : Case) (n : ℕ) (acts : List ℕ) (s : State) (masks presets rows sets holders : List ℕ) (locs k : ℕ) (e : Entry) → Presets c masks presets → Acts c n acts s → Arrays c s n acts rows sets holders locs → n ≤ 48 → k < n → e ≡ entry_of (get_or acts k 0) → Shows c s masks rows sets holders locs e k
shows_at c n acts s masks presets rows sets holders locs k e q a v m t h =
    record {
      names = record { kept = v.kept; ends = λ j d. action_out c n acts s a j (omega (arith, a.count, d)); presets = q.masks };
      low = omega (arith, a.count, m);
      orders = v.orders;
      locks = v.locks;
      present = v.present;
      there = omega (arith, a.count, t);
      action = action_at_lem c n acts s a k t ∙ ap (shown_entry c) (sym h);
      entry = subst (ValidEntry c) (sym h) (v.entries k t);
    }

-- where only an acquire or a release has the location x

pub sync_given : (k n x y : ℕ) → (syncs k ≡ true → x ≡ y) → (syncs k && leb n x) ≡ (syncs k && leb n y)
sync_given k n x y h = ⊎_elim (λ e. rw (h e)) (λ e. rw e) (decide (syncs k))

pub barred_given : (p k x y : ℕ) (f : ℕ → Option ℕ) → (syncs k ≡ true → x ≡ y) → barred p k (f x) ≡ barred p k (f y)
barred_given p k x y f h = ⊎_elim (λ e. rw (h e)) (λ e. let z = or_none (eqb k 6) (eqb k 7) e in rw (z.0, z.1)) (decide (syncs k))

pub sync_first : (c : Case) (s : State) (m n : ℕ) (i : Instr) → syncs (kind i) ≡ true → or_zero (value_of s (name_of c m)) ≡ or_zero (value_of s (get_or (inputs_of c (reads i) m n) 0 (start none)))
sync_first c s m n Empty h = absurd (false≢true h)
sync_first c s m n (Read d a) h = absurd (false≢true h)
sync_first c s m n (Write a b) h = absurd (false≢true h)
sync_first c s m n (Local d e) h = absurd (false≢true h)
sync_first c s m n (Branch a l) h = absurd (false≢true h)
sync_first c s m n (Goto l) h = absurd (false≢true h)
sync_first c s m n (Acquire a) h = refl
sync_first c s m n (Release a) h = refl

-- code 32
module _ (k : ℕ) (b : Bool) where
  abbrev sight : List Refusal
  sight = 32 when (reading k && not b) ∷ []

  pub sight_blind : k ≡ 1 → not b ≡ true → 32 ≡ first_code_of sight
  sight_blind h n = first sight (hit (rw (h, n)))

  pub sight_clear : k ≡ 1 → not b ≡ false → 0 ≡ first_code_of sight
  sight_clear h n = first sight (miss (rw (h, n)) First.none)

  pub sight_free : (k ≡ 1 → ⊥) → 0 ≡ first_code_of sight
  sight_free h = first sight (miss (and_left (reading k) (not b) (ne_eqb k 1 h)) First.none)

-- the first codes of a list of six
module _ (a b d f g h : Bool) where
  abbrev six : List Refusal
  six = 27 when a ∷ 28 when b ∷ 29 when d ∷ 30 when f ∷ 31 when g ∷ 32 when h ∷ []

  pub rest_27 : a ≡ true → 27 ≡ first_code_of six
  rest_27 ha = first six (hit ha)

  pub rest_28 : a ≡ false → b ≡ true → 28 ≡ first_code_of six
  rest_28 ha hb = first six (miss ha (hit hb))

  pub rest_29 : a ≡ false → b ≡ false → d ≡ true → 29 ≡ first_code_of six
  rest_29 ha hb hd = first six (miss ha (miss hb (hit hd)))

  pub rest_30 : a ≡ false → b ≡ false → d ≡ false → f ≡ true → 30 ≡ first_code_of six
  rest_30 ha hb hd hf = first six (miss ha (miss hb (miss hd (hit hf))))

  pub rest_31 : a ≡ false → b ≡ false → d ≡ false → f ≡ false → g ≡ true → 31 ≡ first_code_of six
  rest_31 ha hb hd hf hg = first six (miss ha (miss hb (miss hd (miss hf (hit hg)))))

  pub rest_32 : a ≡ false → b ≡ false → d ≡ false → f ≡ false → g ≡ false → first_code_of (32 when h ∷ []) ≡ first_code_of six
  unfolding first_code_of
  rest_32 ha hb hd hf hg = rw (ha, hb, hd, hf, hg)

-- 26, and the rest
module _ (c : Case) (s : State) (p k e : ℕ) where
  abbrev refusals_of : Action → List Refusal
  refusals_of a = 26 when not (ltb k s.count && waiting p a) ∷ rest_refusals c s p k e a

  commit_is : first_code_of (commit_refusals c s p k e) ≡ first_code_of (refusals_of (s.actions k))
  unfolding commit_refusals
  commit_is = refl

  pub commit_unissued : s.count ≤ k → 26 ≡ first_code_of (commit_refusals c s p k e)
  commit_unissued h = first (refusals_of (s.actions k)) (hit (rw (le-ltb k s.count h))) ∙ sym commit_is

  module _ (a : Action) (same : s.actions k ≡ a) (there : k < s.count) where
    commit_at : first_code_of (commit_refusals c s p k e) ≡ first_code_of (refusals_of a)
    commit_at = commit_is ∙ ap (λ (x : Action). first_code_of (refusals_of x)) same

    pub commit_gone : not (waiting p a) ≡ true → 26 ≡ first_code_of (commit_refusals c s p k e)
    commit_gone h = first (refusals_of a) (hit (rw (lt-ltb k s.count there) h)) ∙ sym commit_at

    pub commit_rest : not (waiting p a) ≡ false → first_code_of (rest_refusals c s p k e a) ≡ first_code_of (commit_refusals c s p k e)
    unfolding first_code_of
    commit_rest h = sym (commit_at ∙ rw (lt-ltb k s.count there, h) refl)
