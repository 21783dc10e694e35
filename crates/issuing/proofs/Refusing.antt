-- The code of an issue. Assumes nothing.
use mathlib.Core.Path.{◌≡◌, refl, sym, ◌∙◌, ap, subst}
use mathlib.Core.Bool.{Bool, true, false, not, ◌&&◌, false≢true}
use mathlib.Core.List.{List, [], ◌∷◌, map}
use mathlib.Core.Option.{Option, none, some}
use Prim.Native.Nat.{ℕ, ◌+◌, ◌*◌, ◌%◌, ◌≤◌, ◌<◌}
use native.Mathlib.Omega.{arith}
use lib.Dec.{leb}
use lib.ListN.{get_or}
use borrow.Author.Tests.{eq-eqb, ne_eqb, le-leb, lt-leb}
use Rattle.words.specs.Small.{is_none, or_zero}
use Rattle.words.specs.Refusals.{Refusal, ◌when◌, first_code_of}
use Rattle.words.proofs.First.{First, first, hit, miss}
use Rattle.cases.specs.declared.Case.{Case}
use Rattle.cases.specs.declared.Instr.{Instr}
use Rattle.cases.specs.Case.{count_of, instr_at}
use Rattle.rules.specs.Kinds.{reads, kind, accesses}
use Rattle.rules.specs.State.{State, start, value_of}
use Rattle.rules.specs.Issue.{issue_refusals}
use Rattle.machine.specs.Word.{instr_from}
use Rattle.machine.specs.Shown.{name_of, names_of, option_of, place_of}
use Rattle.machine.specs.Lent.{Lent}
use Rattle.issuing.proofs.Binding.{Regs, from-reads, address_test}

-- 24 and 25, from the address
abbrev pub address_refusals : ℕ → Bool → Option ℕ → List Refusal
address_refusals locs b o = 24 when (b && is_none o) ∷ 25 when (b && leb locs (or_zero o)) ∷ []

module _ (locs : ℕ) (b : Bool) where
  pub address_unknown : b ≡ true → 24 ≡ first_code_of (address_refusals locs b none)
  address_unknown h = first (address_refusals locs b none) (hit (rw h refl))

  pub address_large : (v : ℕ) → b ≡ true → locs ≤ v → 25 ≡ first_code_of (address_refusals locs b (some v))
  address_large v h le = first (address_refusals locs b (some v)) (miss (rw h refl) (hit (rw (h, le-leb locs v le) refl)))

  pub address_good : (v : ℕ) → b ≡ true → v < locs → 0 ≡ first_code_of (address_refusals locs b (some v))
  address_good v h lt = first (address_refusals locs b (some v)) (miss (rw h refl) (miss (rw (h, lt-leb locs v lt) refl) First.none))

  pub address_free : (o : Option ℕ) → b ≡ false → 0 ≡ first_code_of (address_refusals locs b o)
  address_free o h = first (address_refusals locs b o) (miss (rw h) (miss (rw h) First.none))

module _ (c : Case) (s : State) (p at : ℕ) (place : s.places p ≡ place_of at) where
  abbrev refusals_by : Option ℕ → List Refusal
  refusals_by o =
      21 when is_none o
      ∷ 22 when leb (count_of c p) (or_zero o)
      ∷ 23 when leb 48 s.count
      ∷ address_refusals c.locs (accesses (kind (instr_at c p (or_zero o)))) (value_of s (get_or (map (s.names p) (reads (instr_at c p (or_zero o)))) 0 (start none)))

  refusals_are : first_code_of (issue_refusals c s p) ≡ first_code_of (refusals_by (place_of at))
  unfolding issue_refusals
  refusals_are = ap (λ (o : Option ℕ). first_code_of (refusals_by o)) place

  pub code_undefined : at ≡ 255 → 21 ≡ first_code_of (issue_refusals c s p)
  code_undefined h = first (refusals_by (place_of at)) (hit (rw (eq-eqb at 255 h))) ∙ sym refusals_are

  module _ (there : at ≡ 255 → ⊥) {program counts masks presets : List ℕ} {procs locs : ℕ} (lent : Lent c program counts masks presets procs locs) where
    refusals_there : first_code_of (refusals_by (some at)) ≡ first_code_of (issue_refusals c s p)
    refusals_there = let q : place_of at ≡ some at = rw (ne_eqb at 255 there) in sym (refusals_are ∙ ap (λ (o : Option ℕ). first_code_of (refusals_by o)) q)

    count : count_of c p ≡ get_or counts p 0
    count = ap (λ (l : List ℕ). get_or l p 0) lent.counted

    pub code_end : get_or counts p 0 ≤ at → 22 ≡ first_code_of (issue_refusals c s p)
    code_end h = first (refusals_by (some at)) (miss refl (hit (le-leb (count_of c p) at (omega (arith, count))))) ∙ refusals_there

    pub code_full : at < get_or counts p 0 → 48 ≤ s.count → 23 ≡ first_code_of (issue_refusals c s p)
    code_full h f = first (refusals_by (some at)) (miss refl (miss (lt-leb (count_of c p) at (omega (arith, count))) (hit (le-leb 48 s.count f)))) ∙ refusals_there

    pub code_rest : (names : List ℕ) (i : Instr) (o : Option ℕ) → p < 4 → s.names ≡ names_of c names → i ≡ instr_from (get_or program (12 * p + at) 0 % 8388608) → at < get_or counts p 0 → s.count < 48
        → o ≡ value_of s (name_of c (get_or names (8 * p + get_or (reads i) 0 0) 0)) → first_code_of (address_refusals locs (accesses (kind i)) o) ≡ first_code_of (issue_refusals c s p)
    unfolding first_code_of
    code_rest names i o low same hi h f e =
        let inside : at < count_of c p = omega (arith, count) in
        let regs = subst (λ (x : Instr). Regs (reads x)) (sym hi) (from-reads (get_or program (12 * p + at) 0 % 8388608)) in
        let l = sym lent.located in
        let u = address_test c s p names low same is_none i regs in
        let w = address_test c s p names low same (λ o. leb c.locs (or_zero o)) i regs in
        (λ j. first_code_of (address_refusals (l j) (accesses (kind i)) (e j)))
        ∙ (λ j. first_code_of (24 when u j ∷ 25 when w j ∷ []))
        ∙ ap (λ (x : Instr). first_code_of (address_refusals c.locs (accesses (kind x)) (value_of s (get_or (map (s.names p) (reads x)) 0 (start none))))) (hi ∙ lent.coded.instr p at low inside)
        ∙ rw (lt-leb (count_of c p) at inside, lt-leb 48 s.count f) refl
        ∙ refusals_there
