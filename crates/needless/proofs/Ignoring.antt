-- Reads that nothing looks at. Assumes nothing.
use mathlib.Core.Path.{◌≡◌, refl, sym, ap, subst, ◌∙◌}
use mathlib.Core.Logic.{⊎_elim}
use mathlib.Core.Bool.{Bool, true, false, ◌&&◌, ◌||◌, not, false≢true}
use mathlib.Core.List.{List}
use Prim.Native.Nat.{ℕ, ◌+◌, ◌*◌, ◌-◌, ◌^◌, ◌<◌, ◌≤◌}
use native.Mathlib.Omega.{arith}
use lib.Dec.{eqb, ltb}
use lib.ListN.{length, get_or}
use borrow.Author.Tests.{lt-ltb, ltb-true, ltb-false, eqb-true, eqb-false, eq-eqb, ne_eqb}
use Rattle.words.specs.Small.{is_none, some_below}
use Rattle.words.proofs.Bools.{decide, or_cases, or_none, and_make, below_make, fails}
use Rattle.words.specs.Sets.{has}
use Rattle.words.proofs.Sets.{has_zero, has_or, has_one}
use lib.Bits.{bit_or}
use Rattle.cases.specs.declared.Case.{Case}
use Rattle.cases.specs.declared.Instr.{Instr}
use Rattle.cases.specs.declared.Instr.TheVariants.{Empty, Read, Write, Local, Branch, Goto, Acquire, Release}
use Rattle.rules.specs.Kinds.{assigns, reads}
use Rattle.rules.specs.State.{Name, State, kind_of}
use Rattle.sure.specs.Dead.{Ignored, awaits, holds_on, ignorable, is_given}
use Rattle.machine.specs.declared.Entry.{Entry}
use Rattle.machine.specs.Shown.{name_of, names_of, option_of, shown_entry}
use Rattle.machine.proofs.Entries.{none_option}
use Rattle.issuing.specs.Issued.{assigned_by}
use Rattle.committing.proofs.Inputs.{undefined_inputs}
use Rattle.needless.specs.Joins.{Joins}
use Rattle.needless.proofs.Echoing.{or_turn}

pub given_name : (c : Case) (n k : ℕ) → eqb n (32 + k) ≡ is_given k (name_of c n)
given_name c n k = ⊎_elim small large (decide (ltb n 32))
  where
    small : ltb n 32 ≡ true → eqb n (32 + k) ≡ is_given k (name_of c n)
    small h = ne_eqb n (32 + k) (λ e. omega (arith, ltb-true n 32 h)) ∙ rw h

    same : 32 ≤ n → eqb n (32 + k) ≡ eqb (n - 32) k
    same l =
        ⊎_elim
        (λ e. e ∙ sym (eq-eqb (n - 32) k (omega (arith, eqb-true n (32 + k) e))))
        (λ e. e ∙ sym (ne_eqb (n - 32) k (λ q. eqb-false n (32 + k) e (omega arith))))
        (decide (eqb n (32 + k)))

    large : ltb n 32 ≡ false → eqb n (32 + k) ≡ is_given k (name_of c n)
    large h = same (ltb-false n 32 h) ∙ rw h

pub awaits_is : (c : Case) (e : Entry) (k n : ℕ) (x y : Bool) → n ≡ length (reads e.instr) → x ≡ is_given k (name_of c e.first) → y ≡ is_given k (name_of c e.second)
    → (not e.done && ((ltb 0 n && x) || (ltb 1 n && y))) ≡ awaits k (shown_entry c e)
awaits_is c e k n x y h p q =
    (λ j. none_option e.done e.result j && ((ltb 0 (h j) && p j) || (ltb 1 (h j) && q j)))
    ∙ ap (λ (b : Bool). is_none (option_of e.done e.result) && b) (undefined_inputs c (is_given k) (reads e.instr) e.first e.second)

module _ (c : Case) (names : List ℕ) (k : ℕ) where
  bound_in : (p d : ℕ) → p < 4 → d < 8 → is_given k (name_of c (get_or names (8 * p + d) 0)) ≡ is_given k (names_of c names p d)
  bound_in p d h l = rw (lt-ltb p 4 h, lt-ltb d 8 l)

  bound_out : (p d : ℕ) → (ltb p 4 && ltb d 8) ≡ false → false ≡ is_given k (names_of c names p d)
  bound_out p d h = rw h

  module _ (s : State) (o : s.names ≡ names_of c names) where
    bound_as : (d : ℕ) → is_given k (names_of c names (s.actions k).proc d) ≡ is_given k (s.names (s.actions k).proc d)
    bound_as d = ap (λ (f : ℕ → ℕ → Name). is_given k (f (s.actions k).proc d)) (sym o)

    pub holds_in_lem : (i : Instr) → (s.actions k).proc < 4 → assigned_by i < 8 → is_given k (name_of c (get_or names (8 * (s.actions k).proc + assigned_by i) 0)) ≡ holds_on s k (assigns i)
    holds_in_lem Empty h l = absurd (omega arith)
    holds_in_lem (Read d a) h l = bound_in (s.actions k).proc d h l ∙ bound_as d
    holds_in_lem (Write a b) h l = absurd (omega arith)
    holds_in_lem (Local d e) h l = bound_in (s.actions k).proc d h l ∙ bound_as d
    holds_in_lem (Branch a b) h l = absurd (omega arith)
    holds_in_lem (Goto a) h l = absurd (omega arith)
    holds_in_lem (Acquire a) h l = absurd (omega arith)
    holds_in_lem (Release a) h l = absurd (omega arith)

    pub holds_out : (i : Instr) → (ltb (s.actions k).proc 4 && ltb (assigned_by i) 8) ≡ false → false ≡ holds_on s k (assigns i)
    holds_out Empty h = refl
    holds_out (Read d a) h = bound_out (s.actions k).proc d h ∙ bound_as d
    holds_out (Write a b) h = refl
    holds_out (Local d e) h = bound_out (s.actions k).proc d h ∙ bound_as d
    holds_out (Branch a b) h = refl
    holds_out (Goto a) h = refl
    holds_out (Acquire a) h = refl
    holds_out (Release a) h = refl

-- a set with one number more
pub with_one : (x k one a : ℕ) → one ≡ 2 ^ k → has (bit_or x one) a ≡ (eqb a k || has x a)
with_one x k one a e = has_or x one a ∙ rw (e, has_one k a) (or_turn (has x a) (eqb a k))

-- no action
pub ignored_none : (s : State) → Ignored s (has 0)
ignored_none s =
    record {
      there = λ k h. no k h;
      kinds = λ k h. no k h;
      renamed = λ k h. no k h;
      unread = λ j k l o h. no k h;
    }
  where
    no : {A : Type 0} (k : ℕ) → has 0 k ≡ true → A
    no k h = absurd (false≢true (sym (has_zero k) ∙ h))

-- one action more
pub ignored_more : (s : State) (inner k more : ℕ) → k < s.count → Ignored s (has inner) → ((a : ℕ) → has more a ≡ (eqb a k || has inner a)) → Joins s inner k → Ignored s (has more)
ignored_more s inner k more l I B J =
    record {
      there = λ a h. each (λ i. i < s.count) l I.there a h;
      kinds = λ a h. each (λ i. ignorable (kind_of (s.actions i)) ≡ true) J.kinds I.kinds a h;
      renamed = λ a h. each (λ i. holds_on s i (assigns (s.actions i).instr) ≡ false) J.renamed I.renamed a h;
      unread = λ j a z o h. each (λ i. awaits i (s.actions j) ≡ false) (new j z (out j o)) (λ i d. I.unread j i z (out j o) d) a h;
    }
  where
    each : (P : ℕ → Type 0) → P k → ((a : ℕ) → has inner a ≡ true → P a) → (a : ℕ) → has more a ≡ true → P a
    each P f g a h = ⊎_elim (λ w. subst P (sym (eqb-true a k w)) f) (g a) (or_cases (eqb a k) (has inner a) (sym (B a) ∙ h))

    out : (j : ℕ) → has more j ≡ false → has inner j ≡ false
    out j o = (or_none (eqb j k) (has inner j) (sym (B j) ∙ o)).1

    new : (j : ℕ) → j < s.count → has inner j ≡ false → awaits k (s.actions j) ≡ false
    new j z o =
        fails (some_below s.count (λ j. awaits k (s.actions j) && not (has inner j))) (awaits k (s.actions j))
        (λ w. below_make s.count (λ j. awaits k (s.actions j) && not (has inner j)) j z (and_make (awaits k (s.actions j)) _ w (ap not o)))
        J.unread
