-- Queues and kinds in the kept sets: what holds back a commit. Assumes nothing.
use mathlib.Core.Path.{◌≡◌, refl, sym, ap, ◌∙◌}
use mathlib.Core.Logic.{⊎_elim}
use mathlib.Core.Bool.{Bool, true, false, ◌&&◌, ◌||◌, not, cond, false≢true}
use mathlib.Core.List.{List, [], ◌∷◌}
use mathlib.Core.Option.{Option, none, some}
use Prim.Native.Nat.{ℕ, ◌+◌, ◌-◌, ◌*◌, ◌/◌, ◌%◌, ◌^◌, ◌≤◌, ◌<◌}
use native.Mathlib.Nat.{div-eq_of_lt, le_trans}
use native.Mathlib.Omega.{arith}
use native.Mathlib.Decide.{dec_lt}
use lib.Bits.{bit_and, bit_or}
use lib.Dec.{eqb, ltb}
use lib.ListN.{get_or}
use lib.Pow.{pow_mono}
use borrow.Author.Tests.{eqb-true, eq-eqb, ne_eqb, lt-ltb, le-ltb, ltb-true}
use Rattle.words.specs.Small.{is_none, some_below, all, counting}
use Rattle.words.proofs.Lists.{all_below}
use Rattle.words.specs.Sets.{has}
use Rattle.words.proofs.Bools.{decide, bool_eq, and_both, and_make, and_right, and_true, or_right, below_cases, below_make}
use Rattle.words.proofs.Sets.{has_or, has_zero}
use Rattle.cases.specs.declared.Case.{Case}
use Rattle.cases.specs.declared.Instr.{Instr}
use Rattle.cases.specs.declared.Instr.TheVariants.{Empty, Read, Write, Local, Branch, Goto, Acquire, Release}
use Rattle.rules.specs.Kinds.{kind, writing, held_by}
use Rattle.rules.specs.State.{State, kind_of, waiting, value_of, item_value}
use Rattle.orders.specs.Least.{Least}
use Rattle.orders.proofs.Bits.{has_and, some_bit}
use Rattle.machine.specs.Kept.{Kept}
use Rattle.machine.proofs.Items.{item_is_lem}
use Rattle.machine.proofs.Entries.{item_given, name_start, name_given}
use Rattle.machine.specs.Shown.{name_of}
use Rattle.sights.specs.Sights.{holding, HoldRow, Names}

-- the hold-back table says what the rule says

abbrev table : List ℕ
table = 0 ∷ 1088 ∷ 64 ∷ 64 ∷ 64 ∷ 64 ∷ 192 ∷ 255 ∷ []

row_low : (k : ℕ) → k < 8 → get_or table k 0 < 65536
row_low k h = ltb-true (get_or table k 0) 65536 (all_below (λ n. ltb (get_or table n 0) 65536) 8 refl k h)

-- what row k says of a queued action of kind q
abbrev says : ℕ → ℕ → Bool → Bool
says k q same = has (get_or table k 0 % 256) q || (has (get_or table k 0 / 256) q && (eqb q 2 && same))

abbrev agree : Bool → Bool → Bool
agree true b = b
agree false b = not b

agreed : (a b : Bool) → agree a b ≡ true → a ≡ b
agreed true b h = sym h
agreed false true h = absurd (false≢true h)
agreed false false h = refl

whole : all (λ k. all (λ q. agree (says k q true) (held_by k q true) && agree (says k q false) (held_by k q false)) (counting 0 8)) (counting 0 8) ≡ true
unfolding held_by
whole = refl

table_rule : (k q : ℕ) (same : Bool) → k < 8 → q < 8 → says k q same ≡ held_by k q same
table_rule k q same hk hq = pick same
  where
    row : (agree (says k q true) (held_by k q true) && agree (says k q false) (held_by k q false)) ≡ true
    row = all_below (λ q. agree (says k q true) (held_by k q true) && agree (says k q false) (held_by k q false)) 8 (all_below (λ k. all (λ q. agree (says k q true) (held_by k q true) && agree (says k q false) (held_by k q false)) (counting 0 8)) 8 whole k hk) q hq

    pick : (b : Bool) → says k q b ≡ held_by k q b
    pick true = agreed _ _ (and_both (agree (says k q true) (held_by k q true)) _ row).0
    pick false = agreed _ _ (and_both (agree (says k q true) (held_by k q true)) _ row).1

pub row_is : (k : ℕ) → k < 8 → HoldRow k (get_or table k 0)
row_is k h = record { low = row_low k h; says = λ q l same. table_rule k q same h l }

kind-low : (i : Instr) → kind i < 8
kind-low Empty = omega arith
kind-low (Read d a) = omega arith
kind-low (Write a b) = omega arith
kind-low (Local d e) = omega arith
kind-low (Branch a l) = omega arith
kind-low (Goto l) = omega arith
kind-low (Acquire a) = omega arith
kind-low (Release a) = omega arith

-- the kinds of a set, from the least on

pub kinds_none : (x : ℕ) (q j : ℕ) → (has 0 (8 + j) || has x q) ≡ has x q
kinds_none x q j = ap (λ (b : Bool). b || has x q) (has_zero (8 + j))

pub kinds_more : (x e y : ℕ) → Least x e → 0 < x → ((a : ℕ) → has y a ≡ (has x a && not (eqb a e))) → (more items q j : ℕ) (all : Bool) → has more (8 + j) ≡ eqb q e
    → (has items (8 + j) || has x q) ≡ all → (has (bit_or more items) (8 + j) || has y q) ≡ all
kinds_more x e y m p o more items q j all h k = ap (λ (b : Bool). b || has y q) (has_or more items (8 + j)) ∙ ⊎_elim same other (decide (eqb q e)) ∙ k
  where
    same : eqb q e ≡ true → (has more (8 + j) || has items (8 + j) || has y q) ≡ (has items (8 + j) || has x q)
    same z = let i : has x q ≡ true = ap (has x) (eqb-true q e z) ∙ m.inside (m.low p) in rw (h, z, i) (sym (or_right (has items (8 + j)) true refl))

    other : eqb q e ≡ false → (has more (8 + j) || has items (8 + j) || has y q) ≡ (has items (8 + j) || has x q)
    other z = rw (h, o q, z) (ap (λ (b : Bool). has items (8 + j) || b) (and_true (has x q)))

-- a byte has no bit past the eighth
pub least_byte : (x e : ℕ) → Least x e → 0 < x → x < 256 → e < 8
least_byte x e m p h =
    elim (dec_lt e 8) [
      | yes l ↦ l
      | no l ↦ absurd (false≢true (sym (ne_eqb (x / 2 ^ e % 2) 1 (λ q. absurd (omega (arith, ap (λ (n : ℕ). n % 2) (gone (larger (omega arith))), q)))) ∙ m.inside (m.low p)))
    ]
  where
    gone : 2 ^ 8 ≤ 2 ^ e → x / 2 ^ e ≡ 0
    gone g = div-eq_of_lt (le_trans h g)

    larger : 8 ≤ e → 2 ^ 8 ≤ 2 ^ e
    larger l = pow_mono l

negated : (b : Bool) → not (not b) ≡ b
negated true = refl
negated false = refl

module _ (c : Case) (s : State) (sets : List ℕ) (kept : Kept c s sets) where
  -- the sets at the item of an action

  pub kind_at : (q j : ℕ) → q < 8 → j < s.count → has (get_or sets (8 + q) 0) (8 + j) ≡ eqb (kind_of (s.actions j)) q
  kind_at q j h l = kept.kinds q h (8 + j) ∙ rw (lt-ltb (8 + j) (8 + s.count) (omega arith)) (item_is_lem (λ a. eqb (kind_of a) q) s false j)

  write_at : (l j : ℕ) → l < 8 → j < s.count → has (get_or sets l 0) (8 + j) ≡ (writing (kind_of (s.actions j)) && eqb (s.actions j).loc l)
  write_at l j h k = kept.writes l h (8 + j) ∙ rw (lt-ltb (8 + j) (8 + s.count) (omega arith)) (item_is_lem (λ a. writing (kind_of a) && eqb a.loc l) s (eqb (8 + j) l) j)

  queue_at : (p j : ℕ) → p < 4 → j < s.count → has (get_or sets (16 + p) 0) (8 + j) ≡ waiting p (s.actions j)
  queue_at p j h l = kept.queues p h (8 + j) ∙ rw (lt-ltb (8 + j) (8 + s.count) (omega arith)) (item_is_lem (waiting p) s false j)

  -- no initial write is queued
  queue_none : (p e : ℕ) → p < 4 → e < 8 → has (get_or sets (16 + p) 0) e ≡ false
  queue_none p e h l = kept.queues p h e ∙ rw (lt-ltb e 8 l) (and_right (ltb e (8 + s.count)) false refl)

  -- the kinds that hold back, and those at the same location
  pub row_items : (k loc row all same j : ℕ) → loc < 8 → j < s.count → HoldRow k row
      → has all (8 + j) ≡ has (row % 256) (kind_of (s.actions j)) → has same (8 + j) ≡ has (row / 256) (kind_of (s.actions j))
      → has (bit_or all (bit_and same (get_or sets loc 0))) (8 + j) ≡ held_by k (kind_of (s.actions j)) (eqb (s.actions j).loc loc)
  row_items k loc row all same j hl l r a b =
      let w = write_at loc j hl l in
      has_or all (bit_and same (get_or sets loc 0)) (8 + j)
      ∙ ap (λ (x : Bool). has all (8 + j) || x) (has_and same (get_or sets loc 0) (8 + j))
      ∙ (λ i. a i || (b i && w i))
      ∙ r.says (kind_of (s.actions j)) (kind-low (s.actions j).instr) (eqb (s.actions j).loc loc)

  -- an item that the queue and the kinds have in common

  module _ (p k kind loc queue items : ℕ) (proc : p < 4) (upto : k ≤ 48) (there : k ≤ s.count)
      (Q : (a : ℕ) → has queue a ≡ (has (get_or sets (16 + p) 0) a && ltb a (8 + k)))
      (K : (j : ℕ) → j < s.count → has items (8 + j) ≡ held_by kind (kind_of (s.actions j)) (eqb (s.actions j).loc loc)) where
    at : (e : ℕ) → has (bit_and queue items) e ≡ true → some_below k (λ j. holding p kind loc (s.actions j)) ≡ true
    at e t =
        let b = and_both (has queue e) (has items e) (sym (has_and queue items e) ∙ t) in
        let q = and_both (has (get_or sets (16 + p) 0) e) (ltb e (8 + k)) (sym (Q e) ∙ b.0) in
        let top = ltb-true e (8 + k) q.1 in
        elim (dec_lt e 8) [
          | yes l ↦ absurd (false≢true (sym (queue_none p e proc l) ∙ q.0))
          | no l ↦
              let z : 8 + (e - 8) ≡ e = omega arith in
              below_make k (λ i. holding p kind loc (s.actions i)) (e - 8) (omega arith)
              (and_make (waiting p (s.actions (e - 8))) _
              (sym (queue_at p (e - 8) proc (omega arith)) ∙ ap (has (get_or sets (16 + p) 0)) z ∙ q.0)
              (sym (K (e - 8) (omega arith)) ∙ ap (has items) z ∙ b.1))
        ]

    back : some_below k (λ j. holding p kind loc (s.actions j)) ≡ true → (e : ℕ) × (has (bit_and queue items) e ≡ true)
    back t =
        let r = below_cases k (λ i. holding p kind loc (s.actions i)) t in
        let low = r.1 in
        let b = and_both (waiting p (s.actions r.0)) _ r.2 in (
          8 + r.0,
          has_and queue items (8 + r.0)
              ∙ and_make (has queue (8 + r.0)) (has items (8 + r.0))
              (Q (8 + r.0) ∙ and_make (has (get_or sets (16 + p) 0) (8 + r.0)) (ltb (8 + r.0) (8 + k)) (queue_at p r.0 proc (omega arith) ∙ b.0) (lt-ltb (8 + r.0) (8 + k) (omega arith)))
              (K r.0 (omega arith) ∙ b.1),
        )

    pub held_is : not (eqb (bit_and queue items) 0) ≡ some_below k (λ j. holding p kind loc (s.actions j))
    held_is = bool_eq _ _ (λ h. let r = some_bit (bit_and queue items) (bit_and queue items) (omega arith) (λ z. false≢true (ap not (sym (eq-eqb (bit_and queue items) 0 z)) ∙ h)) in at r.0 r.1) (λ h. let r = back h in ap not (ne_eqb (bit_and queue items) 0 (λ z. false≢true (sym (has_zero r.0) ∙ ap (λ (n : ℕ). has n r.0) (sym z) ∙ r.1))))

  -- an action that is not committed

  pub waits_is : (issued k : ℕ) (given : Bool) → given ≡ has (get_or sets 20 0) (8 + k) → s.count ≡ issued → (ltb k issued && not given) ≡ (ltb k s.count && is_none (s.actions k).result)
  waits_is issued k given g e =
      let q : 8 + k - 8 ≡ k = omega arith in
      elim (dec_lt k s.count) [
        | yes h ↦
            let u : item_value c s (8 + k) ≡ (s.actions k).result = item_given c s (8 + k) (omega arith) ∙ rw q in
            let v : given ≡ not (is_none (s.actions k).result) = g ∙ kept.given (8 + k) ∙ rw (lt-ltb (8 + k) (8 + s.count) (omega arith)) (ap (λ (x : Option ℕ). not (is_none x)) u) in
            rw (lt-ltb k issued (omega arith), lt-ltb k s.count h, v) (negated (is_none (s.actions k).result))
        | no h ↦ rw (le-ltb k issued (omega arith), le-ltb k s.count (omega arith))
      ]

-- a name that is defined

filled : (b : Bool) (v : ℕ) → b ≡ not (is_none (cond b (some v) none))
filled true v = refl
filled false v = refl

module _ (c : Case) (s : State) (masks sets : List ℕ) (g : Names c s masks sets) (n : ℕ) where
  pub known_start : (mask : ℕ) → mask ≡ get_or masks (n / 8) 0 → n < 32 → has mask (n % 8) ≡ not (is_none (value_of s (name_of c n)))
  known_start mask e h =
      ap (λ (x : ℕ). has x (n % 8)) (e ∙ ap (λ (l : List ℕ). get_or l (n / 8) 0) (sym g.presets))
      ∙ filled (has (get_or c.masks (n / 8) 0) (n % 8)) (get_or c.presets (8 * (n / 8) + n % 8) 0)
      ∙ ap (λ (o : Option ℕ). not (is_none o)) (sym (name_start c s n h))

  pub known_given : 32 ≤ n → has (get_or sets 20 0) (n - 24) ≡ not (is_none (value_of s (name_of c n)))
  known_given h =
      let q : n - 24 - 8 ≡ n - 32 = omega arith in
      let u : item_value c s (n - 24) ≡ (s.actions (n - 32)).result = item_given c s (n - 24) (omega arith) ∙ rw q in
      g.kept.given (n - 24)
      ∙ ap (λ (o : Option ℕ). ltb (n - 24) (8 + s.count) && not (is_none o)) u
      ∙ past
      ∙ ap (λ (o : Option ℕ). not (is_none o)) (sym (name_given c s n h))
    where
      past : (ltb (n - 24) (8 + s.count) && not (is_none (s.actions (n - 32)).result)) ≡ not (is_none (s.actions (n - 32)).result)
      past =
          elim (dec_lt (n - 24) (8 + s.count)) [
            | yes k ↦ rw (lt-ltb (n - 24) (8 + s.count) k)
            | no k ↦ rw (le-ltb (n - 24) (8 + s.count) (omega arith), g.ends (n - 32) (omega arith))
          ]
