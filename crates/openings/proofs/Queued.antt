-- Sets of queued actions, from those that are kept ready; what such a set leaves out; the next number of a set. Assumes nothing.
use mathlib.Core.Path.{◌≡◌, refl, sym, ap, ◌∙◌}
use mathlib.Core.Logic.{⊎_elim}
use mathlib.Core.Bool.{Bool, true, false, ◌&&◌, ◌||◌, not, false≢true}
use mathlib.Core.List.{List}
use Prim.Native.Nat.{ℕ, ◌+◌, ◌-◌, ◌/◌, ◌%◌, ◌^◌, ◌<◌, ◌≤◌}
use native.Mathlib.Omega.{arith}
use lib.Bits.{bit_and, bit_or}
use lib.Dec.{eqb}
use lib.ListN.{get_or}
use lib.Pow.{shr-shr}
use borrow.Author.Tests.{eqb-true}
use Rattle.words.specs.Small.{some_below}
use Rattle.words.specs.Sets.{has}
use Rattle.words.proofs.Bools.{decide, and_both, and_make, and_rest, or_nothing, below_cases, below_make}
use Rattle.words.proofs.Sets.{has_or}
use Rattle.cases.specs.declared.Case.{Case}
use Rattle.cases.specs.declared.Instr.{Instr}
use Rattle.cases.specs.declared.Instr.TheVariants.{Empty, Read, Write, Local, Branch, Goto, Acquire, Release}
use Rattle.rules.specs.Kinds.{kind, reading, acquiring, held_by}
use Rattle.rules.specs.State.{State, kind_of, waiting}
use Rattle.rules.specs.Step.{commit, step_code}
use Rattle.rules.proofs.Accepted.{can_commit}
use Rattle.sure.specs.Sure.{sure_kind}
use Rattle.orders.specs.Least.{Least}
use Rattle.orders.proofs.Bits.{has_and}
use Rattle.orders.proofs.Reached.{set_at}
use Rattle.machine.specs.Fit.{Fine}
use Rattle.machine.specs.Kept.{Kept, of_kind, queued}
use Rattle.machine.proofs.Items.{item_is_lem}
use Rattle.openings.specs.Opening.{in_queue, Queued, FirstOf, behind, Leading}

-- the next number of a set

pub has_past : (x k i : ℕ) → has (x / 2 ^ k) i ≡ has x (k + i)
has_past x k i = ap (λ (n : ℕ). eqb (n % 2) 1) (shr-shr x k i)

module _ (x k end z : ℕ) (h : k ≤ end) (few : end ≤ 48) (L : Least (x / 2 ^ k) z) where
  passed : (i : ℕ) → k ≤ i → i < k + z → has x i ≡ false
  passed i a b =
      let q : k + (i - k) ≡ i = omega arith in
      ap (has x) (sym q) ∙ sym (has_past x k (i - k)) ∙ L.first (i - k) (omega arith)

  pub first_none : end ≤ k + z → FirstOf x k end end
  first_none g = record { from = h; upto = omega arith; skipped = λ i a b. passed i a (omega arith); found = λ l. absurd (omega arith) }

  pub first_some : k + z < end → FirstOf x k end (k + z)
  first_some g = record { from = omega arith; upto = omega arith; skipped = passed; found = λ l. sym (has_past x k z) ∙ L.inside (omega arith) }

-- what is kept ready of an issued action

module _ (c : Case) (s : State) (sets : List ℕ) (K : Kept c s sets) where
  module _ (k : ℕ) (h : k < s.count) where
    pub kind_at : (q : ℕ) → q < 8 → has (get_or sets (8 + q) 0) (8 + k) ≡ eqb (kind_of (s.actions k)) q
    kind_at q l = set_at (8 + s.count) (of_kind s q) (get_or sets (8 + q) 0) (K.kinds q l) (8 + k) (omega arith) ∙ item_is_lem (λ a. eqb (kind_of a) q) s false k

    pub queue_at : (p : ℕ) → p < 4 → has (get_or sets (16 + p) 0) (8 + k) ≡ waiting p (s.actions k)
    queue_at p l = set_at (8 + s.count) (queued s p) (get_or sets (16 + p) 0) (K.queues p l) (8 + k) (omega arith) ∙ item_is_lem (waiting p) s false k

    pub queued_at : has (bit_or (get_or sets 19 0) (bit_or (get_or sets 18 0) (bit_or (get_or sets 17 0) (get_or sets 16 0)))) (8 + k) ≡ in_queue (s.actions k)
    unfolding some_below
    queued_at =
        has_or (get_or sets 19 0) (bit_or (get_or sets 18 0) (bit_or (get_or sets 17 0) (get_or sets 16 0))) (8 + k)
        ∙ ap (λ (b : Bool). has (get_or sets 19 0) (8 + k) || b) (has_or (get_or sets 18 0) (bit_or (get_or sets 17 0) (get_or sets 16 0)) (8 + k) ∙ ap (λ (b : Bool). has (get_or sets 18 0) (8 + k) || b) (has_or (get_or sets 17 0) (get_or sets 16 0) (8 + k)))
        ∙ (λ j. queue_at 3 (omega arith) j || (queue_at 2 (omega arith) j || (queue_at 1 (omega arith) j || (queue_at 0 (omega arith) ∙ sym (or_nothing (waiting 0 (s.actions k)))) j)))

  module _ (items : ℕ) (I : (k : ℕ) → k < s.count → has items (8 + k) ≡ in_queue (s.actions k)) where
    pub reads-queued : Queued s reading (bit_and items (get_or sets 9 0) / 2 ^ 8)
    reads-queued k h = has_past (bit_and items (get_or sets 9 0)) 8 k ∙ has_and items (get_or sets 9 0) (8 + k) ∙ (λ j. I k h j && kind_at k h 1 (omega arith) j)

    pub others-queued : (rest : ℕ) → ((a : ℕ) → has rest a ≡ (has items a && not (has (get_or sets 9 0) a))) → Queued s (λ q. not (reading q)) (rest / 2 ^ 8)
    others-queued rest m k h = has_past rest 8 k ∙ m (8 + k) ∙ (λ j. I k h j && not (kind_at k h 1 (omega arith) j))

    pub sure-queued : (rest : ℕ) → ((a : ℕ) → has rest a ≡ (has items a && not (has (bit_or (get_or sets 9 0) (get_or sets 14 0)) a))) → Queued s sure_kind (rest / 2 ^ 8)
    sure-queued rest m k h =
        has_past rest 8 k
        ∙ m (8 + k)
        ∙ (λ j. I k h j && not ((has_or (get_or sets 9 0) (get_or sets 14 0) (8 + k) ∙ (λ i. kind_at k h 1 (omega arith) i || kind_at k h 6 (omega arith) i)) j))

-- an action of a set of queued ones, and one that is left out

module _ (c : Case) (s : State) (few : c.procs ≤ 4) (P : ℕ → Bool) (x : ℕ) (Q : Queued s P x) where
  pub of_kind_lem : (k : ℕ) → k < s.count → has x k ≡ true → P (kind_of (s.actions k)) ≡ true
  of_kind_lem k h t = (and_both (in_queue (s.actions k)) _ (sym (Q k h) ∙ t)).1

  -- the commit of one that is not queued is refused
  pub left_out : (k e : ℕ) → P (kind_of (s.actions k)) ≡ true → has x k ≡ false → step_code c s (commit (s.actions k).proc k e) ≡ 0 → ⊥
  left_out k e p h t =
      let T = can_commit c s (s.actions k).proc k e t in
      false≢true (sym h ∙ Q k T.there ∙ and_make (in_queue (s.actions k)) _ (below_make 4 (λ q. waiting q (s.actions k)) (s.actions k).proc (omega (arith, T.proc)) T.waits) p)

-- what a queued acquire holds back

held_acquire : (i : Instr) (same : Bool) → Fine i → held_by (kind i) 6 same ≡ true
unfolding held_by
held_acquire Empty same h = absurd h
held_acquire (Read d a) same h = refl
held_acquire (Write a b) same h = refl
held_acquire (Local d e) same h = refl
held_acquire (Branch a l) same h = refl
held_acquire (Goto l) same h = refl
held_acquire (Acquire a) same h = refl
held_acquire (Release a) same h = refl

-- the commit of an action behind an acquire is refused
pub behind-held : (c : Case) (s : State) (k e : ℕ) → Fine (s.actions k).instr → behind s k ≡ true → step_code c s (commit (s.actions k).proc k e) ≡ 0 → ⊥
behind-held c s k e fine b t =
    let self = s.actions k in
    let r = below_cases k (λ j. waiting self.proc (s.actions j) && acquiring (kind_of (s.actions j))) b in
    let other = s.actions r.0 in
    let w = and_both (waiting self.proc other) _ r.2 in
    let same = eqb other.loc self.loc in
    let q : held_by (kind_of self) (kind_of other) same ≡ true = ap (λ (n : ℕ). held_by (kind_of self) n same) (eqb-true (kind_of other) 6 w.1) ∙ held_acquire self.instr same fine in
    false≢true (sym (can_commit c s self.proc k e t).free ∙ below_make k (λ j. waiting self.proc (s.actions j) && held_by (kind_of self) (kind_of (s.actions j)) (eqb (s.actions j).loc self.loc)) r.0 r.1 (and_make _ _ w.0 q))

-- of queued actions, those that lead: one of them, and one that is left out
module _ (c : Case) (s : State) (few : c.procs ≤ 4) (P : ℕ → Bool) (x : ℕ) (Q : Queued s P x) (y : ℕ) (L : Leading s y) (fine : (k : ℕ) → k < s.count → Fine (s.actions k).instr) where
  pub lead_kind : (k : ℕ) → k < s.count → has (bit_and x y) k ≡ true → P (kind_of (s.actions k)) ≡ true
  lead_kind k h t = of_kind_lem c s few P x Q k h (and_both (has x k) _ (sym (has_and x y k) ∙ t)).0

  pub lead_out : (k e : ℕ) → P (kind_of (s.actions k)) ≡ true → has (bit_and x y) k ≡ false → step_code c s (commit (s.actions k).proc k e) ≡ 0 → ⊥
  lead_out k e p h t =
      let g = (can_commit c s (s.actions k).proc k e t).there in
      ⊎_elim
      (λ a. behind-held c s k e (fine k g) (L k g (and_both (in_queue (s.actions k)) _ (sym (Q k g) ∙ a)).0 (and_rest (has x k) _ (sym (has_and x y k) ∙ h) a)) t)
      (λ a. left_out c s few P x Q k e p a t)
      (decide (has x k))
