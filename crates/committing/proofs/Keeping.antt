-- The sets that are kept, once a queued action is committed. Assumes nothing.
use mathlib.Core.Path.{◌≡◌, refl, sym, ◌∙◌, ap, subst}
use mathlib.Core.Logic.{⊎_elim}
use mathlib.Core.Bool.{Bool, true, false, ◌&&◌, ◌||◌, not}
use mathlib.Core.List.{List}
use Prim.Native.Nat.{ℕ, ◌+◌, ◌^◌, ◌<◌}
use native.Mathlib.Omega.{arith}
use lib.Dec.{eqb, ltb}
use lib.Bits.{bit_or}
use lib.ListN.{get_or, set, length-set}
use lib.Seq.{get_or-set_same, get_or-set_other}
use borrow.Author.Tests.{eqb-true, eqb-false, ne_eqb, lt-ltb}
use Rattle.words.specs.Small.{put, is_none}
use Rattle.words.specs.Sets.{has}
use Rattle.words.proofs.Bools.{decide, and_both, and_make, and_true, and_right}
use Rattle.words.proofs.Sets.{has_or, has_one}
use Rattle.cases.specs.declared.Case.{Case}
use Rattle.rules.specs.Kinds.{writing}
use Rattle.rules.specs.State.{State, Action, kind_of, waiting, item_is}
use Rattle.rules.specs.Commit.{writes, settled, committed}
use Rattle.orders.specs.Rows.{SetOf}
use Rattle.machine.specs.Kept.{of_kind, queued, has_value, Kept}
use Rattle.machine.proofs.Items.{item_is_lem, values_are, item_put, item_other}
use Rattle.machine.proofs.Stores.{set_at}
use Rattle.committing.specs.Committed.{KeptBy}

-- a state t is s with action k become a
module _ (s t : State) (k : ℕ) (a : Action) (acts : t.actions ≡ put s.actions k a) where
  -- the set of the items that pass, an initial write by b, any other by f of its action
  module _ (n : ℕ) (b : ℕ → Bool) (f : Action → Bool) (x : ℕ) (h : SetOf n (λ e. item_is (b e) f s e) x) where
    other : (e : ℕ) → eqb e (8 + k) ≡ false → has x e ≡ (ltb e n && item_is (b e) f t e)
    other e q = h e ∙ ap (λ (v : Bool). ltb e n && v) (item_other s t k a acts f (b e) e (eqb-false e (8 + k) q))

    own : (e : ℕ) → eqb e (8 + k) ≡ true → item_is (b e) f t e ≡ f a
    own e q = ap (λ (i : ℕ). item_is (b e) f t i) (eqb-true e (8 + k) q) ∙ item_put s t k a acts f (b e)

    before : (e : ℕ) → eqb e (8 + k) ≡ true → item_is (b e) f s e ≡ f (s.actions k)
    before e q = ap (λ (i : ℕ). item_is (b e) f s i) (eqb-true e (8 + k) q) ∙ item_is_lem f s (b e) k

    stays : f (s.actions k) ≡ f a → SetOf n (λ e. item_is (b e) f t e) x
    stays same e = ⊎_elim (λ q. h e ∙ ap (λ (v : Bool). ltb e n && v) (before e q ∙ same ∙ sym (own e q))) (other e) (decide (eqb e (8 + k)))

    leaves : (r : ℕ) → ((e : ℕ) → has r e ≡ (has x e && not (eqb e (8 + k)))) → f a ≡ false → SetOf n (λ e. item_is (b e) f t e) r
    leaves r w gone e = w e ∙ ⊎_elim (λ q. rw q (and_right (has x e) false refl ∙ sym (and_right (ltb e n) (item_is (b e) f t e) (own e q ∙ gone)))) (λ q. rw q (and_true (has x e) ∙ other e q)) (decide (eqb e (8 + k)))

    joins : (r : ℕ) → ((e : ℕ) → has r e ≡ (eqb e (8 + k) || has x e)) → 8 + k < n → f a ≡ true → SetOf n (λ e. item_is (b e) f t e) r
    joins r w low there e = w e ∙ ⊎_elim (λ q. rw q (sym (and_make (ltb e n) (item_is (b e) f t e) (lt-ltb e n (omega (arith, eqb-true e (8 + k) q))) (own e q ∙ there)))) (λ q. rw q (other e q)) (decide (eqb e (8 + k)))

committed_count : (c : Case) (s : State) (p k e : ℕ) → (committed c s p k e).count ≡ s.count
unfolding committed
committed_count c s p k e = refl

committed_actions : (c : Case) (s : State) (p k e : ℕ) → (committed c s p k e).actions ≡ put s.actions k (settled c s p k e)
unfolding committed
committed_actions c s p k e = refl

module _ (sets : List ℕ) (p k bit y : ℕ) (hb : bit ≡ 2 ^ (8 + k)) (hy : (a : ℕ) → has y a ≡ (has (get_or sets (16 + p) 0) a && not (has bit a))) (low : p < 4) where
  abbrev one : List ℕ
  one = set sets (16 + p) y

  abbrev stored : List ℕ
  stored = set one 20 (bit_or bit (get_or sets 20 0))

  alone : (e : ℕ) → has bit e ≡ eqb e (8 + k)
  alone e = ap (λ (x : ℕ). has x e) hb ∙ has_one (8 + k) e

  module _ (c : Case) (s : State) (src : ℕ) (there : k < s.count) (waits : waiting p (s.actions k) ≡ true) (kept : Kept c s sets) where
    abbrev t : State
    t = committed c s p k src

    abbrev a : Action
    a = settled c s p k src

    acts : t.actions ≡ put s.actions k a
    acts = committed_actions c s p k src

    abbrev n : ℕ
    n = 8 + s.count

    mine : (s.actions k).proc ≡ p
    mine = eqb-true (s.actions k).proc p (and_both (eqb (s.actions k).proc p) (is_none (s.actions k).result) waits).0

    writes_kept : (l : ℕ) → l < 8 → SetOf n (writes t l) (get_or stored l 0)
    writes_kept l h = subst (SetOf n (writes t l)) (sym (get_or-set_other one 20 l _ 0 (λ e. omega arith) ∙ get_or-set_other sets (16 + p) l y 0 (λ e. omega arith)))
        (stays s t k a acts n (λ e. eqb e l) (λ o. writing (kind_of o) && eqb o.loc l) (get_or sets l 0) (kept.writes l h) refl)

    kinds_kept : (q : ℕ) → q < 8 → SetOf n (of_kind t q) (get_or stored (8 + q) 0)
    kinds_kept q h = subst (SetOf n (of_kind t q)) (sym (get_or-set_other one 20 (8 + q) _ 0 (λ e. omega arith) ∙ get_or-set_other sets (16 + p) (8 + q) y 0 (λ e. omega arith)))
        (stays s t k a acts n (λ e. false) (λ o. eqb (kind_of o) q) (get_or sets (8 + q) 0) (kept.kinds q h) refl)

    queues_kept : (j : ℕ) → j < 4 → SetOf n (queued t j) (get_or stored (16 + j) 0)
    queues_kept j h =
        let Q : ℕ → Type 0 = SetOf n (queued t j) in
        subst Q (sym (get_or-set_other one 20 (16 + j) _ 0 (λ e. omega arith)))
        (set_at Q sets 0 (16 + p) (16 + j) y (omega (arith, kept.long))
        (λ e. leaves s t k a acts n (λ i. false) (waiting j) (get_or sets (16 + j) 0) (kept.queues j h) y (λ i. hy i ∙ (λ m. has (get_or sets (sym e m) 0) i && not (alone i m))) (and_right (eqb a.proc j) false refl))
        (λ m. stays s t k a acts n (λ i. false) (waiting j) (get_or sets (16 + j) 0) (kept.queues j h) (rw (ne_eqb (s.actions k).proc j (λ e. m (omega (arith, mine)))))))

    given_kept : SetOf n (has_value c t) (get_or stored 20 0)
    given_kept =
        let x = get_or sets 20 0 in
        let u = subst (λ (P : ℕ → Bool). SetOf n P x) (values_are c s) kept.given in
        subst (SetOf n (has_value c t)) (sym (get_or-set_same one 20 (bit_or bit x) 0 (omega (arith, kept.long, length-set sets (16 + p) y))))
        (subst (λ (P : ℕ → Bool). SetOf n P (bit_or bit x)) (sym (values_are c t))
        (joins s t k a acts n (λ i. true) (λ o. not (is_none o.result)) x u (bit_or bit x) (λ e. has_or bit x e ∙ ap (λ (v : Bool). v || has x e) (alone e)) (omega arith) refl))

    keeps_all : Kept c t stored
    keeps_all =
        let size : s.count ≡ t.count = sym (committed_count c s p k src) in
        record {
          long = length-set one 20 _ ∙ length-set sets (16 + p) y ∙ kept.long;
          writes = λ l h. subst (λ (m : ℕ). SetOf (8 + m) (writes t l) (get_or stored l 0)) size (writes_kept l h);
          kinds = λ q h. subst (λ (m : ℕ). SetOf (8 + m) (of_kind t q) (get_or stored (8 + q) 0)) size (kinds_kept q h);
          queues = λ j h. subst (λ (m : ℕ). SetOf (8 + m) (queued t j) (get_or stored (16 + j) 0)) size (queues_kept j h);
          given = subst (λ (m : ℕ). SetOf (8 + m) (has_value c t) (get_or stored 20 0)) size given_kept;
        }

  pub keeps_commit : KeptBy p k sets stored
  keeps_commit = record { keeps = keeps_all }
