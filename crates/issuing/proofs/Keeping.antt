-- The sets that are kept, with the item of a new action. Assumes nothing.
use mathlib.Core.Path.{◌≡◌, refl, sym, ◌∙◌, ap, subst}
use mathlib.Core.Bool.{Bool, true, false, ◌&&◌, not}
use mathlib.Core.List.{List}
use Prim.Native.Nat.{ℕ, suc, ◌+◌, ◌<◌}
use native.Mathlib.Omega.{arith}
use native.Mathlib.Decide.{dec_lt}
use lib.Dec.{eqb, ltb}
use lib.ListN.{get_or, set, length-set}
use lib.Seq.{get_or-set_same, get_or-set_other}
use borrow.Author.Tests.{eq-eqb, ne_eqb, le-ltb}
use Rattle.words.specs.Small.{put, is_none}
use Rattle.words.proofs.Bools.{and_true, and_right}
use Rattle.cases.specs.declared.Case.{Case}
use Rattle.rules.specs.Kinds.{kind, writing}
use Rattle.rules.specs.State.{State, Action, kind_of, waiting, item_is}
use Rattle.rules.specs.Issue.{new_action, issued}
use Rattle.rules.specs.Commit.{writes}
use Rattle.orders.specs.Rows.{SetOf}
use Rattle.orders.proofs.Reached.{set_without}
use Rattle.machine.specs.declared.Entry.{Entry}
use Rattle.machine.specs.Shown.{option_of, shown_entry}
use Rattle.machine.specs.Kept.{of_kind, queued, has_value, Kept}
use Rattle.machine.proofs.Items.{values_are, item_put, item_other}
use Rattle.machine.proofs.Stores.{set_at}
use Rattle.issuing.specs.Issued.{KeptBy}

-- r is the set x of numbers below n, with n where the test passes
abbrev pub With : ℕ → ℕ → Bool → ℕ → Type 0
With x n test r = (P : ℕ → Bool) → SetOf n P x → test ≡ P n → SetOf (n + 1) P r

issued_count : (c : Case) (s : State) (p : ℕ) → (issued c s p).count ≡ suc s.count
unfolding issued
issued_count c s p = refl

issued_actions : (c : Case) (s : State) (p : ℕ) → (issued c s p).actions ≡ put s.actions s.count (new_action c s p)
unfolding issued
issued_actions c s p = refl

twice : (b : Bool) → not (not b) ≡ b
twice true = refl
twice false = refl

-- a state t is s with one action more
module _ (s t : State) (a : Action) (count : t.count ≡ suc s.count) (acts : t.actions ≡ put s.actions s.count a) where
  -- the set of the items that pass, an initial write by b, any other by f of its action
  module _ (b : ℕ → Bool) (f : Action → Bool) where
    abbrev passing : State → ℕ → Bool
    passing u e = item_is (b e) f u e

    before : (x : ℕ) → SetOf (8 + s.count) (passing s) x → SetOf (8 + s.count) (passing t) x
    before x h e = h e ∙ elim (dec_lt e (8 + s.count)) [ yes k ↦ ap (λ (v : Bool). ltb e (8 + s.count) && v) (item_other s t s.count a acts f (b e) e (λ q. omega arith)) | no k ↦ rw (le-ltb e (8 + s.count) (omega arith)) ]

    size : 8 + s.count + 1 ≡ 8 + t.count
    size = omega arith

    new : passing t (8 + s.count) ≡ f a
    new = item_put s t s.count a acts f (b (8 + s.count))

    joins : (x r : ℕ) (test : Bool) → SetOf (8 + s.count) (passing s) x → With x (8 + s.count) test r → test ≡ f a → SetOf (8 + t.count) (passing t) r
    joins x r test h w q = subst (λ (n : ℕ). SetOf n (passing t) r) size (w (passing t) (before x h) (q ∙ sym new))

    stays : (x : ℕ) → SetOf (8 + s.count) (passing s) x → f a ≡ false → SetOf (8 + t.count) (passing t) x
    stays x h q = subst (λ (n : ℕ). SetOf n (passing t) x) size (set_without (8 + s.count) (passing t) x (before x h) (new ∙ q))

  module _ (sets : List ℕ) (q p l : ℕ) (done : Bool) (hq : q ≡ kind_of a) (hp : p ≡ a.proc) (hl : l ≡ a.loc) (hd : is_none a.result ≡ not done) (low-q : q < 8) (low-p : p < 4) (low-l : l < 8)
      (w x y z : ℕ) (hw : With (get_or sets l 0) (8 + s.count) (eqb q 2) w) (hx : With (get_or sets (8 + q) 0) (8 + s.count) true x) (hy : With (get_or sets (16 + p) 0) (8 + s.count) (not done) y) (hz : With (get_or sets 20 0) (8 + s.count) done z) where
    abbrev one : List ℕ
    one = set sets l w

    abbrev two : List ℕ
    two = set one (8 + q) x

    abbrev three : List ℕ
    three = set two (16 + p) y

    abbrev stored : List ℕ
    stored = set three 20 z

    module _ (c : Case) (k : Kept c s sets) where
      writes_kept : (j : ℕ) → j < 8 → SetOf (8 + t.count) (writes t j) (get_or stored j 0)
      writes_kept j h =
          let f : Action → Bool = λ o. writing (kind_of o) && eqb o.loc j in
          let Q : ℕ → Type 0 = SetOf (8 + t.count) (writes t j) in
          subst Q (sym (get_or-set_other three 20 j z 0 (λ e. omega arith) ∙ get_or-set_other two (16 + p) j y 0 (λ e. omega arith) ∙ get_or-set_other one (8 + q) j x 0 (λ e. omega arith)))
          (set_at Q sets 0 l j w (omega (arith, k.long))
          (λ e. joins (λ i. eqb i j) f (get_or sets j 0) w (eqb q 2) (k.writes j h) (subst (λ (i : ℕ). With (get_or sets i 0) (8 + s.count) (eqb q 2) w) (sym e) hw) (sym (rw (sym hq, eq-eqb a.loc j (omega arith)) (and_true (eqb q 2)))))
          (λ n. stays (λ i. eqb i j) f (get_or sets j 0) (k.writes j h) (and_right (writing (kind_of a)) (eqb a.loc j) (ne_eqb a.loc j (λ e. n (omega arith))))))

      kinds_kept : (j : ℕ) → j < 8 → SetOf (8 + t.count) (of_kind t j) (get_or stored (8 + j) 0)
      kinds_kept j h =
          let f : Action → Bool = λ o. eqb (kind_of o) j in
          let Q : ℕ → Type 0 = SetOf (8 + t.count) (of_kind t j) in
          subst Q (sym (get_or-set_other three 20 (8 + j) z 0 (λ e. omega arith) ∙ get_or-set_other two (16 + p) (8 + j) y 0 (λ e. omega arith)))
          (set_at Q one 0 (8 + q) (8 + j) x (omega (arith, k.long, length-set sets l w))
          (λ e. joins (λ i. false) f (get_or sets (8 + j) 0) x true (k.kinds j h) (subst (λ (i : ℕ). With (get_or sets i 0) (8 + s.count) true x) (sym e) hx) (sym (eq-eqb (kind_of a) j (omega arith))))
          (λ n. subst Q (sym (get_or-set_other sets l (8 + j) w 0 (λ e. omega arith))) (stays (λ i. false) f (get_or sets (8 + j) 0) (k.kinds j h) (ne_eqb (kind_of a) j (λ e. n (omega arith))))))

      queues_kept : (j : ℕ) → j < 4 → SetOf (8 + t.count) (queued t j) (get_or stored (16 + j) 0)
      queues_kept j h =
          let Q : ℕ → Type 0 = SetOf (8 + t.count) (queued t j) in
          subst Q (sym (get_or-set_other three 20 (16 + j) z 0 (λ e. omega arith)))
          (set_at Q two 0 (16 + p) (16 + j) y (omega (arith, k.long, length-set sets l w, length-set one (8 + q) x))
          (λ e. joins (λ i. false) (waiting j) (get_or sets (16 + j) 0) y (not done) (k.queues j h) (subst (λ (i : ℕ). With (get_or sets i 0) (8 + s.count) (not done) y) (sym e) hy) (sym (rw (hd, eq-eqb a.proc j (omega arith)))))
          (λ n. subst Q (sym (get_or-set_other one (8 + q) (16 + j) x 0 (λ e. omega arith) ∙ get_or-set_other sets l (16 + j) w 0 (λ e. omega arith))) (stays (λ i. false) (waiting j) (get_or sets (16 + j) 0) (k.queues j h) (rw (ne_eqb a.proc j (λ e. n (omega arith)))))))

      given_kept : SetOf (8 + t.count) (has_value c t) (get_or stored 20 0)
      given_kept =
          let f : Action → Bool = λ o. not (is_none o.result) in
          let u = subst (λ (P : ℕ → Bool). SetOf (8 + s.count) P (get_or sets 20 0)) (values_are c s) k.given in
          subst (SetOf (8 + t.count) (has_value c t)) (sym (get_or-set_same three 20 z 0 (omega (arith, k.long, length-set sets l w, length-set one (8 + q) x, length-set two (16 + p) y))))
          (subst (λ (P : ℕ → Bool). SetOf (8 + t.count) P z) (sym (values_are c t)) (joins (λ i. true) f (get_or sets 20 0) z done u hz (sym (rw hd (twice done)))))

      pub keeps_issue : Kept c t stored
      keeps_issue = record { long = length-set three 20 z ∙ length-set two (16 + p) y ∙ length-set one (8 + q) x ∙ length-set sets l w ∙ k.long; writes = writes_kept; kinds = kinds_kept; queues = queues_kept; given = given_kept }

pub keeps_entry : (sets : List ℕ) (n q p l : ℕ) (e : Entry) (w x y z : ℕ) → q ≡ kind e.instr → p ≡ e.proc → l ≡ e.loc → q < 8 → p < 4 → l < 8
    → With (get_or sets l 0) (8 + n) (eqb q 2) w → With (get_or sets (8 + q) 0) (8 + n) true x → With (get_or sets (16 + p) 0) (8 + n) (not e.done) y → With (get_or sets 20 0) (8 + n) e.done z
    → KeptBy n e sets (set (set (set (set sets l w) (8 + q) x) (16 + p) y) 20 z)
keeps_entry sets n q p l e w x y z hq hp hl low-q low-p low-l hw hx hy hz = record { keeps = keeps }
  where
    unset : (d : Bool) (r : ℕ) → is_none (option_of d r) ≡ not d
    unset true r = refl
    unset false r = refl

    keeps : (c : Case) (s : State) (o : ℕ) → s.count ≡ n → shown_entry c e ≡ new_action c s o → Kept c s sets → Kept c (issued c s o) (set (set (set (set sets l w) (8 + q) x) (16 + p) y) 20 z)
    keeps c s o h a k =
        let at : (v : ℕ) (b : Bool) (r : ℕ) → With v (8 + n) b r → With v (8 + s.count) b r = λ v b r u. subst (λ (i : ℕ). With v (8 + i) b r) (sym h) u in
        keeps_issue s (issued c s o) (shown_entry c e) (issued_count c s o) (issued_actions c s o ∙ ap (put s.actions s.count) (sym a)) sets q p l e.done hq hp hl (unset e.done e.result) low-q low-p low-l w x y z
        (at (get_or sets l 0) (eqb q 2) w hw) (at (get_or sets (8 + q) 0) true x hx) (at (get_or sets (16 + p) 0) (not e.done) y hy) (at (get_or sets 20 0) e.done z hz) c k
