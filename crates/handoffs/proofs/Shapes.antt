-- Plans by their four actions. Assumes nothing.
use mathlib.Core.Path.{◌≡◌, refl, sym, ◌∙◌, ap}
use mathlib.Core.Logic.{⊎_elim}
use mathlib.Core.Bool.{Bool, true, false, ◌&&◌, ◌||◌, cond, false≢true}
use mathlib.Core.List.{List, [], ◌∷◌, ◌++◌, map}
use Prim.Native.Nat.{ℕ, ◌+◌, ◌≤◌}
use native.Mathlib.Omega.{arith}
use lib.Dec.{eqb, ltb, leb}
use lib.ListN.{length, get_or, set, replicate}
use borrow.Author.Tests.{ltb-true, leb-true, lt-leb, eqb-true, ne_eqb}
use Rattle.words.specs.Small.{any}
use Rattle.words.proofs.Bools.{decide, and_both, cond-true, cond-false}
use Rattle.cases.specs.declared.Slot.{Slot}
use Rattle.cases.specs.declared.Instr.TheVariants.{Empty}
use Rattle.rules.specs.Building.{slot_of, slots_of}
use Rattle.handoffs.specs.declared.Plan.{Plan}
use Rattle.handoffs.specs.Plans.{touching, how_many, is_plan, legal, fresh, deeds, sends, receives, case_for}
use Rattle.handoffs.specs.Verdict.{holds, ready_as1, other_as0, stale_in}
use Rattle.handoffs.specs.Inner.{deed_of, plan_of, passing, four_at, fresh_two, fresh_three, fresh_four, no_code, receiver_code, presets_of, ready_at, touched_by, stale_any}

-- LEGAL

and_4 : (a b e f : Bool) → (a && (b && (e && (f && true)))) ≡ (a && b && e && f)
and_4 true true true true = refl
and_4 true true true false = refl
and_4 true true false f = refl
and_4 true false e f = refl
and_4 false b e f = refl

and_3 : (a b e : Bool) → (a && (b && (e && true))) ≡ (a && b && e && true)
and_3 true true true = refl
and_3 true true false = refl
and_3 true false e = refl
and_3 false b e = refl

and_2 : (a b : Bool) → (a && (b && true)) ≡ (a && b && true && true)
and_2 true true = refl
and_2 true false = refl
and_2 false b = refl

and_1 : (a : Bool) → (a && true) ≡ (a && true && true && true)
and_1 true = refl
and_1 false = refl

off_5 : (x a b d e f : Bool) → x ≡ false → (x && a && b && d && e) ≡ (x && f)
off_5 true a b d e f h = absurd (false≢true (sym h))
off_5 false a b d e f h = refl

pub plan_shape : (l : List ℕ) → four_at (plan_of l) ≡ is_plan l
unfolding is_plan
plan_shape [] = refl
plan_shape (a ∷ []) = sym (and_1 (ltb a 6))
plan_shape (a ∷ b ∷ []) = sym (and_2 (ltb a 6) (ltb b 6))
plan_shape (a ∷ b ∷ d ∷ []) = sym (and_3 (ltb a 6) (ltb b 6) (ltb d 6))
plan_shape (a ∷ b ∷ d ∷ e ∷ []) = sym (and_4 (ltb a 6) (ltb b 6) (ltb d 6) (ltb e 6))
plan_shape (a ∷ b ∷ d ∷ e ∷ f ∷ l) = off_5 (leb (length (a ∷ b ∷ d ∷ e ∷ f ∷ l)) 4) _ _ _ _ _ (lt-leb (length (a ∷ b ∷ d ∷ e ∷ f ∷ l)) 4 (omega arith))

-- a list of at most four actions
pub few_long : (l : List ℕ) → is_plan l ≡ true → length l ≤ 4
unfolding is_plan
few_long l h = leb-true (length l) 4 (and_both (leb (length l) 4) _ h).0

-- what 6 does not pass is counted alike
pub count-shape : (f : ℕ → Bool) → f 6 ≡ false → (l : List ℕ) → length l ≤ 4 → passing f (plan_of l) ≡ how_many f l
unfolding how_many
count-shape f z [] h = omega (arith, cond-false {A = ℕ} (f 6) 1 0 z)
count-shape f z (a ∷ []) h = omega (arith, cond-false {A = ℕ} (f 6) 1 0 z)
count-shape f z (a ∷ b ∷ []) h = omega (arith, cond-false {A = ℕ} (f 6) 1 0 z)
count-shape f z (a ∷ b ∷ d ∷ []) h = omega (arith, cond-false {A = ℕ} (f 6) 1 0 z)
count-shape f z (a ∷ b ∷ d ∷ e ∷ []) h = omega arith
count-shape f z (a ∷ b ∷ d ∷ e ∷ g ∷ l) h = absurd (omega arith)

-- the test that the code makes
pub legal-shape : (s r : List ℕ) → (four_at (plan_of s) && four_at (plan_of r) && eqb (passing (λ d. eqb d 3) (plan_of r)) 1 && leb (passing (λ d. ltb d 4) (plan_of r)) 3) ≡ legal s r
unfolding legal
legal-shape s r = ⊎_elim good bad (decide (is_plan r))
  where
    good : is_plan r ≡ true → (four_at (plan_of s) && four_at (plan_of r) && eqb (passing (λ d. eqb d 3) (plan_of r)) 1 && leb (passing (λ d. ltb d 4) (plan_of r)) 3) ≡ (is_plan s && is_plan r && eqb (how_many (λ d. eqb d 3) r) 1 && leb (how_many (λ d. ltb d 4) r) 3)
    good h =
        let few = few_long r h in
        λ i. plan_shape s i && plan_shape r i && eqb (count-shape (λ d. eqb d 3) refl r few i) 1 && leb (count-shape (λ d. ltb d 4) refl r few i) 3

    off : (x y z w u v p q : Bool) → x ≡ y → z ≡ false → w ≡ false → (x && z && u && v) ≡ (y && w && p && q)
    off x y z w u v p q e f g = (λ i. e i && f i && u && v) ∙ none y u v p q ∙ (λ i. y && sym g i && p && q)
      where
        none : (y u v p q : Bool) → (y && false && u && v) ≡ (y && false && p && q)
        none true u v p q = refl
        none false u v p q = refl

    bad : is_plan r ≡ false → (four_at (plan_of s) && four_at (plan_of r) && eqb (passing (λ d. eqb d 3) (plan_of r)) 1 && leb (passing (λ d. ltb d 4) (plan_of r)) 3) ≡ (is_plan s && is_plan r && eqb (how_many (λ d. eqb d 3) r) 1 && leb (how_many (λ d. ltb d 4) r) 3)
    bad h = off _ _ _ _ _ _ _ _ (plan_shape s) (plan_shape r ∙ h) h

-- what legal says
pub record Legal (s r : List ℕ) : Type 0 where
  pub sender : is_plan s ≡ true
  pub receiver : is_plan r ≡ true
  pub once : how_many (λ d. eqb d 3) r ≡ 1
  pub few : how_many touching r ≤ 3

pub legal-parts : (s r : List ℕ) → legal s r ≡ true → Legal s r
unfolding legal
legal-parts s r h =
    let a = and_both (is_plan s && is_plan r && eqb (how_many (λ d. eqb d 3) r) 1) (leb (how_many touching r) 3) h in
    let b = and_both (is_plan s && is_plan r) (eqb (how_many (λ d. eqb d 3) r) 1) a.0 in
    let d = and_both (is_plan s) (is_plan r) b.0 in
    record { sender = d.0; receiver = d.1; once = eqb-true (how_many (λ d. eqb d 3) r) 1 b.1; few = leb-true (how_many touching r) 3 a.1 }

-- THE CASE

sender_slots : Plan → List Slot
sender_slots p = slot_of (sends (deed_of p 0)) ∷ slot_of (sends (deed_of p 1)) ∷ slot_of (sends (deed_of p 2)) ∷ slot_of (sends (deed_of p 3)) ∷ replicate 8 (slot_of Empty)

receiver_slots : Plan → List Slot
receiver_slots p =
    slot_of (receives (record { byte = deed_of p 0; register = 5 }))
    ∷ slot_of (receives (record { byte = deed_of p 1; register = fresh_two p }))
    ∷ slot_of (receives (record { byte = deed_of p 2; register = fresh_three p }))
    ∷ slot_of (receives (record { byte = deed_of p 3; register = fresh_four p }))
    ∷ replicate 8 (slot_of Empty)

sender_shape : (l : List ℕ) → length l ≤ 4 → sender_slots (plan_of l) ≡ slots_of (map sends l)
unfolding sender_slots
sender_shape [] h = refl
sender_shape (a ∷ []) h = refl
sender_shape (a ∷ b ∷ []) h = refl
sender_shape (a ∷ b ∷ d ∷ []) h = refl
sender_shape (a ∷ b ∷ d ∷ e ∷ []) h = refl
sender_shape (a ∷ b ∷ d ∷ e ∷ f ∷ l) h = absurd (omega arith)

receiver_shape : (l : List ℕ) → length l ≤ 4 → receiver_slots (plan_of l) ≡ slots_of (map receives (deeds 5 l))
unfolding receiver_slots
receiver_shape [] h = refl
receiver_shape (a ∷ []) h = refl
receiver_shape (a ∷ b ∷ []) h = refl
receiver_shape (a ∷ b ∷ d ∷ []) h = refl
receiver_shape (a ∷ b ∷ d ∷ e ∷ []) h = refl
receiver_shape (a ∷ b ∷ d ∷ e ∷ f ∷ l) h = absurd (omega arith)

abbrev pub sender_code : Plan → List Slot
sender_code p = set (set (set (set no_code 0 (slot_of (sends (deed_of p 0)))) 1 (slot_of (sends (deed_of p 1)))) 2 (slot_of (sends (deed_of p 2)))) 3 (slot_of (sends (deed_of p 3)))

code_shape : (s r : List ℕ) → length s ≤ 4 → length r ≤ 4 → receiver_code (sender_code (plan_of s)) (plan_of r) ≡ slots_of (map sends s) ++ (slots_of (map receives (deeds 5 r)) ++ replicate 24 (slot_of Empty))
unfolding sender_slots receiver_slots
code_shape s r h k = λ i. sender_shape s h i ++ (receiver_shape r k i ++ replicate 24 (slot_of Empty))

pub case_shape : (s r : List ℕ) → length s ≤ 4 → length r ≤ 4
    → record { procs = 2; locs = 5; counts = length s ∷ length r ∷ 0 ∷ 0 ∷ []; masks = 31 ∷ 31 ∷ 0 ∷ 0 ∷ []; presets = presets_of; memory = replicate 8 0; code = receiver_code (sender_code (plan_of s)) (plan_of r) } ≡ case_for s r
unfolding case_for
case_shape s r h k = λ i. record { procs = 2; locs = 5; counts = length s ∷ length r ∷ 0 ∷ 0 ∷ []; masks = 31 ∷ 31 ∷ 0 ∷ 0 ∷ []; presets = presets_of; memory = replicate 8 0; code = code_shape s r h k i }

-- THE READS

-- the register that ready is read into
abbrev pub ready_reg : ℕ → List ℕ → ℕ
ready_reg k [] = k
ready_reg k (d ∷ ds) = cond (eqb d 3) k (ready_reg (fresh k d) ds)

module _ (o : List ℕ) where
  ready_none : (k : ℕ) (l : List ℕ) → how_many (λ d. eqb d 3) l ≡ 0 → any (ready_as1 o) (deeds k l) ≡ false
  unfolding how_many
  ready_none k [] h = refl
  ready_none k (d ∷ ds) h = step (λ g. ready_none (fresh k d) ds g) (eqb d 3) refl
    where
      step : (how_many (λ d. eqb d 3) ds ≡ 0 → any (ready_as1 o) (deeds (fresh k d) ds) ≡ false) → (b : Bool) → eqb d 3 ≡ b → (eqb d 3 && holds o k 1 || any (ready_as1 o) (deeds (fresh k d) ds)) ≡ false
      step rest true e = absurd (omega (arith, h, cond-true {A = ℕ} (eqb d 3) 1 0 e))
      step rest false e = ap (λ (b : Bool). b && holds o k 1 || any (ready_as1 o) (deeds (fresh k d) ds)) e ∙ rest (omega (arith, h, cond-false {A = ℕ} (eqb d 3) 1 0 e))

  ready_one : (k : ℕ) (l : List ℕ) → how_many (λ d. eqb d 3) l ≡ 1 → any (ready_as1 o) (deeds k l) ≡ holds o (ready_reg k l) 1
  unfolding how_many
  ready_one k [] h = absurd (omega arith)
  ready_one k (d ∷ ds) h = step (λ g. ready_one (fresh k d) ds g) (eqb d 3) refl
    where
      or_no : (a b : Bool) → b ≡ false → (a || b) ≡ a
      or_no true b e = refl
      or_no false b e = e

      step : (how_many (λ d. eqb d 3) ds ≡ 1 → any (ready_as1 o) (deeds (fresh k d) ds) ≡ holds o (ready_reg (fresh k d) ds) 1) → (b : Bool) → eqb d 3 ≡ b → (eqb d 3 && holds o k 1 || any (ready_as1 o) (deeds (fresh k d) ds)) ≡ holds o (cond (eqb d 3) k (ready_reg (fresh k d) ds)) 1
      step rest true e =
          ap (λ (b : Bool). b && holds o k 1 || any (ready_as1 o) (deeds (fresh k d) ds)) e
          ∙ or_no (holds o k 1) _ (ready_none (fresh k d) ds (omega (arith, h, cond-true {A = ℕ} (eqb d 3) 1 0 e)))
          ∙ ap (λ (b : Bool). holds o (cond b k (ready_reg (fresh k d) ds)) 1) (sym e)
      step rest false e =
          ap (λ (b : Bool). b && holds o k 1 || any (ready_as1 o) (deeds (fresh k d) ds)) e
          ∙ rest (omega (arith, h, cond-false {A = ℕ} (eqb d 3) 1 0 e))
          ∙ ap (λ (b : Bool). holds o (cond b k (ready_reg (fresh k d) ds)) 1) (sym e)

-- the last of four is ready where none before it is
last_ready : (x y z w : Bool) (a b d e f : ℕ) → cond x 1 0 + (cond y 1 0 + (cond z 1 0 + (cond w 1 0 + 0))) ≡ 1 → cond x a (cond y b (cond z d e)) ≡ cond x a (cond y b (cond z d (cond w e f)))
last_ready true y z w a b d e f h = refl
last_ready false true z w a b d e f h = refl
last_ready false false true w a b d e f h = refl
last_ready false false false true a b d e f h = refl
last_ready false false false false a b d e f h = absurd (omega arith)

pub ready_shape : (l : List ℕ) → length l ≤ 4 → how_many (λ d. eqb d 3) l ≡ 1 → ready_at (plan_of l) ≡ ready_reg 5 l
unfolding how_many
ready_shape [] h k = absurd (omega arith)
ready_shape (a ∷ []) h k = refl
ready_shape (a ∷ b ∷ []) h k = refl
ready_shape (a ∷ b ∷ d ∷ []) h k = refl
ready_shape (a ∷ b ∷ d ∷ e ∷ []) h k = last_ready (eqb a 3) (eqb b 3) (eqb d 3) (eqb e 3) _ _ _ _ _ k
ready_shape (a ∷ b ∷ d ∷ e ∷ f ∷ l) h k = absurd (omega arith)

-- a word below 3 that the sending plan touches
pub touched_shape : (d : ℕ) (l : List ℕ) → length l ≤ 4 → touched_by (plan_of l) d ≡ (ltb d 3 && any (eqb d) l)
touched_shape d l h = step (ltb d 3) refl
  where
    ors : (a b e f : Bool) → (a || b || e || f) ≡ (a || (b || (e || (f || false))))
    ors true b e f = refl
    ors false true e f = refl
    ors false false true f = refl
    ors false false false true = refl
    ors false false false false = refl

    six : ltb d 3 ≡ true → eqb d 6 ≡ false
    six e = ne_eqb d 6 (λ x. omega (arith, x, ltb-true d 3 e))

    four : (l : List ℕ) → length l ≤ 4 → eqb d 6 ≡ false → (eqb d (get_or l 0 6) || eqb d (get_or l 1 6) || eqb d (get_or l 2 6) || eqb d (get_or l 3 6)) ≡ any (eqb d) l
    four [] h z = λ i. z i || z i || z i || z i
    four (a ∷ []) h z = ors (eqb d a) (eqb d 6) (eqb d 6) (eqb d 6) ∙ (λ i. eqb d a || (z i || (z i || (z i || false))))
    four (a ∷ b ∷ []) h z = ors (eqb d a) (eqb d b) (eqb d 6) (eqb d 6) ∙ (λ i. eqb d a || (eqb d b || (z i || (z i || false))))
    four (a ∷ b ∷ e ∷ []) h z = ors (eqb d a) (eqb d b) (eqb d e) (eqb d 6) ∙ (λ i. eqb d a || (eqb d b || (eqb d e || (z i || false))))
    four (a ∷ b ∷ e ∷ f ∷ []) h z = ors (eqb d a) (eqb d b) (eqb d e) (eqb d f)
    four (a ∷ b ∷ e ∷ f ∷ g ∷ l) h z = absurd (omega arith)

    step : (b : Bool) → ltb d 3 ≡ b → touched_by (plan_of l) d ≡ (ltb d 3 && any (eqb d) l)
    step true e = ap (λ (b : Bool). ltb d 3 && b) (four l h (six e))
    step false e = ap (λ (b : Bool). b && (eqb d (get_or l 0 6) || eqb d (get_or l 1 6) || eqb d (get_or l 2 6) || eqb d (get_or l 3 6))) e ∙ ap (λ (b : Bool). b && any (eqb d) l) (sym e)

-- the four tests one after the other, and both tests together
together : (h t₁ z₁ t₂ z₂ t₃ z₃ t₄ z₄ : Bool)
    → ((((false || (t₁ && (h && z₁))) || (t₂ && (h && z₂))) || (t₃ && (h && z₃))) || (t₄ && (h && z₄))) ≡ (h && ((t₁ && z₁) || ((t₂ && z₂) || ((t₃ && z₃) || ((t₄ && z₄) || false)))))
together true t₁ z₁ t₂ z₂ t₃ z₃ t₄ z₄ = ors (t₁ && z₁) (t₂ && z₂) (t₃ && z₃) (t₄ && z₄)
  where
    ors : (a b e f : Bool) → (a || b || e || f) ≡ (a || (b || (e || (f || false))))
    ors true b e f = refl
    ors false true e f = refl
    ors false false true f = refl
    ors false false false true = refl
    ors false false false false = refl
together false t₁ z₁ t₂ z₂ t₃ z₃ t₄ z₄ = λ i. off t₁ i || off t₂ i || off t₃ i || off t₄ i
  where
    off : (t : Bool) → (t && false) ≡ false
    off true = refl
    off false = refl

module _ (s : List ℕ) (o : List ℕ) (few : length s ≤ 4) where
  T : ℕ → Bool
  T d = ltb d 3 && any (eqb d) s

  Z : ℕ → Bool
  Z k = holds o k 0

  others-shape : (h : Bool) (ready : ℕ) → holds o ready 1 ≡ h → (l : List ℕ) → length l ≤ 4
      → ((((false || (T (get_or l 0 6) && (h && Z 5))) || (T (get_or l 1 6) && (h && Z (fresh_two (plan_of l))))) || (T (get_or l 2 6) && (h && Z (fresh_three (plan_of l))))) || (T (get_or l 3 6) && (h && Z (fresh_four (plan_of l))))) ≡ (h && any (other_as0 s o) (deeds 5 l))
  unfolding T Z
  others-shape h ready e [] n = together h false (Z 5) false (Z 5) false (Z 5) false (Z 5)
  others-shape h ready e (a ∷ []) n = together h (T a) (Z 5) false (Z 5) false (Z 5) false (Z 5)
  others-shape h ready e (a ∷ b ∷ []) n = together h (T a) (Z 5) (T b) (Z (fresh 5 a)) false (Z 5) false (Z 5)
  others-shape h ready e (a ∷ b ∷ d ∷ []) n = together h (T a) (Z 5) (T b) (Z (fresh 5 a)) (T d) (Z (fresh (fresh 5 a) b)) false (Z 5)
  others-shape h ready e (a ∷ b ∷ d ∷ f ∷ []) n = together h (T a) (Z 5) (T b) (Z (fresh 5 a)) (T d) (Z (fresh (fresh 5 a) b)) (T f) (Z (fresh (fresh (fresh 5 a) b) d))
  others-shape h ready e (a ∷ b ∷ d ∷ f ∷ g ∷ l) n = absurd (omega arith)

-- THE CODE'S TEST IS THE REQUEST'S
pub stale-shape : (s r : List ℕ) → Legal s r → (o : List ℕ) → stale_any (plan_of s) (plan_of r) o ≡ stale_in s r o
unfolding stale_in T Z
stale-shape s r L o =
    let few = few_long s L.sender in
    let long = few_long r L.receiver in
    let ready = ready_at (plan_of r) in
    let h = holds o ready 1 in
    let t : (d : ℕ) → touched_by (plan_of s) d ≡ (ltb d 3 && any (eqb d) s) = λ d. touched_shape d s few in
    (λ i. (((false || (t (get_or r 0 6) i && (h && holds o 5 0))) || (t (get_or r 1 6) i && (h && holds o (fresh_two (plan_of r)) 0))) || (t (get_or r 2 6) i && (h && holds o (fresh_three (plan_of r)) 0))) || (t (get_or r 3 6) i && (h && holds o (fresh_four (plan_of r)) 0)))
    ∙ others-shape s o few h ready refl r long
    ∙ ap (λ (b : Bool). b && any (other_as0 s o) (deeds 5 r)) (ap (λ (k : ℕ). holds o k 1) (ready_shape r long L.once) ∙ sym (ready_one o 5 r L.once))
