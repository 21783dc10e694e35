-- The case of two legal plans: what the machine asks for, and straight. Assumes nothing.
use mathlib.Core.Path.{◌≡◌, refl, sym, ◌∙◌, ap, subst}
use mathlib.Core.Bool.{Bool, true, false, cond}
use mathlib.Core.List.{List, [], ◌∷◌, ◌++◌, map}
use Prim.Native.Nat.{ℕ, zero, suc, ◌+◌, ◌*◌, ◌-◌, ◌≤◌, ◌<◌}
use native.Mathlib.Omega.{arith}
use lib.Dec.{eqb, ltb, leb}
use lib.ListN.{length, get_or, replicate, length-append}
use lib.Seq.{get_or-append-add}
use borrow.Author.Tests.{ltb-true, ltb-false, lt-ltb, eqb-true, eqb-false}
use Rattle.words.specs.Small.{all}
use Rattle.words.proofs.Bools.{and_both, cond-true, cond-false}
use Rattle.cases.specs.declared.Slot.{Slot}
use Rattle.cases.specs.declared.Instr.{Instr}
use Rattle.cases.specs.declared.Instr.TheVariants.{Empty, Read, Write, Local, Branch, Goto, Acquire, Release}
use Rattle.cases.specs.Case.{count_of}
use Rattle.rules.specs.Building.{slot_of, slots_of}
use Rattle.machine.specs.Fit.{Fine, Fit}
use Rattle.rules.specs.Womm.{womm}
use Rattle.runs.specs.Outcome.{Cut}
use Rattle.handoffs.specs.Plans.{touching, how_many, is_plan, Deed, fresh, deeds, locks, sends, receives, case_for, bound}
use Rattle.handoffs.specs.Inner.{plan_of, ready_at, Few, Level}
use Rattle.handoffs.proofs.Level.{Plain, Straight, finished_exact, uncut}
use Rattle.handoffs.proofs.Shapes.{Legal, few_long, ready_reg, ready_shape}

-- every element
abbrev Each : {A : Type 0} → (A → Type 0) → List A → Type 0
Each P [] = Unit {0}
Each P (x ∷ l) = P x × Each P l

each_append : {A : Type 0} (P : A → Type 0) (l m : List A) → Each P l → Each P m → Each P (l ++ m)
each_append P [] m h k = k
each_append P (x ∷ l) m h k = (h.0, each_append P l m h.1 k)

each_at : {A : Type 0} (P : A → Type 0) (l : List A) (d : A) → Each P l → P d → (i : ℕ) → P (get_or l i d)
each_at P [] d h k i = k
each_at P (x ∷ l) d h k zero = h.0
each_at P (x ∷ l) d h k (suc i) = each_at P l d h.1 k i

each_same : {A : Type 0} (P : A → Type 0) (x : A) → P x → (n : ℕ) → Each P (replicate n x)
each_same P x h zero = tt
each_same P x h (suc n) = (h, each_same P x h n)

each_map : {A B : Type 0} (P : B → Type 0) (f : A → B) → ((x : A) → P (f x)) → (l : List A) → Each P (map f l)
each_map P f h [] = tt
each_map P f h (x ∷ l) = (h x, each_map P f h l)

map_long : {A B : Type 0} (f : A → B) (l : List A) → length (map f l) ≡ length l
map_long f [] = refl
map_long f (x ∷ l) = ap suc (map_long f l)

same_long : {A : Type 0} (n : ℕ) (x : A) → length (replicate n x) ≡ n
same_long zero x = refl
same_long (suc n) x = ap suc (same_long n x)

deeds_long : (k : ℕ) (l : List ℕ) → length (deeds k l) ≡ length l
deeds_long k [] = refl
deeds_long k (d ∷ l) = ap suc (deeds_long (fresh k d) l)

slots_long : (l : List Instr) → length l ≤ 12 → length (slots_of l) ≡ 12
slots_long l h = omega (arith, length-append (map slot_of l) (replicate (12 - length l) (slot_of Empty)), map_long slot_of l, same_long (12 - length l) (slot_of Empty))

-- PLAIN

plain_empty : Plain Empty
plain_empty = record { unbranched = refl; onward = λ j. refl }

plain_if : (b : Bool) (x y : Instr) → Plain x → Plain y → Plain (cond b x y)
plain_if true x y h k = h
plain_if false x y h k = k

plain-locks : (d : ℕ) → Plain (locks d)
plain-locks d =
    plain_if (eqb d 4) (Acquire 4) _ (record { unbranched = refl; onward = λ j. refl })
    (plain_if (eqb d 5) (Release 4) Empty (record { unbranched = refl; onward = λ j. refl }) plain_empty)

plain-sends : (d : ℕ) → Plain (sends d)
plain-sends d = plain_if (touching d) (Write d 1) (locks d) (record { unbranched = refl; onward = λ j. refl }) (plain-locks d)

plain-receives : (x : Deed) → Plain (receives x)
plain-receives x = plain_if (touching x.byte) (Read x.register x.byte) (locks x.byte) (record { unbranched = refl; onward = λ j. refl }) (plain-locks x.byte)

abbrev PlainSlot : Slot → Type 0
PlainSlot x = Plain x.instr

plain_slots : (l : List Instr) → Each Plain l → Each PlainSlot (slots_of l)
plain_slots l h = each_append PlainSlot (map slot_of l) _ (into l h) (each_same PlainSlot (slot_of Empty) plain_empty (12 - length l))
  where
    into : (l : List Instr) → Each Plain l → Each PlainSlot (map slot_of l)
    into [] h = tt
    into (x ∷ l) h = (h.0, into l h.1)

-- the case of any two plans
pub straight : (s r : List ℕ) → Straight (case_for s r)
unfolding case_for
straight s r = record { two = refl; plain = λ p i. each_at PlainSlot (slots_of (map sends s) ++ (slots_of (map receives (deeds 5 r)) ++ replicate 24 (slot_of Empty))) (slot_of Empty) code plain_empty (12 * p + i) }
  where
    code : Each PlainSlot (slots_of (map sends s) ++ (slots_of (map receives (deeds 5 r)) ++ replicate 24 (slot_of Empty)))
    code =
        each_append PlainSlot (slots_of (map sends s)) _ (plain_slots (map sends s) (each_map Plain sends plain-sends s))
        (each_append PlainSlot (slots_of (map receives (deeds 5 r))) _ (plain_slots (map receives (deeds 5 r)) (each_map Plain receives plain-receives (deeds 5 r)))
        (each_same PlainSlot (slot_of Empty) plain_empty 24))

counts_0 : (s r : List ℕ) → count_of (case_for s r) 0 ≡ length s
unfolding case_for
counts_0 s r = refl

counts_1 : (s r : List ℕ) → count_of (case_for s r) 1 ≡ length r
unfolding case_for
counts_1 s r = refl

-- EVERY FINISHED RUN OF TWO PLANS HAS TWICE AS MANY STEPS AS THERE ARE ACTIONS
pub level : (s r : List ℕ) → Level (case_for s r) (bound s r)
level s r = record { each = λ W k ts R. finished_exact (case_for s r) (straight s r) ts R.end R.leads R.done ∙ (λ i. 2 * (counts_0 s r i + counts_1 s r i)) }

-- so none is cut there
pub uncut_there : (s r : List ℕ) → Cut (womm (case_for s r)) (bound s r) → ⊥
uncut_there s r k = uncut (case_for s r) (straight s r) (subst (λ (n : ℕ). Cut (womm (case_for s r)) n) (sym (λ i. 2 * (counts_0 s r i + counts_1 s r i))) k)

-- FIT

-- the registers: one of at most three reads
abbrev Placed : Deed → Type 0
Placed x = (x.byte < 6) × (x.byte < 4 → x.register < 8)

placed : (l : List ℕ) (k : ℕ) → all (λ d. ltb d 6) l ≡ true → k + how_many touching l ≤ 8 → Each Placed (deeds k l)
unfolding how_many
placed [] k a h = tt
placed (d ∷ l) k a h = let w = and_both (ltb d 6) (all (λ d. ltb d 6) l) a in ((ltb-true d 6 w.0, fits), placed l (fresh k d) w.1 (step (touching d) refl))
  where
    fits : d < 4 → k < 8
    fits g = omega (arith, h, cond-true {A = ℕ} (touching d) 1 0 (lt-ltb d 4 g))

    step : (b : Bool) → touching d ≡ b → fresh k d + how_many touching l ≤ 8
    step true e = omega (arith, h, cond-true {A = ℕ} (touching d) 1 0 e, cond-true {A = ℕ} (touching d) (suc k) k e)
    step false e = omega (arith, h, cond-false {A = ℕ} (touching d) 1 0 e, cond-false {A = ℕ} (touching d) (suc k) k e)

-- a read, a write or one of the lock; registers are below 8, and those that are read below 5
abbrev pub Simple : Instr → Type 0
Simple Empty = ⊥
Simple (Read d a) = (d < 8) × (a < 5)
Simple (Write a b) = (a < 5) × (b < 5)
Simple (Local d e) = ⊥
Simple (Branch a l) = ⊥
Simple (Goto l) = ⊥
Simple (Acquire a) = a < 5
Simple (Release a) = a < 5

simple_fine : (x : Instr) → Simple x → Fine x
simple_fine Empty h = h
simple_fine (Read d a) h = (h.0, omega (arith, h.1))
simple_fine (Write a b) h = (omega (arith, h.0), omega (arith, h.1))
simple_fine (Local d e) h = absurd h
simple_fine (Branch a l) h = absurd h
simple_fine (Goto l) h = absurd h
simple_fine (Acquire a) h = omega (arith, h)
simple_fine (Release a) h = omega (arith, h)

simple_if : (b : Bool) (x y : Instr) → (b ≡ true → Simple x) → (b ≡ false → Simple y) → Simple (cond b x y)
simple_if true x y h k = h refl
simple_if false x y h k = k refl

simple_locks : (d : ℕ) → d < 6 → touching d ≡ false → Simple (locks d)
simple_locks d h t =
    simple_if (eqb d 4) (Acquire 4) _ (λ _. omega arith)
    (λ a. simple_if (eqb d 5) (Release 4) Empty (λ _. omega arith) (λ b. absurd (omega (arith, ltb-false d 4 t, eqb-false d 4 a, eqb-false d 5 b))))

simple_sends : (d : ℕ) → d < 6 → Simple (sends d)
simple_sends d h = simple_if (touching d) (Write d 1) (locks d) (λ t. (omega (arith, ltb-true d 4 t), omega arith)) (simple_locks d h)

simple_receives : (x : Deed) → Placed x → Simple (receives x)
simple_receives x h = simple_if (touching x.byte) (Read x.register x.byte) (locks x.byte) (λ t. (h.1 (ltb-true x.byte 4 t), omega (arith, ltb-true x.byte 4 t))) (simple_locks x.byte h.0)

each_simple : (l : List ℕ) → all (λ d. ltb d 6) l ≡ true → Each (λ d. Simple (sends d)) l
each_simple [] a = tt
each_simple (d ∷ l) a = let w = and_both (ltb d 6) (all (λ d. ltb d 6) l) a in (simple_sends d (ltb-true d 6 w.0), each_simple l w.1)

each_read : (l : List Deed) → Each Placed l → Each (λ x. Simple (receives x)) l
each_read [] h = tt
each_read (x ∷ l) h = (simple_receives x h.0, each_read l h.1)

-- instruction i of one of the two
simple_slots : {A : Type 0} (f : A → Instr) (l : List A) (pad rest : List Slot) → Each (λ x. Simple (f x)) l → (i : ℕ) → i < length l → Simple (get_or ((map slot_of (map f l) ++ pad) ++ rest) i (slot_of Empty)).instr
simple_slots f [] pad rest h i k = absurd (omega arith)
simple_slots f (x ∷ l) pad rest h zero k = h.0
simple_slots f (x ∷ l) pad rest h (suc i) k = simple_slots f l pad rest h.1 i (omega arith)

same_at : {A : Type 0} (n i : ℕ) (x : A) → get_or (replicate n x) i x ≡ x
same_at zero i x = refl
same_at (suc n) zero x = refl
same_at (suc n) (suc i) x = same_at n i x

past_slots : {A : Type 0} (f : A → Instr) (l : List A) (n : ℕ) (rest : List Slot) (i : ℕ) → length l ≤ i → i < length l + n → get_or ((map slot_of (map f l) ++ replicate n (slot_of Empty)) ++ rest) i (slot_of Empty) ≡ slot_of Empty
past_slots f [] zero rest i h k = absurd (omega arith)
past_slots f [] (suc n) rest zero h k = refl
past_slots f [] (suc n) rest (suc i) h k = past_slots f [] n rest i (omega arith) (omega arith)
past_slots f (x ∷ l) n rest zero h k = absurd (omega arith)
past_slots f (x ∷ l) n rest (suc i) h k = past_slots f l n rest i (omega arith) (omega arith)

all_six : (l : List ℕ) → is_plan l ≡ true → all (λ d. ltb d 6) l ≡ true
unfolding is_plan
all_six l h = (and_both (leb (length l) 4) (all (λ d. ltb d 6) l) h).1

module _ (s r : List ℕ) (L : Legal s r) where
  few_s : length s ≤ 4
  few_s = few_long s L.sender

  few_r : length r ≤ 4
  few_r = few_long r L.receiver

  registers : Each Placed (deeds 5 r)
  registers = placed r 5 (all_six r L.receiver) (omega (arith, L.few))

  send_long : length (slots_of (map sends s)) ≡ 12
  send_long = slots_long (map sends s) (omega (arith, map_long sends s, few_s))

  receive_long : length (slots_of (map receives (deeds 5 r))) ≡ 12
  receive_long = slots_long (map receives (deeds 5 r)) (omega (arith, map_long receives (deeds 5 r), deeds_long 5 r, few_r))

  abbrev pub later : List Slot
  later = slots_of (map receives (deeds 5 r)) ++ replicate 24 (slot_of Empty)

  abbrev pub codes : List Slot
  codes = slots_of (map sends s) ++ later

  simple_first : (n i : ℕ) → n ≡ i → i < length s → Simple (get_or codes n (slot_of Empty)).instr
  simple_first n i e h = subst (λ (j : ℕ). Simple (get_or codes j (slot_of Empty)).instr) (sym e) (simple_slots sends s _ later (each_simple s (all_six s L.sender)) i h)

  simple_second : (n i : ℕ) → n ≡ 12 + i → i < length r → Simple (get_or codes n (slot_of Empty)).instr
  simple_second n i e h =
      let q : n ≡ length (slots_of (map sends s)) + i = omega (arith, e, send_long) in
      let at : get_or codes n (slot_of Empty) ≡ get_or later i (slot_of Empty) = ap (λ (j : ℕ). get_or codes j (slot_of Empty)) q ∙ get_or-append-add (slots_of (map sends s)) later i (slot_of Empty) in
      subst (λ (x : Slot). Simple x.instr) (sym at) (simple_slots receives (deeds 5 r) _ (replicate 24 (slot_of Empty)) (each_read (deeds 5 r) registers) i (omega (arith, deeds_long 5 r, h)))

  few_counts : (p : ℕ) → get_or (length s ∷ length r ∷ 0 ∷ 0 ∷ []) p 0 ≤ 12
  few_counts zero = omega (arith, few_s)
  few_counts (suc zero) = omega (arith, few_r)
  few_counts (suc (suc zero)) = omega arith
  few_counts (suc (suc (suc zero))) = omega arith
  few_counts (suc (suc (suc (suc p)))) = omega arith

  pub simple_all : (p i : ℕ) → p < 4 → i < get_or (length s ∷ length r ∷ 0 ∷ 0 ∷ []) p 0 → Simple (get_or codes (12 * p + i) (slot_of Empty)).instr
  simple_all zero i h k = simple_first (12 * 0 + i) i (omega arith) k
  simple_all (suc zero) i h k = simple_second (12 * 1 + i) i (omega arith) k
  simple_all (suc (suc zero)) i h k = absurd (omega arith)
  simple_all (suc (suc (suc zero))) i h k = absurd (omega arith)
  simple_all (suc (suc (suc (suc p)))) i h k = absurd (omega arith)

  pub codes_long : length codes ≡ 48
  codes_long = omega (arith, length-append (slots_of (map sends s)) later, length-append (slots_of (map receives (deeds 5 r))) (replicate 24 (slot_of Empty)), send_long, receive_long, same_long 24 (slot_of Empty))

  -- a slot that is not used is empty
  past_first : (n i : ℕ) → n ≡ i → length s ≤ i → i < 12 → get_or codes n (slot_of Empty) ≡ slot_of Empty
  past_first n i e h k = ap (λ (j : ℕ). get_or codes j (slot_of Empty)) e ∙ past_slots sends s (12 - length (map sends s)) later i h (omega (arith, map_long sends s, few_s, k))

  past_second : (n i : ℕ) → n ≡ 12 + i → length r ≤ i → i < 12 → get_or codes n (slot_of Empty) ≡ slot_of Empty
  past_second n i e h k =
      let q : n ≡ length (slots_of (map sends s)) + i = omega (arith, e, send_long) in
      ap (λ (j : ℕ). get_or codes j (slot_of Empty)) q
      ∙ get_or-append-add (slots_of (map sends s)) later i (slot_of Empty)
      ∙ past_slots receives (deeds 5 r) (12 - length (map receives (deeds 5 r))) (replicate 24 (slot_of Empty)) i (omega (arith, deeds_long 5 r, h)) (omega (arith, map_long receives (deeds 5 r), deeds_long 5 r, few_r, k))

  past_third : (n i : ℕ) → n ≡ 24 + i → get_or codes n (slot_of Empty) ≡ slot_of Empty
  past_third n i e =
      let q : n ≡ length (slots_of (map sends s)) + (length (slots_of (map receives (deeds 5 r))) + i) = omega (arith, e, send_long, receive_long) in
      ap (λ (j : ℕ). get_or codes j (slot_of Empty)) q
      ∙ get_or-append-add (slots_of (map sends s)) later (length (slots_of (map receives (deeds 5 r))) + i) (slot_of Empty)
      ∙ get_or-append-add (slots_of (map receives (deeds 5 r))) (replicate 24 (slot_of Empty)) i (slot_of Empty)
      ∙ same_at 24 i (slot_of Empty)

  pub empty_past : (p i : ℕ) → p < 4 → get_or (length s ∷ length r ∷ 0 ∷ 0 ∷ []) p 0 ≤ i → i < 12 → get_or codes (12 * p + i) (slot_of Empty) ≡ slot_of Empty
  empty_past zero i h k l = past_first (12 * 0 + i) i (omega arith) k l
  empty_past (suc zero) i h k l = past_second (12 * 1 + i) i (omega arith) k l
  empty_past (suc (suc zero)) i h k l = past_third (12 * 2 + i) i (omega arith)
  empty_past (suc (suc (suc zero))) i h k l = past_third (12 * 3 + i) (12 + i) (omega arith)
  empty_past (suc (suc (suc (suc p)))) i h k l = absurd (omega arith)

  pub fit : Fit (case_for s r)
  unfolding case_for
  fit =
      record {
        procs = omega arith;
        locs = omega arith;
        counts = few_counts;
        fine = λ p i h k. simple_fine (get_or codes (12 * p + i) (slot_of Empty)).instr (simple_all p i h k);
        counts_long = refl;
        masks_long = refl;
        presets_long = refl;
        memory_long = refl;
        code_long = codes_long;
      }

  -- the bound
  pub bound_small : bound s r ≤ 96
  bound_small = omega (arith, few_s, few_r)

-- the register of the read of ready
ready_low : (k : ℕ) (l : List ℕ) → Each Placed (deeds k l) → how_many (λ d. eqb d 3) l ≡ 1 → ready_reg k l < 8
unfolding how_many
ready_low k [] h e = absurd (omega arith)
ready_low k (d ∷ l) h e = step (λ g. ready_low (fresh k d) l h.1 g) (eqb d 3) refl
  where
    step : (how_many (λ d. eqb d 3) l ≡ 1 → ready_reg (fresh k d) l < 8) → (b : Bool) → eqb d 3 ≡ b → cond (eqb d 3) k (ready_reg (fresh k d) l) < 8
    step rest true g = subst (λ (j : ℕ). j < 8) (sym (cond-true {A = ℕ} (eqb d 3) k (ready_reg (fresh k d) l) g)) (h.0.1 (omega (arith, eqb-true d 3 g)))
    step rest false g = subst (λ (j : ℕ). j < 8) (sym (cond-false {A = ℕ} (eqb d 3) k (ready_reg (fresh k d) l) g)) (rest (omega (arith, e, cond-false {A = ℕ} (eqb d 3) 1 0 g)))

few_shape : (l : List ℕ) → length l ≤ 4 → Each Placed (deeds 5 l) → ready_at (plan_of l) < 8 → Few (plan_of l)
few_shape [] n h k = record { ready = k; second = λ x. absurd (omega (arith, x)); third = λ x. absurd (omega (arith, x)); fourth = λ x. absurd (omega (arith, x)) }
few_shape (a ∷ []) n h k = record { ready = k; second = λ x. absurd (omega (arith, x)); third = λ x. absurd (omega (arith, x)); fourth = λ x. absurd (omega (arith, x)) }
few_shape (a ∷ b ∷ []) n h k = record { ready = k; second = h.1.0.1; third = λ x. absurd (omega (arith, x)); fourth = λ x. absurd (omega (arith, x)) }
few_shape (a ∷ b ∷ d ∷ []) n h k = record { ready = k; second = h.1.0.1; third = h.1.1.0.1; fourth = λ x. absurd (omega (arith, x)) }
few_shape (a ∷ b ∷ d ∷ e ∷ []) n h k = record { ready = k; second = h.1.0.1; third = h.1.1.0.1; fourth = h.1.1.1.0.1 }
few_shape (a ∷ b ∷ d ∷ e ∷ f ∷ l) n h k = absurd (omega arith)

pub few : (s r : List ℕ) → Legal s r → Few (plan_of r)
few s r L =
    let long = few_long r L.receiver in
    few_shape r long (registers s r L) (subst (λ (j : ℕ). j < 8) (sym (ready_shape r long L.once)) (ready_low 5 r (registers s r L) L.once))
