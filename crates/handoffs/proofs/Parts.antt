-- What the functions compute, step by step. Assumes nothing.
use mathlib.Core.Path.{◌≡◌, refl, sym, ◌∙◌, ap, subst}
use mathlib.Core.Logic.{◌↔◌}
use mathlib.Core.Bool.{Bool, true, false, ◌&&◌, ◌||◌, not, cond, false≢true}
use mathlib.Core.List.{List, [], ◌∷◌, ◌++◌}
use Prim.Native.Nat.{ℕ, zero, suc, ◌+◌, ◌*◌, ◌≤◌, ◌<◌}
use native.Mathlib.Omega.{arith}
use lib.Dec.{eqb, ltb, leb}
use lib.ListN.{length, get_or, drop, replicate, get_or-eq_default}
use borrow.Author.Tests.{ltb-true, lt-ltb, le-ltb, eq-eqb, ne_eqb}
use Rattle.std.specs.Prelude.{Option, Some, None}
use Rattle.std.specs.Option.{is_some}
use Rattle.words.specs.Refusals.{first_code_of}
use Rattle.words.proofs.Bools.{and_both, cond-true, cond-false}
use Rattle.cases.specs.declared.Case.{Case}
use Rattle.cases.specs.declared.Slot.{Slot}
use Rattle.cases.specs.declared.Instr.{Instr}
use Rattle.cases.specs.declared.Instr.TheVariants.{Read, Write}
use Rattle.clauses.specs.declared.Clause.{Clause}
use Rattle.clauses.specs.declared.Asked.{Asked}
use Rattle.clauses.specs.Wanted.{no_clauses, with_clause, wanted, Askable, meets_all}
use Rattle.rules.specs.State.{initial}
use Rattle.rules.specs.Womm.{womm}
use Rattle.rules.specs.Bytes.{step_bytes}
use Rattle.runs.specs.Listing.{below}
use Rattle.machine.specs.Fit.{Fit}
use Rattle.runs.specs.Wanted.{Wish, WantedFrom}
use Rattle.runs.specs.Asking.{Answered, IsAnswer}
use Rattle.handoffs.specs.declared.Plan.{Plan}
use Rattle.handoffs.specs.Plans.{touching, legal, fresh, locks, sends, receives, case_for, bound}
use Rattle.handoffs.specs.Verdict.{holds, stale_in, Stale, Stuck, Handed, IsVerdict, Refused, handoff_refusals, IsHandoff}
use Rattle.handoffs.specs.Inner.{deed_of, Found, found_of, plan_of, passing, four_at, fresh_two, fresh_three, fresh_four, receiver_code, presets_of, ready_at, touched_by, clause_of, asked_for, IsLow, Level, or_else, Improved, ImprovedTwice, stale_at, stale_any, Few, any_outcome}
use Rattle.handoffs.proofs.Either.{kept-none, taken_first, kept_lower, taken_lower, low_same}
use Rattle.handoffs.specs.Given.{Short}
use Rattle.handoffs.proofs.Shapes.{legal-parts, legal-shape, sender_code, case_shape, stale-shape}
use Rattle.handoffs.proofs.Fitting.{fit, bound_small, level, few}
use Rattle.handoffs.proofs.Verdicts.{Finishes, finishes_not-stuck, stuck-not_finishes, stale-not-stuck}

-- reading a plan
pub any_default : (l : List ℕ) (i a b : ℕ) → i < length l → get_or l i a ≡ get_or l i b
any_default [] i a b h = absurd (omega arith)
any_default (x ∷ l) zero a b h = refl
any_default (x ∷ l) (suc i) a b h = any_default l i a b (omega arith)

pub past_default : (l : List ℕ) (i a : ℕ) → length l ≤ i → a ≡ get_or l i a
past_default l i a h = sym (get_or-eq_default l a h)

pub legal_by : (s r : List ℕ) {p q : Plan} {a b : Bool} {m n : ℕ} → p ≡ plan_of s → q ≡ plan_of r → a ≡ four_at p → b ≡ four_at q → m ≡ passing (λ d. eqb d 3) q → n ≡ passing (λ d. ltb d 4) q → (a && b && eqb m 1 && leb n 3) ≡ legal s r
legal_by s r e f a b m n = (λ i. (a ∙ ap four_at e) i && (b ∙ ap four_at f) i && eqb ((m ∙ ap (passing (λ d. eqb d 3)) f) i) 1 && leb ((n ∙ ap (passing (λ d. ltb d 4)) f) i) 3) ∙ legal-shape s r

-- the register for a read
pub fresh-true : (k d : ℕ) → d < 4 → (k + 1 ≡ fresh k d) × (k + 1 ≤ k + 1)
fresh-true k d h = let e : k + 1 ≡ suc k = omega arith in (e ∙ sym (cond-true {A = ℕ} (touching d) (suc k) k (lt-ltb d 4 h)), omega arith)

pub fresh-false : (k d : ℕ) → 4 ≤ d → (k ≡ fresh k d) × (k ≤ k + 1)
fresh-false k d h = (sym (cond-false {A = ℕ} (touching d) (suc k) k (le-ltb d 4 h)), omega arith)

-- the instructions
pub word_sent : (d : ℕ) → d < 4 → Write d 1 ≡ sends d
word_sent d h = sym (cond-true (touching d) (Write d 1) (locks d) (lt-ltb d 4 h))

pub lock_sent : (d : ℕ) {x : Instr} → 4 ≤ d → x ≡ locks d → x ≡ sends d
lock_sent d h e = e ∙ sym (cond-false (touching d) (Write d 1) (locks d) (le-ltb d 4 h))

pub word_read : (d k : ℕ) → d < 4 → Read k d ≡ receives (record { byte = d; register = k })
word_read d k h = sym (cond-true (touching d) (Read k d) (locks d) (lt-ltb d 4 h))

pub lock_read : (d k : ℕ) {x : Instr} → 4 ≤ d → x ≡ locks d → x ≡ receives (record { byte = d; register = k })
lock_read d k h e = e ∙ sym (cond-false (touching d) (Read k d) (locks d) (le-ltb d 4 h))

pub case_by : (s r : List ℕ) {p q : Plan} {pre : List ℕ} {first code : List Slot} → Short s r → p ≡ plan_of s → q ≡ plan_of r → pre ≡ presets_of → first ≡ sender_code p → code ≡ receiver_code first q
    → record { procs = 2; locs = 5; counts = p.count ∷ q.count ∷ 0 ∷ 0 ∷ []; masks = 31 ∷ 31 ∷ 0 ∷ 0 ∷ []; presets = pre; memory = replicate 8 0; code = code } ≡ case_for s r
case_by s r {p} {q} {pre} {first} {code} short e f g h k =
    (λ i. record { procs = 2; locs = 5; counts = (e i).count ∷ (f i).count ∷ 0 ∷ 0 ∷ []; masks = 31 ∷ 31 ∷ 0 ∷ 0 ∷ []; presets = g i; memory = replicate 8 0; code = (k ∙ (λ j. receiver_code ((h ∙ ap sender_code e) j) (f j))) i }) ∙ case_shape s r short.sender short.receiver

-- the clauses
pub asked_by : (ready other : ℕ) {none one two : Asked} {a b : Clause} → none ≡ no_clauses → a ≡ clause_of ready 1 → one ≡ with_clause none a → b ≡ clause_of other 0 → two ≡ with_clause one b → two ≡ asked_for ready other
asked_by ready other n a o b t = t ∙ (λ i. with_clause ((o ∙ (λ j. with_clause (n j) (a j))) i) (b i))

pub none_small : {a : Asked} → a ≡ no_clauses → a.count < 4611686018427387904
none_small e = omega (arith, ap (λ (x : Asked). x.count) e)

pub one_small : (a : Clause) {none one : Asked} → none ≡ no_clauses → one ≡ with_clause none a → one.count < 4611686018427387904
one_small a {none} {one} e f = omega (arith, ap (λ (x : Asked). x.count) (f ∙ ap (λ (x : Asked). with_clause x a) e))

pub asked_fits : (ready other : ℕ) → ready < 8 → other < 8 → Askable (asked_for ready other)
asked_fits ready other h k = (omega arith, ((omega arith, h), ((omega arith, k), tt)))

pub asked_means : (ready other : ℕ) (o : List ℕ) → wanted (asked_for ready other) o ≡ (holds o ready 1 && holds o other 0)
unfolding meets_all
asked_means ready other o = end (holds o ready 1) (holds o other 0)
  where
    end : (a b : Bool) → (a && (b && true)) ≡ (a && b)
    end true true = refl
    end true false = refl
    end false b = refl

pub none_means : (o : List ℕ) → wanted no_clauses o ≡ true
unfolding meets_all
none_means o = refl

-- what is found
pub found_is : (o : Option ℕ) → (found_of o).yes ≡ is_some o
found_is (Some n) = refl
found_is None = refl

-- one question more
module _ {c : Case} {n : ℕ} {W : List ℕ → Bool} {best : Found} {buf : List ℕ} {a : Answered} {other : List ℕ} (ans : IsAnswer (womm c) W step_bytes n 384 a other) where
  pub improve_none : a.yes ≡ false → Improved c W n best buf best buf
  improve_none h U low = kept-none c n U W low ans h

  pub improve_first : a.yes ≡ true → best.yes ≡ false → {out : List ℕ} → out ≡ other → Improved c W n best buf (record { yes = true; length = a.length }) out
  improve_first h k e U low = subst (λ (l : List ℕ). IsLow c (or_else U W) n (record { yes = true; length = a.length }) l) (sym e) (taken_first c n U W low ans h k)

  pub improve_kept : Level c n → a.yes ≡ true → best.yes ≡ true → below other buf ≡ false → Improved c W n best buf best buf
  improve_kept v h k b U low = kept_lower c n U W low ans v h k b

  pub improve_lower : Level c n → a.yes ≡ true → best.yes ≡ true → below other buf ≡ true → {out : List ℕ} → out ≡ other → Improved c W n best buf (record { yes = true; length = a.length }) out
  improve_lower v h k b e U low = subst (λ (l : List ℕ). IsLow c (or_else U W) n (record { yes = true; length = a.length }) l) (sym e) (taken_lower c n U W low ans v h k b)

-- a buffer that is written over
pub over_all : (other buf : List ℕ) {out : List ℕ} → length other ≡ length buf → out ≡ other ++ drop (length other) buf → out ≡ other
over_all other buf l e = e ∙ ap (λ (k : ℕ). other ++ drop k buf) l ∙ ap (λ (x : List ℕ). other ++ x) (drop_all buf) ∙ append-none other
  where
    drop_all : (b : List ℕ) → drop (length b) b ≡ []
    drop_all [] = refl
    drop_all (x ∷ b) = drop_all b

    append-none : (b : List ℕ) → b ++ [] ≡ b
    append-none [] = refl
    append-none (x ∷ b) = ap (λ (l : List ℕ). x ∷ l) (append-none b)

same_or : (U W X : List ℕ → Bool) → ((o : List ℕ) → W o ≡ X o) → (o : List ℕ) → or_else U W o ≡ or_else U X o
same_or U W X e o = ap (λ (b : Bool). U o || b) (e o)

module _ {c : Case} {n : ℕ} {best : Found} {buf : List ℕ} (sending : Plan) (ready d k : ℕ) where
  pub considered : {t : Bool} (asked : Asked) {r : Found} {out : List ℕ} → t ≡ touched_by sending d → t ≡ true → asked ≡ asked_for ready k → Improved c (wanted asked) n best buf r out → Improved c (stale_at sending ready d k) n best buf r out
  considered {t} asked {r} {out} e h q x U low =
      low_same c n (or_else U (wanted asked)) (or_else U (stale_at sending ready d k))
      (same_or U (wanted asked) (stale_at sending ready d k) (λ o. ap (λ (y : Asked). wanted y o) q ∙ asked_means ready k o ∙ ap (λ (b : Bool). b && (holds o ready 1 && holds o k 0)) (sym h ∙ e)))
      (x U low)

  pub passed_by : {t : Bool} → t ≡ touched_by sending d → t ≡ false → Improved c (stale_at sending ready d k) n best buf best buf
  passed_by {t} e h U low =
      low_same c n U (or_else U (stale_at sending ready d k)) (λ o. or_none (U o) ∙ ap (λ (b : Bool). U o || (b && (holds o ready 1 && holds o k 0))) (sym h ∙ e)) low
    where
      or_none : (b : Bool) → b ≡ (b || false)
      or_none true = refl
      or_none false = refl

-- a word that is touched is one
pub touched_word : (sending : Plan) (d : ℕ) {t : Bool} → t ≡ touched_by sending d → t ≡ true → d < 4
touched_word sending d e h = omega (arith, ltb-true d 3 (and_both (ltb d 3) _ (sym e ∙ h)).0)

-- nothing is found yet
pub low-none : (c : Case) (n : ℕ) {buf : List ℕ} → buf ≡ replicate 384 0 → IsLow c (λ o. false) n (record { yes = false; length = 0 }) buf
low-none c n z = record { yes = (λ e. absurd (false≢true e), λ h. absurd (false≢true h.meets)); found = λ e. absurd (false≢true e); missing = λ _. (refl, z) }

pub none_askable : {a : Asked} → a ≡ no_clauses → Askable a
none_askable e = subst Askable (sym e) (omega arith, tt)

pub asked_askable : (ready other : ℕ) {a : Asked} → a ≡ asked_for ready other → ready < 8 → other < 8 → Askable a
asked_askable ready other e h k = subst Askable (sym e) (asked_fits ready other h k)

-- whether any run finishes
pub any_asked : (c : Case) (n : ℕ) (none : Asked) {a : Answered} {out : List ℕ} → none ≡ no_clauses → IsAnswer (womm c) (wanted none) step_bytes n 384 a out → (a.yes ≡ true) ↔ WantedFrom (womm c) any_outcome (initial c) n
any_asked c n none e x = (λ h. subst (λ (W : Wish). WantedFrom (womm c) W (initial c) n) same (x.yes.0 h), λ h. x.yes.1 (subst (λ (W : Wish). WantedFrom (womm c) W (initial c) n) (sym same) h))
  where
    same : wanted none ≡ any_outcome
    same = ap wanted e ∙ (λ i o. none_means o i)

-- the registers of the third and the fourth action
module _ (p : Plan) (F : Few p) {two three : ℕ} (x : (two ≡ fresh 5 (deed_of p 0)) × (two ≤ 6)) (y : (three ≡ fresh two (deed_of p 1)) × (three ≤ two + 1)) where
  third_is : three ≡ fresh_three p
  third_is = y.0 ∙ ap (λ (j : ℕ). fresh j (deed_of p 1)) x.0

  pub few_third : deed_of p 2 < 4 → three < 8
  few_third h = omega (arith, third_is, F.third h)

  pub few_fourth : {four : ℕ} → (four ≡ fresh three (deed_of p 2)) × (four ≤ three + 1) → deed_of p 3 < 4 → four < 8
  few_fourth z h = let v : ◌≡◌ {A = ℕ} _ (fresh_four p) = z.0 ∙ ap (λ (j : ℕ). fresh j (deed_of p 2)) third_is in omega (arith, v, F.fourth h)

pub few_ready : (p : Plan) → Few p → {ready : ℕ} → (ready ≡ ready_at p) × (ready ≤ 8) → ready < 8
few_ready p F x = omega (arith, x.0, F.ready)

pub low_all : (c : Case) (n : ℕ) (s r : Plan) {ready two three four : ℕ} {a b : Found} {first second out : List ℕ}
    → first ≡ replicate 384 0 → (ready ≡ ready_at r) × (ready ≤ 8) → (two ≡ fresh 5 (deed_of r 0)) × (two ≤ 6) → (three ≡ fresh two (deed_of r 1)) × (three ≤ two + 1) → (four ≡ fresh three (deed_of r 2)) × (four ≤ three + 1)
    → ImprovedTwice c (stale_at s ready (deed_of r 0) 5) (stale_at s ready (deed_of r 1) two) n (record { yes = false; length = 0 }) first a second
    → ImprovedTwice c (stale_at s ready (deed_of r 2) three) (stale_at s ready (deed_of r 3) four) n a second b out
    → IsLow c (stale_any s r) n b out
low_all c n s r {ready} {two} {three} {four} zeros q x y z f g =
    let t : two ≡ fresh_two r = x.0 in
    let u : three ≡ fresh_three r = y.0 ∙ ap (λ (k : ℕ). fresh k (deed_of r 1)) t in
    let v : four ≡ fresh_four r = z.0 ∙ ap (λ (k : ℕ). fresh k (deed_of r 2)) u in
    let none : List ℕ → Bool = λ o. false in
    low_same c n (or_else (or_else (or_else (or_else none (stale_at s ready (deed_of r 0) 5)) (stale_at s ready (deed_of r 1) two)) (stale_at s ready (deed_of r 2) three)) (stale_at s ready (deed_of r 3) four)) (stale_any s r)
    (λ o i.
    (((false || stale_at s (q.0 i) (deed_of r 0) 5 o) || stale_at s (q.0 i) (deed_of r 1) (t i) o) || stale_at s (q.0 i) (deed_of r 2) (u i) o)
    || stale_at s (q.0 i) (deed_of r 3) (v i) o)
    (g (or_else (or_else none (stale_at s ready (deed_of r 0) 5)) (stale_at s ready (deed_of r 1) two)) (f none (low-none c n zeros)))

-- the answer for legal plans
module _ (s r : List ℕ) (lawful : legal s r ≡ true) {c : Case} {p q : Plan} (cs : c ≡ case_for s r) (ps : p ≡ plan_of s) (qs : q ≡ plan_of r) where
  pub steps_is : 2 * (p.count + q.count) ≡ bound s r
  steps_is = λ i. 2 * ((ps i).count + (qs i).count)

  pub judge_fit : Fit c
  judge_fit = subst Fit (sym cs) (fit s r (legal-parts s r lawful))

  pub judge_small : 2 * (p.count + q.count) ≤ 96
  judge_small = omega (arith, steps_is, bound_small s r (legal-parts s r lawful))

  pub judge_few : Few q
  judge_few = subst Few (sym qs) (few s r (legal-parts s r lawful))

  pub judge_level : Level c (2 * (p.count + q.count))
  judge_level = subst (λ (n : ℕ). Level c n) (sym steps_is) (subst (λ (x : Case). Level x (bound s r)) (sym cs) (level s r))

  moved : {f : Found} {out : List ℕ} → IsLow c (stale_any p q) (2 * (p.count + q.count)) f out → IsLow (case_for s r) (stale_in s r) (bound s r) f out
  moved {f} {out} x =
      low_same (case_for s r) (bound s r) (stale_any (plan_of s) (plan_of r)) (stale_in s r) (stale-shape s r (legal-parts s r lawful))
      (subst (λ (y : Case). IsLow y (stale_any (plan_of s) (plan_of r)) (bound s r) f out) cs
      (subst (λ (y : Plan). IsLow c (stale_any (plan_of s) y) (2 * (length s + y.count)) f out) qs (subst (λ (y : Plan). IsLow c (stale_any y q) (2 * (y.count + q.count)) f out) ps x)))

  moved_any : {b : Bool} → (b ≡ true) ↔ WantedFrom (womm c) any_outcome (initial c) (2 * (p.count + q.count)) → (b ≡ true) ↔ Finishes s r
  moved_any {b} x = subst (λ (y : Case). (b ≡ true) ↔ WantedFrom (womm y) any_outcome (initial y) (bound s r)) cs (subst (λ (n : ℕ). (b ≡ true) ↔ WantedFrom (womm c) any_outcome (initial c) n) steps_is x)

  module _ {f : Found} {out : List ℕ} (x : IsLow c (stale_any p q) (2 * (p.count + q.count)) f out) where
    pub judged_stale : f.yes ≡ true → IsVerdict s r (record { code = 0; verdict = 1; length = f.length }) out
    judged_stale h =
        let low = moved x in
        let held : Stale s r = low.yes.0 h in
        let L = low.found h in
        record {
          code = refl;
          stales = (λ _. held, λ _. refl);
          stucks = (λ e. absurd (omega (arith, e)), λ k. absurd (stale-not-stuck s r held k));
          safes = (λ e. absurd (omega (arith, e)), λ k. absurd (k.0 held));
          shown = λ _. L;
          hidden = λ k. absurd (k held);
        }

    module _ (h : f.yes ≡ false) {b : Bool} (y : (b ≡ true) ↔ WantedFrom (womm c) any_outcome (initial c) (2 * (p.count + q.count))) where
      not-stale : Stale s r → ⊥
      not-stale k = false≢true (sym h ∙ (moved x).yes.1 k)

      pub judged_safe : b ≡ true → IsVerdict s r (record { code = 0; verdict = 0; length = 0 }) out
      judged_safe e =
          let any : Finishes s r = (moved_any y).0 e in
          record {
            code = refl;
            stales = (λ e. absurd (omega (arith, e)), λ k. absurd (not-stale k));
            stucks = (λ e. absurd (omega (arith, e)), λ k. absurd (finishes_not-stuck s r any k));
            safes = (λ _. (not-stale, finishes_not-stuck s r any), λ _. refl);
            shown = λ k. absurd (not-stale k);
            hidden = λ _. (refl, ((moved x).missing h).1);
          }

      pub judged_stuck : b ≡ false → IsVerdict s r (record { code = 0; verdict = 2; length = 0 }) out
      judged_stuck e =
          let none : Stuck s r = stuck-not_finishes s r (λ k. false≢true (sym e ∙ (moved_any y).1 k)) in
          record {
            code = refl;
            stales = (λ e. absurd (omega (arith, e)), λ k. absurd (not-stale k));
            stucks = (λ _. none, λ _. refl);
            safes = (λ e. absurd (omega (arith, e)), λ k. absurd (k.1 none));
            shown = λ k. absurd (not-stale k);
            hidden = λ _. (refl, ((moved x).missing h).1);
          }

-- the codes
module _ (s r : List ℕ) (room : ℕ) {t : Bool} (is : t ≡ legal s r) where
  code_is : {x y : Bool} → t ≡ x → eqb room 384 ≡ y → first_code_of (handoff_refusals s r room) ≡ cond (not x) 15 (cond (not y) 13 0)
  unfolding first_code_of handoff_refusals
  code_is e f = λ i. cond (not ((sym is ∙ e) i)) 15 (cond (not (f i)) 13 0)

  module _ {a : Handed} {out : List ℕ} where
    refused_by : (code : ℕ) → 0 < code → first_code_of (handoff_refusals s r room) ≡ code → Refused code room a out → IsHandoff s r room a out
    refused_by code h e x = record { judged = λ z. absurd (omega (arith, e, z, h)); refused = λ _. subst (λ (k : ℕ). Refused k room a out) (sym e) x }

    pub refused_15 : t ≡ false → Refused 15 room a out → IsHandoff s r room a out
    refused_15 e x = refused_by 15 (omega arith) (code_is e refl) x

    pub refused_13 : t ≡ true → (room ≡ 384 → ⊥) → Refused 13 room a out → IsHandoff s r room a out
    refused_13 e n x = refused_by 13 (omega arith) (code_is e (ne_eqb room 384 n)) x

    pub judged_by : t ≡ true → room ≡ 384 → IsVerdict s r a out → IsHandoff s r room a out
    judged_by e n x = record { judged = λ _. x; refused = λ z. absurd (omega (arith, code_is e (eq-eqb room 384 n), z)) }
