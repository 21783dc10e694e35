-- The answer of a question about a schedule. Assumes nothing.
use mathlib.Core.Path.{◌≡◌, refl, sym, ◌∙◌, ap, subst}
use mathlib.Core.Bool.{true, false, cond, ◌||◌, not}
use mathlib.Core.List.{List, [], ◌∷◌, ◌++◌}
use Prim.Native.Nat.{ℕ, zero, suc, ◌%◌, ◌≤◌, ◌<◌}
use native.Mathlib.Omega.{arith}
use lib.Dec.{eqb, ltb}
use lib.ListN.{length, replicate}
use borrow.Author.Tests.{eq-eqb, ne_eqb, eqb-true, lt-ltb, le-ltb, ltb-true, not-false}
use Rattle.words.specs.Refusals.{Refusal, ◌when◌, first_code_of}
use Rattle.words.proofs.Bools.{and_both, or_none}
use Rattle.words.proofs.First.{First, first, hit, miss, first_none}
use Rattle.words.proofs.Passed.{positive}
use Rattle.cases.specs.declared.Case.{Case}
use Rattle.cases.specs.declared.CaseRead.{CaseRead}
use Rattle.cases.specs.Block.{refusals, case_of, read_of}
use Rattle.cases.specs.Formed.{Twins}
use Rattle.cases.proofs.Told.{read_sound, read_code, read_position, read_as, accepted_position}
use Rattle.cases.proofs.Twins.{twins_code, twins_case, twins_position}
use Rattle.runs.specs.Replay.{replay}
use Rattle.rules.specs.State.{initial}
use Rattle.rules.specs.Step.{steps_of}
use Rattle.rules.specs.Womm.{womm}
use Rattle.machine.specs.Shown.{shown}
use Rattle.machine.specs.Fit.{Fit}
use Rattle.machine.proofs.Fits.{fit}
use Rattle.replaying.specs.declared.Replayed.{Replayed}
use Rattle.replaying.specs.declared.Walked.{Walked}
use Rattle.replaying.specs.Answer.{Question, Answer, length_refusals, replay_refusals, answer_of, answer_from, asked, IsAnswer, result, IsReplay}
use Rattle.replaying.specs.declared.Taken.{Taken}
use Rattle.replaying.specs.Inner.{IsWalk, IsTaken, IsRefused, Walking}

-- codes 8 and 9
module _ (wanted n size : ℕ) where
  pub odd_length : (n % 4 ≡ 0 → ⊥) → 8 ≡ first_code_of (length_refusals wanted n size)
  odd_length h = first (length_refusals wanted n size) (hit (rw (ne_eqb (n % 4) 0 h)))

  pub long_length : n % 4 ≡ 0 → 384 < n → 8 ≡ first_code_of (length_refusals wanted n size)
  long_length h k = first (length_refusals wanted n size) (hit (rw (eq-eqb (n % 4) 0 h) (lt-ltb 384 n k)))

  fair : n % 4 ≡ 0 → n ≤ 384 → (not (eqb (n % 4) 0) || ltb 384 n) ≡ false
  fair h k = rw (eq-eqb (n % 4) 0 h) (le-ltb 384 n k)

  pub other_size : n % 4 ≡ 0 → n ≤ 384 → (size ≡ wanted → ⊥) → 9 ≡ first_code_of (length_refusals wanted n size)
  other_size h k z = first (length_refusals wanted n size) (miss (fair h k) (hit (rw (ne_eqb size wanted z))))

  pub no_length : n % 4 ≡ 0 → n ≤ 384 → size ≡ wanted → 0 ≡ first_code_of (length_refusals wanted n size)
  no_length h k z = first (length_refusals wanted n size) (miss (fair h k) (miss (rw (eq-eqb size wanted z)) First.none))

-- one list of refusals behind another
append_first : (l m : List Refusal) → positive l ≡ true → first_code_of (l ++ m) ≡ cond (eqb (first_code_of l) 0) (first_code_of m) (first_code_of l)
unfolding first_code_of
append_first [] m p = refl
append_first (code when true ∷ rest) m p = rw (ne_eqb code 0 (λ e. omega (arith, e, ltb-true 0 code (and_both (ltb 0 code) (positive rest) p).0)))
append_first (code when false ∷ rest) m p = append_first rest m (and_both (ltb 0 code) (positive rest) p).1

module _ (Q : Question) (block schedule : List ℕ) (size : ℕ) where
  abbrev pub own : ℕ
  own = first_code_of (refusals block)

  abbrev pub all : ℕ
  all = cond (eqb own 0) (first_code_of (length_refusals Q.size (length schedule) size)) own

  pub codes_are : first_code_of (replay_refusals Q.size block schedule size) ≡ all
  unfolding replay_refusals
  codes_are = append_first (refusals block) (length_refusals Q.size (length schedule) size) refl

  -- the code that `refusal` gives is the first that applies
  pub code_is : (n : ℕ) (r : CaseRead) → r ≡ read_of block → n ≡ cond (eqb r.code 0) (first_code_of (length_refusals Q.size (length schedule) size)) r.code → n ≡ all
  code_is n r read h = h ∙ ap (λ (k : ℕ). cond (eqb k 0) (first_code_of (length_refusals Q.size (length schedule) size)) k) (read_code block read)

  -- refused before the first step
  pub refused : (n at : ℕ) (out : List ℕ) → n ≡ all → (n ≡ 0 → ⊥) → at ≡ (read_of block).position → out ≡ replicate size 0 → IsAnswer Q block schedule size (record { code = n; steps = 0; place = 255; position = at }) out
  unfolding asked
  refused n at out h z q e =
      let w = ap (λ (i : ℕ). answer_from Q i (case_of block) (steps_of schedule) size) (codes_are ∙ sym h) ∙ from n z in
      record { code = sym (ap (λ (a : Answer). a.code) w); steps = sym (ap (λ (a : Answer). a.steps) w); place = sym (ap (λ (a : Answer). a.place) w); bytes = e ∙ sym (ap (λ (a : Answer). a.bytes) w); position = q }
    where
      from : (k : ℕ) → (k ≡ 0 → ⊥) → answer_from Q k (case_of block) (steps_of schedule) size ≡ record { code = k; steps = 0; place = 255; bytes = replicate size 0 }
      from zero z = absurd (z refl)
      from (suc k) z = refl

  -- taken up
  module _ (zero-code : 0 ≡ all) where
    split : (n m : ℕ) → 0 ≡ cond (eqb n 0) m n → (n ≡ 0) × (m ≡ 0)
    split zero m h = (refl, sym h)
    split (suc n) m h = let q : 0 ≡ suc n = h ∙ rw (ne_eqb (suc n) 0 (λ e. omega arith)) in absurd (omega arith)

    pub own-none : own ≡ 0
    own-none = (split own (first_code_of (length_refusals Q.size (length schedule) size)) zero-code).0

    lengths_none : first_code_of (length_refusals Q.size (length schedule) size) ≡ 0
    lengths_none = (split own (first_code_of (length_refusals Q.size (length schedule) size)) zero-code).1

    pub case_fit : Fit (case_of block)
    case_fit = fit block (read_sound block own-none)

    tests : ((not (eqb (length schedule % 4) 0) || ltb 384 (length schedule)) ≡ false) × (first_code_of (9 when not (eqb size Q.size) ∷ []) ≡ 0)
    tests = first_none 7 _ _ lengths_none

    pub in_fours : length schedule % 4 ≡ 0
    in_fours = eqb-true (length schedule % 4) 0 (not-false _ (or_none (not (eqb (length schedule % 4) 0)) (ltb 384 (length schedule)) tests.0).0)

    pub right_size : size ≡ Q.size
    right_size = eqb-true size Q.size (not-false _ (first_none 8 _ _ tests.1).0)

    asked_is : asked Q block schedule size ≡ answer_of Q (case_of block) (steps_of schedule) (replay (womm (case_of block)) (initial (case_of block)) (steps_of schedule))
    unfolding asked
    asked_is = ap (λ (n : ℕ). answer_from Q n (case_of block) (steps_of schedule) size) (codes_are ∙ sym zero-code)

    pub taken : (c : Case) (w : Walked) (out : List ℕ) → c ≡ case_of block → IsWalk c (steps_of schedule) w → out ≡ Q.bytes c (shown c w.machine) → IsAnswer Q block schedule size (record { code = w.code; steps = w.steps; place = w.place; position = 0 }) out
    taken c w out same u e = subst (λ (k : Case). IsWalk k (steps_of schedule) w → out ≡ Q.bytes k (shown k w.machine) → IsAnswer Q block schedule size (record { code = w.code; steps = w.steps; place = w.place; position = 0 }) out) (sym same) made u e
      where
        made : IsWalk (case_of block) (steps_of schedule) w → out ≡ Q.bytes (case_of block) (shown (case_of block) w.machine) → IsAnswer Q block schedule size (record { code = w.code; steps = w.steps; place = w.place; position = 0 }) out
        made v f = record {
          code = v.code ∙ sym (ap (λ (a : Answer). a.code) asked_is);
          steps = v.steps ∙ sym (ap (λ (a : Answer). a.steps) asked_is);
          place = v.place ∙ sym (ap (λ (a : Answer). a.place) asked_is);
          bytes = f ∙ ap (Q.bytes (case_of block)) v.shows ∙ sym (ap (λ (a : Answer). a.bytes) asked_is);
          position = sym (accepted_position block own-none);
        }

  -- the same from what `take_up` says
  pub refused_answer : (r : Replayed) (out : List ℕ) → IsRefused block schedule size Q.size r → out ≡ replicate size 0 → IsAnswer Q block schedule size r out
  refused_answer r out u e =
      subst (λ (x : Replayed). IsAnswer Q block schedule size x out) (λ j. record { code = r.code; steps = sym u.steps j; place = sym u.place j; position = r.position })
      (refused r.code r.position out (u.code ∙ codes_are) u.some u.position e)

  none : first_code_of (replay_refusals Q.size block schedule size) ≡ 0 → 0 ≡ all
  none h = sym h ∙ codes_are

  pub taken_size : (t : Taken) → IsTaken block schedule size Q.size t → size ≡ Q.size
  taken_size t u = right_size (none u.accepted)

  pub taken_answer : (t : Taken) (r : Replayed) (out : List ℕ) → IsTaken block schedule size Q.size t → r ≡ record { code = t.walked.code; steps = t.walked.steps; place = t.walked.place; position = 0 } → out ≡ Q.bytes t.case (shown t.case t.walked.machine) → IsAnswer Q block schedule size r out
  taken_answer t r out u h e = subst (λ (x : Replayed). IsAnswer Q block schedule size x out) (sym h) (taken (none u.accepted) t.case t.walked out u.case u.walk e)

-- what `take_up` says, from what it read and the code that `refusal` gives
module _ (block schedule : List ℕ) (size wanted n : ℕ) (r : CaseRead) (read : r ≡ read_of block) (is : n ≡ cond (eqb r.code 0) (first_code_of (length_refusals wanted (length schedule) size)) r.code) where
  abbrev sized : Question
  sized = record { size = wanted; bytes = λ c s. [] }

  first_is : n ≡ first_code_of (replay_refusals wanted block schedule size)
  first_is = code_is sized block schedule size n r read is ∙ sym (codes_are sized block schedule size)

  pub refused_up : (n ≡ 0 → ⊥) → IsRefused block schedule size wanted (record { code = n; steps = 0; place = 255; position = r.position })
  refused_up z = record { code = first_is; some = z; steps = refl; place = refl; position = read_position block read }

  module _ (z : n ≡ 0) where
    zero-code : 0 ≡ all sized block schedule size
    zero-code = sym z ∙ code_is sized block schedule size n r read is

    case_is : r.case ≡ case_of block
    case_is = read_as block read (own-none sized block schedule size zero-code)

    pub walking : Walking r.case schedule
    walking = record { fit = subst Fit (sym case_is) (case_fit sized block schedule size zero-code); whole = in_fours sized block schedule size zero-code }

    pub taken_up : (w : Walked) → IsWalk r.case (steps_of schedule) w → IsTaken block schedule size wanted (record { case = r.case; walked = w })
    taken_up w u = record { accepted = sym first_is ∙ z; case = case_is; walk = u }

-- At most one answer and one content of the buffer are right.
pub answer_unique : (Q : Question) (block schedule : List ℕ) (size : ℕ) (r r' : Replayed) (out out' : List ℕ) → IsAnswer Q block schedule size r out → IsAnswer Q block schedule size r' out' → (r ≡ r') × (out ≡ out')
answer_unique Q block schedule size r r' out out' u v =
    let code = u.code ∙ sym v.code in
    let steps = u.steps ∙ sym v.steps in
    let place = u.place ∙ sym v.place in
    let position = u.position ∙ sym v.position in
    ((λ j. record { code = code j; steps = steps j; place = place j; position = position j }), u.bytes ∙ sym v.bytes)

pub replay_unique : (block schedule : List ℕ) (size : ℕ) (r r' : Replayed) (out out' : List ℕ) → IsReplay block schedule size r out → IsReplay block schedule size r' out' → (r ≡ r') × (out ≡ out')
replay_unique = answer_unique result

-- Two blocks that differ in the usual bound and the check alone have the same answers.
pub twins_replay : (Q : Question) (s t schedule : List ℕ) (size : ℕ) (r : Replayed) (out : List ℕ) → Twins s t → IsAnswer Q s schedule size r out → IsAnswer Q t schedule size r out
unfolding asked
twins_replay Q s t schedule size r out w u =
    let code = codes_are Q s schedule size ∙ ap (λ (n : ℕ). cond (eqb n 0) (first_code_of (length_refusals Q.size (length schedule) size)) n) (twins_code s t w) ∙ sym (codes_are Q t schedule size) in
    let same : asked Q s schedule size ≡ asked Q t schedule size = λ j. answer_from Q (code j) (twins_case s t w j) (steps_of schedule) size in
    record {
      code = u.code ∙ ap (λ (a : Answer). a.code) same;
      steps = u.steps ∙ ap (λ (a : Answer). a.steps) same;
      place = u.place ∙ ap (λ (a : Answer). a.place) same;
      bytes = u.bytes ∙ ap (λ (a : Answer). a.bytes) same;
      position = u.position ∙ twins_position s t w;
    }
