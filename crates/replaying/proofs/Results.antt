-- The bytes of a result by their places. Assumes nothing.
use mathlib.Core.Path.{◌≡◌, refl, sym, ◌∙◌, ap}
use mathlib.Core.Bool.{Bool, true, false, cond}
use mathlib.Core.Logic.{⊎_elim}
use mathlib.Core.List.{List, ◌++◌}
use Prim.Native.Nat.{ℕ, ◌+◌, ◌-◌, ◌%◌, ◌≤◌, ◌<◌}
use native.Mathlib.Numerals.{add-one}
use native.Mathlib.Omega.{arith}
use native.Mathlib.Decide.{dec_lt}
use mir.Val.{bool_byte}
use lib.Dec.{eqb, ltb}
use lib.ListN.{length, get_or, length-append, get_or-append}
use lib.Seq.{get_or-append-add, ext_get_or}
use borrow.Author.Tests.{lt-ltb, le-ltb, eqb-true}
use Rattle.words.proofs.Bools.{decide}
use Rattle.words.proofs.Lists.{each_at, each_length}
use Rattle.cases.specs.declared.Case.{Case}
use Rattle.rules.specs.State.{State, waiting}
use Rattle.rules.specs.Result.{registers, how_many, place_byte, present, result_bytes}
use Rattle.machine.specs.Shown.{place_of}
use Rattle.machine.proofs.Answers.{registers_long}
use Rattle.replaying.specs.Inner.{tail_of}

pub many_none : (f : ℕ → Bool) → 0 ≡ how_many 0 f
unfolding how_many
many_none f = refl

one_where : (b : Bool) → bool_byte b ≡ cond b 1 0
one_where true = refl
one_where false = refl

pub many_next : (n : ℕ) (f : ℕ → Bool) (more x : ℕ) (b : Bool) → b ≡ f n → more ≡ bool_byte b → x ≡ how_many n f → x + more ≡ how_many (n + 1) f
unfolding how_many
many_next n f more x b hb hm hx = rw (add-one, hm, one_where b, hb, hx) (omega arith)

-- a place counter's byte is the byte that the machine keeps
pub place_byte_lem : (n : ℕ) → n ≡ place_byte (place_of n)
place_byte_lem n = ⊎_elim (λ h. rw h (eqb-true n 255 h)) (λ h. rw h) (decide (eqb n 255))

module _ (c : Case) (s : State) where
  abbrev queued : ℕ → ℕ
  queued p = how_many s.count (λ k. waiting p (s.actions k))

  abbrev counters : List ℕ
  counters = present c (λ p. place_byte (s.places p))

  abbrev queues : List ℕ
  queues = present c queued

  counters_long : length counters ≡ 4
  counters_long = each_length (λ p. cond (ltb p c.procs) (place_byte (s.places p)) 0) 4

  low_at : (j : ℕ) → j < 4 → get_or (tail_of c s) j 0 ≡ cond (ltb j c.procs) (place_byte (s.places j)) 0
  low_at j h = get_or-append counters queues 0 j (omega (arith, counters_long)) ∙ each_at (λ p. cond (ltb p c.procs) (place_byte (s.places p)) 0) 4 j 0 h

  high_at : (p : ℕ) → p < 4 → get_or (tail_of c s) (4 + p) 0 ≡ cond (ltb p c.procs) (queued p) 0
  high_at p h =
      ap (λ (n : ℕ). get_or (tail_of c s) (n + p) 0) (sym counters_long)
      ∙ get_or-append-add counters queues p 0
      ∙ each_at (λ q. cond (ltb q c.procs) (queued q) 0) 4 p 0 h

  pub tail_absent : (j : ℕ) → j < 8 → c.procs ≤ j % 4 → 0 ≡ get_or (tail_of c s) j 0
  tail_absent j h none = elim (dec_lt j 4) [ yes k ↦ low k | no k ↦ high (omega arith) ]
    where
      low : j < 4 → 0 ≡ get_or (tail_of c s) j 0
      low k = sym (low_at j k ∙ rw (le-ltb j c.procs (omega arith)))

      high : 4 ≤ j → 0 ≡ get_or (tail_of c s) j 0
      high k =
          let q : j ≡ 4 + j % 4 = omega arith in
          sym (ap (λ (n : ℕ). get_or (tail_of c s) n 0) q ∙ high_at (j % 4) (omega arith) ∙ rw (le-ltb (j % 4) c.procs none))

  pub tail_place : (j : ℕ) → j < 4 → j % 4 < c.procs → place_byte (s.places (j % 4)) ≡ get_or (tail_of c s) j 0
  tail_place j h there =
      let q : j % 4 ≡ j = omega arith in
      ap (λ (n : ℕ). place_byte (s.places n)) q ∙ sym (low_at j h ∙ rw (lt-ltb j c.procs (omega arith)))

  pub tail_queue : (j : ℕ) → 4 ≤ j → j < 8 → j % 4 < c.procs → queued (j % 4) ≡ get_or (tail_of c s) j 0
  tail_queue j le lt there =
      let q : j ≡ 4 + j % 4 = omega arith in
      sym (ap (λ (n : ℕ). get_or (tail_of c s) n 0) q ∙ high_at (j % 4) (omega arith) ∙ rw (lt-ltb (j % 4) c.procs there))

  pub result-register : (i : ℕ) → i < 96 → get_or (registers c s) i 0 ≡ get_or (result_bytes c s) i 0
  unfolding result_bytes
  result-register i h = sym (get_or-append (registers c s) (tail_of c s) 0 i (omega (arith, registers_long c s)))

  pub result_tail : (i : ℕ) → 96 ≤ i → get_or (tail_of c s) (i - 96) 0 ≡ get_or (result_bytes c s) i 0
  unfolding result_bytes
  result_tail i h =
      let q : length (registers c s) + (i - 96) ≡ i = omega (arith, registers_long c s) in
      sym (ap (λ (n : ℕ). get_or (registers c s ++ tail_of c s) n 0) (sym q) ∙ get_or-append-add (registers c s) (tail_of c s) (i - 96) 0)

  tail_long : length (tail_of c s) ≡ 8
  tail_long = length-append counters queues ∙ omega (arith, counters_long, each_length (λ q. cond (ltb q c.procs) (queued q) 0) 4)

  result_long : length (result_bytes c s) ≡ 104
  unfolding result_bytes
  result_long = length-append (registers c s) (tail_of c s) ∙ omega (arith, registers_long c s, tail_long)

  pub result_is : (out : List ℕ) → length out ≡ 104 → ((j : ℕ) → j < 104 → get_or out j 0 ≡ get_or (result_bytes c s) j 0) → out ≡ result_bytes c s
  result_is out long h = ext_get_or 0 out (result_bytes c s) (long ∙ sym result_long) (λ i lt. h i (omega arith))
