-- Steps that do what a spent one does. Assumes nothing.
use mathlib.Core.Path.{◌≡◌, refl, sym, ap, ◌∙◌}
use mathlib.Core.Bool.{Bool, true, false, ◌&&◌, ◌||◌, not, false≢true}
use mathlib.Core.List.{List}
use Prim.Native.Nat.{ℕ, ◌^◌, ◌<◌}
use native.Mathlib.Omega.{arith}
use native.Mathlib.Decide.{dec_lt}
use lib.Bits.{bit_and}
use lib.Dec.{eqb, ltb}
use lib.ListN.{get_or}
use borrow.Author.Tests.{lt-ltb, le-ltb, eq-eqb}
use Rattle.words.specs.Small.{or_zero, some_below}
use Rattle.words.specs.Sets.{has}
use Rattle.words.proofs.Bools.{and_both, below_cases, below_make, below-same}
use Rattle.words.proofs.Sets.{has_high}
use Rattle.cases.specs.declared.Case.{Case}
use Rattle.rules.specs.State.{State, item_value}
use Rattle.orders.specs.Rows.{SetOf}
use Rattle.orders.proofs.Bits.{has_and}
use Rattle.orders.proofs.Walks.{in_some}
use Rattle.needless.specs.Echoes.{gives_in, is_novel, EchoIn, Unechoed}

-- a read takes v from item f
abbrev pub takes : Case → State → ℕ → ℕ → Bool
takes c s v f = eqb v (or_zero (item_value c s f))

pub or_turn : (a b : Bool) → (a || b) ≡ (b || a)
or_turn true true = refl
or_turn true false = refl
or_turn false true = refl
or_turn false false = refl

module _ (c : Case) (s : State) (word done : ℕ) where
  -- what the items of both sets give
  pub gives_all : (v : ℕ) → in_some (bit_and word done) (takes c s v) ≡ some_below 64 (gives_in c s word done v)
  gives_all v = below-same 64 (λ f. has (bit_and word done) f && takes c s v f) (gives_in c s word done v) (λ f h. ap (λ (b : Bool). b && takes c s v f) (has_and word done f))

  -- an item of both gives its own value
  pub novel_all : (items r : ℕ) → word < 2 ^ 64 → ((a : ℕ) → has items a ≡ (has word a && not (has done a))) → ((a : ℕ) → has r a ≡ (has items a && is_novel c s word done a)) → SetOf 64 (is_novel c s word done) r
  novel_all items r w I R a =
      R a ∙ ap (λ (b : Bool). b && is_novel c s word done a) (I a)
      ∙ elim (dec_lt a 64) [
        | yes h ↦ keep (has word a) (has done a) (some_below 64 (gives_in c s word done (or_zero (item_value c s a)))) (own h) ∙ rw (lt-ltb a 64 h)
        | no h ↦ rw (le-ltb a 64 (omega arith), has_high word a w (omega arith))
      ]
    where
      own : a < 64 → has word a ≡ true → has done a ≡ true → some_below 64 (gives_in c s word done (or_zero (item_value c s a))) ≡ true
      own h x y = below_make 64 (gives_in c s word done (or_zero (item_value c s a))) a h (rw (x, y) (eq-eqb (or_zero (item_value c s a)) (or_zero (item_value c s a)) refl))

      keep : (x d n : Bool) → (x ≡ true → d ≡ true → n ≡ true) → (x && not d && (x && not n)) ≡ (x && not n)
      keep true true n f = sym (ap not (f refl refl))
      keep true false n f = refl
      keep false d n f = refl

module _ (c : Case) (s : State) (now : List ℕ) (w word : ℕ) where
  pub all_left : Unechoed c s now w word word
  all_left = record { inside = λ e h. h; gone = λ e l h g. absurd (false≢true (sym g ∙ h)) }

  pub some_left : w < 48 → (left : ℕ) → SetOf 64 (is_novel c s word (get_or now w 0)) left → Unechoed c s now w word left
  some_left low left L =
      record {
        inside = λ e h. (and_both (has word e) _ (and_both (ltb e 64) _ (sym (L e) ∙ h)).1).0;
        gone = λ e l h g. echo e (some (has word e) (some_below 64 (gives e)) h (sym (L e ∙ ap (λ (b : Bool). b && is_novel c s word (get_or now w 0) e) (lt-ltb e 64 l)) ∙ g));
      }
    where
      gives : ℕ → ℕ → Bool
      gives e = gives_in c s word (get_or now w 0) (or_zero (item_value c s e))

      some : (x y : Bool) → x ≡ true → (x && not y) ≡ false → y ≡ true
      some x true h g = refl
      some true false h g = absurd (false≢true (sym g))
      some false false h g = absurd (false≢true h)

      echo : (e : ℕ) → some_below 64 (gives e) ≡ true → EchoIn c s now w word e
      echo e h =
          let r = below_cases 64 (gives e) h in
          let t = and_both (has word r.0 && has (get_or now w 0) r.0) _ r.2 in
          let u = and_both (has word r.0) _ t.0 in
          record { low = low; source = r.0; small = r.1; spent = u.1; seen = u.0; same = t.1 }
