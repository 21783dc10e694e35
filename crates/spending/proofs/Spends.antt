-- What words say of a key, and one key more. Assumes nothing.
use mathlib.Core.Path.{◌≡◌, refl, sym, ap, ◌∙◌}
use mathlib.Core.Logic.{◌⊎◌, inl, inr, ⊎_elim}
use mathlib.Core.Bool.{Bool, true, false, ◌&&◌, ◌||◌}
use mathlib.Core.List.{List}
use Prim.Native.Nat.{ℕ, ◌/◌, ◌%◌, ◌^◌, ◌<◌, ◌≤◌}
use native.Mathlib.Omega.{arith}
use native.Mathlib.Decide.{dec_lt}
use lib.Bits.{bit_or}
use lib.Dec.{eqb, ltb}
use lib.ListN.{length, get_or, set, length-set}
use lib.Seq.{get_or-set_same, get_or-set_other}
use borrow.Author.Tests.{lt-ltb, le-ltb, ltb-true, eqb-true, eqb-false, eq-eqb, ne_eqb}
use Rattle.words.specs.Sets.{has}
use Rattle.words.proofs.Bools.{or_cases, or_left, or_right, and_both, and_make, or_nothing}
use Rattle.words.proofs.Sets.{has_or, has_one}
use Rattle.sure.specs.Spent.{Key, taking, issuing}
use Rattle.spending.specs.Words.{key_in, spent_by}
use Rattle.spending.specs.Spending.{Noted}

-- keys by their word

module _ (w e : ℕ) where
  pub key_read : w < 48 → key_in w e ≡ taking w e
  key_read h = rw (lt-ltb w 48 h)

  pub key_lone : w ≡ 48 → key_in w e ≡ taking e 0
  key_lone h = rw h

  pub key_issue : 49 ≤ w → key_in w e ≡ issuing e
  key_issue h = rw (le-ltb w 48 (omega arith), ne_eqb w 48 (λ q. omega arith))

module _ (now : List ℕ) (w e : ℕ) where
  pub spent_read : w < 48 → (has (get_or now w 0) e || (eqb e 0 && has (get_or now 48 0) w)) ≡ spent_by now (key_in w e)
  unfolding spent_by
  spent_read h = rw (key_read w e h, lt-ltb w 48 h)

  pub spent_lone : w ≡ 48 → e < 48 → (has (get_or now e 0) 0 || has (get_or now w 0) e) ≡ spent_by now (key_in w e)
  unfolding spent_by
  spent_lone h l = rw (h, lt-ltb e 48 l)

  pub spent_high : w ≡ 48 → 48 ≤ e → has (get_or now w 0) e ≡ spent_by now (key_in w e)
  unfolding spent_by
  spent_high h l = rw (h, le-ltb e 48 l)

  pub spent_issue : w ≡ 49 → has (get_or now w 0) e ≡ spent_by now (key_in w e)
  unfolding spent_by
  spent_issue h = rw h

-- one key more

module _ (now : List ℕ) (w e : ℕ) (long : length now ≡ 50) (low : w < 50) where
  abbrev noted : List ℕ
  noted = set now w (bit_or (get_or now w 0) (2 ^ e))

  bits : (k a : ℕ) → has (get_or noted k 0) a ≡ (has (get_or now k 0) a || (eqb k w && eqb a e))
  bits k a = step (eqb k w) refl
    where
      step : (b : Bool) → eqb k w ≡ b → has (get_or noted k 0) a ≡ (has (get_or now k 0) a || (b && eqb a e))
      step true q =
          let z = eqb-true k w q in
          ap (λ (i : ℕ). has (get_or noted i 0) a) z
          ∙ ap (λ (x : ℕ). has x a) (get_or-set_same now w (bit_or (get_or now w 0) (2 ^ e)) 0 (omega arith))
          ∙ has_or (get_or now w 0) (2 ^ e) a
          ∙ ap (λ (b : Bool). has (get_or now w 0) a || b) (has_one e a)
          ∙ ap (λ (i : ℕ). has (get_or now i 0) a || eqb a e) (sym z)
      step false q = ap (λ (x : ℕ). has x a) (get_or-set_other now w k (bit_or (get_or now w 0) (2 ^ e)) 0 (eqb-false k w q)) ∙ sym (or_nothing (has (get_or now k 0) a))

  bit_kept : (k a : ℕ) → has (get_or now k 0) a ≡ true → has (get_or noted k 0) a ≡ true
  bit_kept k a h = bits k a ∙ or_left (has (get_or now k 0) a) (eqb k w && eqb a e) h

  bit_new : has (get_or noted w 0) e ≡ true
  bit_new = bits w e ∙ or_right (has (get_or now w 0) e) (eqb w w && eqb e e) (and_make (eqb w w) (eqb e e) (eq-eqb w w refl) (eq-eqb e e refl))

  bit_only : (k a : ℕ) → has (get_or noted k 0) a ≡ true → (has (get_or now k 0) a ≡ true) ⊎ ((k ≡ w) × (a ≡ e))
  bit_only k a h =
      ⊎_elim
      (λ p. inl p)
      (λ p. let b = and_both (eqb k w) (eqb a e) p in inr (eqb-true k w b.0, eqb-true a e b.1))
      (or_cases (has (get_or now k 0) a) (eqb k w && eqb a e) (sym (bits k a) ∙ h))

  keeps : (a : Key) → spent_by now a ≡ true → spent_by noted a ≡ true
  unfolding spent_by
  keeps (taking k x) h =
      ⊎_elim
      (λ p. let b = and_both (ltb k 48) (has (get_or now k 0) x) p in or_left (ltb k 48 && has (get_or noted k 0) x) (eqb x 0 && has (get_or noted 48 0) k) (and_make (ltb k 48) (has (get_or noted k 0) x) b.0 (bit_kept k x b.1)))
      (λ p. let b = and_both (eqb x 0) (has (get_or now 48 0) k) p in or_right (ltb k 48 && has (get_or noted k 0) x) (eqb x 0 && has (get_or noted 48 0) k) (and_make (eqb x 0) (has (get_or noted 48 0) k) b.0 (bit_kept 48 k b.1)))
      (or_cases (ltb k 48 && has (get_or now k 0) x) (eqb x 0 && has (get_or now 48 0) k) h)
  keeps (issuing p) h = bit_kept 49 p h

  onlys : (a : Key) → spent_by noted a ≡ true → (spent_by now a ≡ true) ⊎ (a ≡ key_in w e)
  unfolding spent_by
  onlys (taking k x) h =
      ⊎_elim
      (λ p.
      let b = and_both (ltb k 48) (has (get_or noted k 0) x) p in
      ⊎_elim
      (λ o. inl (or_left (ltb k 48 && has (get_or now k 0) x) (eqb x 0 && has (get_or now 48 0) k) (and_make (ltb k 48) (has (get_or now k 0) x) b.0 o)))
      (λ o. let l : w < 48 = omega (arith, ltb-true k 48 b.0, o.0) in inr (rw (o.0, o.1) (sym (key_read w e l))))
      (bit_only k x b.1))
      (λ p.
      let b = and_both (eqb x 0) (has (get_or noted 48 0) k) p in
      ⊎_elim
      (λ o. inl (or_right (ltb k 48 && has (get_or now k 0) x) (eqb x 0 && has (get_or now 48 0) k) (and_make (eqb x 0) (has (get_or now 48 0) k) b.0 o)))
      (λ o. inr (rw (o.1, eqb-true x 0 b.0) (sym (key_lone w e (sym o.0)))))
      (bit_only 48 k b.1))
      (or_cases (ltb k 48 && has (get_or noted k 0) x) (eqb x 0 && has (get_or noted 48 0) k) h)
  onlys (issuing p) h = ⊎_elim (λ o. inl o) (λ o. inr (rw o.1 (sym (key_issue w e (omega (arith, o.0)))))) (bit_only 49 p h)

  news : spent_by noted (key_in w e) ≡ true
  news =
      elim (dec_lt w 48) [
        | yes h ↦ sym (spent_read noted w e h) ∙ or_left (has (get_or noted w 0) e) (eqb e 0 && has (get_or noted 48 0) w) bit_new
        | no h ↦ elim (dec_lt w 49) [
          | yes g ↦ lone (omega arith)
          | no g ↦ sym (spent_issue noted w e (omega arith)) ∙ bit_new
        ]
      ]
    where
      lone : w ≡ 48 → spent_by noted (key_in w e) ≡ true
      lone q =
          elim (dec_lt e 48) [
            | yes l ↦ sym (spent_lone noted w e q l) ∙ or_right (has (get_or noted e 0) 0) (has (get_or noted w 0) e) bit_new
            | no l ↦ sym (spent_high noted w e q (omega arith)) ∙ bit_new
          ]

pub note_one : (now : List ℕ) (j : ℕ) → length now ≡ 50 → j < 3200 → Noted now j (set now (j / 64) (bit_or (get_or now (j / 64) 0) (2 ^ (j % 64))))
note_one now j long h =
    let l : j / 64 < 50 = omega arith in
    record {
      long = simp length-set long;
      kept = keeps now (j / 64) (j % 64) long l;
      new = news now (j / 64) (j % 64) long l;
      only = onlys now (j / 64) (j % 64) long l;
    }
