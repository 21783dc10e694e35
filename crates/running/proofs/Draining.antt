-- The machine after a drain, and before the first step. Assumes nothing.
use mathlib.Core.Path.{◌≡◌, refl, sym, ◌∙◌, ap, ap₂, fun_ext}
use mathlib.Core.Logic.{⊎_elim}
use mathlib.Core.Bool.{true, false≢true}
use mathlib.Core.List.{List, ◌∷◌}
use Prim.Native.Nat.{ℕ, zero, suc, ◌+◌, ◌*◌, ◌/◌, ◌%◌, ◌≤◌, ◌<◌}
use native.Mathlib.Omega.{arith}
use native.Mathlib.Decide.{dec_lt}
use lib.ListN.{length, get_or, set, replicate, length-set, length-replicate}
use borrow.Author.Tests.{lt-ltb, le-ltb}
use Rattle.words.specs.Small.{put}
use Rattle.words.proofs.Bools.{below_cases}
use Rattle.cases.specs.declared.Case.{Case}
use Rattle.cases.specs.Case.{preset_of}
use Rattle.machine.specs.Shown.{Value, holder_of}
use Rattle.machine.specs.Fit.{Fit}
use Rattle.machine.proofs.Stores.{set_put, set_all}
use Rattle.boards.specs.declared.Buffering.{Buffering}
use Rattle.boards.specs.Board.{opening}
use Rattle.boards.specs.Drain.{drained}
use Rattle.boards.specs.Machine.{drain, moved}
use Rattle.boards.specs.Apart.{Placed}
use Rattle.boards.proofs.Accepted.{can_drain}
use Rattle.boards.proofs.Buffers.{same-board, put2_cases}
use Rattle.stores.specs.declared.Logged.{Logged}
use Rattle.running.specs.declared.Arrays.{Arrays}
use Rattle.stores.specs.Log.{blank, sits_in, store_of, gathered, buffer_of}
use Rattle.running.specs.Shown.{values_of, shown}
use Rattle.stores.specs.Log.{Oldest}
use Rattle.running.specs.Valid.{Valid}
use Rattle.running.specs.Given.{Draining, Preset}
use Rattle.stores.proofs.Gathered.{gathered-filled, gone, buffer_less, buffer_other, oldest_enters}

abbrev pub drained_by : Arrays → ℕ → Arrays
drained_by s j =
    let x = get_or s.log j blank in
    record { places = s.places; values = s.values; holders = s.holders; memory = set s.memory x.loc x.value; logged = s.logged; log = set s.log j (gone x) }

module _ (k : Buffering) (c : Case) (s : Arrays) (p b j : ℕ) (given : Draining k c s p b) (O : Oldest k s.log s.logged p b j) where
  abbrev v : Valid c s
  v = given.valid

  -- there is one
  pub oldest-low : j < s.logged
  oldest-low = elim (dec_lt j s.logged) [ yes h ↦ h | no h ↦ absurd (none_there (omega (arith, O.most))) ]
    where
      none_there : j ≡ s.logged → ⊥
      none_there e =
          let w = below_cases s.logged (λ i. sits_in k p b (get_or s.log i blank)) (sym (gathered-filled (λ i. store_of (get_or s.log i blank)) (λ i. sits_in k p b (get_or s.log i blank)) s.logged) ∙ (can_drain k c (shown k c s) p b given.free).holds) in
          false≢true (sym (O.before w.0 (omega (arith, w.1))) ∙ w.2)

  pub oldest_loc : (get_or s.log j blank).loc < 8
  oldest_loc = v.stores j oldest-low

  pub drain_shows : shown k c (drained_by s j) ≡ moved k c (shown k c s) (drain p b)
  unfolding moved
  drain_shows =
      same-board (shown k c (drained_by s j)) (drained (shown k c s) p b (store_of x ∷ buffer_of k after s.logged p b)) refl refl refl
      (set_put (λ (n : ℕ). n) s.memory 0 x.loc x.value x.value (omega (arith, v.memory_long, oldest_loc)) refl)
      buffers
      ∙ ap (drained (shown k c s) p b) (sym less)
    where
      x : Logged
      x = get_or s.log j blank

      after : List Logged
      after = set s.log j (gone (get_or s.log j blank))

      sits : sits_in k p b (get_or s.log j blank) ≡ true
      sits = O.found oldest-low

      room : s.logged ≤ length s.log
      room = omega (arith, v.logged, v.log_long)

      less : buffer_of k s.log s.logged p b ≡ store_of x ∷ buffer_of k after s.logged p b
      less = buffer_less k s.log s.logged j oldest-low room p b sits O.before

      buffers : (q m : ℕ) → buffer_of k after s.logged q m ≡ put (buffer_of k s.log s.logged) p (put (buffer_of k s.log s.logged p) b (buffer_of k after s.logged p b)) q m
      buffers q m =
          ⊎_elim (λ h. ap₂ (buffer_of k after s.logged) h.0 h.1 ∙ sym h.2)
          (λ h. buffer_other k s.log s.logged j oldest-low room p b sits q m h.0 ∙ sym h.1)
          (put2_cases (buffer_of k s.log s.logged) p b (buffer_of k after s.logged p b) q m)

  pub drain_valid : Valid c (drained_by s j)
  drain_valid =
      record {
        fit = v.fit;
        logged = v.logged;
        places_long = v.places_long;
        values_long = v.values_long;
        holders_long = v.holders_long;
        memory_long = length-set s.memory _ _ ∙ v.memory_long;
        log_long = length-set s.log _ _ ∙ v.log_long;
        places = v.places;
        stores = set_all (λ (y : Logged). y.loc < 8) s.log blank s.logged j (gone (get_or s.log j blank)) (omega (arith, v.logged, v.log_long, oldest-low)) oldest_loc (λ i h _. v.stores i h);
      }

-- the start

same_everywhere : {A : Type 0} (n : ℕ) (a : A) (i : ℕ) → get_or (replicate n a) i a ≡ a
same_everywhere zero a i = refl
same_everywhere (suc n) a zero = refl
same_everywhere (suc n) a (suc i) = same_everywhere n a i

module _ (k : Buffering) (c : Case) (values : List Value) (f : Fit c) (preset : Preset c values) where
  abbrev pub begun : Arrays
  begun = record { places = replicate 4 0; values = values; holders = replicate 8 0; memory = c.memory; logged = 0; log = replicate 48 blank }

  values_are : (p r : ℕ) → values_of c values p r ≡ preset_of c p r
  values_are p r = elim (dec_lt p 4) [ yes h ↦ elim (dec_lt r 8) [ yes g ↦ inside h g | no g ↦ rw (lt-ltb p 4 h, le-ltb r 8 (omega arith)) ] | no h ↦ rw (le-ltb p 4 (omega arith)) ]
    where
      inside : p < 4 → r < 8 → values_of c values p r ≡ preset_of c p r
      inside h g =
          let u : (8 * p + r) / 8 ≡ p = omega arith in
          let w : (8 * p + r) % 8 ≡ r = omega arith in
          rw (lt-ltb p 4 h, lt-ltb r 8 g) (preset.all (8 * p + r) (omega arith) ∙ ap₂ (preset_of c) u w)

  pub begun_shows : shown k c begun ≡ opening c
  unfolding gathered
  begun_shows =
      same-board (shown k c begun) (opening c) (fun_ext (λ (q : ℕ). same_everywhere 4 0 q)) (fun_ext λ p. fun_ext (values_are p)) (fun_ext (λ (l : ℕ). ap holder_of (same_everywhere 8 0 l))) refl (λ p n. refl)

  pub begun_valid : Valid c begun
  begun_valid =
      record {
        fit = f;
        logged = omega arith;
        places_long = refl;
        values_long = preset.long;
        holders_long = refl;
        memory_long = f.memory_long;
        log_long = length-replicate 48 blank;
        places = λ p h. omega (arith, same_everywhere {A = ℕ} 4 0 p);
        stores = λ j h. absurd (omega arith);
      }

-- the buffers of the log hold what enters them
pub shown_placed : (k : Buffering) (c : Case) (s : Arrays) → Placed k (shown k c s)
shown_placed k c s = record { enters = λ p n l. oldest_enters k s.log p n s.logged l }
