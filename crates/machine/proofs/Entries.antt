-- Entries and the values that they show. Assumes nothing.
use mathlib.Core.Path.{◌≡◌, refl, ◌∙◌, ap}
use mathlib.Core.Bool.{Bool, true, false, not, ◌&&◌}
use mathlib.Core.List.{List}
use mathlib.Core.Option.{some, none}
use Prim.Native.Nat.{ℕ, ◌+◌, ◌*◌, ◌-◌, ◌/◌, ◌%◌, ◌≤◌, ◌<◌}
use native.Mathlib.Omega.{arith}
use lib.Dec.{eqb}
use lib.ListN.{get_or}
use borrow.Author.Tests.{lt-ltb, le-ltb}
use Rattle.words.specs.Small.{is_none, is}
use Rattle.words.specs.Sets.{has}
use Rattle.cases.specs.declared.Case.{Case}
use Rattle.cases.specs.Case.{preset_of}
use Rattle.rules.specs.State.{State, Action, unissued, value_of, item_value}
use Rattle.machine.specs.declared.Entry.{Entry}
use Rattle.machine.specs.Word.{entry_of}
use Rattle.machine.specs.Shown.{name_of, names_of, option_of, shown_entry, Presets, Acts}

pub none_option : (known : Bool) (v : ℕ) → not known ≡ is_none (option_of known v)
none_option true v = refl
none_option false v = refl

pub is_option : (n : ℕ) (known : Bool) (v : ℕ) → (known && eqb v n) ≡ is n (option_of known v)
is_option n true v = refl
is_option n false v = refl

module _ (c : Case) (masks presets : List ℕ) (n : ℕ) (q : Presets c masks presets) where
  pub preset_some : has (get_or masks (n / 8) 0) (n % 8) ≡ true → some (get_or presets n 0) ≡ preset_of c (n / 8) (n % 8)
  preset_some h = let e : 8 * (n / 8) + n % 8 ≡ n = omega arith in rw (q.masks, q.presets, h, e)

  pub preset_none : has (get_or masks (n / 8) 0) (n % 8) ≡ false → none ≡ preset_of c (n / 8) (n % 8)
  preset_none h = rw (q.masks, q.presets, h)

-- what an entry gives
pub done_some : (e : Entry) → e.done ≡ true → some e.result ≡ option_of e.done e.result
done_some e h = rw h

pub done_none : (e : Entry) → e.done ≡ false → none ≡ option_of e.done e.result
done_none e h = rw h

module _ (c : Case) (n : ℕ) (acts : List ℕ) (s : State) (a : Acts c n acts s) where
  pub action_at_lem : (k : ℕ) → k < n → s.actions k ≡ shown_entry c (entry_of (get_or acts k 0))
  action_at_lem k h = ap (λ (f : ℕ → Action). f k) a.actions ∙ rw (lt-ltb k n h)

  pub action_out : (k : ℕ) → n ≤ k → s.actions k ≡ unissued
  action_out k h = ap (λ (f : ℕ → Action). f k) a.actions ∙ rw (le-ltb k n h)

module _ (c : Case) (s : State) where
  pub name_start : (n : ℕ) → n < 32 → value_of s (name_of c n) ≡ preset_of c (n / 8) (n % 8)
  name_start n h = rw (lt-ltb n 32 h)

  pub name_given : (n : ℕ) → 32 ≤ n → value_of s (name_of c n) ≡ (s.actions (n - 32)).result
  name_given n h = rw (le-ltb n 32 h)

  pub item_start : (memory : List ℕ) (e : ℕ) → c.memory ≡ memory → e < 8 → item_value c s e ≡ some (get_or memory e 0)
  item_start memory e q h = rw (lt-ltb e 8 h, q)

  pub item_given : (e : ℕ) → 8 ≤ e → item_value c s e ≡ (s.actions (e - 8)).result
  item_given e h = rw (le-ltb e 8 h)

-- register n, counted over all processors
pub name_at : (c : Case) (names : List ℕ) (n : ℕ) → n < 32 → names_of c names (n / 8) (n % 8) ≡ name_of c (get_or names n 0)
name_at c names n h = let q : 8 * (n / 8) + n % 8 ≡ n = omega arith in rw (lt-ltb (n / 8) 4 (omega arith), lt-ltb (n % 8) 8 (omega arith), q)
