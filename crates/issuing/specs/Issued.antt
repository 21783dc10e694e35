-- An issue in the words of the arrays. Assumes nothing.
use Rattle.std.specs.Prelude.{◌≡◌, Bool, cond, ◌&&◌, List, map, ℕ, ◌+◌, ◌%◌, ◌<◌, eqb, length, get_or}
use Rattle.std.proofs.Math.Option.{none}
use Rattle.words.specs.Small.{or_zero}
use Rattle.cases.specs.declared.Case.{Case}
use Rattle.cases.specs.declared.Instr.{Instr}
use Rattle.cases.specs.declared.Instr.TheVariants.{Empty, Read, Write, Local, Branch, Goto, Acquire, Release}
use Rattle.rules.specs.Kinds.{kind, accesses, reads}
use Rattle.rules.specs.Order.{joined_if}
use Rattle.rules.specs.State.{State, Action, start, value_of, item_is, stands_at}
use Rattle.rules.specs.Issue.{new_action, issued}
use Rattle.oneorder.specs.OneOrder.{has_item}
use Rattle.orders.specs.Rows.{order_of}
use Rattle.machine.specs.declared.Entry.{Entry}
use Rattle.machine.specs.Word.{Packable}
use Rattle.machine.specs.Shown.{names_of, shown_entry, Presets, Acts}
use Rattle.machine.specs.Kept.{Kept}

-- Each of the names is of a register or of one of 48 actions.
abbrev pub Low : List ℕ → Type 0
Low names = (n : ℕ) → n < 32 → get_or names n 0 < 80

-- The register that an instruction assigns; 8 where it assigns none.
abbrev pub assigned_by : Instr → ℕ
assigned_by Empty = 8
assigned_by (Read d a) = d
assigned_by (Write a b) = 8
assigned_by (Local d e) = d
assigned_by (Branch a l) = 8
assigned_by (Goto l) = 8
assigned_by (Acquire a) = 8
assigned_by (Release a) = 8

-- The place counter after an issue; 255 is undefined.
abbrev pub place_by : Instr → ℕ → ℕ
place_by Empty n = n + 1
place_by (Read d a) n = n + 1
place_by (Write a b) n = n + 1
place_by (Local d e) n = n + 1
place_by (Branch a l) n = 255
place_by (Goto l) n = l % 256
place_by (Acquire a) n = n + 1
place_by (Release a) n = n + 1

-- A new action of instruction i of processor p, at a place.
abbrev pub fresh : State → ℕ → ℕ → Instr → Action
fresh s p place i =
    record {
      proc = p;
      place = place;
      instr = i;
      inputs = map (s.names p) (reads i);
      loc = cond (accesses (kind i)) (or_zero (value_of s (get_or (map (s.names p) (reads i)) 0 (start none))) % 8) 0;
      result = none;
    }

-- r is a new entry of instruction i of processor p, at a place, its registers bound; a word can hold it.
pub record Bound (masks presets names acts : List ℕ) (n p place : ℕ) (i : Instr) (r : Entry) : Type 0 where
  pub packs : Low names → place < 16 → Packable r
  pub shows : (c : Case) (s : State) → Presets c masks presets → Acts c n acts s → s.names ≡ names_of c names → shown_entry c r ≡ fresh s p place i

-- The items that that of a new action of processor p stands after: the initial writes of the locations where it stands, all earlier items of p.
abbrev pub after : ℕ → Action → State → ℕ → Bool
after p new s e = item_is (stands_at e new) (λ a. eqb a.proc p && has_item a) s e

-- The rows once the item of a new entry e of processor p has joined the order.
pub record Ordered (n : ℕ) (acts : List ℕ) (p : ℕ) (e : Entry) (old new : List ℕ) : Type 0 where
  pub size : length new ≡ 56
  pub joins : (c : Case) (s : State) → Acts c n acts s → order_of new ≡ joined_if (has_item (shown_entry c e)) (order_of old) (8 + n) (8 + n) (after p (shown_entry c e) s)

-- The sets once the item of a new entry e, action n, has joined them: they have what they should again, of the state with e issued.
pub record KeptBy (n : ℕ) (e : Entry) (old new : List ℕ) : Type 0 where
  pub keeps : (c : Case) (s : State) (p : ℕ) → s.count ≡ n → shown_entry c e ≡ new_action c s p → Kept c s old → Kept c (issued c s p) new
