-- What a read takes: the newest store of its buffer, else memory. Assumes nothing.
use mathlib.Core.Path.{◌≡◌, sym, ◌∙◌, ap}
use mathlib.Core.Option.{Option}
use Prim.Native.Nat.{ℕ}
use lib.ListN.{get_or}
use Rattle.cases.specs.declared.Case.{Case}
use Rattle.machine.specs.Shown.{Value, shown_value}
use Rattle.boards.specs.declared.Buffering.{Buffering}
use Rattle.boards.specs.Board.{slot, newest_to, pending, or_else, seen}
use Rattle.running.specs.declared.Arrays.{Arrays}
use Rattle.stores.specs.Log.{buffer_of}
use Rattle.running.specs.Shown.{shown}
use Rattle.std.specs.Prelude.{Some, None}
use Rattle.stores.specs.Log.{slot_by}
use Rattle.stores.proofs.Gathered.{slot-some, slot-none}

module _ (k : Buffering) (c : Case) (s : Arrays) (p l : ℕ) where
  there : (b : ℕ) (v : Value) → slot_by k l ≡ Some b → shown_value v ≡ newest_to l (buffer_of k s.log s.logged p b) → pending (shown k c s) p l (slot k l) ≡ shown_value v
  there b v e n = ap (pending (shown k c s) p l) (slot-some k l b e) ∙ sym n

  pub seen_known : (b : ℕ) (v : Value) (x : ℕ) → slot_by k l ≡ Some b → shown_value v ≡ newest_to l (buffer_of k s.log s.logged p b) → v ≡ Some x → x ≡ seen k (shown k c s) p l
  seen_known b v x e n t = sym (ap (λ (o : Option ℕ). or_else o (get_or s.memory l 0)) (there b v e n ∙ ap shown_value t))

  pub seen-unknown : (b : ℕ) (v : Value) → slot_by k l ≡ Some b → shown_value v ≡ newest_to l (buffer_of k s.log s.logged p b) → v ≡ None → get_or s.memory l 0 ≡ seen k (shown k c s) p l
  seen-unknown b v e n t = sym (ap (λ (o : Option ℕ). or_else o (get_or s.memory l 0)) (there b v e n ∙ ap shown_value t))

  pub seen_direct : slot_by k l ≡ None → get_or s.memory l 0 ≡ seen k (shown k c s) p l
  seen_direct e = sym (ap (λ (o : Option ℕ). or_else (pending (shown k c s) p l o) (get_or s.memory l 0)) (slot-none k l e))
