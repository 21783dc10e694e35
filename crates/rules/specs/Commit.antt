-- Document 01, 'How a step changes the machine', Commit; 'Codes', 26 to 32. Assumes nothing.
use Rattle.std.specs.Prelude.{ℕ, suc, ◌+◌, Bool, true, false, cond, not, ◌&&◌, ◌||◌, List, [], ◌∷◌, ◌==◌, nat_le, nat_lt}
use Rattle.std.proofs.Math.Option.{Option, none, some}
use Rattle.words.specs.Small.{is_none, or_zero, is, any, put, some_below}
use Rattle.words.specs.Refusals.{Refusal, ◌when◌}
use Rattle.cases.specs.declared.Instr.{Instr}
use Rattle.cases.specs.declared.Instr.TheVariants.{Empty, Read, Write, Local, Branch, Goto, Acquire, Release}
use Rattle.cases.specs.declared.Case.{Case}
use Rattle.rules.specs.Kinds.{reading, writing, branching, acquiring, releasing, syncs, label_of, evaluate, held_by}
use Rattle.rules.specs.Order.{joined_if}
use Rattle.rules.specs.State.{State, Action, kind_of, waiting, value_of, input_of, item_is, item_value}

-- The write items of location l.
abbrev pub writes : State → ℕ → ℕ → Bool
writes s l e = item_is (e == l) (λ a. writing (kind_of a) && a.loc == l) s e

-- 'A write item e is visible to a read item i of the same location l if e has its value, no write item stands after e and before i,
-- and e does not stand after i.'
unfoldable pub visible : Case → State → ℕ → ℕ → ℕ → Bool
visible c s l i e =
    let R = s.orders l in
    writes s l e
    && not (is_none (item_value c s e))
    && not (some_below (8 + s.count) (λ w. writes s l w && (R e w && R w i)))
    && not (R i e)

-- 'Acquire while another holds it, or release while this processor does not': the holder h bars kind k of processor p.
abbrev pub barred : ℕ → ℕ → Option ℕ → Bool
barred p k h = ((acquiring k && not (is_none h)) || releasing k) && not (is p h)

-- The commit of action k of processor p; a read names the source item e.
module _ (c : Case) (s : State) (p k e : ℕ) where
  abbrev pub self : Action
  self = s.actions k

  -- The value of input n.
  abbrev pub input : ℕ → ℕ
  input n = input_of s self n

  -- 'Held back by the table': by an earlier action of its queue.
  abbrev pub held_back : Bool
  held_back = some_below k (λ j. waiting p (s.actions j) && held_by (kind_of self) (kind_of (s.actions j)) ((s.actions j).loc == self.loc))

  unfoldable pub commit_refusals : List Refusal
  commit_refusals =
      26 when not (nat_lt k s.count && waiting p self)
      ∷ 27 when (not (e == 0) && not (reading (kind_of self)))
      ∷ 28 when held_back
      ∷ 29 when any (λ n. is_none (value_of s n)) self.inputs
      ∷ 30 when (syncs (kind_of self) && nat_le c.locs (input 0))
      ∷ 31 when barred p (kind_of self) (s.holders (input 0))
      ∷ 32 when (reading (kind_of self) && not (visible c s self.loc (8 + k) e))
      ∷ []

  -- 'Read: takes the value of the named item. Write: gives its item the value. Local: defines its register.'
  abbrev pub result_of : Instr → ℕ
  result_of Empty = 0
  result_of (Read d a) = or_zero (item_value c s e)
  result_of (Write a b) = input 1
  result_of (Local d x) = evaluate x (input 0) (input 1)
  result_of (Branch a l) = 0
  result_of (Goto l) = 0
  result_of (Acquire a) = input 0
  result_of (Release a) = input 0

  abbrev pub settled : Action
  settled =
      record {
        proc = self.proc;
        place = self.place;
        instr = self.instr;
        inputs = self.inputs;
        loc = self.loc;
        result = some (result_of self.instr);
      }

  -- 'Branch: sets the place counter to its label or the next instruction.'
  abbrev pub branched_to : ℕ
  branched_to = cond (input 0 == 0) (suc self.place) (label_of self.instr)

  -- 'Every committed release item of that location.'
  abbrev pub released : ℕ → ℕ → Bool
  released l i = item_is false (λ a. releasing (kind_of a) && is l a.result) s i

  -- 'Acquire: the location becomes held by this processor; its item now stands after every committed release item of that location.'
  unfoldable pub committed : State
  committed =
      let q = kind_of self in
      record {
        count = s.count;
        actions = put s.actions k settled;
        places = cond (branching q) (put s.places p (some branched_to)) s.places;
        names = s.names;
        holders = cond (syncs q) (put s.holders (input 0) (cond (acquiring q) (some p) none)) s.holders;
        orders = λ l. joined_if (nat_lt l c.locs && acquiring q) (s.orders l) (8 + k) (8 + s.count) (released (input 0));
      }
