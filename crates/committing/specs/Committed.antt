-- A commit in the words of the arrays. Assumes nothing.
use Rattle.std.specs.Prelude.{◌≡◌, Bool, true, false, ◌&&◌, not, cond, List, [], ◌∷◌, ℕ, ◌+◌, ◌%◌, ◌<◌, eqb, leb, length, get_or, set}
use Rattle.words.specs.Small.{is_none, is, any, some_below}
use Rattle.words.specs.Refusals.{Refusal, ◌when◌}
use Rattle.cases.specs.declared.Case.{Case}
use Rattle.cases.specs.declared.Instr.{Instr}
use Rattle.cases.specs.declared.Instr.TheVariants.{Empty, Read, Write, Local, Branch, Goto, Acquire, Release}
use Rattle.rules.specs.Kinds.{reading, branching, acquiring, releasing, syncs, label_of, evaluate}
use Rattle.rules.specs.State.{State, Action, kind_of, waiting, value_of, input_of, item_is}
use Rattle.rules.specs.Order.{joined_if}
use Rattle.rules.specs.Commit.{visible, barred, committed}
use Rattle.orders.specs.Rows.{order_of}
use Rattle.machine.specs.Word.{entry_of}
use Rattle.machine.specs.Shown.{Acts}
use Rattle.machine.specs.Kept.{Kept}
use Rattle.machine.specs.Valid.{ValidEntry}
use Rattle.sights.specs.Sights.{holding}

-- The first n entries are valid.
abbrev pub Entries : Case → ℕ → List ℕ → Type 0
Entries c n acts = (k : ℕ) → k < n → ValidEntry c (entry_of (get_or acts k 0))

-- The items of the committed releases of location l.
abbrev pub releases : State → ℕ → ℕ → Bool
releases s l i = item_is false (λ a. releasing (kind_of a) && is l a.result) s i

-- The rows once the item of an acquire stands after the committed releases of its location x; those of any other kind are kept.
pub record Acquired (n : ℕ) (acts : List ℕ) (kind x item : ℕ) (old new : List ℕ) : Type 0 where
  pub size : length new ≡ 56
  pub joins : (c : Case) (s : State) → Acts c n acts s → order_of new ≡ joined_if (acquiring kind) (order_of old) item (8 + n) (releases s x)

-- The sets once queued action k of processor p is committed: they have what they should again, of the state after it.
pub record KeptBy (p k : ℕ) (old new : List ℕ) : Type 0 where
  pub keeps : (c : Case) (s : State) (e : ℕ) → k < s.count → waiting p (s.actions k) ≡ true → Kept c s old → Kept c (committed c s p k e) new

-- The refusals after 26, of action k, which is a.
abbrev pub rest_refusals : Case → State → ℕ → ℕ → ℕ → Action → List Refusal
rest_refusals c s p k e a =
    27 when (not (eqb e 0) && not (reading (kind_of a)))
    ∷ 28 when some_below k (λ j. holding p (kind_of a) a.loc (s.actions j))
    ∷ 29 when any (λ n. is_none (value_of s n)) a.inputs
    ∷ 30 when (syncs (kind_of a) && leb c.locs (input_of s a 0))
    ∷ 31 when barred p (kind_of a) (s.holders (input_of s a 0))
    ∷ 32 when (reading (kind_of a) && not (visible c s a.loc (8 + k) e))
    ∷ []

-- What a commit gives: v is the value of the source, x and y are the inputs.
abbrev pub result_by : ℕ → ℕ → ℕ → Instr → ℕ
result_by v x y Empty = 0
result_by v x y (Read d a) = v
result_by v x y (Write a b) = y
result_by v x y (Local d e) = evaluate e x y
result_by v x y (Branch a l) = 0
result_by v x y (Goto l) = 0
result_by v x y (Acquire a) = x
result_by v x y (Release a) = x

-- Where a branch at a place goes.
abbrev pub branch_to : ℕ → ℕ → ℕ → ℕ
branch_to x place label = cond (eqb x 0) (place + 1) (label % 256)

-- The place counter after a commit of a kind, where it was old.
abbrev pub place_by : ℕ → ℕ → ℕ → ℕ → Instr → ℕ
place_by kind old x place i = cond (branching kind) (branch_to x place (label_of i)) old

-- The holders after a commit of a kind by processor p.
abbrev pub locked_by : ℕ → List ℕ → ℕ → ℕ → List ℕ
locked_by kind h x p = cond (syncs kind) (set h x (cond (acquiring kind) (p + 1) 0)) h
