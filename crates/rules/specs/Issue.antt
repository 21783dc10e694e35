-- Document 01, 'How a step changes the machine', Issue; 'Codes', 21 to 25. Assumes nothing.
use Rattle.std.specs.Prelude.{ℕ, suc, ◌+◌, Bool, true, false, cond, ◌&&◌, ◌||◌, leb, List, [], ◌∷◌, map, ◌==◌, nat_le, nat_lt, slice_index_or}
use Rattle.std.proofs.Math.Option.{Option, none, some}
use Rattle.words.specs.Small.{is_none, or_zero, put}
use Rattle.words.specs.Refusals.{Refusal, ◌when◌}
use Rattle.cases.specs.declared.Instr.{Instr}
use Rattle.cases.specs.declared.Instr.TheVariants.{Empty, Read, Write, Local, Branch, Goto, Acquire, Release}
use Rattle.cases.specs.declared.Case.{Case}
use Rattle.cases.specs.Case.{count_of, instr_at}
use Rattle.rules.specs.Kinds.{kind, accesses, reads, assigns}
use Rattle.rules.specs.Order.{joined_if}
use Rattle.rules.specs.State.{State, Action, Name, start, given, value_of, item_is, stands_at}

-- 'The place counter goes to the next instruction; to the label for goto; it is undefined after a branch until that commits.'
abbrev pub place_after : Instr → ℕ → Option ℕ
place_after Empty i = some (suc i)
place_after (Read d a) i = some (suc i)
place_after (Write a b) i = some (suc i)
place_after (Local d e) i = some (suc i)
place_after (Branch a l) i = none
place_after (Goto l) i = some l
place_after (Acquire a) i = some (suc i)
place_after (Release a) i = some (suc i)

-- 'A register assigned becomes undefined under its new name.'
abbrev pub renamed : (ℕ → Name) → Option ℕ → Name → ℕ → Name
renamed names none new = names
renamed names (some d) new = put names d new

module _ (c : Case) (s : State) (p : ℕ) where
  -- The place counter of processor p, where it is defined.
  abbrev pub here : ℕ
  here = or_zero (s.places p)

  -- The instruction there.
  abbrev pub next : Instr
  next = instr_at c p here

  -- 'Registers read are bound to the newest assignment before this action.'
  abbrev pub bound : List Name
  bound = map (s.names p) (reads next)

  -- The value of the address register.
  abbrev pub address : Option ℕ
  address = value_of s (slice_index_or bound 0 (start none))

  unfoldable pub issue_refusals : List Refusal
  issue_refusals =
      21 when is_none (s.places p)
      ∷ 22 when leb (count_of c p) here
      ∷ 23 when leb 48 s.count
      ∷ 24 when (accesses (kind next) && is_none address)
      ∷ 25 when (accesses (kind next) && nat_le c.locs (or_zero address))
      ∷ []

  -- 'Read and write fix their location now from the address register.'
  abbrev pub new_action : Action
  new_action =
      record {
        proc = p;
        place = here;
        instr = next;
        inputs = bound;
        loc = cond (accesses (kind next)) (or_zero address) 0;
        result = none;
      }

  -- 'Each new item stands after all earlier items of its processor and after the initial write.'
  abbrev pub earlier : ℕ → ℕ → Bool
  earlier l e = item_is (e == l) (λ a. (a.proc == p) && stands_at l a) s e

  unfoldable pub issued : State
  issued =
      record {
        count = suc s.count;
        actions = put s.actions s.count new_action;
        places = put s.places p (place_after next here);
        names = put s.names p (renamed (s.names p) (assigns next) (given s.count));
        holders = s.holders;
        orders = λ l. joined_if (nat_lt l c.locs && stands_at l new_action) (s.orders l) (8 + s.count) (8 + s.count) (earlier l);
      }
