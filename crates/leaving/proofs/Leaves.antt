-- What the tests of an entry say of its action. Assumes nothing.
use mathlib.Core.Path.{◌≡◌, refl, sym, ◌∙◌, ap}
use mathlib.Core.Bool.{Bool, true, false, cond, not, ◌&&◌}
use Prim.Native.Nat.{ℕ, suc, ◌+◌, ◌<◌}
use native.Mathlib.Omega.{arith}
use mir.Val.{bool_byte}
use lib.Dec.{eqb, ltb}
use borrow.Author.Tests.{lt-ltb}
use Rattle.words.specs.Small.{is_none, any, some_below}
use Rattle.words.proofs.Bools.{or_nothing, below-same}
use Rattle.cases.specs.declared.Case.{Case}
use Rattle.rules.specs.Commit.{barred}
use Rattle.rules.specs.Kinds.{acquiring, releasing, held_by, kind}
use Rattle.rules.specs.Result.{how_many}
use Rattle.rules.specs.State.{State, Action, kind_of, waiting, value_of, input_of}
use Rattle.sure.specs.Futile.{acquires, futile}
use Rattle.machine.specs.declared.Entry.{Entry}
use Rattle.machine.specs.Shown.{option_of, shown_entry}
use Rattle.sights.specs.Sights.{holding}

none_until : (done : Bool) (v : ℕ) → not done ≡ is_none (option_of done v)
none_until true v = refl
none_until false v = refl

-- a write is held back by acquires alone
write_held : (q : ℕ) (same : Bool) → held_by 2 q same ≡ acquiring q
unfolding held_by
write_held q same = or_nothing _ ∙ or_nothing _

held-acquires : (s : State) (k p : ℕ) → some_below k (λ j. holding p 2 0 (s.actions j)) ≡ some_below k (λ j. acquires p (s.actions j))
held-acquires s k p = below-same k (λ j. holding p 2 0 (s.actions j)) (λ j. acquires p (s.actions j)) (λ j l. ap (λ (b : Bool). waiting p (s.actions j) && b) (write_held (kind_of (s.actions j)) (eqb (s.actions j).loc 0)))

-- the test of action k, which shows entry e
pub futile_test : (c : Case) (s : State) (k : ℕ) (e : Entry) → s.actions k ≡ shown_entry c e → (n : ℕ) → n ≡ kind e.instr → (unset bars behind : Bool)
    → unset ≡ any (λ n. is_none (value_of s n)) (shown_entry c e).inputs → bars ≡ barred e.proc (kind e.instr) (s.holders (input_of s (shown_entry c e) 0))
    → behind ≡ some_below k (λ j. holding e.proc 2 0 (s.actions j))
    → (not e.done && (eqb n 7 && (not unset && (bars && not behind)))) ≡ futile s k
futile_test c s k e at n x unset bars behind u b h =
    (λ j. none_until e.done e.result j && (eqb (x j) 7 && (not (u j) && (b j && not ((h ∙ held-acquires s k e.proc) j)))))
    ∙ ap (λ (a : Action). is_none a.result && (releasing (kind_of a) && (not (any (λ n. is_none (value_of s n)) a.inputs) && (barred a.proc (kind_of a) (s.holders (input_of s a 0)) && not (some_below k (λ j. acquires a.proc (s.actions j))))))) (sym at)

-- counting

pub many_none : (f : ℕ → Bool) → 0 ≡ how_many 0 f
unfolding how_many
many_none f = refl

pub many_next : (s : State) (n x : ℕ) (w : Bool) → n < s.count → w ≡ (ltb n s.count && is_none (s.actions n).result) → x ≡ how_many n (λ j. is_none (s.actions j).result)
    → x + bool_byte w ≡ how_many (n + 1) (λ j. is_none (s.actions j).result)
unfolding how_many
many_next s n x w lt hw hx =
    rw (add-one, hx, swap (how_many n (λ j. is_none (s.actions j).result)) w) (ap (λ (b : Bool). cond b 1 0 + how_many n (λ j. is_none (s.actions j).result)) (hw ∙ ap (λ (b : Bool). b && is_none (s.actions n).result) (lt-ltb n s.count lt)))
  where
    add-one : n + 1 ≡ suc n
    add-one = omega arith

    swap : (m : ℕ) (b : Bool) → m + bool_byte b ≡ cond b 1 0 + m
    swap m true = omega arith
    swap m false = omega arith
