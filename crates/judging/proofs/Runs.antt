-- Runs of lines: in parts, what they keep, and how a draft is settled. Assumes nothing.
use mathlib.Core.Path.{◌≡◌, refl, ap, sym, ◌∙◌, subst}
use mathlib.Core.Logic.{⊎_elim}
use mathlib.Core.Bool.{true}
use mathlib.Core.List.{List, [], ◌∷◌, ◌++◌, append_assoc, append-nil}
use mathlib.Core.Option.{Option, none, some}
use Prim.Native.Nat.{ℕ, zero, suc, ◌-◌, ◌≤◌}
use native.Mathlib.Omega.{arith}
use lib.Dec.{ltb, leb}
use borrow.Author.Tests.{lt-ltb}
use Rattle.words.proofs.Bools.{or_left, cond-true}
use Rattle.cases.specs.declared.Instr.TheVariants.{Goto}
use Rattle.texts.specs.Lines.{Line, op}
use Rattle.judging.specs.Draft.{Draft, with_op, op_ok, from, step, and_then, run}
use Rattle.judging.proofs.Small.{none-some, make5}
use Rattle.judging.proofs.Made.{Made, Open, made_step}

pub run-append : (d : Draft) (a b : List Line) → run d (a ++ b) ≡ and_then (run d a) (λ e. run e b)
unfolding run
run-append d [] b = refl
run-append d (l ∷ a) b = go (step d l) (λ e. run-append e a b)
  where
    go : (o : Option Draft) → ((e : Draft) → run e (a ++ b) ≡ and_then (run e a) (λ e. run e b)) → and_then o (λ e. run e (a ++ b)) ≡ and_then (and_then o (λ e. run e a)) (λ e. run e b)
    go none f = refl
    go (some e) f = f e

pub run_then : (d e : Draft) (a b : List Line) → run d a ≡ some e → run d (a ++ b) ≡ run e b
run_then d e a b h = run-append d a b ∙ ap (λ (o : Option Draft). and_then o (λ e. run e b)) h

pub run_one : (d e : Draft) (l : Line) (ls : List Line) → step d l ≡ some e → run d (l ∷ ls) ≡ run e ls
unfolding run
run_one d e l ls h = ap (λ (o : Option Draft). and_then o (λ e. run e ls)) h

-- what the first lines gave
pub run-front : (d f : Draft) (a b : List Line) → run d (a ++ b) ≡ some f → (e : Draft) × (run d a ≡ some e) × (run e b ≡ some f)
run-front d f a b h = go (run d a) refl
  where
    go : (o : Option Draft) → run d a ≡ o → (e : Draft) × (run d a ≡ some e) × (run e b ≡ some f)
    go none q = absurd (none-some (sym (run-append d a b ∙ ap (λ (o : Option Draft). and_then o (λ e. run e b)) q) ∙ h))
    go (some e) q = (e, q, sym (run-append d a b ∙ ap (λ (o : Option Draft). and_then o (λ e. run e b)) q) ∙ h)

pub run_made : (d e : Draft) (ls ms : List Line) → Made d ls → run d ms ≡ some e → Made e (ls ++ ms)
unfolding run
run_made d e ls [] made h = subst (λ (x : Draft). Made x (ls ++ [])) (cc) (subst (λ (l : List Line). Made d l) (sym (append-nil ls)) made)
run_made d e ls (l ∷ ms) made h = go (step d l) refl (λ f m. run_made f e (ls ++ (l ∷ [])) ms m) h
  where
    go : (o : Option Draft) → step d l ≡ o → ((f : Draft) → Made f (ls ++ (l ∷ [])) → run f ms ≡ some e → Made e ((ls ++ (l ∷ [])) ++ ms)) → and_then o (λ f. run f ms) ≡ some e → Made e (ls ++ (l ∷ ms))
    go none q more h = absurd (none-some h)
    go (some f) q more h = subst (λ (t : List Line). Made e t) (append_assoc ls (l ∷ []) ms) (more f (made_step d f ls l made q) h)

-- a processor whose labels are not reached yet goes on with gotos
pub record Settled (d : Draft) : Type 0 where
  pub more : List Line
  pub last : Draft
  pub runs : run d more ≡ some last
  pub done : last.need ≤ last.next

go_on : (m : ℕ) (d : Draft) (p : ℕ) → Open d p → d.need - d.next ≡ m → Settled d
unfolding run
go_on zero d p o h = record { more = []; last = d; runs = refl; done = omega arith }
go_on (suc m) d p o h =
    let b = o.begun in
    let r = o.room in
    let n = o.near in
    let i = d.next - from p in
    let ok : op_ok d p i (Goto 0) ≡ true =
    make5 _ _ _ _ _ (lt-ltb p d.procs o.present) (lt-ltb i 12 (omega arith)) refl refl (or_left (ltb 0 i) (leb d.need d.next) (lt-ltb 0 i (omega arith))) in
    let s = go_on m (with_op d p i (Goto 0)) p (record { present = o.present; begun = omega arith; room = omega arith; near = omega arith }) (omega arith) in
    record {
      more = op p (Goto 0) ∷ s.more;
      last = s.last;
      runs = run_one d (with_op d p i (Goto 0)) (op p (Goto 0)) s.more (cond-true (op_ok d p i (Goto 0)) (some (with_op d p i (Goto 0))) none ok) ∙ s.runs;
      done = s.done;
    }

pub settled : (d : Draft) (ls : List Line) → Made d ls → Settled d
unfolding run
settled d ls made = ⊎_elim (λ h. record { more = []; last = d; runs = refl; done = h }) (λ o. go_on (d.need - d.next) d o.0 o.1 refl) made.still
