-- After it has run the next action, the board mirrors one action more. Assumes nothing.
use mathlib.Core.Path.{◌≡◌, refl, sym, ◌∙◌, ap, subst}
use mathlib.Core.Logic.{⊎_elim}
use mathlib.Core.Bool.{Bool, true, false, cond, false≢true}
use mathlib.Core.Option.{Option, none, some}
use Prim.Native.Nat.{ℕ, suc, ◌+◌}
use native.Mathlib.Omega.{arith}
use lib.Dec.{eqb}
use Rattle.words.specs.Small.{is_none, put}
use Rattle.words.proofs.Bools.{decide, cond-true, cond-false, put_same, put_other}
use Rattle.cases.specs.declared.Instr.{Instr}
use Rattle.cases.specs.declared.Instr.TheVariants.{Empty, Read, Write, Local, Branch, Goto, Acquire, Release}
use Rattle.cases.specs.declared.Case.{Case}
use Rattle.rules.specs.Kinds.{kind, assigns, writing, acquiring, syncs, branching, label_of}
use Rattle.rules.specs.State.{State, Action, Name, kind_of, value_of, input_of}
use Rattle.rules.specs.Issue.{place_after}
use Rattle.rules.proofs.Actions.{either}
use Rattle.rules.proofs.Origins.{Named, untouched, newest}
use Rattle.rules.proofs.Strict.{owner}
use Rattle.boards.specs.declared.Buffering.TheVariants.{Direct}
use Rattle.boards.specs.Board.{Board}
use Rattle.boards.specs.Machine.{run, allowed}
use Rattle.boards.specs.Run.{assigned, instruction, operand, follows, yields, ran}
use Rattle.boards.proofs.Accepted.{run_make, write_accesses}
use Rattle.inclusion.proofs.Direct.{still_empty}
use Rattle.sequential.proofs.Paths.{leads_to, Follow, first, behind}
use Rattle.sequential.proofs.Sight.{Writes}
use Rattle.sequential.proofs.Mirror.{Raceless, Has, Memory, last, memory_kept, Mirror, further, further_own, further_other, has_more, has_cases}
use Rattle.sequential.proofs.Next.{Next, instr_is, place_is, operand_is, can_run, before_has, written-before, result_is}

-- registers with one assigned
assigned_other : (g : ℕ → Option ℕ) (o v : Option ℕ) (r : ℕ) → (o ≡ some r → ⊥) → assigned g o v r ≡ g r
assigned_other g none v r d = refl
assigned_other g (some x) v r d = put_other g x r v (λ q. d (ap some (sym q)))

assigned-same : (g : ℕ → Option ℕ) (o v : Option ℕ) (r : ℕ) → o ≡ some r → assigned g o v r ≡ v
assigned-same g o v r e = ap (λ (x : Option ℕ). assigned g x v r) e ∙ put_same g r r v refl

-- who holds each location after action a of processor p, whose first input is x
abbrev pub held_after : ℕ → Action → ℕ → (ℕ → Option ℕ) → ℕ → Option ℕ
held_after p a x H = cond (syncs (kind_of a)) (put H x (cond (acquiring (kind_of a)) (some p) none)) H

-- where instruction i leads from place l, its first input x
abbrev lead : Instr → Option ℕ → ℕ → ℕ → Option ℕ
lead i o x l = cond (branching (kind i)) (cond (is_none o) none (some (cond (eqb x 0) (suc l) (label_of i)))) (place_after i l)

module _ (c : Case) (f : State) (R : Raceless c f) (H : ℕ → Option ℕ) (n : ℕ → ℕ) (b : Board) (M : Mirror c f H n b) (p k : ℕ) (N : Next c f H n p k) where
  abbrev a : Action
  a = f.actions k

  abbrev m : ℕ → ℕ
  m = further f n p k N.here

  abbrev z : Board
  z = ran Direct c b p

  pub run_allowed : allowed Direct c b (run p) ≡ true
  run_allowed = run_make Direct c b p (can_run c f R H n b M p k N)

  -- places

  leads_on : (i : Instr) (o : Option ℕ) → is_none o ≡ false → lead i o (operand Direct c b p 0) (b.places p) ≡ some (follows Direct c b p i)
  leads_on Empty o d = refl
  leads_on (Read x y) o d = refl
  leads_on (Write x y) o d = refl
  leads_on (Local x y) o d = refl
  leads_on (Branch x y) o d = rw d
  leads_on (Goto x) o d = refl
  leads_on (Acquire x) o d = refl
  leads_on (Release x) o d = refl

  leads_is : leads_to f a ≡ some (follows Direct c b p (instruction Direct c b p))
  leads_is =
      ap (λ (x : ℕ). lead a.instr a.result x a.place) (sym (operand_is c f R H n b M p k N 0))
      ∙ ap (λ (x : ℕ). lead a.instr a.result (operand Direct c b p 0) x) (sym (place_is c f R H n b M p k N))
      ∙ leads_on a.instr a.result (ap is_none (result_is c f R H n b M p k N))
      ∙ ap (λ (i : Instr). some (follows Direct c b p i)) (sym (instr_is c f R H n b M p k N))

  own-place : (x : Option ℕ) → Follow f p (suc k) x → some (follows Direct c b p (instruction Direct c b p)) ≡ x
  own-place x (first i) = absurd (i k (omega arith) (omega arith) N.mine)
  own-place x (behind j h w i) = either j k (λ q. sym (ap (λ (y : ℕ). leads_to f (f.actions y)) q ∙ leads_is)) (λ q. absurd (i k (omega arith) (omega arith) N.mine))

  places-run : (q : ℕ) (x : Option ℕ) → Follow f q (m q) x → some (z.places q) ≡ x
  unfolding ran
  places-run q x F =
      either q p
      (λ e. ap some (put_same b.places p q _ e) ∙ own-place x (subst (λ (y : ℕ). Follow f p y x) (further_own f n p k N.here) (subst (λ (y : ℕ). Follow f y (m y) x) e F)))
      (λ d. ap some (put_other b.places p q _ d) ∙ M.places q x (subst (λ (y : ℕ). Follow f q y x) (further_other f n p k N.here q d) F))

  -- registers

  abbrev given : Option ℕ
  given = some (yields Direct c b p (instruction Direct c b p))

  gives : (f.actions k).result ≡ given
  gives = result_is c f R H n b M p k N ∙ ap (λ (i : Instr). some (yields Direct c b p i)) (sym (instr_is c f R H n b M p k N))

  same-assigns : assigns (instruction Direct c b p) ≡ assigns a.instr
  same-assigns = ap assigns (instr_is c f R H n b M p k N)

  -- a register that the action does not assign
  kept-value : (r : ℕ) (x : Name) → (assigns a.instr ≡ some r → ⊥) → Named c f k p r x → assigned (b.values p) (assigns (instruction Direct c b p)) given r ≡ value_of f x
  kept-value r x d N' = assigned_other (b.values p) (assigns (instruction Direct c b p)) given r (λ q. d (sym same-assigns ∙ q)) ∙ M.values p r x (subst (λ (y : ℕ). Named c f y p r x) (sym N.here) N')

  own_value : (r : ℕ) (x : Name) → Named c f (suc k) p r x → assigned (b.values p) (assigns (instruction Direct c b p)) given r ≡ value_of f x
  own_value r x (untouched u) = kept-value r x (λ q. u k (omega arith) (omega arith) (record { proc = N.mine; sets = q })) (untouched (λ j g h. u j g (omega arith)))
  own_value r x (newest j h y u) =
      either j k
      (λ q. assigned-same (b.values p) (assigns (instruction Direct c b p)) given r (same-assigns ∙ ap (λ (i : ℕ). assigns (f.actions i).instr) (sym q) ∙ y.sets) ∙ sym gives ∙ ap (λ (i : ℕ). (f.actions i).result) (sym q))
      (λ q. kept-value r x (λ s. u k (omega arith) (omega arith) (record { proc = N.mine; sets = s })) (newest j (omega arith) y (λ i g s. u i g (omega arith))))

  values_run : (q r : ℕ) (x : Name) → Named c f (m q) q r x → z.values q r ≡ value_of f x
  unfolding ran
  values_run q r x F =
      either q p
      (λ e. ap (λ (g : ℕ → Option ℕ). g r) (put_same b.values p q _ e) ∙ own_value r x (subst (λ (y : ℕ). Named c f y p r x) (further_own f n p k N.here) (subst (λ (y : ℕ). Named c f (m y) y r x) e F)))
      (λ d. ap (λ (g : ℕ → Option ℕ). g r) (put_other b.values p q _ d) ∙ M.values q r x (subst (λ (y : ℕ). Named c f y q r x) (further_other f n p k N.here q d) F))

  -- locks

  holders_run : (l : ℕ) → z.holders l ≡ held_after p a (input_of f a 0) H l
  unfolding ran
  holders_run l =
      ap (λ (i : Instr). cond (syncs (kind i)) (put b.holders (operand Direct c b p 0) (cond (acquiring (kind i)) (some p) none)) b.holders l) (instr_is c f R H n b M p k N)
      ∙ ap (λ (x : ℕ). cond (syncs (kind_of a)) (put b.holders x (cond (acquiring (kind_of a)) (some p) none)) b.holders l) (operand_is c f R H n b M p k N 0)
      ∙ split (syncs (kind_of a))
    where
      split : (s : Bool) → cond s (put b.holders (input_of f a 0) (cond (acquiring (kind_of a)) (some p) none)) b.holders l ≡ cond s (put H (input_of f a 0) (cond (acquiring (kind_of a)) (some p) none)) H l
      split true = ap (λ (h : Option ℕ). cond (eqb l (input_of f a 0)) (cond (acquiring (kind_of a)) (some p) none) h) (M.holders l)
      split false = M.holders l

  -- memory

  same-writing : writing (kind (instruction Direct c b p)) ≡ writing (kind_of a)
  same-writing = ap (λ (i : Instr). writing (kind i)) (instr_is c f R H n b M p k N)

  -- of a location that the action does not write
  memory_other : (l : ℕ) → (Writes f l k → ⊥) → Memory c f m l (b.memory l)
  memory_other l d = memory_kept c f n m l (b.memory l) (has_more f n p k N.here) (λ w W h. ⊎_elim (λ q. q) (λ q. absurd (d (subst (Writes f l) q.0 W))) (has_cases f n p k N.here w h)) (M.memory l)

  own_has : Has f m k
  own_has = let x : m (owner f k) ≡ suc k = put_same n p (owner f k) (suc k) N.mine in omega (arith, x)

  memory_own : writing (kind_of a) ≡ true → (v : ℕ) → a.result ≡ some v → Memory c f m a.loc v
  memory_own w v r =
      last k v (record { there = N.there; writes = w; location = refl }) own_has
      (λ j W h d. written-before c f R H n b M p k N j a.loc W (⊎_elim (λ q. q) (λ q. absurd (d q.0)) (has_cases f n p k N.here j h)) (write_accesses (kind_of a) w) refl)
      r

  write_yields : (i : Instr) → writing (kind i) ≡ true → yields Direct c b p i ≡ operand Direct c b p 1
  write_yields Empty w = absurd (false≢true w)
  write_yields (Read x y) w = absurd (false≢true w)
  write_yields (Write x y) w = refl
  write_yields (Local x y) w = absurd (false≢true w)
  write_yields (Branch x y) w = absurd (false≢true w)
  write_yields (Goto x) w = absurd (false≢true w)
  write_yields (Acquire x) w = absurd (false≢true w)
  write_yields (Release x) w = absurd (false≢true w)

  memory_run : (l : ℕ) → Memory c f m l (z.memory l)
  unfolding ran
  memory_run l = ⊎_elim written (λ w. subst (λ (g : ℕ → ℕ). Memory c f m l (g l)) (sym (cond-false _ _ _ (same-writing ∙ w))) (memory_other l (λ W. false≢true (sym w ∙ W.writes)))) (decide (writing (kind_of a)))
    where
      written : writing (kind_of a) ≡ true → Memory c f m l (cond (writing (kind (instruction Direct c b p))) (put b.memory (operand Direct c b p 0) (operand Direct c b p 1)) b.memory l)
      written w =
          let at : a.loc ≡ operand Direct c b p 0 = (R.facts k N.there).address (write_accesses (kind_of a) w) ∙ sym (operand_is c f R H n b M p k N 0) in
          let r : a.result ≡ some (operand Direct c b p 1) = result_is c f R H n b M p k N ∙ ap some (write_yields a.instr w) in
          subst (λ (g : ℕ → ℕ). Memory c f m l (g l)) (sym (cond-true _ _ _ (same-writing ∙ w)))
          (either l (operand Direct c b p 0)
          (λ e. subst (λ (v : ℕ). Memory c f m l v) (sym (put_same b.memory (operand Direct c b p 0) l _ e)) (subst (λ (y : ℕ). Memory c f m y (operand Direct c b p 1)) (at ∙ sym e) (memory_own w (operand Direct c b p 1) r)))
          (λ d. subst (λ (v : ℕ). Memory c f m l v) (sym (put_other b.memory (operand Direct c b p 0) l _ d)) (memory_other l (λ W. d (sym W.location ∙ at)))))

  pub run_mirror : Mirror c f (held_after p a (input_of f a 0) H) m z
  run_mirror =
      record {
        places = places-run;
        values = values_run;
        holders = holders_run;
        memory = memory_run;
        buffers = still_empty Direct c b M.buffers p;
        closed = λ l j i s h g. has_more f n p k N.here j (⊎_elim (λ q. M.closed l j i s h q) (λ q. before_has c f R H n b M p k N l j s (subst (λ (y : ℕ). f.orders l (8 + j) (8 + y) ≡ true) q.0 h)) (has_cases f n p k N.here i g));
      }
