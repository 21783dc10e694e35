-- The next action of a processor is the next instruction of the board: it reads the same values, may run and gives the same. Assumes nothing.
use mathlib.Core.Path.{◌≡◌, refl, sym, ◌∙◌, ap, subst}
use mathlib.Core.Logic.{⊎_elim}
use mathlib.Core.Bool.{Bool, true, false, ◌&&◌, ◌||◌, false≢true}
use mathlib.Core.List.{List, [], ◌∷◌, map}
use mathlib.Core.Option.{Option, none, some}
use Prim.Native.Nat.{ℕ, zero, suc, ◌+◌, ◌<◌}
use native.Mathlib.Omega.{arith}
use lib.Dec.{leb}
use lib.ListN.{get_or}
use borrow.Author.Tests.{eqb-true, eq-eqb, lt-leb}
use Rattle.words.specs.Small.{is_none, or_zero, any, some_below}
use Rattle.words.proofs.Bools.{decide, and_make, and_right, or_right, fails, below_cases}
use Rattle.cases.specs.declared.Instr.{Instr}
use Rattle.cases.specs.declared.Instr.TheVariants.{Empty, Read, Write, Local, Branch, Goto, Acquire, Release}
use Rattle.cases.specs.declared.Case.{Case}
use Rattle.cases.specs.Case.{count_of, instr_at, word_of}
use Rattle.rules.specs.Kinds.{kind, reads, reading, writing, accesses, syncs}
use Rattle.rules.specs.State.{State, Name, start, kind_of, value_of, input_of}
use Rattle.rules.specs.Commit.{barred, result_of}
use Rattle.rules.proofs.Actions.{either}
use Rattle.rules.proofs.Origins.{Named}
use Rattle.rules.proofs.Strict.{owner}
use Rattle.boards.specs.declared.Buffering.TheVariants.{Direct}
use Rattle.boards.specs.Board.{Board, filled}
use Rattle.boards.specs.Run.{instruction, operand, holding, yields}
use Rattle.boards.proofs.Accepted.{CanRun, read_accesses, write_accesses}
use Rattle.sequential.proofs.Paths.{Follow}
use Rattle.sequential.proofs.Sight.{Writes, Sight}
use Rattle.sequential.proofs.Settled.{before_cases}
use Rattle.sequential.proofs.Facts.{Facts}
use Rattle.sequential.proofs.Mirror.{Raceless, Has, Memory, unwritten, last, Mirror}

-- action k is the next of processor p, and what stands before it of other processors has run; H lets it take or free its lock
pub record Next (c : Case) (f : State) (H : ℕ → Option ℕ) (n : ℕ → ℕ) (p k : ℕ) : Type 0 where
  pub here : n p ≡ k
  pub there : k < f.count
  pub mine : owner f k ≡ p
  pub others : (l j : ℕ) → l < c.locs → f.orders l (8 + j) (8 + k) ≡ true → (owner f j ≡ p → ⊥) → Has f n j
  pub free : barred p (kind_of (f.actions k)) (H (input_of f (f.actions k) 0)) ≡ false

near_make : (x y z : Bool) → (x ≡ true → z ≡ false) → (y && z) ≡ false → ((x || y) && z) ≡ false
near_make true y z h g = h refl
near_make false y z h g = g

read_not_write : (q : ℕ) → reading q ≡ true → writing q ≡ true → ⊥
read_not_write q r w = absurd (omega (arith, eqb-true q 1 r, eqb-true q 2 w))

module _ (c : Case) (f : State) (R : Raceless c f) (H : ℕ → Option ℕ) (n : ℕ → ℕ) (b : Board) (M : Mirror c f H n b) (p k : ℕ) (N : Next c f H n p k) where
  abbrev F : Facts c f k
  F = R.facts k N.there

  abbrev ins : Instr
  ins = (f.actions k).instr

  -- registers by their names
  value_is : (r : ℕ) → b.values p r ≡ value_of f (F.reads.names r)
  value_is r = M.values p r (F.reads.names r) (subst (λ (m : ℕ). Named c f m p r (F.reads.names r)) (sym N.here) (subst (λ (q : ℕ). Named c f k q r (F.reads.names r)) N.mine (F.reads.named r)))

  pub place_is : b.places p ≡ (f.actions k).place
  place_is = ap or_zero (M.places p (some (f.actions k).place) (subst (λ (m : ℕ). Follow f p m (some (f.actions k).place)) (sym N.here) (subst (λ (q : ℕ). Follow f q k (some (f.actions k).place)) N.mine F.follow)))

  pub instr_is : instruction Direct c b p ≡ ins
  instr_is = ap (instr_at c p) place_is ∙ ap (λ (q : ℕ). instr_at c q (f.actions k).place) (sym N.mine) ∙ sym F.reads.instr

  each_is : (rs : List ℕ) (m : ℕ) → get_or (map (b.values p) rs) m none ≡ value_of f (get_or (map F.reads.names rs) m (start none))
  each_is [] m = refl
  each_is (r ∷ rs) zero = value_is r
  each_is (r ∷ rs) (suc m) = each_is rs m

  some_is : (rs : List ℕ) → any is_none (map (b.values p) rs) ≡ any (λ x. is_none (value_of f x)) (map F.reads.names rs)
  some_is [] = refl
  some_is (r ∷ rs) = (λ t. is_none (value_is r t) || some_is rs t)

  pub operand_is : (m : ℕ) → operand Direct c b p m ≡ input_of f (f.actions k) m
  operand_is m = ap (λ (i : Instr). or_zero (get_or (map (b.values p) (reads i)) m none)) instr_is ∙ ap or_zero (each_is (reads ins) m) ∙ ap (λ (l : List Name). or_zero (value_of f (get_or l m (start none)))) (sym F.reads.inputs)

  pub can_run : CanRun Direct c b p
  can_run =
      record {
        low = lt-leb c.procs p (subst (λ (q : ℕ). q < c.procs) N.mine F.reads.proc);
        inside = ap (leb (count_of c p)) place_is ∙ lt-leb (count_of c p) (f.actions k).place (subst (λ (q : ℕ). (f.actions k).place < count_of c q) N.mine F.reads.place);
        ready = ap (λ (i : Instr). any is_none (map (b.values p) (reads i))) instr_is ∙ some_is (reads ins) ∙ ap (λ (l : List Name). any (λ x. is_none (value_of f x)) l) (sym F.reads.inputs) ∙ F.ready;
        near = over (λ i m. ((accesses (kind i) || syncs (kind i)) && leb c.locs m) ≡ false) (near_make (accesses (kind ins)) (syncs (kind ins)) _ (λ a. ap (leb c.locs) (sym (F.address a)) ∙ lt-leb c.locs (f.actions k).loc (R.locs k N.there a)) F.lock);
        free = ap (barred p (kind (instruction Direct c b p))) (M.holders (operand Direct c b p 0)) ∙ over (λ i m. barred p (kind i) (H m) ≡ false) N.free;
        empty = and_right (syncs (kind (instruction Direct c b p))) (holding Direct c b p) (fails false (holding Direct c b p) none-held refl);
      }
    where
      over : (P : Instr → ℕ → Type 0) → P ins (input_of f (f.actions k) 0) → P (instruction Direct c b p) (operand Direct c b p 0)
      over P h = subst (λ (i : Instr). P i (operand Direct c b p 0)) (sym instr_is) (subst (P ins) (sym (operand_is 0)) h)

      none-held : some_below c.locs (λ m. filled (b.buffers p m)) ≡ true → false ≡ true
      none-held h = let w = below_cases c.locs (λ m. filled (b.buffers p m)) h in ap filled (sym (M.buffers p w.0)) ∙ w.2

  -- what it gives

  plain-same : (q e : ℕ) (i : Instr) → reading (kind i) ≡ false → result_of c f q k e i ≡ yields Direct c b p i
  plain-same q e Empty r = refl
  plain-same q e (Read d a) r = absurd (false≢true (sym r))
  plain-same q e (Write a v) r = sym (operand_is 1)
  plain-same q e (Local d x) r = rw (operand_is 0, operand_is 1)
  plain-same q e (Branch a l) r = refl
  plain-same q e (Goto l) r = refl
  plain-same q e (Acquire a) r = sym (operand_is 0)
  plain-same q e (Release a) r = sym (operand_is 0)

  read_yields : (i : Instr) → reading (kind i) ≡ true → yields Direct c b p i ≡ b.memory (operand Direct c b p 0)
  read_yields Empty r = absurd (false≢true r)
  read_yields (Read d a) r = refl
  read_yields (Write a v) r = absurd (false≢true r)
  read_yields (Local d x) r = absurd (false≢true r)
  read_yields (Branch a l) r = absurd (false≢true r)
  read_yields (Goto l) r = absurd (false≢true r)
  read_yields (Acquire a) r = absurd (false≢true r)
  read_yields (Release a) r = absurd (false≢true r)

  -- it has not run
  pub not_yet : Has f n k → ⊥
  not_yet h = let x : n (owner f k) ≡ k = ap n N.mine ∙ N.here in omega (arith, x)

  -- and what stands before it has
  pub before_has : (l j : ℕ) → l < c.locs → f.orders l (8 + j) (8 + k) ≡ true → Has f n j
  before_has l j i h =
      ⊎_elim (λ q. let x : n (owner f j) ≡ k = ap n (q.0 ∙ N.mine) ∙ N.here in omega (arith, x, q.1))
      (λ q. N.others l j i h (λ z. q.0 (z ∙ sym N.mine)))
      (before_cases f R.strict l j k h)

  -- a write that has run stands before each later access of its location
  pub written-before : (w l : ℕ) → Writes f l w → Has f n w → accesses (kind_of (f.actions k)) ≡ true → (f.actions k).loc ≡ l → f.orders l (8 + w) (8 + k) ≡ true
  written-before w l W h a e = ⊎_elim (λ q. q) (λ q. absurd (not_yet (M.closed l k w (subst (λ (x : ℕ). x < c.locs) e (R.locs k N.there a)) q h))) (R.ordered l w k W N.there a e (λ q. not_yet (subst (Has f n) q h)))

  module _ (r : reading (kind_of (f.actions k)) ≡ true) where
    abbrev l : ℕ
    l = (f.actions k).loc

    S : Sight c f k F.source
    S = F.sight r

    -- a source that is an action's has run
    source_has : (j : ℕ) → F.source ≡ 8 + j → Writes f l j → Has f n j
    source_has j e W =
        before_has l j (R.locs k N.there (read_accesses (kind_of (f.actions k)) r))
        (⊎_elim (λ q. q) (λ q. absurd (S.before (subst (λ (x : ℕ). f.orders l (8 + k) x ≡ true) (sym e) q)))
        (R.ordered l j k W N.there (read_accesses (kind_of (f.actions k)) r) refl (λ q. read_not_write (kind_of (f.actions k)) r (ap (λ (x : ℕ). writing (kind_of (f.actions x))) (sym q) ∙ W.writes))))

    -- memory holds what it took
    holds : (v : ℕ) → Memory c f n l v → (f.actions k).result ≡ some v
    holds v (unwritten u) = ⊎_elim (λ q. q.2 ∙ ap (λ (x : ℕ). some (word_of c x)) q.1) (λ q. absurd (u q.0 q.2 (source_has q.0 q.1 q.2))) S.took
    holds v (last m x W h a y) = ⊎_elim initially (λ q. either q.0 m (λ z. q.3 ∙ ap (λ (i : ℕ). (f.actions i).result) z ∙ y) (λ z. absurd (S.newest m W (subst (λ (i : ℕ). f.orders l i (8 + m) ≡ true) (sym q.1) (a q.0 q.2 (source_has q.0 q.1 q.2) z)) late))) S.took
      where
        late : f.orders l (8 + m) (8 + k) ≡ true
        late = written-before m l W h (read_accesses (kind_of (f.actions k)) r) refl

        initially : (F.source < 8) × (F.source ≡ l) × ((f.actions k).result ≡ some (word_of c F.source)) → (f.actions k).result ≡ some x
        initially q =
            let low : l < c.locs = R.locs k N.there (read_accesses (kind_of (f.actions k)) r) in
            let root = R.rooted l m (omega (arith, q.0, q.1)) low W.there (or_right (syncs (kind_of (f.actions m))) _ (and_make _ _ (write_accesses (kind_of (f.actions m)) W.writes) (eq-eqb _ _ W.location))) in
            absurd (S.newest m W (subst (λ (i : ℕ). f.orders l i (8 + m) ≡ true) (sym q.1) root) late)

  -- the result is what the board yields
  pub result_is : (f.actions k).result ≡ some (yields Direct c b p ins)
  result_is = ⊎_elim taken (λ r. F.result r ∙ ap some (plain-same (owner f k) F.source ins r)) (decide (reading (kind_of (f.actions k))))
    where
      taken : reading (kind_of (f.actions k)) ≡ true → (f.actions k).result ≡ some (yields Direct c b p ins)
      taken r =
          let e : (f.actions k).loc ≡ operand Direct c b p 0 = F.address (read_accesses (kind_of (f.actions k)) r) ∙ sym (operand_is 0) in
          holds r (b.memory (f.actions k).loc) (M.memory (f.actions k).loc) ∙ ap (λ (x : ℕ). some (b.memory x)) e ∙ ap some (sym (read_yields ins r))
