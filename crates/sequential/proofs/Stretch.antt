-- A processor runs a stretch of its actions. Assumes nothing.
use mathlib.Core.Path.{◌≡◌, refl, sym, ◌∙◌, ap, subst}
use mathlib.Core.Logic.{⊎_elim}
use mathlib.Core.Bool.{Bool, true, false, cond}
use mathlib.Core.List.{List, [], ◌∷◌}
use mathlib.Core.Option.{Option, some}
use Prim.Native.Nat.{ℕ, zero, suc, ◌+◌, ◌≤◌, ◌<◌}
use native.Mathlib.Omega.{arith}
use lib.Dec.{ltb}
use borrow.Author.Tests.{ltb-true, lt-ltb}
use Rattle.words.proofs.Bools.{bool_eq, fails, or_none, cond-false}
use Rattle.cases.specs.declared.Case.{Case}
use Rattle.rules.specs.Kinds.{acquiring, releasing, syncs}
use Rattle.rules.specs.Commit.{barred}
use Rattle.rules.specs.State.{State, kind_of, value_of, input_of}
use Rattle.rules.specs.Result.{how_many}
use Rattle.rules.proofs.Actions.{either}
use Rattle.rules.proofs.Strict.{owner}
use Rattle.boards.specs.declared.Buffering.TheVariants.{Direct}
use Rattle.boards.specs.Board.{Board}
use Rattle.boards.specs.Machine.{Move, run, moved}
use Rattle.boards.specs.Run.{ran}
use Rattle.boards.specs.Listing.{instructions}
use Rattle.boards.proofs.Accepted.{Runs, move_first}
use Rattle.sequential.proofs.Mirror.{Raceless, Has, Mirror, further, further_own, further_other, has_more, has_cases, pass}
use Rattle.sequential.proofs.Next.{Next}
use Rattle.sequential.proofs.Run.{run_allowed, run_mirror}

-- how many actions have run

pub many_same : (n : ℕ) (P Q : ℕ → Bool) → ((j : ℕ) → j < n → P j ≡ Q j) → how_many n P ≡ how_many n Q
unfolding how_many
many_same zero P Q h = refl
many_same (suc n) P Q h = omega (arith, ap {B = ℕ} (λ (b : Bool). cond b 1 0) (h n (omega arith)), many_same n P Q (λ j l. h j (omega arith)))

many_one : (n k : ℕ) (P Q : ℕ → Bool) → k < n → P k ≡ false → Q k ≡ true → ((j : ℕ) → (j ≡ k → ⊥) → P j ≡ Q j) → how_many n Q ≡ suc (how_many n P)
unfolding how_many
many_one zero k P Q l p q h = absurd (omega arith)
many_one (suc n) k P Q l p q h =
    either k n
    (λ e. omega (arith, ap {B = ℕ} (λ (b : Bool). cond b 1 0) (ap P (sym e) ∙ p), ap {B = ℕ} (λ (b : Bool). cond b 1 0) (ap Q (sym e) ∙ q), many_same n P Q (λ j g. h j (λ x. omega arith))))
    (λ d. omega (arith, ap {B = ℕ} (λ (b : Bool). cond b 1 0) (h n (λ x. d (sym x))), many_one n k P Q (omega arith) p q h))

abbrev pub ran_in : State → (ℕ → ℕ) → ℕ
ran_in f n = how_many f.count (λ j. ltb j (n (owner f j)))

module _ (f : State) (n : ℕ → ℕ) (p k : ℕ) (e : n p ≡ k) where
  ran_passed : (owner f k ≡ p → ⊥) → ran_in f (further f n p k e) ≡ ran_in f n
  ran_passed d =
      many_same f.count (λ j. ltb j (further f n p k e (owner f j))) (λ j. ltb j (n (owner f j)))
      (λ j l. bool_eq _ _ (λ q. lt-ltb _ _ (⊎_elim (λ x. x) (λ x. absurd (d x.1)) (has_cases f n p k e j (ltb-true _ _ q)))) (λ q. lt-ltb _ _ (has_more f n p k e j (ltb-true _ _ q))))

  ran_more : k < f.count → owner f k ≡ p → ran_in f (further f n p k e) ≡ suc (ran_in f n)
  ran_more l o =
      many_one f.count k (λ j. ltb j (n (owner f j))) (λ j. ltb j (further f n p k e (owner f j))) l
      (fails false (ltb k (n (owner f k))) (λ q. let x : n (owner f k) ≡ k = ap n o ∙ e in absurd (omega (arith, ltb-true k (n (owner f k)) q, x))) refl)
      (lt-ltb k (further f n p k e (owner f k)) (let x : further f n p k e (owner f k) ≡ suc k = ap (further f n p k e) o ∙ further_own f n p k e in omega (arith, x)))
      (λ j d. bool_eq _ _ (λ q. lt-ltb _ _ (has_more f n p k e j (ltb-true _ _ q))) (λ q. lt-ltb _ _ (⊎_elim (λ x. x) (λ x. absurd (d x.0)) (has_cases f n p k e j (ltb-true _ _ q)))))

-- a run of the rest of the actions, to the places and registers of f
pub record Rest (c : Case) (f : State) (n : ℕ → ℕ) (b : Board) : Type 0 where
  pub moves : List Move
  pub end : Board
  pub runs : Runs Direct c b moves end
  pub whole : instructions moves + ran_in f n ≡ f.count
  pub places : (p : ℕ) → f.places p ≡ some (end.places p)
  pub values : (p r : ℕ) → value_of f (f.names p r) ≡ end.values p r
  pub buffers : (p m : ℕ) → end.buffers p m ≡ []

-- what no lock bars
unbarred : (p q : ℕ) (h : Option ℕ) → syncs q ≡ false → barred p q h ≡ false
unbarred p q h e = let w = or_none (acquiring q) (releasing q) e in rw (w.0, w.1)

module _ (c : Case) (f : State) (R : Raceless c f) where
  pub run_first : (H : ℕ → Option ℕ) (n : ℕ → ℕ) (b : Board) (M : Mirror c f H n b) (p k : ℕ) (N : Next c f H n p k) → Rest c f (further f n p k N.here) (ran Direct c b p) → Rest c f n b
  unfolding instructions moved
  run_first H n b M p k N r =
      record {
        moves = run p ∷ r.moves;
        end = r.end;
        runs = move_first Direct c b (run p) (run_allowed c f R H n b M p k N) r.runs;
        whole = omega (arith, r.whole, ran_more f n p k N.here N.there N.mine);
        places = r.places;
        values = r.values;
        buffers = r.buffers;
      }

  pass_first : (n : ℕ → ℕ) (b : Board) (p k : ℕ) (e : n p ≡ k) → (owner f k ≡ p → ⊥) → Rest c f (further f n p k e) b → Rest c f n b
  pass_first n b p k e d r = record { moves = r.moves; end = r.end; runs = r.runs; whole = omega (arith, r.whole, ran_passed f n p k e d); places = r.places; values = r.values; buffers = r.buffers }

  -- action j may run once what stands before it in program order has
  pub record Open (n : ℕ → ℕ) (p j : ℕ) : Type 0 where
    pub plain : syncs (kind_of (f.actions j)) ≡ false
    pub others : (l i : ℕ) → l < c.locs → f.orders l (8 + i) (8 + j) ≡ true → (owner f i ≡ p → ⊥) → Has f n i

  module _ (H : ℕ → Option ℕ) (p : ℕ) where
    -- an action of the processor that no lock bars
    own_first : (n : ℕ → ℕ) (b : Board) → Mirror c f H n b → (k : ℕ) (e : n p ≡ k) → k < f.count → owner f k ≡ p → Open n p k → (Mirror c f H (further f n p k e) (ran Direct c b p) → Rest c f (further f n p k e) (ran Direct c b p)) → Rest c f n b
    own_first n b M k e l o x on =
        let N : Next c f H n p k = record { here = e; there = l; mine = o; others = x.others; free = unbarred p (kind_of (f.actions k)) (H (input_of f (f.actions k) 0)) x.plain } in
        run_first H n b M p k N (on (subst (λ (G : ℕ → Option ℕ). Mirror c f G (further f n p k e) (ran Direct c b p)) (cond-false _ _ _ x.plain) (run_mirror c f R H n b M p k N)))

    pub stretch : (d k : ℕ) (n : ℕ → ℕ) (b : Board) → Mirror c f H n b → n p ≡ k → k + d ≤ f.count → ((j : ℕ) → k ≤ j → j < k + d → owner f j ≡ p → Open n p j)
        → ((m : ℕ → ℕ) (z : Board) → Mirror c f H m z → m p ≡ k + d → ((q : ℕ) → (q ≡ p → ⊥) → m q ≡ n q) → Rest c f m z) → Rest c f n b
    stretch zero k n b M e l O go = go n b M (omega arith) (λ q x. refl)
    stretch (suc d) k n b M e l O go =
        let on : (z : Board) → Mirror c f H (further f n p k e) z → Rest c f (further f n p k e) z =
        λ z M'.
        stretch d (suc k) (further f n p k e) z M' (further_own f n p k e) (omega arith)
        (λ j h g o. let x = O j (omega arith) (omega arith) o in record { plain = x.plain; others = λ l i s y q. has_more f n p k e i (x.others l i s y q) })
        (λ m y M'' h o. go m y M'' (omega (arith, h)) (λ q x. o q x ∙ further_other f n p k e q x)) in
        either (owner f k) p (λ o. own_first n b M k e (omega arith) o (O k (omega arith) (omega arith) o) (on (ran Direct c b p))) (λ x. pass_first n b p k e x (on b (pass f n p k e c H b x M)))
