-- Once every acquire and release has run, the rest runs processor by processor, and the board ends as the state. Assumes nothing.
use mathlib.Core.Path.{◌≡◌, refl, sym, ◌∙◌, ap}
use mathlib.Core.Logic.{⊎_elim}
use mathlib.Core.Bool.{Bool, true, false, cond}
use mathlib.Core.List.{[]}
use mathlib.Core.Option.{Option}
use Prim.Native.Nat.{ℕ, zero, suc, ◌+◌, ◌-◌, ◌≤◌, ◌<◌}
use native.Mathlib.Omega.{arith}
use native.Mathlib.Decide.{dec_lt}
use lib.Dec.{ltb}
use borrow.Author.Tests.{lt-ltb}
use Rattle.words.proofs.Bools.{fails, or_right}
use Rattle.cases.specs.declared.Case.{Case}
use Rattle.runs.proofs.Walk.{stop}
use Rattle.rules.specs.Kinds.{acquiring, syncs}
use Rattle.rules.specs.State.{State, Name, kind_of}
use Rattle.rules.specs.Result.{how_many}
use Rattle.rules.proofs.Actions.{either}
use Rattle.rules.proofs.Origins.{Named, untouched, newest}
use Rattle.rules.proofs.Strict.{owner, Freed}
use Rattle.boards.specs.Board.{Board}
use Rattle.boards.specs.Listing.{instructions}
use Rattle.sequential.proofs.Paths.{Idle, Follow, first, behind}
use Rattle.sequential.proofs.Settled.{before_cases}
use Rattle.sequential.proofs.Mirror.{Raceless, Has, Mirror}
use Rattle.sequential.proofs.Stretch.{Rest, Open, stretch}

many_all : (n : ℕ) (P : ℕ → Bool) → ((j : ℕ) → j < n → P j ≡ true) → how_many n P ≡ n
unfolding how_many
many_all zero P h = refl
many_all (suc n) P h = omega (arith, ap {B = ℕ} (λ (b : Bool). cond b 1 0) (h n (omega arith)), many_all n P (λ j l. h j (omega arith)))

-- what has no action from m on
follow_idle : (f : State) (p m n : ℕ) → m ≤ n → Idle f p m n → (x : Option ℕ) → Follow f p n x → Follow f p m x
follow_idle f p m n l i x (first u) = first (λ j g h. u j g (omega arith))
follow_idle f p m n l i x (behind k h w u) = behind k (elim (dec_lt k m) [ yes g ↦ g | no g ↦ absurd (i k (omega arith) h w) ]) w (λ j g y. u j g (omega arith))

named_idle : (c : Case) (f : State) (p m n r : ℕ) → m ≤ n → Idle f p m n → (x : Name) → Named c f n p r x → Named c f m p r x
named_idle c f p m n r l i x (untouched u) = untouched (λ j g h. u j g (omega arith))
named_idle c f p m n r l i x (newest k h w u) = newest k (elim (dec_lt k m) [ yes g ↦ g | no g ↦ absurd (i k (omega arith) h w.proc) ]) w (λ j g y. u j g (omega arith))

module _ (c : Case) (f : State) (R : Raceless c f) (H : ℕ → Option ℕ) where
  -- everything has run
  ended : (n : ℕ → ℕ) (b : Board) → Mirror c f H n b → ((p : ℕ) → n p ≤ f.count) → ((k : ℕ) → k < f.count → Has f n k) → Rest c f n b
  unfolding instructions
  ended n b M few all =
      record {
        moves = [];
        end = b;
        runs = stop refl;
        whole = omega (arith, many_all f.count (λ j. ltb j (n (owner f j))) (λ j l. lt-ltb j (n (owner f j)) (all j l)));
        places = λ p. sym (M.places p (f.places p) (follow_idle f p (n p) f.count (few p) (idle p) (f.places p) (R.places p)));
        values = λ p r. sym (M.values p r (f.names p r) (named_idle c f p (n p) f.count r (few p) (idle p) (f.names p r) (R.names p r)));
        buffers = M.buffers;
      }
    where
      idle : (p : ℕ) → Idle f p (n p) f.count
      idle p j g h o = let x = all j h in let y : n (owner f j) ≡ n p = ap n o in absurd (omega (arith, x, y))

  -- what a committed release came after has run
  pub freed_has : (n : ℕ → ℕ) → ((j : ℕ) → j < f.count → syncs (kind_of (f.actions j)) ≡ true → Has f n j) → (i : ℕ) → Freed f i → Has f n i
  freed_has n all i F =
      let x : F.at < n (owner f F.at) = all F.at F.low (or_right (acquiring (kind_of (f.actions F.at))) _ F.frees) in
      let y : n (owner f F.at) ≡ n (owner f i) = ap n F.own in
      omega (arith, x, y, F.late)

  open_last : (n : ℕ → ℕ) → ((j : ℕ) → j < f.count → syncs (kind_of (f.actions j)) ≡ true → Has f n j) → (p j : ℕ) → n p ≤ j → j < f.count → owner f j ≡ p → Open c f R n p j
  open_last n all p j g h o =
      record {
        plain = fails false (syncs (kind_of (f.actions j))) (λ q. let x : j < n (owner f j) = all j h q in let y : n (owner f j) ≡ n p = ap n o in absurd (omega (arith, x, y))) refl;
        others = λ l i s e d. ⊎_elim (λ q. absurd (d (q.0 ∙ o))) (λ q. freed_has n all i q.1) (before_cases f R.strict l i j e);
      }

  -- the processors from p on
  pub rest : (d p : ℕ) (n : ℕ → ℕ) (b : Board) → p + d ≡ c.procs → Mirror c f H n b → ((q : ℕ) → n q ≤ f.count) → ((q : ℕ) → q < p → n q ≡ f.count) → ((j : ℕ) → j < f.count → syncs (kind_of (f.actions j)) ≡ true → Has f n j) → Rest c f n b
  rest zero p n b e M few done all = ended n b M few (λ k l. let x = done (owner f k) (let y = (R.facts k l).reads.proc in omega (arith, y)) in omega (arith, x))
  rest (suc d) p n b e M few done all =
      let x = few p in
      stretch c f R H p (f.count - n p) (n p) n b M refl (omega (arith, x)) (λ j g h o. open_last n all p j g (omega (arith, x, h)) o)
      (λ m z M' own other.
      let own' : m p ≡ f.count = omega (arith, own, x) in
      rest d (suc p) m z (omega arith) M'
      (λ q. either q p (λ y. let w : m q ≡ m p = ap m y in omega (arith, w, own')) (λ y. let w = other q y in let v = few q in omega (arith, w, v)))
      (λ q l. either q p (λ y. ap m y ∙ own') (λ y. other q y ∙ done q (omega arith)))
      (λ j l s. either (owner f j) p (λ y. let w : m (owner f j) ≡ m p = ap m y in omega (arith, w, own')) (λ y. let w = other (owner f j) y in let v = all j l s in omega (arith, w, v))))
