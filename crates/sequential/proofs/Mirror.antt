-- A board that has run some of the actions of a state with empty queues: of each processor those below a number. Assumes nothing.
use mathlib.Core.Path.{◌≡◌, refl, sym, ◌∙◌, ap, subst}
use mathlib.Core.Logic.{◌⊎◌, inl, inr, ⊎_elim}
use mathlib.Core.Bool.{true}
use mathlib.Core.List.{[]}
use mathlib.Core.Option.{Option, some}
use Prim.Native.Nat.{ℕ, suc, ◌+◌, ◌<◌}
use native.Mathlib.Omega.{arith}
use Rattle.words.specs.Small.{put}
use Rattle.words.proofs.Bools.{put_same, put_other}
use Rattle.cases.specs.declared.Case.{Case}
use Rattle.cases.specs.Case.{word_of}
use Rattle.rules.specs.Kinds.{accesses}
use Rattle.rules.specs.State.{State, Name, kind_of, value_of, stands_at}
use Rattle.rules.proofs.Closed.{Transitive}
use Rattle.rules.proofs.Actions.{either}
use Rattle.rules.proofs.Origins.{Named, untouched, newest}
use Rattle.rules.proofs.Strict.{owner, Done, Strict}
use Rattle.boards.specs.Board.{Board}
use Rattle.sequential.proofs.Items.{Items}
use Rattle.sequential.proofs.Paths.{Follow, first, behind}
use Rattle.sequential.proofs.Sight.{Writes}
use Rattle.sequential.proofs.Facts.{Facts}

-- what is known of a state with empty queues and no race
pub record Raceless (c : Case) (f : State) : Type 0 where
  pub quiet : (k : ℕ) → k < f.count → Done f k
  pub facts : (k : ℕ) → k < f.count → Facts c f k
  pub strict : Strict f
  pub items : Items f
  pub transitive : (l : ℕ) → Transitive (f.orders l)
  -- program order is in the order
  pub program : (l j k : ℕ) → l < c.locs → j < k → k < f.count → owner f j ≡ owner f k → stands_at l (f.actions j) ≡ true → stands_at l (f.actions k) ≡ true → f.orders l (8 + j) (8 + k) ≡ true
  pub places : (p : ℕ) → Follow f p f.count (f.places p)
  pub names : (p r : ℕ) → Named c f f.count p r (f.names p r)
  pub locs : (k : ℕ) → k < f.count → accesses (kind_of (f.actions k)) ≡ true → (f.actions k).loc < c.locs
  pub rooted : (l k : ℕ) → l < 8 → l < c.locs → k < f.count → stands_at l (f.actions k) ≡ true → f.orders l l (8 + k) ≡ true
  -- a write and another access of its location are ordered
  pub ordered : (l j k : ℕ) → Writes f l j → k < f.count → accesses (kind_of (f.actions k)) ≡ true → (f.actions k).loc ≡ l → (j ≡ k → ⊥) → (f.orders l (8 + j) (8 + k) ≡ true) ⊎ (f.orders l (8 + k) (8 + j) ≡ true)

-- action k has run, where those of processor p below n p have
abbrev pub Has : State → (ℕ → ℕ) → ℕ → Type 0
Has f n k = k < n (owner f k)

-- what location l holds: its initial word, or what the write gave that all others stand before
pub data Memory (c : Case) (f : State) (n : ℕ → ℕ) (l : ℕ) : ℕ → Type 0 where
  unwritten : ((w : ℕ) → Writes f l w → Has f n w → ⊥) → Memory c f n l (word_of c l)
  last : (m v : ℕ) → Writes f l m → Has f n m → ((w : ℕ) → Writes f l w → Has f n w → (w ≡ m → ⊥) → f.orders l (8 + w) (8 + m) ≡ true) → (f.actions m).result ≡ some v → Memory c f n l v

-- H tells who holds each location
pub record Mirror (c : Case) (f : State) (H : ℕ → Option ℕ) (n : ℕ → ℕ) (b : Board) : Type 0 where
  pub places : (p : ℕ) (x : Option ℕ) → Follow f p (n p) x → some (b.places p) ≡ x
  pub values : (p r : ℕ) (x : Name) → Named c f (n p) p r x → b.values p r ≡ value_of f x
  pub holders : (l : ℕ) → b.holders l ≡ H l
  pub memory : (l : ℕ) → Memory c f n l (b.memory l)
  pub buffers : (p m : ℕ) → b.buffers p m ≡ []
  -- what stands before what has run has run
  pub closed : (l j k : ℕ) → l < c.locs → f.orders l (8 + j) (8 + k) ≡ true → Has f n k → Has f n j

pub memory_kept : (c : Case) (f : State) (n m : ℕ → ℕ) (l v : ℕ) → ((w : ℕ) → Has f n w → Has f m w) → ((w : ℕ) → Writes f l w → Has f m w → Has f n w) → Memory c f n l v → Memory c f m l v
memory_kept c f n m l v on back (unwritten u) = unwritten (λ w W h. u w W (back w W h))
memory_kept c f n m l v on back (last k y W h a r) = last k y W (on k h) (λ w X g. a w X (back w X g)) r

-- one number more of processor p
module _ (f : State) (n : ℕ → ℕ) (p k : ℕ) (e : n p ≡ k) where
  abbrev pub further : ℕ → ℕ
  further = put n p (suc k)

  pub further_own : further p ≡ suc k
  further_own = put_same n p p (suc k) refl

  pub further_other : (q : ℕ) → (q ≡ p → ⊥) → further q ≡ n q
  further_other q d = put_other n p q (suc k) d

  pub has_more : (j : ℕ) → Has f n j → Has f further j
  has_more j h = either (owner f j) p (λ q. let x : further (owner f j) ≡ suc k = put_same n p (owner f j) (suc k) q in let y : n (owner f j) ≡ k = ap n q ∙ e in omega (arith, x, y)) (λ d. let x = further_other (owner f j) d in omega (arith, x))

  pub has_cases : (j : ℕ) → Has f further j → Has f n j ⊎ ((j ≡ k) × (owner f k ≡ p))
  has_cases j h =
      either (owner f j) p
      (λ q. let x : further (owner f j) ≡ suc k = put_same n p (owner f j) (suc k) q in let y : n (owner f j) ≡ k = ap n q ∙ e in either j k (λ z. inr (z, ap (owner f) (sym z) ∙ q)) (λ d. inl (omega (arith, x, y))))
      (λ d. let x = further_other (owner f j) d in inl (omega (arith, x)))

  -- a processor's place and names, but for an action of its own
  pub follow_other : (owner f k ≡ p → ⊥) → (x : Option ℕ) → Follow f p (suc k) x → Follow f p k x
  follow_other d x (first i) = first (λ j a h. i j a (omega arith))
  follow_other d x (behind j h w i) = behind j (either j k (λ q. absurd (d (ap (owner f) (sym q) ∙ w))) (λ q. omega arith)) w (λ m a g. i m a (omega arith))

  pub named_other : (c : Case) (r : ℕ) → (owner f k ≡ p → ⊥) → (x : Name) → Named c f (suc k) p r x → Named c f k p r x
  named_other c r d x (untouched u) = untouched (λ j a h. u j a (omega arith))
  named_other c r d x (newest j h y u) = newest j (either j k (λ q. absurd (d (ap (owner f) (sym q) ∙ y.proc))) (λ q. omega arith)) y (λ m a g. u m a (omega arith))

  -- an action of another processor is passed over
  pub pass : (c : Case) (H : ℕ → Option ℕ) (b : Board) → (owner f k ≡ p → ⊥) → Mirror c f H n b → Mirror c f H further b
  pass c H b d M =
      record {
        places = λ q x F. either q p (λ z. subst (λ (y : ℕ). some (b.places y) ≡ x) (sym z) (M.places p x (subst (λ (m : ℕ). Follow f p m x) (sym e) (follow_other d x (subst (λ (m : ℕ). Follow f p m x) further_own (subst (λ (y : ℕ). Follow f y (further y) x) z F)))))) (λ z. M.places q x (subst (λ (m : ℕ). Follow f q m x) (further_other q z) F));
        values = λ q r x N. either q p (λ z. subst (λ (y : ℕ). b.values y r ≡ value_of f x) (sym z) (M.values p r x (subst (λ (m : ℕ). Named c f m p r x) (sym e) (named_other c r d x (subst (λ (m : ℕ). Named c f m p r x) further_own (subst (λ (y : ℕ). Named c f (further y) y r x) z N)))))) (λ z. M.values q r x (subst (λ (m : ℕ). Named c f m q r x) (further_other q z) N));
        holders = M.holders;
        memory = λ l. memory_kept c f n further l (b.memory l) has_more (λ w W h. only w h) (M.memory l);
        buffers = M.buffers;
        closed = λ l j m i h g. has_more j (M.closed l j m i h (only m g));
      }
    where
      only : (j : ℕ) → Has f further j → Has f n j
      only j h = ⊎_elim (λ q. q) (λ q. absurd (d q.1)) (has_cases j h)
