-- What a search that leaves out spent steps must try. Assumes nothing.
use mathlib.Core.Path.{◌≡◌}
use mathlib.Core.Logic.{◌⊎◌, inl, inr, ⊎_elim}
use mathlib.Core.Bool.{true, false, false≢true}
use mathlib.Core.List.{List}
use Prim.Native.Nat.{ℕ, zero, suc}
use Rattle.cases.specs.declared.Case.{Case}
use Rattle.rules.specs.Result.{finished, registers}
use Rattle.rules.specs.State.{State}
use Rattle.rules.specs.Step.{after, step_code, commit, Step}
use Rattle.rules.proofs.Accepted.{finished_still}
use Rattle.sure.specs.Dead.{Lone}
use Rattle.sure.specs.Quiet.{quiet}
use Rattle.sure.specs.Sure.{Sized}
use Rattle.sure.specs.Spent.{wakes, Key, step_by, Spent, fresh, Rested, Through, Else}
use Rattle.sure.specs.Told.{Done, Open}
use Rattle.sure.proofs.Dead.{done_dead, open_dead}
use Rattle.sure.proofs.Good.{Good}
use Rattle.sure.proofs.Known.{Known}
use Rattle.sure.proofs.Quiet.{Taken, done_read, open_read}
use Rattle.sure.proofs.Moves.{Alike}
use Rattle.sure.proofs.Reduce.{Next, done_next, open_next}
use Rattle.sure.proofs.Whole.{done_alone, open_alone}
use Rattle.sure.proofs.Spent.{to_front}
use Rattle.sure.proofs.Whole

-- the laws of runs: `P s n`, there is a run of the wanted sort from s with n steps to go
pub record Runs (c : Case) (P : State → ℕ → Type 0) : Type 0 where
  pub later : (s : State) (t : Step) (n : ℕ) → step_code c s t ≡ 0 → P (after c s t) n → P s (suc n)
  pub alike : (a b : State) (n : ℕ) → Alike a b → P a n → P b n
  pub next : (s : State) (n : ℕ) → finished c s ≡ false → P s (suc n) → Next c P s n
  pub alone : (s : State) (t : Step) (n : ℕ) → Known c s → step_code c s t ≡ 0 → Lone c (suc n) s t → P s (suc n) → P (after c s t) n
  pub reads : (s : State) (p k e n : ℕ) → Good s → step_code c s (commit p k e) ≡ 0 → quiet c s k ≡ true → P s (suc n) → Taken c (λ x. P x n) s p k

module _ (c : Case) (Z : Sized c) where
  pub done_runs : (r : List ℕ) → Runs c (λ s n. Done c s n r)
  done_runs r =
      record {
        later = λ s t n h d. Done.later t h d;
        alike = λ a b n e d. (Whole.laws c).outcomes a b n r e d;
        next = λ s n f d. done_next c f d;
        alone = λ s t n K h q d.
            ⊎_elim (λ z. done_alone c Z s K.reached t h n z r d) (λ z. done_dead c s K t h z n r d) q;
        reads = λ s p k e n G h q d. done_read c s p k e G h q n r d;
      }

  pub open_runs : Runs c (Open c)
  open_runs =
      record {
        later = λ s t n h d. Open.later t h d;
        alike = λ a b n e d. (Whole.laws c).cuts a b n e d;
        next = λ s n f d. open_next c f d;
        alone = λ s t n K h q d.
            ⊎_elim (λ z. open_alone c Z s K.reached t h n z d) (λ z. open_dead c s K t h z n d) q;
        reads = λ s p k e n G h q d. open_read c s p k e G h q n d;
      }

-- runs of which something holds besides
pub runs_and : (c : Case) {P : State → ℕ → Type 0} (A : Type 0) → Runs c P → Runs c (λ s n. P s n × A)
runs_and c A L =
    record {
      later = λ s t n h d. (L.later s t n h d.0, d.1);
      alike = λ a b n e d. (L.alike a b n e d.0, d.1);
      next = λ s n f d. let x = L.next s n f d.0 in record { step = x.step; fits = x.fits; then' = (x.then', d.1) };
      alone = λ s t n K h q d. (L.alone s t n K h q d.0, d.1);
      reads = λ s p k e n G h q d. let x = L.reads s p k e n G h q d.0 in record { source = x.source; fits = x.fits; then' = (x.then', d.1) };
    }

-- a finished machine takes no step
pub at_end : (c : Case) {s : State} {n : ℕ} {r : List ℕ} → finished c s ≡ true → Done c s n r → registers c s ≡ r
at_end c f (Done.now g e) = e
at_end c {s} f (Done.later t h d) = absurd (finished_still c s f t h)

pub no_more : (c : Case) {s : State} {n : ℕ} → finished c s ≡ true → Open c s (suc n) → ⊥
no_more c {s} f (Open.later t h d) = finished_still c s f t h

-- nothing spent, nothing left out
pub unspent : (c : Case) (P : State → ℕ → Type 0) (n : ℕ) (s : State) → Else c fresh P s n → ⊥
unspent c P zero s o = o
unspent c P (suc n) s o = false≢true o.rests

-- z is of what is spent by now, and t wakes none of it
abbrev pub Calm : State → Step → Spent → Spent → Type 0
Calm s t now z = (a : Key) → z a ≡ true → (now a ≡ true) × (wakes s t a ≡ false)

-- what a search finds, X, against the runs P

module _ (c : Case) (P : State → ℕ → Type 0) where
  -- the runs from s that begin with t are done with
  abbrev pub Tried : Spent → State → ℕ → Type 0 → Step → Type 0
  Tried sp s n X t = P (after c s t) n → X ⊎ Through c sp (λ x. P x n) s

  -- those that begin with a step of `now` are done with
  abbrev pub Covers : Spent → State → ℕ → Type 0 → Spent → Type 0
  Covers sp s n X now = (a : Key) → now a ≡ true → step_code c s (step_by s a) ≡ 0 → Tried sp s n X (step_by s a)

module _ (c : Case) (P : State → ℕ → Type 0) (L : Runs c P) (s : State) (n : ℕ) (sp : Spent) (X : Type 0) where
  pub covers_start : Covers c P sp s n X sp
  covers_start a h f p = inr (record { key = a; rests = h; fits = f; then' = p })

  -- the branch of t, with z of what is spent by now, and nothing that t wakes
  pub tried_branch : Known c s → (now : Spent) → Rested c s now → Covers c P sp s n X now → (t : Step) → step_code c s t ≡ 0 → (z : Spent)
      → Calm s t now z → (P (after c s t) n → X ⊎ Else c z P (after c s t) n) → Tried c P sp s n X t
  tried_branch K now R C t h z N f p =
      ⊎_elim (λ x. inl x)
      (λ o. let b = to_front c s K.reached.good K.firm t h z (λ a x. R a (N a x).0) (λ a x. (N a x).1) P (λ x m. L.later x t m) L.alike n o in C b.key (N b.key b.rests).0 b.fits b.then')
      (f p)
