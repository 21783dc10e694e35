-- A search may take a sure step alone. Assumes the laws of sure steps (`Laws`), which other files prove.
use mathlib.Core.Path.{◌≡◌, refl, sym, ◌∙◌, ap, subst}
use mathlib.Core.Logic.{◌⊎◌, ⊎_elim}
use mathlib.Core.Bool.{true, false, false≢true}
use mathlib.Core.List.{List, [], ◌∷◌}
use Prim.Native.Nat.{ℕ, zero, suc, ◌≤◌}
use native.Mathlib.Omega.{arith}
use lib.ListN.{length}
use Rattle.words.proofs.Bools.{decide}
use Rattle.cases.specs.declared.Case.{Case}
use Rattle.runs.specs.Outcome.{OutcomeFrom, CutFrom}
use Rattle.runs.proofs.Walk.{stop, go, walk, Walk, leads}
use Rattle.rules.specs.Result.{registers, finished}
use Rattle.rules.specs.State.{State}
use Rattle.rules.specs.Step.{after, step_code, Step}
use Rattle.rules.specs.Womm.{womm}
use Rattle.rules.proofs.Accepted.{finished_still}
use Rattle.sure.specs.Told.{Open, Done}

module _ (c : Case) where
  pub done_from : (n : ℕ) {s : State} {r : List ℕ} → Done c s n r → OutcomeFrom (womm c) s n r
  done_from n {s} (Done.now f g) = record { schedule = []; end = s; short = omega arith; leads = leads (womm c) (stop refl); done = f; gives = g }
  done_from n {s} (Done.later {n = m} t h d) =
      let o = done_from m d in
      record { schedule = t ∷ o.schedule; end = o.end; short = omega (arith, o.short); leads = leads (womm c) (go h (walk (womm c) o.schedule (after c s t) o.end o.leads)); done = o.done; gives = o.gives }

  done_walk : {s e : State} {ts : List Step} (n : ℕ) (r : List ℕ) → Walk (womm c) s ts e → length ts ≤ n → finished c e ≡ true → registers c e ≡ r
      → Done c s n r
  done_walk n r (stop q) l f g = Done.now (ap (finished c) q ∙ f) (ap (registers c) q ∙ g)
  done_walk zero r (go h w) l f g = absurd (omega arith)
  done_walk (suc n) r (go {t = t} h w) l f g = Done.later t h (done_walk n r w (omega arith) f g)

  pub done_to : (n : ℕ) (s : State) (r : List ℕ) → OutcomeFrom (womm c) s n r → Done c s n r
  done_to n s r o = done_walk n r (walk (womm c) o.schedule s o.end o.leads) o.short o.done o.gives

  pub open_from : {n : ℕ} {s : State} → Open c s n → CutFrom (womm c) s n
  open_from {n} {s} (Open.now f) = record { schedule = []; end = s; exact = refl; leads = leads (womm c) (stop refl); undone = f }
  open_from {n} {s} (Open.later t h d) =
      let o = open_from d in
      record { schedule = t ∷ o.schedule; end = o.end; exact = ap suc o.exact; leads = leads (womm c) (go h (walk (womm c) o.schedule (after c s t) o.end o.leads)); undone = o.undone }

  open_walk : {s e : State} {ts : List Step} → Walk (womm c) s ts e → finished c e ≡ false → Open c s (length ts)
  open_walk (stop q) f = Open.now (ap (finished c) q ∙ f)
  open_walk (go {t = t} h w) f = Open.later t h (open_walk w f)

  pub open_to : (n : ℕ) (s : State) → CutFrom (womm c) s n → Open c s n
  open_to n s k = subst (Open c s) k.exact (open_walk (walk (womm c) k.schedule s k.end k.leads) k.undone)

-- a first step
pub record Next (c : Case) (P : State → ℕ → Type 0) (s : State) (n : ℕ) : Type 0 where
  pub step : Step
  pub fits : step_code c s step ≡ 0
  pub then' : P (after c s step) n

module _ (c : Case) where
  pub done_next : {s : State} {n : ℕ} {r : List ℕ} → finished c s ≡ false → Done c s (suc n) r → Next c (λ x m. Done c x m r) s n
  done_next f (Done.now g e) = absurd (false≢true (sym f ∙ g))
  done_next f (Done.later t h d) = record { step = t; fits = h; then' = d }

  pub open_next : {s : State} {n : ℕ} → finished c s ≡ false → Open c s (suc n) → Next c (Open c) s n
  open_next f (Open.later t h d) = record { step = t; fits = h; then' = d }

  -- where a step is accepted, the state is not finished
  pub unfinished : (s : State) (t : Step) → step_code c s t ≡ 0 → finished c s ≡ false
  unfinished s t h = ⊎_elim (λ f. absurd (finished_still c s f t h)) (λ f. f) (decide (finished c s))

-- `Good n s` is what is known of a state with n steps to go, `Sure s t` that t may be taken alone, `Alike` of two states that nothing tells apart.
module _ (c : Case) (Good : ℕ → State → Type 0) (Sure : State → Step → Type 0) (Alike : State → State → Type 0) where
  -- u, taken at s in place of the sure step t, can be taken after it
  pub record Diamond (s : State) (t u : Step) : Type 0 where
    pub still : Sure (after c s u) t
    pub other : Step
    pub fits : step_code c (after c s t) other ≡ 0
    pub meets : Alike (after c (after c s u) t) (after c (after c s t) other)

  pub record Laws : Type 0 where
    pub kept : (n : ℕ) (s : State) (t : Step) → Good (suc n) s → step_code c s t ≡ 0 → Good n (after c s t)
    pub taken : (s : State) (t : Step) → Sure s t → step_code c s t ≡ 0
    pub diamond : (n : ℕ) (s : State) (t u : Step) → Good (suc (suc n)) s → Sure s t → step_code c s u ≡ 0 → (u ≡ t) ⊎ Diamond s t u
    -- one step to go: neither it nor t in its place is the last
    pub last : (s : State) (t u : Step) → Good 1 s → Sure s t → step_code c s u ≡ 0
        → (u ≡ t) ⊎ ((finished c (after c s u) ≡ false) × (finished c (after c s t) ≡ false))
    pub outcomes : (a b : State) (n : ℕ) (r : List ℕ) → Alike a b → Done c a n r → Done c b n r
    pub cuts : (a b : State) (n : ℕ) → Alike a b → Open c a n → Open c b n

  pub diamond_last : (s : State) (t u : Step) → ((v : State) (w : Step) → Sure v w → step_code c v w ≡ 0) → Diamond s t u
      → (finished c (after c s u) ≡ false) × (finished c (after c s t) ≡ false)
  diamond_last s t u taken d = (unfinished c (after c s u) t (taken (after c s u) t d.still), unfinished c (after c s t) d.other d.fits)

  module _ (law : Laws) where
    pub done_sure : (n : ℕ) (s : State) (t : Step) (r : List ℕ) → Good (suc n) s → Sure s t → Done c s (suc n) r → Done c (after c s t) n r
    done_sure n s t r g q (Done.now f e) = absurd (finished_still c s f t (law.taken s t q))
    done_sure zero s t r g q (Done.later u h d) = ⊎_elim same (λ k. absurd (false≢true (sym k.0 ∙ end d))) (law.last s t u g q h)
      where
        same : u ≡ t → Done c (after c s t) zero r
        same e = subst (λ (v : Step). Done c (after c s v) zero r) e d

        end : Done c (after c s u) zero r → finished c (after c s u) ≡ true
        end (Done.now f e) = f
    done_sure (suc n) s t r g q (Done.later u h d) =
        ⊎_elim same (λ k. move k (done_sure n (after c s u) t r (law.kept (suc n) s u g h) k.still d)) (law.diamond n s t u g q h)
      where
        same : u ≡ t → Done c (after c s t) (suc n) r
        same e = subst (λ (v : Step). Done c (after c s v) (suc n) r) e d

        move : Diamond s t u → Done c (after c (after c s u) t) n r → Done c (after c s t) (suc n) r
        move k x = Done.later k.other k.fits (law.outcomes (after c (after c s u) t) (after c (after c s t) k.other) n r k.meets x)

    pub open_sure : (n : ℕ) (s : State) (t : Step) → Good (suc n) s → Sure s t → Open c s (suc n) → Open c (after c s t) n
    open_sure zero s t g q (Open.later u h d) = ⊎_elim same (λ k. Open.now k.1) (law.last s t u g q h)
      where
        same : u ≡ t → Open c (after c s t) zero
        same e = subst (λ (v : Step). Open c (after c s v) zero) e d
    open_sure (suc n) s t g q (Open.later u h d) =
        ⊎_elim same (λ k. move k (open_sure n (after c s u) t (law.kept (suc n) s u g h) k.still d)) (law.diamond n s t u g q h)
      where
        same : u ≡ t → Open c (after c s t) (suc n)
        same e = subst (λ (v : Step). Open c (after c s v) (suc n)) e d

        move : Diamond s t u → Open c (after c (after c s u) t) n → Open c (after c s t) (suc n)
        move k x = Open.later k.other k.fits (law.cuts (after c (after c s u) t) (after c (after c s t) k.other) n k.meets x)
