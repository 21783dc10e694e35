-- The lowest schedule, step by step: at the end there is nothing to take; else the lowest step after which a wanted outcome can still be
-- reached, and the lowest schedule from there. Assumes nothing; a finished state accepts no step, and no two steps have the same bytes, w each.
use mathlib.Core.Path.{◌≡◌, refl, sym, ◌∙◌, ap, subst}
use mathlib.Core.Logic.{◌⊎◌, inl, inr, ⊎_elim}
use mathlib.Core.Bool.{Bool, true, false, false≢true}
use mathlib.Core.List.{List, [], ◌∷◌, ◌++◌}
use Prim.Native.Nat.{ℕ, zero, suc, ◌≤◌}
use native.Mathlib.Omega.{arith}
use lib.ListN.{length}
use Rattle.words.specs.Small.{concat_map}
use Rattle.words.proofs.Bools.{decide}
use Rattle.runs.specs.Model.{Model}
use Rattle.runs.specs.Listing.{below}
use Rattle.runs.specs.Wanted.{Wish, WantedFrom, Reaches, LowestFrom}
use Rattle.runs.proofs.Walk.{Walk, stop, go, walk, leads}
use Rattle.runs.proofs.ByteOrder.{below_total, below_first}
use Rattle.runs.proofs.Stable.{Still}

module _ (m : Model) (W : Wish) where
  pub wanted_reaches : {s : m.State} {n : ℕ} → WantedFrom m W s n → (ts : List m.Step) × Reaches m W s n ts
  wanted_reaches h =
      let o = h.outcome in
      (o.schedule, record { end = o.end; short = o.short; leads = o.leads; done = o.done; meets = ap W o.gives ∙ h.meets })

  pub reaches_wanted : {s : m.State} {n : ℕ} {ts : List m.Step} → Reaches m W s n ts → WantedFrom m W s n
  reaches_wanted {s} {n} {ts} r =
      record { registers = m.registers r.end; outcome = record { schedule = ts; end = r.end; short = r.short; leads = r.leads; done = r.done; gives = refl }; meets = r.meets }

  -- the parts of a schedule that reaches

  pub reaches_none : {s : m.State} {n : ℕ} → Reaches m W s n [] → (m.finished s ≡ true) × (W (m.registers s) ≡ true)
  reaches_none {s} r = step (walk m [] s r.end r.leads)
    where
      step : Walk m s [] r.end → (m.finished s ≡ true) × (W (m.registers s) ≡ true)
      step (stop e) = (ap m.finished e ∙ r.done, ap (λ (x : m.State). W (m.registers x)) e ∙ r.meets)

  -- the first step and the rest
  pub record Parts (s : m.State) (n : ℕ) (t : m.Step) (ts : List m.Step) : Type 0 where
    pub fits : m.code s t ≡ 0
    pub room : n ≡ 0 → ⊥
    pub rest : (k : ℕ) → n ≡ suc k → Reaches m W (m.next s t) k ts

  pub reaches_parts : {s : m.State} {n : ℕ} {t : m.Step} {ts : List m.Step} → Reaches m W s n (t ∷ ts) → Parts s n t ts
  reaches_parts {s} {n} {t} {ts} r = step (walk m (t ∷ ts) s r.end r.leads)
    where
      step : Walk m s (t ∷ ts) r.end → Parts s n t ts
      step (go h w) =
          record {
            fits = h;
            room = λ z. absurd (omega (arith, z, r.short));
            rest = λ k e. record { end = r.end; short = omega (arith, e, r.short); leads = leads m w; done = r.done; meets = r.meets };
          }

  pub reaches_end : (s : m.State) (n : ℕ) → m.finished s ≡ true → W (m.registers s) ≡ true → Reaches m W s n []
  reaches_end s n f w = record { end = s; short = omega arith; leads = leads m (stop refl); done = f; meets = w }

  pub reaches_more : {s : m.State} {n : ℕ} {t : m.Step} {ts : List m.Step} → m.code s t ≡ 0 → Reaches m W (m.next s t) n ts → Reaches m W s (suc n) (t ∷ ts)
  reaches_more {s} {n} {t} {ts} h r =
      record { end = r.end; short = omega (arith, r.short); leads = leads m (go h (walk m ts (m.next s t) r.end r.leads)); done = r.done; meets = r.meets }

-- the bytes of a step
pub record Written (m : Model) (bytes : m.Step → List ℕ) : Type 0 where
  pub wide : ℕ
  pub long : (t : m.Step) → length (bytes t) ≡ wide
  pub alone : (t u : m.Step) → bytes t ≡ bytes u → t ≡ u

module _ (m : Model) (still : Still m) (W : Wish) (bytes : m.Step → List ℕ) where
  -- a finished state takes no step
  pub lowest_end : (s : m.State) (n : ℕ) → m.finished s ≡ true → W (m.registers s) ≡ true → LowestFrom m W bytes s n []
  lowest_end s n f w = record { reaches = reaches_end m W s n f w; least = least }
    where
      least : (us : List m.Step) → Reaches m W s n us → below (concat_map bytes us) [] ≡ false
      least [] r = refl
      least (u ∷ us) r = absurd (still s u f (reaches_parts m W r).fits)

  -- no schedule that begins with a lower step reaches
  abbrev pub Barred : m.State → ℕ → m.Step → Type 0
  Barred s n t = (u : m.Step) → m.code s u ≡ 0 → below (bytes u) (bytes t) ≡ true → WantedFrom m W (m.next s u) n → ⊥

  pub lowest_step : Written m bytes → (s : m.State) (n : ℕ) (t : m.Step) (ts : List m.Step) → m.finished s ≡ false → m.code s t ≡ 0 → Barred s n t
      → LowestFrom m W bytes (m.next s t) n ts → LowestFrom m W bytes s (suc n) (t ∷ ts)
  lowest_step B s n t ts f h bar L = record { reaches = reaches_more m W h L.reaches; least = least }
    where
      lower : (u : m.Step) (us : List m.Step) → Reaches m W s (suc n) (u ∷ us) → (below (bytes u) (bytes t) ≡ true) ⊎ ((bytes u ≡ bytes t) × (below (concat_map bytes us) (concat_map bytes ts) ≡ true)) → ⊥
      lower u us r (inl b) = bar u (reaches_parts m W r).fits b (reaches_wanted m W ((reaches_parts m W r).rest n refl))
      lower u us r (inr b) =
          let e = B.alone u t b.0 in
          let q = subst (λ (x : m.Step). Reaches m W (m.next s x) n us) e ((reaches_parts m W r).rest n refl) in
          false≢true (sym (L.least us q) ∙ b.1)

      least : (us : List m.Step) → Reaches m W s (suc n) us → below (concat_map bytes us) (concat_map bytes (t ∷ ts)) ≡ false
      least [] r = absurd (false≢true (sym f ∙ (reaches_none m W r).0))
      least (u ∷ us) r =
          ⊎_elim (λ b. absurd (lower u us r (below_first (bytes u) (bytes t) (concat_map bytes us) (concat_map bytes ts) (B.long u ∙ sym (B.long t)) b))) (λ b. b)
          (decide (below (concat_map bytes (u ∷ us)) (concat_map bytes (t ∷ ts))))

-- ONE ONLY
pub lowest_unique : (m : Model) (W : Wish) (bytes : m.Step → List ℕ) (s : m.State) (n : ℕ) (ts us : List m.Step) → LowestFrom m W bytes s n ts → LowestFrom m W bytes s n us
    → concat_map bytes ts ≡ concat_map bytes us
lowest_unique m W bytes s n ts us x y = below_total (concat_map bytes ts) (concat_map bytes us) (y.least ts x.reaches) (x.least us y.reaches)
