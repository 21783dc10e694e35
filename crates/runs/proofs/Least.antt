-- The lowest schedule to a wanted outcome, or there is none: over the first steps, one after the other. Assumes nothing; the steps tried
-- cover the model, and a finished state accepts no step.
use mathlib.Core.Path.{◌≡◌, refl, sym, ◌∙◌, subst}
use mathlib.Core.Logic.{◌⊎◌, inl, inr, ⊎_elim}
use mathlib.Core.Bool.{Bool, true, false, false≢true}
use mathlib.Core.List.Memᴰ
use mathlib.Core.List.{List, [], ◌∷◌, Memᴰ}
use Prim.Native.Nat.{ℕ, zero, suc}
use native.Mathlib.Omega.{arith}
use Rattle.words.specs.Small.{concat_map}
use Rattle.words.proofs.Bools.{decide, fails}
use Rattle.runs.specs.Model.{Model}
use Rattle.runs.specs.Listing.{below}
use Rattle.runs.specs.Wanted.{Wish, Reaches, LowestFrom}
use Rattle.runs.proofs.ByteOrder.{below_trans, below_total, below-drop}
use Rattle.runs.proofs.Search.{Covers}
use Rattle.runs.proofs.Stable.{Still}
use Rattle.runs.proofs.Lowest.{reaches_none, reaches_parts, reaches_more, lowest_end}

module _ (m : Model) (still : Still m) (W : Wish) (bytes : m.Step → List ℕ) where
  -- the first schedule is below the second
  abbrev lower : List m.Step → List m.Step → Bool
  lower us ts = below (concat_map bytes us) (concat_map bytes ts)

  -- the lowest schedule from s, or there is none
  abbrev pub Lowest : m.State → ℕ → Type 0
  Lowest s n = ((ts : List m.Step) × LowestFrom m W bytes s n ts) ⊎ ((us : List m.Step) → Reaches m W s n us → ⊥)

  -- a schedule whose first step is in the list
  abbrev pub Among : List m.Step → List m.Step → Type 0
  Among l [] = ⊥
  Among l (t ∷ ts) = Memᴰ t l

  -- none of those with the first step in l that reach is below ts
  abbrev pub Under : m.State → ℕ → List m.Step → List m.Step → Type 0
  Under s n l ts = (us : List m.Step) → Among l us → Reaches m W s n us → lower us ts ≡ false

  -- the lowest of those whose first step is in l, or there is none
  abbrev pub Best : m.State → ℕ → List m.Step → Type 0
  Best s n l = ((ts : List m.Step) × Reaches m W s n ts × Under s n l ts) ⊎ ((us : List m.Step) → Among l us → Reaches m W s n us → ⊥)

  best_none : (s : m.State) (n : ℕ) → Best s n []
  best_none s n = inr none
    where
      none : (us : List m.Step) → Among [] us → Reaches m W s n us → ⊥
      none [] a r = a
      none (u ∷ us) a r = Memᴰ.not-nil a

  module _ (s : m.State) (n : ℕ) (t : m.Step) (l : List m.Step) where
    -- those that begin with t, or with a step of l
    either : (P : List m.Step → Type 0) → ((us : List m.Step) → P (t ∷ us)) → ((us : List m.Step) → Among l us → P us) → (us : List m.Step) → Among (t ∷ l) us → P us
    either P f g [] a = absurd a
    either P f g (u ∷ us) a = ⊎_elim (λ e. subst (λ (x : m.Step). P (x ∷ us)) (sym e) (f us)) (λ d. g (u ∷ us) d) (Memᴰ.cases_cons a)

    -- t is refused, or nothing is reached after it
    pass : ((us : List m.Step) → Reaches m W s (suc n) (t ∷ us) → ⊥) → Best s (suc n) l → Best s (suc n) (t ∷ l)
    pass away (inl (ts, r, least)) = inl (ts, r, either (λ us. Reaches m W s (suc n) us → lower us ts ≡ false) (λ us q. absurd (away us q)) least)
    pass away (inr none) = inr (either (λ us. Reaches m W s (suc n) us → ⊥) away none)

    -- ts is the lowest after t
    module _ (h : m.code s t ≡ 0) (ts : List m.Step) (L : LowestFrom m W bytes (m.next s t) n ts) where
      here : (us : List m.Step) → Reaches m W s (suc n) (t ∷ us) → lower (t ∷ us) (t ∷ ts) ≡ false
      here us q = fails (lower us ts) (lower (t ∷ us) (t ∷ ts)) (below-drop (bytes t) (concat_map bytes us) (concat_map bytes ts)) (L.least us ((reaches_parts m W q).rest n refl))

      mine : Reaches m W s (suc n) (t ∷ ts)
      mine = reaches_more m W h L.reaches

      -- no schedule is below the lower of the two
      first : Best s (suc n) l → Best s (suc n) (t ∷ l)
      first (inr none) = inl (t ∷ ts, mine, either (λ us. Reaches m W s (suc n) us → lower us (t ∷ ts) ≡ false) here (λ us a q. absurd (none us a q)))
      first (inl (us, r, least)) = ⊎_elim before behind (decide (lower us (t ∷ ts)))
        where
          before : lower us (t ∷ ts) ≡ true → Best s (suc n) (t ∷ l)
          before b =
              inl (
                us,
                r,
                either (λ xs. Reaches m W s (suc n) xs → lower xs us ≡ false)
                    (λ xs q. fails (lower (t ∷ xs) (t ∷ ts)) (lower (t ∷ xs) us) (λ z. below_trans (concat_map bytes (t ∷ xs)) (concat_map bytes us) (concat_map bytes (t ∷ ts)) z b) (here xs q))
                    least,
              )

          behind : lower us (t ∷ ts) ≡ false → Best s (suc n) (t ∷ l)
          behind b =
              inl (
                t ∷ ts,
                mine,
                either (λ xs. Reaches m W s (suc n) xs → lower xs (t ∷ ts) ≡ false) here
                    (λ xs a q. ⊎_elim (λ z. absurd (under xs a q z)) (λ z. z) (decide (lower xs (t ∷ ts)))),
              )
            where
              -- xs is not below us, nor us below t ∷ ts
              under : (xs : List m.Step) → Among l xs → Reaches m W s (suc n) xs → lower xs (t ∷ ts) ≡ true → ⊥
              under xs a q z =
                  ⊎_elim (λ d. false≢true (sym b ∙ below_trans (concat_map bytes us) (concat_map bytes xs) (concat_map bytes (t ∷ ts)) d z))
                  (λ d. false≢true (sym b ∙ subst (λ (y : List ℕ). below y (concat_map bytes (t ∷ ts)) ≡ true) (below_total (concat_map bytes xs) (concat_map bytes us) (least xs a q) d) z))
                  (decide (lower us xs))

  -- a finished state
  lowest-finished : (n : ℕ) (s : m.State) → m.finished s ≡ true → Lowest s n
  lowest-finished n s f = ⊎_elim (λ w. inl ([], lowest_end m still W bytes s n f w)) (λ w. inr (none w)) (decide (W (m.registers s)))
    where
      none : W (m.registers s) ≡ false → (us : List m.Step) → Reaches m W s n us → ⊥
      none w [] r = false≢true (sym w ∙ (reaches_none m W r).1)
      none w (u ∷ us) r = still s u f (reaches_parts m W r).fits

  -- an unfinished one with no step to go
  lowest-stuck : (s : m.State) → m.finished s ≡ false → (us : List m.Step) → Reaches m W s 0 us → ⊥
  lowest-stuck s f [] r = false≢true (sym f ∙ (reaches_none m W r).0)
  lowest-stuck s f (u ∷ us) r = (reaches_parts m W r).room refl

  -- the lowest over a list of first steps, from the lowest after each
  best_step : (s : m.State) (n : ℕ) (t : m.Step) (l : List m.Step) → Best s (suc n) l → (m.code s t ≡ 0 → Lowest (m.next s t) n) → (k : ℕ) → m.code s t ≡ k → Best s (suc n) (t ∷ l)
  best_step s n t l more rec zero h = taken (rec h)
    where
      taken : Lowest (m.next s t) n → Best s (suc n) (t ∷ l)
      taken (inl (ts, L)) = first s n t l h ts L more
      taken (inr none) = pass s n t l (λ us q. none us ((reaches_parts m W q).rest n refl)) more
  best_step s n t l more rec (suc k) h = pass s n t l (λ us q. absurd (omega (arith, h, (reaches_parts m W q).fits))) more

  best_of : (s : m.State) (n : ℕ) → ((t : m.Step) → m.code s t ≡ 0 → Lowest (m.next s t) n) → (l : List m.Step) → Best s (suc n) l
  best_of s n rec [] = best_none s (suc n)
  best_of s n rec (t ∷ l) = best_step s n t l (best_of s n rec l) (rec t) (m.code s t) refl

  module _ (steps : m.State → List m.Step) (K : Covers m steps) where
    best_lowest : (s : m.State) (n : ℕ) → m.finished s ≡ false → K.Known s → Best s (suc n) (steps s) → Lowest s (suc n)
    best_lowest s n f v (inl (ts, r, least)) = inl (ts, record { reaches = r; least = each })
      where
        each : (us : List m.Step) → Reaches m W s (suc n) us → lower us ts ≡ false
        each [] q = absurd (false≢true (sym f ∙ (reaches_none m W q).0))
        each (u ∷ us) q = least (u ∷ us) (K.complete s u (reaches_parts m W q).fits v) q
    best_lowest s n f v (inr none) = inr each
      where
        each : (us : List m.Step) → Reaches m W s (suc n) us → ⊥
        each [] q = false≢true (sym f ∙ (reaches_none m W q).0)
        each (u ∷ us) q = none (u ∷ us) (K.complete s u (reaches_parts m W q).fits v) q

    pub lowest_exists : (n : ℕ) (s : m.State) → K.Known s → Lowest s n
    lowest_exists zero s v = ⊎_elim (λ f. lowest-finished 0 s f) (λ f. inr (lowest-stuck s f)) (decide (m.finished s))
    lowest_exists (suc n) s v =
        ⊎_elim (λ f. lowest-finished (suc n) s f) (λ f. best_lowest s n f v (best_of s n (λ t h. lowest_exists n (m.next s t) (K.keeps s t h v)) (steps s))) (decide (m.finished s))
