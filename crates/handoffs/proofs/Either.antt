-- The lower of two lowest schedules is the lowest for both together. Assumes nothing; every finished run has the same length.
use mathlib.Core.Path.{◌≡◌, refl, sym, ◌∙◌, ap, subst}
use mathlib.Core.Logic.{◌⊎◌, inl, inr, ⊎_elim}
use mathlib.Core.Bool.{Bool, true, false, ◌||◌, ◌&&◌, false≢true}
use mathlib.Core.List.{List, [], ◌∷◌, ◌++◌}
use Prim.Native.Nat.{ℕ, ◌-◌}
use native.Mathlib.Omega.{arith}
use lib.Dec.{eqb, ltb}
use lib.ListN.{length, replicate}
use Rattle.words.proofs.Bools.{decide, or_cases, or_left, or_right, and_both, and_make}
use Rattle.cases.specs.declared.Case.{Case}
use Rattle.runs.specs.Listing.{below}
use Rattle.runs.proofs.ByteOrder.{below_irrefl, below_trans, below_total}
use Rattle.rules.specs.State.{initial}
use Rattle.rules.specs.Step.{Step}
use Rattle.rules.specs.Womm.{womm}
use Rattle.rules.specs.Bytes.{step_bytes, bytes_of}
use Rattle.rules.proofs.Bytes.{bytes_length}
use Rattle.runs.specs.Wanted.{Wish, WantedFrom, Reaches, LowestFrom}
use Rattle.runs.specs.Asking.{Answered, IsAnswer}
use Rattle.runs.proofs.ByteOrder.{below_first}
use Rattle.handoffs.specs.Inner.{Found, IsLow, Level, or_else}

-- what is not below what is not below is not below
pub not-below : (x y z : List ℕ) → below x y ≡ false → below y z ≡ false → below x z ≡ false
not-below x y z h k = ⊎_elim (λ b. absurd (over b)) (λ b. b) (decide (below x z))
  where
    over : below x z ≡ true → ⊥
    over b =
        ⊎_elim (λ d. false≢true (sym k ∙ below_trans y x z d b))
        (λ d. false≢true (sym k ∙ subst (λ (l : List ℕ). below l z ≡ true) (below_total x y h d) b))
        (decide (below y x))

below-front : (a b x y : List ℕ) → length a ≡ length b → below a b ≡ true → below (a ++ x) (b ++ y) ≡ true
below-front [] [] x y l h = absurd (false≢true h)
below-front [] (q ∷ b) x y l h = absurd (omega arith)
below-front (p ∷ a) [] x y l h = absurd (omega arith)
below-front (p ∷ a) (q ∷ b) x y l h = step (below-front a b x y (omega arith)) (or_cases (ltb p q) (eqb p q && below a b) h)
  where
    step : (below a b ≡ true → below (a ++ x) (b ++ y) ≡ true) → (ltb p q ≡ true) ⊎ ((eqb p q && below a b) ≡ true) → (ltb p q || (eqb p q && below (a ++ x) (b ++ y))) ≡ true
    step rest (inl k) = or_left (ltb p q) _ k
    step rest (inr k) = let w = and_both (eqb p q) (below a b) k in or_right (ltb p q) _ (and_make (eqb p q) _ w.0 (rest w.1))

-- padded alike, lists of one length compare alike
pub padded_true : (a b z : List ℕ) → length a ≡ length b → below (a ++ z) (b ++ z) ≡ true → below a b ≡ true
padded_true a b z l h = ⊎_elim (λ k. k) (λ k. absurd (below_irrefl z k.1)) (below_first a b z z l h)

pub padded_false : (a b z : List ℕ) → length a ≡ length b → below (a ++ z) (b ++ z) ≡ false → below a b ≡ false
padded_false a b z l h = ⊎_elim (λ k. absurd (false≢true (sym h ∙ below-front a b z z l k))) (λ k. k) (decide (below a b))

-- below one way, so not the other
pub not_back : (a b : List ℕ) → below a b ≡ true → below b a ≡ false
not_back a b h = ⊎_elim (λ k. absurd (below_irrefl a (below_trans a b a h k))) (λ k. k) (decide (below b a))

module _ (c : Case) (n : ℕ) (U W : Wish) where
  or_reaches : (us : List Step) → Reaches (womm c) (or_else U W) (initial c) n us → Reaches (womm c) U (initial c) n us ⊎ Reaches (womm c) W (initial c) n us
  or_reaches us r =
      ⊎_elim (λ h. inl (record { end = r.end; short = r.short; leads = r.leads; done = r.done; meets = h }))
      (λ h. inr (record { end = r.end; short = r.short; leads = r.leads; done = r.done; meets = h }))
      (or_cases (U ((womm c).registers r.end)) (W ((womm c).registers r.end)) r.meets)

  left_reaches : (us : List Step) → Reaches (womm c) U (initial c) n us → Reaches (womm c) (or_else U W) (initial c) n us
  left_reaches us r = record { end = r.end; short = r.short; leads = r.leads; done = r.done; meets = or_left _ _ r.meets }

  right_reaches : (us : List Step) → Reaches (womm c) W (initial c) n us → Reaches (womm c) (or_else U W) (initial c) n us
  right_reaches us r = record { end = r.end; short = r.short; leads = r.leads; done = r.done; meets = or_right (U _) _ r.meets }

  left-held : WantedFrom (womm c) U (initial c) n → WantedFrom (womm c) (or_else U W) (initial c) n
  left-held h = record { registers = h.registers; outcome = h.outcome; meets = or_left _ _ h.meets }

  right_held : WantedFrom (womm c) W (initial c) n → WantedFrom (womm c) (or_else U W) (initial c) n
  right_held h = record { registers = h.registers; outcome = h.outcome; meets = or_right (U _) _ h.meets }

  or_held : WantedFrom (womm c) (or_else U W) (initial c) n → WantedFrom (womm c) U (initial c) n ⊎ WantedFrom (womm c) W (initial c) n
  or_held h =
      ⊎_elim (λ k. inl (record { registers = h.registers; outcome = h.outcome; meets = k })) (λ k. inr (record { registers = h.registers; outcome = h.outcome; meets = k }))
      (or_cases (U h.registers) (W h.registers) h.meets)

  reaches_wanted : (us : List Step) → Reaches (womm c) W (initial c) n us → WantedFrom (womm c) W (initial c) n
  reaches_wanted us r = record { registers = (womm c).registers r.end; outcome = record { schedule = us; end = r.end; short = r.short; leads = r.leads; done = r.done; gives = refl }; meets = r.meets }

  abbrev LowestOf : Wish → List Step → Type 0
  LowestOf X ts = LowestFrom (womm c) X step_bytes (initial c) n ts

  abbrev NoneBelow : Wish → List Step → Type 0
  NoneBelow X ts = (us : List Step) → Reaches (womm c) X (initial c) n us → below (bytes_of us) (bytes_of ts) ≡ false

  keep_left : (ts : List Step) → LowestOf U ts → NoneBelow W ts → LowestOf (or_else U W) ts
  keep_left ts L k = record { reaches = left_reaches ts L.reaches; least = λ us r. ⊎_elim (λ q. L.least us q) (λ q. k us q) (or_reaches us r) }

  keep_right : (ts : List Step) → LowestOf W ts → NoneBelow U ts → LowestOf (or_else U W) ts
  keep_right ts L k = record { reaches = right_reaches ts L.reaches; least = λ us r. ⊎_elim (λ q. k us q) (λ q. L.least us q) (or_reaches us r) }

  module _ {f : Found} {buf : List ℕ} (low : IsLow c U n f buf) {a : Answered} {other : List ℕ} (ans : IsAnswer (womm c) W step_bytes n 384 a other) where
    -- nothing more is found
    pub kept-none : a.yes ≡ false → IsLow c (or_else U W) n f buf
    kept-none nay =
        record {
          yes = (λ e. left-held (low.yes.0 e), λ h. ⊎_elim (λ k. low.yes.1 k) (λ k. absurd (none k)) (or_held h));
          found = λ e. let L = low.found e in record { schedule = L.schedule; lowest = keep_left L.schedule L.lowest (λ us r. absurd (none (reaches_wanted us r))); whole = L.whole; filled = L.filled };
          missing = low.missing;
        }
      where
        none : WantedFrom (womm c) W (initial c) n → ⊥
        none k = false≢true (sym nay ∙ ans.yes.1 k)

    -- what is found is the first
    pub taken_first : a.yes ≡ true → f.yes ≡ false → IsLow c (or_else U W) n (record { yes = true; length = a.length }) other
    taken_first is nay =
        let F = (ans.found is).laid in
        record {
          yes = (λ _. right_held (ans.yes.0 is), λ _. refl);
          found = λ _. record { schedule = F.schedule; lowest = keep_right F.schedule F.lowest (λ us r. absurd (false≢true (sym nay ∙ low.yes.1 (back us r)))); whole = F.whole; filled = F.filled };
          missing = λ e. absurd (false≢true (sym e));
        }
      where
        back : (us : List Step) → Reaches (womm c) U (initial c) n us → WantedFrom (womm c) U (initial c) n
        back us r = record { registers = (womm c).registers r.end; outcome = record { schedule = us; end = r.end; short = r.short; leads = r.leads; done = r.done; gives = refl }; meets = r.meets }

    module _ (level : Level c n) (is : a.yes ≡ true) (was : f.yes ≡ true) where
      abbrev ts : List Step
      ts = (low.found was).schedule

      abbrev vs : List Step
      vs = (ans.found is).laid.schedule

      one_length : length (bytes_of vs) ≡ length (bytes_of ts)
      one_length =
          omega (
            arith,
            bytes_length (ans.found is).laid.schedule,
            bytes_length (low.found was).schedule,
            level.each W n (ans.found is).laid.schedule (ans.found is).laid.lowest.reaches,
            level.each U n (low.found was).schedule (low.found was).lowest.reaches,
          )

      one_size : a.length ≡ f.length
      one_size = (ans.found is).laid.whole ∙ one_length ∙ sym (low.found was).whole

      -- the two buffers with the same padding
      same_test : below other buf ≡ below (bytes_of vs ++ replicate (384 - f.length) 0) (bytes_of ts ++ replicate (384 - f.length) 0)
      same_test = λ i. below (((ans.found is).laid.filled ∙ ap (λ (k : ℕ). bytes_of vs ++ replicate (384 - k) 0) one_size) i) ((low.found was).filled i)

      pub kept_lower : below other buf ≡ false → IsLow c (or_else U W) n f buf
      kept_lower nay =
          let L = low.found was in
          let F = (ans.found is).laid in
          let under = padded_false (bytes_of vs) (bytes_of ts) (replicate (384 - f.length) 0) one_length (sym same_test ∙ nay) in
          record {
            yes = (λ e. left-held (low.yes.0 e), λ _. was);
            found = λ _. record { schedule = L.schedule; lowest = keep_left L.schedule L.lowest (λ us r. not-below (bytes_of us) (bytes_of vs) (bytes_of ts) (F.lowest.least us r) under); whole = L.whole; filled = L.filled };
            missing = low.missing;
          }

      pub taken_lower : below other buf ≡ true → IsLow c (or_else U W) n (record { yes = true; length = a.length }) other
      taken_lower so =
          let L = low.found was in
          let F = (ans.found is).laid in
          let under = not_back (bytes_of vs) (bytes_of ts) (padded_true (bytes_of vs) (bytes_of ts) (replicate (384 - f.length) 0) one_length (sym same_test ∙ so)) in
          record {
            yes = (λ _. right_held (ans.yes.0 is), λ _. refl);
            found = λ _. record { schedule = F.schedule; lowest = keep_right F.schedule F.lowest (λ us r. not-below (bytes_of us) (bytes_of ts) (bytes_of vs) (L.lowest.least us r) under); whole = F.whole; filled = F.filled };
            missing = λ e. absurd (false≢true (sym e));
          }

-- the same outcomes are wanted
pub low_same : (c : Case) (n : ℕ) (U W : Wish) → ((o : List ℕ) → U o ≡ W o) → {f : Found} {buf : List ℕ} → IsLow c U n f buf → IsLow c W n f buf
low_same c n U W e {f} {buf} low = subst (λ (X : List ℕ → Bool). IsLow c X n f buf) (λ i o. e o i) low
