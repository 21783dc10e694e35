-- A plain search over a model, for proofs by computation: sound, and complete where the steps tried cover the model. Assumes nothing.
use mathlib.Core.Path.{◌≡◌, refl, sym, ◌∙◌, ap, subst}
use mathlib.Core.Logic.{◌⊎◌, inl, inr, ⊎_elim, ◌↔◌}
use mathlib.Core.Bool.{Bool, true, false, not, false≢true}
use mathlib.Core.List.Memᴰ
use mathlib.Core.List.{List, [], ◌∷◌, Memᴰ}
use Prim.Native.Nat.{ℕ, zero, suc, ◌≤◌}
use native.Mathlib.Omega.{arith}
use lib.ListN.{length}
use borrow.Author.Tests.{not-true}
use Rattle.words.specs.Small.{any, concat_map}
use Rattle.words.proofs.Bools.{any_cases, any_make}
use Rattle.runs.specs.Model.{Model}
use Rattle.runs.specs.Outcome.{OutcomeFrom, CutFrom, Outcome, Cut}
use Rattle.runs.proofs.Walk.{Walk, stop, go, walk, leads}
use Rattle.runs.proofs.Stable.{cut_here, cut_later}

module _ {A B : Type 0} (f : A → List B) where
  pub concat_map_make : {x : A} {y : B} {l : List A} → Memᴰ x l → Memᴰ y (f x) → Memᴰ y (concat_map f l)
  concat_map_make {y = y} (Memᴰ.head {xs = zs} e) k = Memᴰ.append_left (concat_map f zs) (subst (λ (z : A). Memᴰ y (f z)) e k)
  concat_map_make (Memᴰ.tail {x = z} d) k = Memᴰ.append_right (f z) (concat_map_make d k)

  pub concat_map_cases : (l : List A) {y : B} → Memᴰ y (concat_map f l) → (x : A) × Memᴰ x l × Memᴰ y (f x)
  concat_map_cases [] k = absurd (Memᴰ.not-nil k)
  concat_map_cases (x ∷ xs) {y} k = step (λ d. concat_map_cases xs d) (Memᴰ.append_cases (f x) k)
    where
      step : (Memᴰ y (concat_map f xs) → (z : A) × Memᴰ z xs × Memᴰ y (f z)) → Memᴰ y (f x) ⊎ Memᴰ y (concat_map f xs) → (z : A) × Memᴰ z (x ∷ xs) × Memᴰ y (f z)
      step more (inl d) = (x, Memᴰ.head refl, d)
      step more (inr d) = let r = more d in (r.0, Memᴰ.tail r.1, r.2)

-- what the states after it leave, and the registers of a state that is finished
abbrev pub found : Bool → List ℕ → List (List ℕ) → List (List ℕ)
found true r more = r ∷ more
found false r more = more

found_cases : (f : Bool) {r q : List ℕ} {more : List (List ℕ)} → Memᴰ r (found f q more) → ((f ≡ true) × (r ≡ q)) ⊎ Memᴰ r more
found_cases true k = ⊎_elim (λ e. inl (refl, e)) (λ d. inr d) (Memᴰ.cases_cons k)
found_cases false k = inr k

found_done : (f : Bool) {q : List ℕ} (more : List (List ℕ)) → f ≡ true → Memᴰ q (found f q more)
found_done true more h = Memᴰ.head refl
found_done false more h = absurd (false≢true h)

found_more : (f : Bool) (q : List ℕ) {r : List ℕ} {more : List (List ℕ)} → Memᴰ r more → Memᴰ r (found f q more)
found_more true q k = Memᴰ.tail k
found_more false q k = k

-- what follows a step with code n
abbrev pub kept : {A : Type 0} → ℕ → List A → List A
kept zero l = l
kept (suc n) l = []

kept_cases : {A : Type 0} (n : ℕ) {x : A} {l : List A} → Memᴰ x (kept n l) → (n ≡ 0) × Memᴰ x l
kept_cases zero k = (refl, k)
kept_cases (suc n) k = absurd (Memᴰ.not-nil k)

kept_make : {A : Type 0} (n : ℕ) {x : A} {l : List A} → n ≡ 0 → Memᴰ x l → Memᴰ x (kept n l)
kept_make zero h k = k
kept_make (suc n) h k = absurd (omega arith)

abbrev pub when : ℕ → Bool → Bool
when zero b = b
when (suc n) b = false

when_cases : (n : ℕ) {b : Bool} → when n b ≡ true → (n ≡ 0) × (b ≡ true)
when_cases zero h = (refl, h)
when_cases (suc n) h = absurd (false≢true h)

when_make : (n : ℕ) {b : Bool} → n ≡ 0 → b ≡ true → when n b ≡ true
when_make zero h k = k
when_make (suc n) h k = absurd (omega arith)

-- the outcomes of at most n steps from a state
unfoldable pub search : (m : Model) → (m.State → List m.Step) → ℕ → m.State → List (List ℕ)
search m steps zero s = found (m.finished s) (m.registers s) []
search m steps (suc n) s =
    let more = concat_map (λ t. let l = search m steps n (m.next s t) in kept (m.code s t) l) (steps s) in
    found (m.finished s) (m.registers s) more

-- a run of n steps from a state ends unfinished
unfoldable pub cuts : (m : Model) → (m.State → List m.Step) → ℕ → m.State → Bool
cuts m steps zero s = not (m.finished s)
cuts m steps (suc n) s = any (λ t. let b = cuts m steps n (m.next s t) in when (m.code s t) b) (steps s)

-- the steps tried in a state that a run can come to are all that it accepts
pub record Covers (m : Model) (steps : m.State → List m.Step) : Type 1 where
  pub Known : m.State → Type 0
  pub start : Known m.initial
  pub keeps : (s : m.State) (t : m.Step) → m.code s t ≡ 0 → Known s → Known (m.next s t)
  pub complete : (s : m.State) (t : m.Step) → m.code s t ≡ 0 → Known s → Memᴰ t (steps s)

module _ (m : Model) (steps : m.State → List m.Step) where
  follow : m.State → ℕ → m.Step → List (List ℕ)
  follow s n t = kept (m.code s t) (search m steps n (m.next s t))

  cut_follow : m.State → ℕ → m.Step → Bool
  cut_follow s n t = when (m.code s t) (cuts m steps n (m.next s t))

  here : (s : m.State) (n : ℕ) (r : List ℕ) → m.finished s ≡ true → r ≡ m.registers s → OutcomeFrom m s n r
  here s n r f e = record { schedule = []; end = s; short = omega arith; leads = leads m (stop refl); done = f; gives = sym e }

  one_more : (s : m.State) (t : m.Step) (n : ℕ) (r : List ℕ) → m.code s t ≡ 0 → OutcomeFrom m (m.next s t) n r → OutcomeFrom m s (suc n) r
  one_more s t n r h o =
      record {
        schedule = t ∷ o.schedule;
        end = o.end;
        short = omega (arith, o.short);
        leads = leads m (go h (walk m o.schedule (m.next s t) o.end o.leads));
        done = o.done;
        gives = o.gives;
      }

  pub sound : (n : ℕ) (s : m.State) (r : List ℕ) → Memᴰ r (search m steps n s) → OutcomeFrom m s n r
  unfolding search follow
  sound zero s r k = ⊎_elim (λ d. here s 0 r d.0 d.1) (λ d. absurd (Memᴰ.not-nil d)) (found_cases (m.finished s) k)
  sound (suc n) s r k =
      ⊎_elim (λ d. here s (suc n) r d.0 d.1)
      (λ d.
      let w = concat_map_cases (follow s n) (steps s) d in
      let z = kept_cases (m.code s w.0) w.2 in
      one_more s w.0 n r z.0 (sound n (m.next s w.0) r z.1))
      (found_cases (m.finished s) k)

  pub cut_sound : (n : ℕ) (s : m.State) → cuts m steps n s ≡ true → CutFrom m s n
  unfolding cuts cut_follow
  cut_sound zero s h = cut_here m s (not-true _ h)
  cut_sound (suc n) s h =
      let w = any_cases (cut_follow s n) (steps s) h in
      let z = when_cases (m.code s w.0) w.2 in
      cut_later m s w.0 n z.0 (cut_sound n (m.next s w.0) z.1)

module _ (m : Model) (steps : m.State → List m.Step) (K : Covers m steps) where
  complete_walk : (n : ℕ) {s e : m.State} {ts : List m.Step} → Walk m s ts e → length ts ≤ n → m.finished e ≡ true → K.Known s → Memᴰ (m.registers e) (search m steps n s)
  unfolding search follow
  complete_walk zero {s} {e} (stop h) g f v = Memᴰ.cast (ap m.registers (sym h)) (found_done (m.finished s) [] (ap m.finished h ∙ f))
  complete_walk zero (go h w) g f v = absurd (omega arith)
  complete_walk (suc n) {s} {e} (stop h) g f v = Memᴰ.cast (ap m.registers (sym h)) (found_done (m.finished s) _ (ap m.finished h ∙ f))
  complete_walk (suc n) {s} {e} (go {t = t} h w) g f v =
      let k = complete_walk n w (omega arith) f (K.keeps s t h v) in
      found_more (m.finished s) (m.registers s) (concat_map_make (follow m steps s n) (K.complete s t h v) (kept_make (m.code s t) h k))

  pub complete : (n : ℕ) (s : m.State) (r : List ℕ) → K.Known s → OutcomeFrom m s n r → Memᴰ r (search m steps n s)
  complete n s r v o = Memᴰ.cast (sym o.gives) (complete_walk n (walk m o.schedule s o.end o.leads) o.short o.done v)

  cut_walk : (n : ℕ) {s e : m.State} {ts : List m.Step} → Walk m s ts e → length ts ≡ n → m.finished e ≡ false → K.Known s → cuts m steps n s ≡ true
  unfolding cuts cut_follow
  cut_walk zero {s} (stop h) g f v = rw (ap m.finished h ∙ f)
  cut_walk zero (go h w) g f v = absurd (omega arith)
  cut_walk (suc n) (stop h) g f v = absurd (omega arith)
  cut_walk (suc n) {s} (go {t = t} h w) g f v = any_make (cut_follow m steps s n) (K.complete s t h v) (when_make (m.code s t) h (cut_walk n w (omega arith) f (K.keeps s t h v)))

  pub cut_complete : (n : ℕ) (s : m.State) → K.Known s → CutFrom m s n → cuts m steps n s ≡ true
  cut_complete n s v k = cut_walk n (walk m k.schedule s k.end k.leads) k.exact k.undone v

  -- from the start: the outcomes and nothing besides, and the cut
  pub search_right : (n : ℕ) (r : List ℕ) → Memᴰ r (search m steps n m.initial) ↔ Outcome m n r
  search_right n r = (sound m steps n m.initial r, complete n m.initial r K.start)

  pub cuts_right : (n : ℕ) → (cuts m steps n m.initial ≡ true) ↔ Cut m n
  cuts_right n = (cut_sound m steps n m.initial, cut_complete n m.initial K.start)
