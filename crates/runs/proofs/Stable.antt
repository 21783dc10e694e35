-- Not refused and not marked, a list is the same for every larger bound. Assumes nothing; the model's finished states accept no step.
use mathlib.Core.Path.{◌≡◌, refl, sym, ◌∙◌, ap}
use mathlib.Core.Logic.{◌⊎◌, inl, inr, ⊎_elim}
use mathlib.Core.Bool.{true, false, false≢true}
use mathlib.Core.List.{List, [], ◌∷◌}
use Prim.Native.Nat.{ℕ, zero, suc, ◌≤◌, ◌<◌, ◌/◌}
use native.Mathlib.Omega.{arith}
use lib.Dec.{leb}
use lib.ListN.{length}
use borrow.Author.Tests.{leb-true, leb-false}
use Rattle.words.proofs.Bools.{decide}
use Rattle.runs.specs.Model.{Model}
use Rattle.runs.specs.Outcome.{Outcome, Cut, CutFrom}
use Rattle.runs.specs.Listing.{RecordsOf, Listed, AcceptedOf, IsListing}
use Rattle.runs.proofs.Walk.{Walk, stop, go, walk, leads}
use Rattle.runs.proofs.Unique.{listing_unique}

-- a finished state accepts no step
abbrev pub Still : Model → Type 0
Still m = (s : m.State) (t : m.Step) → m.finished s ≡ true → m.code s t ≡ 0 → ⊥

module _ (m : Model) where
  pub cut_here : (s : m.State) → m.finished s ≡ false → CutFrom m s 0
  cut_here s f = record { schedule = []; end = s; exact = refl; leads = leads m (stop refl); undone = f }

  pub cut_later : (s : m.State) (t : m.Step) (n : ℕ) → m.code s t ≡ 0 → CutFrom m (m.next s t) n → CutFrom m s (suc n)
  cut_later s t n h k =
      record {
        schedule = t ∷ k.schedule;
        end = k.end;
        exact = ap suc k.exact;
        leads = leads m (go h (walk m k.schedule (m.next s t) k.end k.leads));
        undone = k.undone;
      }

module _ (m : Model) (still : Still m) where
  -- a run of at least n steps stands unfinished after n of them, or has n steps and is finished
  pub prefix : (n : ℕ) {s e : m.State} {ts : List m.Step} → Walk m s ts e → n ≤ length ts → CutFrom m s n ⊎ ((length ts ≡ n) × (m.finished e ≡ true))
  prefix zero {s} {e} (stop h) g = ⊎_elim (λ f. inr (refl, ap m.finished (sym h) ∙ f)) (λ f. inl (cut_here m s f)) (decide (m.finished s))
  prefix zero {s} {e} (go {t = t} h w) g = ⊎_elim (λ f. absurd (still s t f h)) (λ f. inl (cut_here m s f)) (decide (m.finished s))
  prefix (suc n) (stop h) g = absurd (omega arith)
  prefix (suc n) {s} {e} (go {t = t} h w) g = ⊎_elim (λ k. inl (cut_later m s t n h k)) (λ k. inr (ap suc k.0, k.1)) (prefix n w (omega arith))

  module _ (n k : ℕ) (le : n ≤ k) where
    pub outcome_more : (r : List ℕ) → Outcome m n r → Outcome m k r
    outcome_more r o = record { schedule = o.schedule; end = o.end; short = omega (arith, o.short); leads = o.leads; done = o.done; gives = o.gives }

    module _ (uncut : Cut m n → ⊥) where
      pub outcome_same : (r : List ℕ) → Outcome m k r → Outcome m n r
      outcome_same r o = ⊎_elim long short (decide (leb n (length o.schedule)))
        where
          keep : length o.schedule ≤ n → Outcome m n r
          keep h = record { schedule = o.schedule; end = o.end; short = h; leads = o.leads; done = o.done; gives = o.gives }

          long : leb n (length o.schedule) ≡ true → Outcome m n r
          long h = ⊎_elim (λ d. absurd (uncut d)) (λ d. keep (omega (arith, d.0))) (prefix n (walk m o.schedule m.initial o.end o.leads) (leb-true n (length o.schedule) h))

          short : leb n (length o.schedule) ≡ false → Outcome m n r
          short h = keep (omega (arith, leb-false n (length o.schedule) h))

      pub uncut_more : Cut m k → ⊥
      uncut_more d = ⊎_elim uncut (λ f. false≢true (sym d.undone ∙ f.1)) (prefix n (walk m d.schedule m.initial d.end d.leads) (omega (arith, d.exact)))

      pub records_same : (rs : List (List ℕ)) → RecordsOf (Outcome m n) rs → RecordsOf (Outcome m k) rs
      records_same rs x = record { sorted = x.sorted; members = λ r. (λ d. outcome_more r ((x.members r).0 d), λ o. (x.members r).1 (outcome_same r o)) }

  module _ (n k size : ℕ) (a : Listed) (out : List ℕ) (le : n ≤ k) (ok : a.code ≡ 0) (unmarked : a.cut ≡ false) (x : IsListing m n size a out) where
    room : size / 96 < length x.records → ⊥
    room g = omega (arith, (x.full g).code)

    uncut : Cut m n → ⊥
    uncut d = ⊎_elim (λ g. false≢true (sym unmarked ∙ (x.fits (leb-true _ _ g)).cut.1 d)) (λ g. room (leb-false _ _ g)) (decide (leb (length x.records) (size / 96)))

    pub listing_same : IsListing m k size a out
    listing_same = record { records = x.records; right = records_same n k le uncut x.records x.right; fits = fits; full = λ g. absurd (room g) }
      where
        fits : length x.records ≤ size / 96 → AcceptedOf (Cut m k) size x.records a out
        fits g =
            let q = x.fits g in
            record { code = q.code; count = q.count; cut = (λ e. absurd (false≢true (sym unmarked ∙ e)), λ d. absurd (uncut_more n k le uncut d)); bytes = q.bytes }

    -- so any answer for the larger bound is this one
    pub listing_kept : (b : Listed) (buf : List ℕ) → IsListing m k size b buf → (a ≡ b) × (out ≡ buf)
    listing_kept b buf y = listing_unique m k size a b out buf listing_same y
