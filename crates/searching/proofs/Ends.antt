-- The ends of a search, and what each makes of the buffer and the tally. Assumes nothing.
use mathlib.Core.Path.{◌≡◌, refl, sym, ◌∙◌, ap, subst}
use mathlib.Core.Logic.{◌⊎◌, inl, inr}
use mathlib.Core.Bool.{Bool, true, false, true≢false}
use mathlib.Core.List.{List}
use Prim.Native.Nat.{ℕ, ◌≤◌}
use Rattle.cases.specs.declared.Case.{Case}
use Rattle.runs.specs.Reachable.{Reachable}
use Rattle.runs.specs.Wanted.{Wish}
use Rattle.rules.specs.State.{State}
use Rattle.rules.specs.Result.{finished, registers}
use Rattle.rules.specs.Womm.{womm}
use Rattle.sure.specs.Spent.{Spent}
use Rattle.sure.specs.Futile.{leaves}
use Rattle.sure.specs.Told.{Done, Question, outcome, cut, Told}
use Rattle.sure.proofs.Futile.{told-futile}
use Rattle.sure.proofs.Sweep.{told_end, told-bound}
use Rattle.records.specs.Buffer.{Among, Held}
use Rattle.records.specs.Growth.{Grown}
use Rattle.records.specs.Insertion.{Insertion}
use Rattle.records.proofs.Growth.{in_second, filled_none, filled_of}
use Rattle.searching.specs.declared.Tally.{Tally}
use Rattle.searching.specs.Searched.{Holds, Tells, Searched}

-- what one more record tells
module _ (r before : List ℕ) (n : ℕ) (x : Bool) (after : List ℕ) (m : ℕ) (more : (q : List ℕ) → Among after m q → Among before n q ⊎ (q ≡ r)) (all : (q : List ℕ) → Among before n q ⊎ (q ≡ r) → Among after m q) where
  keeps : (q : Question) → Holds before n x q → Holds after m x q
  keeps (outcome y) h = all y (inl h)
  keeps cut h = h

  new : (q : Question) → Holds after m x q → Holds before n x q ⊎ (q ≡ outcome r)
  new (outcome y) h = in_second (λ e. ap outcome e) (more y h)
  new cut h = inl h

module _ (c : Case) (W : Wish) (s : State) (sp : Spent) where
  -- a finished state whose registers are wanted: they are put in
  pub searched_end : (n : ℕ) → finished c s ≡ true → {before : List ℕ} {y : Tally} {bytes : List ℕ} {m : ℕ} {full : Bool} (r : List ℕ) → r ≡ registers c s → W r ≡ true →
      Insertion r before y.count bytes m full → Searched c W sp s n before y bytes (record { count = m; cut = y.cut; full = full })
  searched_end n f {before} {y} {bytes} {m} {full} r e w put =
      record {
        filled = filled_of (λ q. in_second (λ h. (Done.now f (sym (h ∙ e)), ap W h ∙ w))) g.filled;
        told = λ z.
            told_end c W s sp (Tells before y) (Holds bytes m y.cut) (keeps r before y.count y.cut bytes m (λ q. (g.members z q).0) (λ q. (g.members z q).1)) n f
            (λ q h. in_second (λ d. (d ∙ ap outcome e, ap W (sym e) ∙ w)) (new r before y.count y.cut bytes m (λ q. (g.members z q).0) (λ q. (g.members z q).1) q h))
            (λ _. (g.members z (registers c s)).1 (inr (sym e)));
      }
    where
      g : Grown (λ x. x ≡ r) before y.count bytes m full
      g = put.grown

  -- one whose registers are not
  pub searched_unwanted : (n : ℕ) → finished c s ≡ true → {before : List ℕ} {y : Tally} (r : List ℕ) → r ≡ registers c s → W r ≡ false → Held before y.count →
      Searched c W sp s n before y before (record { count = y.count; cut = y.cut; full = false })
  searched_unwanted n f {before} {y} r e w held =
      record {
        filled = filled_none refl held;
        told = λ _. told_end c W s sp (Tells before y) (Tells before y) (λ q h. h) n f (λ q h. inl h) (λ h. absurd (true≢false (sym h ∙ (ap W (sym e) ∙ w))));
      }

  marks : (before : List ℕ) (n : ℕ) (x : Bool) (q : Question) → Holds before n x q → Holds before n true q
  marks before n x (outcome r) h = h
  marks before n x cut h = refl

  marked : (before : List ℕ) (n : ℕ) (x : Bool) (q : Question) → Holds before n true q → Holds before n x q ⊎ (q ≡ cut)
  marked before n x (outcome r) h = inl h
  marked before n x cut h = inr refl

  -- no step to go: the cut mark is set
  pub searched_bound : (n : ℕ) → n ≡ 0 → finished c s ≡ false → {before : List ℕ} {y : Tally} → Held before y.count →
      Searched c W sp s n before y before (record { count = y.count; cut = true; full = false })
  searched_bound n z f {before} {y} held =
      record {
        filled = filled_none refl held;
        told = λ _. subst (λ (k : ℕ). Told c W sp s k (Tells before y) (Holds before y.count true)) (sym z)
            (told-bound c W s sp (Tells before y) (Holds before y.count true) (marks before y.count y.cut) f (marked before y.count y.cut) refl);
      }

  -- no run finishes, and the cut is told or there is none: nothing is added
  pub searched_left : (n : ℕ) → Reachable (womm c) s → s.count ≤ 48 → {before : List ℕ} {y : Tally} → leaves y.cut n s ≡ true → Held before y.count →
      Searched c W sp s n before y before (record { count = y.count; cut = y.cut; full = false })
  searched_left n R few {before} {y} h held =
      record { filled = filled_none refl held; told = λ _. told-futile c W sp s R few n (Tells before y) y.cut (λ x. x) h }
