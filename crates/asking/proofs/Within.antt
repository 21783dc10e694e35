-- A list with no room for a record says whether there is one. Assumes nothing.
use mathlib.Core.Path.{◌≡◌, refl, sym, ◌∙◌, subst}
use mathlib.Core.Logic.{⊎_elim, ◌↔◌}
use mathlib.Core.Bool.{Bool, true, false, false≢true}
use mathlib.Core.List.Memᴰ
use mathlib.Core.List.{List, [], ◌∷◌, Memᴰ}
use Prim.Native.Nat.{ℕ, ◌/◌, ◌<◌, ◌≤◌}
use native.Mathlib.Omega.{arith}
use lib.ListN.{length, replicate}
use Rattle.words.proofs.Bools.{decide}
use Rattle.cases.specs.declared.Case.{Case}
use Rattle.clauses.specs.declared.Asked.{Asked}
use Rattle.runs.specs.Outcome.{CutFrom}
use Rattle.runs.specs.Wanted.{Wish}
use Rattle.rules.specs.State.{State}
use Rattle.rules.specs.Womm.{womm}
use Rattle.sure.proofs.Reduce.{done_from}
use Rattle.sure.proofs.Sweep.{told_outcomes, told_cut}
use Rattle.machine.specs.declared.Machine.{Machine}
use Rattle.records.specs.Buffer.{records_in, Among}
use Rattle.records.specs.Growth.{MoreThan}
use Rattle.records.proofs.Closing.{filled_size, filled_more}
use Rattle.spending.specs.Words.{spent_by}
use Rattle.searching.specs.declared.Tally.{Tally}
use Rattle.searching.specs.Ready.{Ready}
use Rattle.searching.specs.Searched.{Tells, Searched}
use Rattle.searching.proofs.Starts.{empty, ready_start, tells_nothing, told_fresh}
use Rattle.asking.specs.Inner.{Standing, InReach, ReachOf}

pub ready_ask : {c : Case} {program : List ℕ} {m : Machine} {n : ℕ} {ahead : Bool} {asked : Asked} → Standing c program m n ahead asked → {zeros : List ℕ} → zeros ≡ replicate 1 0 → Ready c program m 3200 n ahead asked (replicate 50 0) zeros empty
ready_ask S z = ready_start 1 S.coded S.reached S.valid S.forwards S.few S.asks z

-- more than none is one
one_of : {P : List ℕ → Type 0} (k : ℕ) → k ≡ 0 → MoreThan k P → (r : List ℕ) × P r
one_of {P} k z x = first x.some x.pass x.many
  where
    first : (l : List (List ℕ)) → ((r : List ℕ) → Memᴰ r l → P r) → k < length l → (r : List ℕ) × P r
    first [] pass many = absurd (omega (arith, z))
    first (r ∷ rs) pass many = (r, pass r (Memᴰ.head refl))

none_among : (bytes r : List ℕ) (n : ℕ) → n ≡ 0 → Among bytes n r → ⊥
unfolding records_in
none_among bytes r n z h = Memᴰ.not-nil (subst (λ (k : ℕ). Among bytes k r) z h)

module _ (c : Case) (W : Wish) (s : State) (n : ℕ) {zeros : List ℕ} (cleared : zeros ≡ replicate 1 0) {bytes : List ℕ} {z : Tally}
    (D : Searched c W (spent_by (replicate 50 0)) s n zeros empty bytes z) where
  yes : z.full ≡ true → InReach c W s n
  yes e = let x = one_of (1 / 96) (omega arith) (filled_more 1 cleared D.filled e) in record { registers = x.0; outcome = done_from c n x.1.0; meets = x.1.1 }

  no_room : z.full ≡ false → z.count ≡ 0
  no_room e = omega (arith, (D.filled.held e).room, filled_size 1 cleared D.filled)

  no : z.full ≡ false → InReach c W s n → ⊥
  no e h = none_among bytes h.registers z.count (no_room e) ((told_outcomes c W s n (Tells zeros empty) (Tells bytes z) (tells_nothing zeros) (told_fresh D e) h.registers).1 (h.outcome, h.meets))

  pub reach_of : ReachOf c W s n (record { found = z.full; cut = z.cut })
  reach_of =
      record {
        found = (yes, λ h. ⊎_elim (λ e. e) (λ e. absurd (no e h)) (decide z.full));
        cut = λ e. told_cut c W s n (Tells zeros empty) (Tells bytes z) (tells_nothing zeros) (told_fresh D e);
      }
