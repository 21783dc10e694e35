-- The machine of the start shows the initial state. Assumes nothing.
use mathlib.Core.Path.{◌≡◌, refl, sym, ◌∙◌, ap, subst, fun_ext}
use mathlib.Core.Logic.{inr}
use mathlib.Core.Bool.{false, ◌&&◌, cond}
use mathlib.Core.List.{List, [], ◌∷◌}
use mathlib.Core.Option.{none, some}
use Prim.Native.Nat.{ℕ, zero, suc, ◌+◌, ◌*◌, ◌-◌, ◌/◌, ◌%◌, ◌^◌, ◌≤◌, ◌<◌}
use native.Mathlib.Omega.{arith}
use native.Mathlib.Decide.{dec_lt}
use lib.Dec.{eqb, ltb}
use lib.ListN.{get_or, replicate}
use borrow.Author.Tests.{lt-ltb, le-ltb, eqb-true}
use Rattle.words.specs.Small.{counting}
use Rattle.words.proofs.Bools.{and_right}
use Rattle.words.proofs.Sets.{has_zero}
use Rattle.cases.specs.declared.Case.{Case}
use Rattle.cases.specs.Case.{preset_of}
use Rattle.rules.specs.Kinds.{writing}
use Rattle.rules.specs.State.{State, start, unissued, initial, kind_of, waiting}
use Rattle.rules.specs.Commit.{writes}
use Rattle.words.proofs.Lists.{all_below}
use Rattle.runs.specs.Reachable.{Reachable}
use Rattle.runs.proofs.Reachable.{reachable_start}
use Rattle.oneorder.specs.OneOrder.{view, initial_one, womm_one}
use Rattle.oneorder.proofs.OneOrder.{view-initial}
use Rattle.orders.specs.Rows.{order_of, SetOf}
use Rattle.machine.specs.declared.Machine.{Machine}
use Rattle.machine.specs.Shown.{shown_one, shown, names_of, actions_of}
use Rattle.machine.specs.Fit.{Fit}
use Rattle.machine.specs.Kept.{of_kind, queued, Kept}
use Rattle.machine.specs.Valid.{Valid}
use Rattle.machine.proofs.Items.{first_item, no_item, eight}

abbrev numbers : List ℕ
numbers = counting 0 32

number_at : (n : ℕ) → n < 32 → get_or numbers n 0 ≡ n
number_at n h = eqb-true (get_or numbers n 0) n (all_below (λ k. eqb (get_or numbers k 0) k) 32 refl n h)

same_everywhere : (n a i : ℕ) → get_or (replicate n a) i a ≡ a
same_everywhere zero a i = refl
same_everywhere (suc n) a zero = refl
same_everywhere (suc n) a (suc i) = same_everywhere n a i

no_order : (a b : ℕ) → order_of (replicate 56 0) a b ≡ false
unfolding order_of
no_order a b = rw (same_everywhere 56 0 b, has_zero a) (and_right (ltb b 56) false refl)

start_name : (c : Case) (p k : ℕ) → names_of c numbers p k ≡ start (preset_of c p k)
start_name c p k = elim (dec_lt p 4) [ yes h ↦ elim (dec_lt k 8) [ yes q ↦ inside h q | no q ↦ past h (omega arith) ] | no h ↦ absent (omega arith) ]
  where
    inside : p < 4 → k < 8 → names_of c numbers p k ≡ start (preset_of c p k)
    inside h q =
        let u : (8 * p + k) / 8 ≡ p = omega arith in
        let v : (8 * p + k) % 8 ≡ k = omega arith in
        rw (lt-ltb p 4 h, lt-ltb k 8 q, number_at (8 * p + k) (omega arith), lt-ltb (8 * p + k) 32 (omega arith), u, v)

    past : p < 4 → 8 ≤ k → names_of c numbers p k ≡ start (preset_of c p k)
    past h q = rw (lt-ltb p 4 h, le-ltb k 8 q)

    absent : 4 ≤ p → names_of c numbers p k ≡ start (preset_of c p k)
    absent h = rw (le-ltb p 4 h)

no_action : (c : Case) (acts : List ℕ) (k : ℕ) → actions_of c 0 acts k ≡ unissued
no_action c acts k = rw (le-ltb k 0 (omega arith))

-- each location's initial write, no action of any kind and none queued, and the eight items that have their value
abbrev ready : List ℕ
ready = 1 ∷ 2 ∷ 4 ∷ 8 ∷ 16 ∷ 32 ∷ 64 ∷ 128 ∷ 0 ∷ 0 ∷ 0 ∷ 0 ∷ 0 ∷ 0 ∷ 0 ∷ 0 ∷ 0 ∷ 0 ∷ 0 ∷ 0 ∷ 255 ∷ []

first_writes : (l : ℕ) → l < 8 → 2 ^ l ≡ get_or ready l 0
first_writes l h = eqb-true (2 ^ l) (get_or ready l 0) (all_below (λ k. eqb (2 ^ k) (get_or ready k 0)) 8 refl l h)

no_kinds : (q : ℕ) → q < 8 → 0 ≡ get_or ready (8 + q) 0
no_kinds q h = eqb-true 0 (get_or ready (8 + q) 0) (all_below (λ k. eqb 0 (get_or ready (8 + k) 0)) 8 refl q h)

no_queue : (p : ℕ) → p < 4 → 0 ≡ get_or ready (16 + p) 0
no_queue p h = eqb-true 0 (get_or ready (16 + p) 0) (all_below (λ k. eqb 0 (get_or ready (16 + k) 0)) 4 refl p h)

kept_start : (c : Case) → Kept c (initial c) ready
kept_start c =
    let s = initial c in
    record {
      long = refl;
      writes = λ l h. subst (SetOf 8 (writes s l)) (first_writes l h) (first_item (λ a. writing (kind_of a) && eqb a.loc l) s l h);
      kinds = λ q h. subst (SetOf 8 (of_kind s q)) (no_kinds q h) (no_item (λ a. eqb (kind_of a) q) s);
      queues = λ p h. subst (SetOf 8 (queued s p)) (no_queue p h) (no_item (waiting p) s);
      given = λ e. eight e ∙ elim (dec_lt e 8) [ yes h ↦ rw (lt-ltb e 8 h) | no h ↦ rw (le-ltb e 8 (omega arith)) ];
    }

abbrev begun : Machine
begun = record { issued = 0; places = replicate 4 0; names = numbers; holders = replicate 8 0; acts = replicate 48 0; rows = replicate 56 0; sets = ready }

begun_one : (c : Case) → shown_one c begun ≡ initial_one c
begun_one c =
    let a = fun_ext (no_action c (replicate 48 0)) in
    let p = fun_ext (λ (q : ℕ). ap (λ (n : ℕ). cond (eqb n 255) none (some n)) (same_everywhere 4 0 q)) in
    let n = fun_ext (λ (q : ℕ). fun_ext (start_name c q)) in
    let h : (shown_one c begun).holders ≡ (initial_one c).holders = fun_ext (λ (l : ℕ). ap (λ (n : ℕ). cond (eqb n 0) none (some (n - 1))) (same_everywhere 8 0 l)) in
    let o = fun_ext (λ (a : ℕ). fun_ext (no_order a)) in
    λ j. record { count = 0; actions = a j; places = p j; names = n j; holders = h j; order = o j }

pub begun_shows : (c : Case) → shown c begun ≡ initial c
begun_shows c = ap (view c) (begun_one c) ∙ view-initial c

pub begun_valid : (c : Case) → Fit c → Valid c begun
begun_valid c f = record {
  fit = f;
  issued = omega arith;
  acts_long = refl;
  places_long = refl;
  names_long = refl;
  holders_long = refl;
  rows_long = refl;
  places = λ p h. inr (omega (arith, same_everywhere 4 0 p));
  names = λ n h. omega (arith, number_at n h);
  entries = λ k h. absurd (omega arith);
  kept = subst (λ (s : State). Kept c s ready) (sym (begun_shows c)) (kept_start c);
  reached = subst (Reachable (womm_one c)) (sym (begun_one c)) (reachable_start (womm_one c));
}
