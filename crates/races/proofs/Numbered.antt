-- The issues of a schedule number its actions: program order by the schedule is that of the state. Assumes nothing.
use mathlib.Core.Path.{◌≡◌, sym, ◌∙◌, ap}
use mathlib.Core.List.{List, ◌∷◌}
use Prim.Native.Nat.{ℕ, zero, suc, ◌+◌, ◌<◌}
use native.Mathlib.Omega.{arith}
use lib.ListN.{length, get_or}
use Rattle.cases.specs.declared.Case.{Case}
use Rattle.runs.proofs.Walk.{Walk, stop, go}
use Rattle.rules.specs.State.{Action}
use Rattle.rules.specs.Step.{Step, issue, commit, neither, step_code}
use Rattle.rules.proofs.Accepted.{neither_no}
use Rattle.rules.proofs.Actions.{issued_new, issued_count, committed_count}
use Rattle.oneorder.specs.OneOrder.{OneState, view, issued_one, committed_one, initial_one, after_one, womm_one}
use Rattle.races.specs.Happens.{issuers, InProgram}
use Rattle.races.proofs.Grows.{Grows, grows}

abbrev pub owner : OneState → ℕ → ℕ
owner s j = (s.actions j).proc

record Numbered (s : OneState) (ps : List ℕ) (e : OneState) : Type 0 where
  count : e.count ≡ s.count + length ps
  owners : (i : ℕ) → i < length ps → owner e (s.count + i) ≡ get_or ps i 0

numbered_issue : (c : Case) (s e : OneState) (p : ℕ) (ps : List ℕ) → Grows (issued_one c s p) e → Numbered (issued_one c s p) ps e → Numbered s (p ∷ ps) e
unfolding issued_one
numbered_issue c s e p ps g n = record { count = omega (arith, n.count, more); owners = at }
  where
    more : (issued_one c s p).count ≡ suc s.count
    more = issued_count c (view c s) p

    new : owner e s.count ≡ p
    new = ap (λ (a : Action). a.proc) (g.same s.count (omega (arith, more))) ∙ ap (λ (a : Action). a.proc) (issued_new c (view c s) p)

    at : (j : ℕ) → j < suc (length ps) → owner e (s.count + j) ≡ get_or (p ∷ ps) j 0
    at zero l = ap (owner e) (omega arith) ∙ new
    at (suc j) l = ap (owner e) (omega (arith, more)) ∙ n.owners j (omega arith)

numbered_commit : (c : Case) (s e : OneState) (p k i : ℕ) (ps : List ℕ) → Numbered (committed_one c s p k i) ps e → Numbered s ps e
unfolding committed_one
numbered_commit c s e p k i ps n =
    let same = committed_count c (view c s) p k i in
    record { count = omega (arith, n.count, same); owners = λ j l. ap (λ (x : ℕ). owner e (x + j)) (sym same) ∙ n.owners j l }

numbered_step : (c : Case) (s e : OneState) (t : Step) (ts : List Step) → step_code c (view c s) t ≡ 0 → Grows (after_one c s t) e → Numbered (after_one c s t) (issuers ts) e → Numbered s (issuers (t ∷ ts)) e
unfolding after_one
numbered_step c s e (issue p) ts h g n = numbered_issue c s e p (issuers ts) g n
numbered_step c s e (commit p k i) ts h g n = numbered_commit c s e p k i (issuers ts) n
numbered_step c s e neither ts h g n = absurd (neither_no c (view c s) h)

numbered : (c : Case) {s e : OneState} {ts : List Step} → Walk (womm_one c) s ts e → Numbered s (issuers ts) e
numbered c {s} (stop h) = record { count = omega (arith, ap (λ (x : OneState). x.count) h); owners = λ i l. absurd (omega arith) }
numbered c {s} {e} (go {t = t} {ts = ts} h w) = numbered_step c s e t ts h (grows c w) (numbered c w)

-- j and k are actions of one processor, j the earlier one
pub record Po (s : OneState) (j k : ℕ) : Type 0 where
  pub first : j < k
  pub there : k < s.count
  pub same : owner s j ≡ owner s k

module _ (c : Case) (e : OneState) (ts : List Step) (w : Walk (womm_one c) (initial_one c) ts e) where
  owner_at : (k : ℕ) → k < length (issuers ts) → owner e k ≡ get_or (issuers ts) k 0
  owner_at k h = ap (owner e) (omega arith) ∙ (numbered c w).owners k h

  pub po_program : (j k : ℕ) → Po e j k → InProgram ts j k
  po_program j k p =
      let there : k < length (issuers ts) = omega (arith, p.there, (numbered c w).count) in
      record { first = p.first; there = there; same = sym (owner_at j (omega (arith, p.first))) ∙ p.same ∙ owner_at k there }

  pub program_po : (j k : ℕ) → InProgram ts j k → Po e j k
  program_po j k p =
      record {
        first = p.first;
        there = omega (arith, p.there, (numbered c w).count);
        same = owner_at j (omega (arith, p.first, p.there)) ∙ p.same ∙ sym (owner_at k p.there);
      }
