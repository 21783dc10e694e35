use Rattle.std.proofs.Common.{◌≡◌, ℕ, drop, rules, tests}
use Rattle.std.proofs.lemmas.List.{take_rest}
use Rattle.std.proofs.lemmas.Iterator.{IsFirst-from_position, YieldsList-from_slice}
use mathlib.Core.Path.{◌∙◌}
use Rattle.scanning.proofs.Scanning.{found_end, found_ahead}
use Rattle.scanning.proofs.finding.find.Goals as goal

pub returns-in_err-ahead-clause-found : goal.returns-in_err-ahead-clause-found
returns-in_err-ahead-clause-found c =
    let a = c.args in
    rw c.from_residual.ensures (found_end a.byte a.bytes.now a.from c.requires (IsFirst-from_position _ _ _ (λ (x : ℕ). x ≡ a.byte) (λ (x : ℕ). x ≡ a.byte → ⊥) c.in_err-ahead.ensures.ran (YieldsList-from_slice (drop a.from a.bytes.now) (c.iter.ensures.rest ∙ take_rest a.bytes.now a.from)) (λ x q k. search (rules, tests)) (λ x q k. search (rules, tests))))

pub returns-clause-found : goal.returns-clause-found
returns-clause-found c =
    let a = c.args in
    found_ahead a.byte a.bytes.now a.from _ (IsFirst-from_position _ _ _ (λ (x : ℕ). x ≡ a.byte) (λ (x : ℕ). x ≡ a.byte → ⊥) c.in_ok-ahead.ensures.ran (YieldsList-from_slice (drop a.from a.bytes.now) (c.iter.ensures.rest ∙ take_rest a.bytes.now a.from)) (λ x q k. search (rules, tests)) (λ x q k. search (rules, tests)))
