use Rattle.std.proofs.Common.{rules, tests}
use Rattle.std.proofs.lemmas.Iterator.Consumers.{nth_from_yields_List}
use Rattle.std.proofs.lemmas.Iterator.Splits.{YieldsList-from_slice_split}
use lib.Dec.{eqb}
use mathlib.Core.Path.{refl}
use Prim.Native.Nat.{ℕ}
use Rattle.scanning.proofs.Scanning.{word_is}
use Rattle.scanning.proofs.scan.word.Goals as goal

pub returns : goal.returns
returns c =
    let s = c.split.ensures in
    word_is c.args.p.now c.args.k c.nth.result _ c.unwrap_or.result (nth_from_yields_List _ _ _ c.nth.ensures.ran (YieldsList-from_slice_split _ (λ (b : ℕ). eqb b 32) c.args.p.now s.rest s.done s.closure (λ x b q k. search (rules, tests)))) refl c.unwrap_or.ensures
