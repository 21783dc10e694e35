use Rattle.std.proofs.Common.{◌≡◌, ◌<◌, drop}
use Rattle.judging.specs.Parse.{words_in, word_at, value_from, value as value_of}
use Rattle.scanning.proofs.scan.value.Given as goal

abbrev pub invariant-loop-b : goal.invariant-loop-b
invariant-loop-b l = (l.v < 1000000) × (value_of (word_at (words_in l.p) l.k) ≡ value_from l.v (drop l.b-index l.b-items))
