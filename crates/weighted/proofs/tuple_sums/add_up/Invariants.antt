-- After i turns: both sums of the first i tuples, the weighted one at the top.
-- Assumes nothing.
use Rattle.std.proofs.Common.{◌≡◌, ◌*◌, ◌^◌, map, take}
use Rattle.poly.specs.Poly.{rem, string}
use Rattle.words.specs.Words.{weighted, plain}
use Rattle.weighted.proofs.tuple_sums.add_up.Given as goal

abbrev pub invariant-loop-tuple : goal.invariant-loop-tuple
invariant-loop-tuple g l =
    let qs = map (string 8) (take l.tuple-index l.tuples) in
    (l.horner ≡ rem l.fn.generator.degree l.fn.generator.low (weighted qs) * 2 ^ l.up) × (l.total ≡ plain qs)
