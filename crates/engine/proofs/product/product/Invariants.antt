-- After i turns there is the product with the lowest i bits of a.
-- Assumes nothing.
use Rattle.std.proofs.Common.{◌≡◌, ◌%◌, ◌^◌}
use Rattle.poly.specs.Poly.{clmul}
use Rattle.engine.proofs.product.product.Given as goal

abbrev pub invariant-loop-i : goal.invariant-loop-i
invariant-loop-i l = l.sum ≡ clmul (l.a % 2 ^ l.i) l.low
