-- After i turns there is the remainder of X^i times the first one, at the top of 32 bits.
-- Assumes nothing.
use Rattle.std.proofs.Common.{◌≡◌, ◌*◌, ◌^◌}
use Rattle.poly.specs.Poly.{rem}
use Rattle.poly.proofs.generator.Generator.remainder.Given as goal

abbrev pub invariant-loop : goal.invariant-loop
invariant-loop l = l.r ≡ rem 32 l.low (l.initial.r * 2 ^ l.counter)
