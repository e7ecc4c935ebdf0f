-- After i turns there is the remainder of the highest i bits, at the top of 32 bits.
-- Assumes nothing.
use Rattle.std.proofs.Common.{◌≡◌, ◌-◌, ◌*◌, ◌/◌, ◌^◌}
use Rattle.poly.specs.Poly.{rem}
use Rattle.poly.proofs.long_division.divide.Given as goal

abbrev pub invariant-loop-i : goal.invariant-loop-i
invariant-loop-i l = l.r ≡ rem 32 l.low (l.p / 2 ^ (32 - l.i) * 2 ^ l.up)
