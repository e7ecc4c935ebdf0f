-- The next power stands at the top of 32 bits. The entries below 2^k are there, and within a round those of the lower half and some of the upper.
-- Assumes nothing.
use Rattle.std.proofs.Common.{◌≡◌, ℕ, ◌+◌, ◌-◌, ◌*◌, ◌^◌, ◌<◌, get_or}
use Rattle.poly.specs.Poly.{rem, clmul}
use Rattle.engine.proofs.filling.double.Given as goal

abbrev pub invariant-loop-k : goal.invariant-loop-k
invariant-loop-k l =
    (l.top ≡ 32 - l.generator.degree)
    × (l.power ≡ rem l.generator.degree l.generator.low (l.first * 2 ^ l.k) * 2 ^ (32 - l.generator.degree))
    × ((a : ℕ) → a < 2 ^ l.k
    → get_or l.entries a 0 ≡ rem (l.generator.degree + l.up) (l.generator.low * 2 ^ l.up) (clmul a (l.first * 2 ^ l.up)))

abbrev pub invariant-loop-i : goal.invariant-loop-i
invariant-loop-i l =
    (a : ℕ) → a < 2 ^ l.k + l.i
    → get_or l.entries a 0 ≡ rem (l.generator.degree + l.up) (l.generator.low * 2 ^ l.up) (clmul a (l.first * 2 ^ l.up))
