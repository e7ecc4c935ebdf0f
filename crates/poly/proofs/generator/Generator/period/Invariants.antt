-- Before each turn: the power of X that was reached, and none before it returned; both stand at the top of 32 bits, as 1 does.
-- Assumes nothing.
use Rattle.std.proofs.Common.{◌≡◌, ℕ, ◌-◌, ◌*◌, ◌^◌, ◌<◌, ◌≤◌}
use Rattle.poly.specs.Poly.{rem}
use Rattle.poly.proofs.generator.Generator.period.Given as goal

abbrev pub invariant-loop-steps : goal.invariant-loop-steps
invariant-loop-steps l =
    (l.power ≡ rem 32 l.low (l.one * 2 ^ (l.steps - 1)))
    × ((j : ℕ) → 1 ≤ j → j < l.steps → rem 32 l.low (l.one * 2 ^ j) ≡ l.one → ⊥)
