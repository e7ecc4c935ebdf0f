-- The period of a generator: the least i from 1 upwards for which X^i, divided by it, leaves 1.
-- Assumes nothing.
use Rattle.std.specs.Prelude.{◌≡◌, ℕ, zero, suc, ◌+◌, ◌^◌, ◌<◌, ◌≤◌, cond, Some, None, Option, ◌==◌}
use Rattle.poly.specs.declared.walk.Walk.{Walk}
use Rattle.poly.specs.Poly.{rem}

-- X^i leaves 1.
abbrev pub Returns : ℕ → ℕ → ℕ → Type 0
Returns h low i = rem h low (2 ^ i) ≡ 1

-- No X^j with j from 1 up to, but not at, i leaves 1: the period is at least i.
abbrev pub NoReturn : ℕ → ℕ → ℕ → Type 0
NoReturn h low i = (j : ℕ) → 1 ≤ j → j < i → Returns h low j → ⊥

-- i is the period.
abbrev pub Period : ℕ → ℕ → ℕ → Type 0
Period h low i = (1 ≤ i) × Returns h low i × NoReturn h low i

-- What a search of X^1 to X^limit finds, and the steps that it takes: the period, or else the limit.
abbrev pub Walked : ℕ → ℕ → ℕ → Option ℕ → ℕ → Type 0
Walked h low limit (Some i) steps = Period h low i × (i ≤ limit) × (steps ≡ i)
Walked h low limit None steps = NoReturn h low (limit + 1) × (steps ≡ limit)

-- The first i from 1 to n for which X^i leaves 1.
unfoldable pub first_return : ℕ → ℕ → ℕ → Option ℕ
first_return h low zero = None
first_return h low (suc n) = elim (first_return h low n) [ Some i ↦ Some i | None ↦ cond (rem h low (2 ^ suc n) == 1) (Some (suc n)) None ]

-- The steps of a search up to limit: the period, or the limit.
abbrev pub steps_of : ℕ → Option ℕ → ℕ
steps_of limit (Some i) = i
steps_of limit None = limit

-- What the period call answers: it looks as far as 32,768.
abbrev pub walk_of : ℕ → ℕ → Walk
walk_of h low = record { period = first_return h low 32768; steps = steps_of 32768 (first_return h low 32768) }
