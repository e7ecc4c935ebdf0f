-- Theorems that contracts name.
-- Assumes nothing.
use Rattle.std.specs.Prelude.{◌≡◌, ℕ, ◌^◌, ◌<◌}
use Rattle.poly.specs.Poly.{Remainder, rem}

-- Each polynomial has one remainder, and `rem` is it.
abbrev pub DivisionStands : Type 0
DivisionStands =
    (h low : ℕ) → low < 2 ^ h → (p : ℕ)
    → Remainder h low p (rem h low p) × ((r : ℕ) → Remainder h low p r → r ≡ rem h low p)
