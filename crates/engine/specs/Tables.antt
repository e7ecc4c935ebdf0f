-- Tables of remainders.
-- Assumes nothing.
use Rattle.std.specs.Prelude.{◌≡◌, ℕ, ◌*◌, ◌^◌, ◌<◌, List, slice_index}
use Rattle.poly.specs.Poly.{rem}

-- 256 entries: entry a is the remainder of a × X^k.
abbrev pub Entries : ℕ → ℕ → ℕ → List ℕ → Type 0
Entries h low k entries = (a : ℕ) → a < 256 → slice_index entries a ≡ rem h low (a * 2 ^ k)

-- The same of a fixed list of numbers.
pub record Fixed (h low k : ℕ) (numbers : List ℕ) : Type 0 where
  pub rule : Entries h low k numbers
