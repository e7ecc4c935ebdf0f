-- Tables of remainders modulo X^32 + low, and words of four bytes.
-- Assumes nothing.
use Rattle.std.specs.Prelude.{◌≡◌, ℕ, ◌+◌, ◌*◌, ◌^◌, ◌<◌, List, [], bit_xor, slice_index, slice_index_or}
use Rattle.poly.specs.Poly.{rem}

-- n tables of 256 entries: entry a of table j is the remainder of a × X^(32 + 8j).
abbrev pub Tables : ℕ → ℕ → List (List ℕ) → Type 0
Tables low n tables = (j a : ℕ) → (j < n) × (a < 256) → slice_index (slice_index_or tables j []) a ≡ rem 32 low (a * 2 ^ (32 + 8 * j))

-- Four bytes as a polynomial of a degree below 32, the first byte highest.
abbrev pub word_of : ℕ → ℕ → ℕ → ℕ → ℕ
word_of a b c d = bit_xor (bit_xor (bit_xor (a * 2 ^ 8) b * 2 ^ 8) c * 2 ^ 8) d
