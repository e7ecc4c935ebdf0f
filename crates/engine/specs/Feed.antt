-- What feeding does to a register of h bits.
-- Assumes nothing.
use Rattle.std.specs.Prelude.{ℕ, ◌*◌, ◌^◌, List, [], ◌∷◌, bit_xor}
use Rattle.poly.specs.Poly.{rem}

-- A byte q: the remainder of register × X^8 + q × X^h.
unfoldable pub fed : ℕ → ℕ → ℕ → ℕ → ℕ
fed h low register q = rem h low (bit_xor (register * 2 ^ 8) (q * 2 ^ h))

-- A string: one byte after the other.
abbrev pub fed_all : ℕ → ℕ → ℕ → List ℕ → ℕ
fed_all h low register [] = register
fed_all h low register (b ∷ bs) = fed_all h low (fed h low register b) bs
