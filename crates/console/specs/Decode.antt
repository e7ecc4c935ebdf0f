-- Hexadecimal digits as bytes.
-- Assumes nothing.
use Rattle.std.specs.Prelude.{ℕ, ◌+◌, ◌-◌, ◌*◌, cond, ◌&&◌, List, [], ◌∷◌, nat_le}

-- The value of a digit: 0 to 9 for 0 to 9, 10 to 15 for A to F. (0 for any other byte, which no command has among its digits.)
abbrev pub digit_value : ℕ → ℕ
digit_value c = cond (nat_le 48 c && nat_le c 57) (c - 48) (cond (nat_le 65 c && nat_le c 70) (c - 65 + 10) 0)

-- The byte of two digits, the high one first.
abbrev pub byte_of : ℕ → ℕ → ℕ
byte_of a b = 16 * digit_value a + digit_value b

-- A byte for every two digits.
abbrev pub decoded : List ℕ → List ℕ
decoded [] = []
decoded (a ∷ []) = []
decoded (a ∷ b ∷ s) = byte_of a b ∷ decoded s
