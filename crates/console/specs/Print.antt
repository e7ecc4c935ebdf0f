-- What is printed of numbers and bytes, in ASCII.
-- Assumes nothing.
use Rattle.std.specs.Prelude.{ℕ, ◌+◌, ◌/◌, ◌%◌, cond, List, [], ◌∷◌, nat_lt}
use Rattle.std.specs.Fmt as Written

-- A number in decimal without leading zeros, as `{}` shows it.
abbrev pub decimal : ℕ → List ℕ
decimal n = Written.decimal n

-- The digit of a number below 16: 0 to 9, then A to F.
abbrev pub hex_digit : ℕ → ℕ
hex_digit d = cond (nat_lt d 10) (48 + d) (55 + d)

-- Two digits for each byte, the high one first.
abbrev pub hex : List ℕ → List ℕ
hex [] = []
hex (b ∷ bs) = hex_digit (b / 16) ∷ hex_digit (b % 16) ∷ hex bs
