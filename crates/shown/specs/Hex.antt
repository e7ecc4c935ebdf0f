-- How many bytes a number is printed in.
-- Assumes nothing.
use Rattle.std.specs.Prelude.{ℕ, ◌+◌, ◌/◌, ◌^◌, cond, nat_lt}

-- The bytes that a low part of degree h fills.
abbrev pub bytes_for : ℕ → ℕ
bytes_for h = (h + 7) / 8

-- The fewest bytes that hold a number, one at least and four at most.
abbrev pub least_bytes : ℕ → ℕ
least_bytes n = cond (nat_lt n (2 ^ 8)) 1 (cond (nat_lt n (2 ^ 16)) 2 (cond (nat_lt n (2 ^ 24)) 3 4))
