-- What kinds ask of the fields of a description and of a reach.
-- Assumes nothing.
use Rattle.std.specs.Prelude.{ℕ, ◌+◌, ◌%◌, ◌^◌, Bool, true, ◌&&◌, Some, None, Option, ◌==◌, nat_le, nat_lt}
use Rattle.poly.specs.Period.{first_return}

-- A low part that is fit for its degree: no bit at the degree or above, and a constant term.
abbrev pub proper_low : ℕ → ℕ → Bool
proper_low h low = nat_lt low (2 ^ h) && low % 2 == 1

-- A period that was looked for, or none, is at least n: none up to the limit is long enough.
abbrev pub at_least : Option ℕ → ℕ → Bool
at_least (Some p) n = nat_le n p
at_least None n = true

-- The period of X^h + low is at least n.
abbrev pub period_at_least : ℕ → ℕ → ℕ → Bool
period_at_least h low n = at_least (first_return h low 32768) n

-- A lawful reach: a multiple of the tuple, room for the check and one tuple, at most 4,096 bytes.
abbrev pub lawful_reach : ℕ → ℕ → ℕ → Bool
lawful_reach tuple check reach = reach % tuple == 0 && nat_le (check + tuple) reach && nat_le reach 4096
