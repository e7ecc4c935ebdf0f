-- A number in an output.
-- Assumes nothing.
use Rattle.std.specs.Prelude.{ℕ, ◌+◌, ◌*◌, ◌^◌, Bool, cond, ◌&&◌, List, ◌++◌, length, take, drop, nat_le, nat_lt}
use Rattle.words.specs.Digits.{digits}

-- A number fits `count` bytes, at most four, and these fit an output of `room` bytes at a place.
abbrev pub has_room : ℕ → ℕ → ℕ → ℕ → Bool
has_room room at count value = nat_le count 4 && nat_le (at + count) room && nat_lt value (2 ^ (8 * count))

-- The output with the number at the place, high byte first; where it has no room there, the output as it was.
abbrev pub with_number : List ℕ → ℕ → ℕ → ℕ → List ℕ
with_number out at count value =
    cond (has_room (length out) at count value) (take at out ++ (digits count value ++ drop (at + count) out)) out
