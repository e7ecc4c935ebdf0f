-- Numbers in bytes.
-- Assumes nothing.
use Rattle.std.specs.Prelude.{ℕ, zero, suc, ◌*◌, ◌/◌, ◌%◌, ◌^◌, List, [], ◌∷◌}

-- A number in k bytes, high byte first.
abbrev pub digits : ℕ → ℕ → List ℕ
digits zero x = []
digits (suc k) x = x / 2 ^ (8 * k) ∷ digits k (x % 2 ^ (8 * k))
