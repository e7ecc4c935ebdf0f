-- The tuples of a message: each s bytes as a polynomial.
-- Assumes nothing.
use Rattle.std.specs.Prelude.{◌≡◌, ℕ, zero, suc, ◌/◌, ◌⊎◌, List, [], ◌∷◌, map, length, take, drop}
use Rattle.poly.specs.Poly.{string}

-- The bytes of a tuple.
abbrev pub Size : ℕ → Type 0
Size s = (s ≡ 1) ⊎ ((s ≡ 2) ⊎ (s ≡ 4))

-- The first n groups of s bytes.
abbrev pub groups : ℕ → ℕ → List ℕ → List (List ℕ)
groups zero s bytes = []
groups (suc n) s bytes = take s bytes ∷ groups n s (drop s bytes)

-- The tuples of a message, first byte highest.
abbrev pub tuples : ℕ → List ℕ → List ℕ
tuples s message = map (string 8) (groups (length message / s) s message)
