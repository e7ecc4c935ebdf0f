-- Strings fed piece by piece.
-- Assumes nothing.
use Rattle.std.specs.Prelude.{◌≡◌, ℕ, List, [], ◌∷◌, ◌++◌}
use Rattle.std.specs.Borrow.{Bor}
use Rattle.poly.specs.Poly.{remainder}

-- The register is the remainder of the string s.
abbrev pub Holds : ℕ → ℕ → ℕ → List ℕ → Type 0
Holds h low register s = register ≡ remainder h low s

-- A piece more: whatever string was fed before, now it is that string with the piece after it.
abbrev pub Carries-on : ℕ → ℕ → ℕ → ℕ → List ℕ → Type 0
Carries-on h low before after piece = (s : List ℕ) → Holds h low before s → Holds h low after (s ++ piece)

-- Pieces joined.
abbrev pub flat : List (Bor (List ℕ)) → List ℕ
flat [] = []
flat (p ∷ ps) = p.now ++ flat ps
