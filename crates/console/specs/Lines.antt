-- The lines of an input.
-- Assumes nothing.
use Rattle.std.specs.Prelude.{◌≡◌, ℕ, cond, List, [], ◌∷◌, ◌++◌, ◌==◌, ◌≢◌}
use Rattle.std.specs.List.{AllByRecursion}

-- A byte in front of the first line; alone it is a line of its own.
abbrev pub onto : ℕ → List (List ℕ) → List (List ℕ)
onto b [] = (b ∷ []) ∷ []
onto b (line ∷ lines) = (b ∷ line) ∷ lines

-- A line ends at a 0A, which is no part of it, or at the input's end. After a last 0A there is no further line.
abbrev pub lines_of : List ℕ → List (List ℕ)
lines_of [] = []
lines_of (b ∷ bs) = cond (b == 10) ([] ∷ lines_of bs) (onto b (lines_of bs))

-- ---- what lines are

-- Lines with a 0A after each.
abbrev pub ended : List (List ℕ) → List ℕ
ended [] = []
ended (line ∷ lines) = line ++ (10 ∷ ended lines)

-- An input with a 0A at the end of its last line, where it lacks one.
abbrev pub closed : List ℕ → List ℕ
closed [] = []
closed (b ∷ []) = cond (b == 10) (b ∷ []) (b ∷ 10 ∷ [])
closed (b ∷ c ∷ bs) = b ∷ closed (c ∷ bs)

-- The lines of every input, with a 0A after each, are that input, and no line has a 0A.
abbrev pub LinesRejoin : Type 0
LinesRejoin = (s : List ℕ) → (ended (lines_of s) ≡ closed s) × AllByRecursion (AllByRecursion (λ b. b ≢ 10)) (lines_of s)
