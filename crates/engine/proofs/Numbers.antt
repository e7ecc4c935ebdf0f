-- The rule of a table of remainders, by one test over all its entries.
-- Assumes nothing.
use Rattle.std.proofs.Common.{ℕ, ◌*◌, ◌^◌, Bool, T, eqb, List, get_or, eqb→eq}
use Rattle.poly.specs.Poly.{rem}
use Rattle.engine.specs.Tables.{Fixed}
use Rattle.engine.proofs.Below.{passes, holds}

-- entry a is the remainder of a × X^k
abbrev pub right : ℕ → ℕ → ℕ → List ℕ → ℕ → Bool
right h low k entries a = eqb (get_or entries a 0) (rem h low (a * 2 ^ k))

pub tested : (h low k : ℕ) (entries : List ℕ) → T (passes (right h low k entries) 256) → Fixed h low k entries
tested h low k entries t =
    record { rule = λ a l. eqb→eq (get_or entries a 0) (rem h low (a * 2 ^ k)) (holds (right h low k entries) 256 t a l) }
