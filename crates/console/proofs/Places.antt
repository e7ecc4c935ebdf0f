-- The place of the first byte that passes a test, or the end.
-- Assumes nothing.
use Rattle.std.proofs.Common.{◌≡◌, ℕ, Bool, List, Option, length, position, arith}
use Rattle.std.proofs.lemmas.Bool.Decides.{nat_tests}
use Rattle.std.proofs.lemmas.List.Sums.{prefix_len-le-length}
use Rattle.std.specs.List.{position_or_len}
use Rattle.std.specs.Option.{unwrap_or}

pub place : (test : ℕ → Bool) (xs : List ℕ) (r : Option ℕ) → r ≡ position test xs → unwrap_or r (length xs) ≡ position_or_len test xs
place test xs r e = rw e (grind (arith, nat_tests, prefix_len-le-length))
