-- The sum of bytes has as many ones, modulo 2, as the bytes.
-- Assumes nothing.
use Rattle.std.proofs.Common.{◌≡◌, ◌*◌, ◌%◌, ◌^◌, List, ℕ, [], ◌∷◌, length, refl, arith}
use lib.Count.{ones}
use Rattle.poly.specs.Poly.{string, polynomial}
use Rattle.poly.proofs.Ones.{ones_xor, ones_shl}
use Rattle.words.specs.Words.{plain}

pub plain_ones : (bytes : List ℕ) → ones (plain bytes) % 2 ≡ ones (polynomial bytes) % 2
plain_ones [] = refl
plain_ones (b ∷ bs) =
    let k : ℕ = 8 * length bs in
    omega (arith, plain_ones bs, ones_xor b (plain bs), ones_xor (b * 2 ^ k) (string 8 bs), ones_shl b k)
