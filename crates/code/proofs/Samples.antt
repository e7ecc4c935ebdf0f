-- Small sums, computed by the definitions.
-- Assumes nothing.
use Rattle.std.proofs.Common.{◌≡◌, ◌*◌, ◌^◌, [], ◌∷◌, refl, ◌∙◌, arith}
use lib.Bits.{bit_xor, xor_shifted}
use Rattle.poly.specs.Poly.{rem, string}
use Rattle.poly.proofs.Digits.{string_push}
use Rattle.words.specs.Words.{weighted, plain, WeightedSum}

-- the CRC of degree 8 by X^8 + X^2 + X + 1
hec : (rem 8 0x07 (string 8 (0x01 ∷ []) * 2 ^ 8) ≡ 0x07) × (rem 8 0x07 (string 8 (0x80 ∷ []) * 2 ^ 8) ≡ 0x89)
unfolding rem
hec = (refl, refl)

-- that of degree 16 by X^16 + X^12 + X^5 + 1
ccitt : (rem 16 0x1021 (string 8 (0x01 ∷ []) * 2 ^ 16) ≡ 0x1021) × (rem 16 0x1021 (string 8 (0x80 ∷ []) * 2 ^ 16) ≡ 0x9188)
unfolding rem
ccitt = (refl, refl)

-- that of degree 32, of the digits 1 to 9 as text
ieee : rem 32 0x04C11DB7 (string 8 (0x31 ∷ 0x32 ∷ 0x33 ∷ 0x34 ∷ 0x35 ∷ 0x36 ∷ 0x37 ∷ 0x38 ∷ 0x39 ∷ []) * 2 ^ 32) ≡ 0x89A1897F
unfolding rem
ieee = refl

-- the 15 bits of a remainder; with the parity bit after them they are 0007 and 000A
parity : (rem 15 0x0003 (string 8 (0x01 ∷ []) * 2 ^ 15) ≡ 0x0003) × (rem 15 0x0003 (string 8 (0x03 ∷ []) * 2 ^ 15) ≡ 0x0005)
unfolding rem
parity = (refl, refl)

-- both sums of one tuple, and of two
sums : (rem 8 0x1D (weighted (0x80 ∷ []) * 2) ≡ 0x1D)
    × (rem 5 0x15 (bit_xor (plain (0x80 ∷ [])) 0x1D) ≡ 0x16)
    × (rem 8 0x1D (weighted (0x01 ∷ 0x01 ∷ []) * 2) ≡ 0x06)
    × (rem 5 0x15 (bit_xor (plain (0x01 ∷ 0x01 ∷ [])) 0x06) ≡ 0x06)
unfolding rem
sums = (refl, refl, refl, refl)

-- both sums vanish, and it is no word: the last tuple has a bit at X^5
refused : ¬ WeightedSum 1 0x1D 5 0x15 (0x01 ∷ 0x02 ∷ 0x36 ∷ [])
refused w =
    let e = w.tuples ∙ string_push 8 w.front w.last in
    let l = w.small in
    let k = xor_shifted (string 8 w.front) 8 w.last (omega arith) in
    omega arith
