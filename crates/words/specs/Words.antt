-- The words of each code, by polynomials; which flips each code notices; and which checks make a message a word.
-- A generator is X^h + low: its degree is h, and its low part has a lower degree.
-- Assumes nothing.
use Rattle.std.specs.Prelude.{◌≡◌, ℕ, suc, ◌+◌, ◌-◌, ◌*◌, ◌/◌, ◌%◌, ◌^◌, ◌<◌, ◌≤◌, true, false, ◌↔◌, List, [], ◌∷◌, ◌++◌, length, bit_xor, count_ones}
use Rattle.std.specs.List.{AllByRecursion}
use Rattle.poly.specs.Poly.{Divides, generator, terms, rem, string}
use Rattle.poly.specs.Period.{NoReturn}
use Rattle.words.specs.Flips.{Bytes, Notices}

-- ---- the codes

-- A word of the CRC: a multiple of the generator.
abbrev pub Crc : ℕ → ℕ → List ℕ → Type 0
Crc h low w = Divides (generator h low) (string 8 w)

-- A word of the CRC with parity: its bits before the last are a multiple of the generator, and the number of its ones is even.
abbrev pub CrcParity : ℕ → ℕ → List ℕ → Type 0
CrcParity h low w = Divides (generator h low) (string 8 w / 2) × (count_ones (string 8 w) % 2 ≡ 0)

-- The weighted sum of tuples: the sum of each times X to the number of tuples after it.
abbrev pub weighted : List ℕ → ℕ
weighted [] = 0
weighted (q ∷ qs) = bit_xor (q * 2 ^ length qs) (weighted qs)

-- The plain sum of tuples.
abbrev pub plain : List ℕ → ℕ
plain [] = 0
plain (q ∷ qs) = bit_xor q (plain qs)

-- A word of the weighted sum with tuples of s bytes, by the generators X^(8s) + low and X^m + low1: the weighted sum of its tuples
-- before the last is a multiple of the first generator, and the plain sum of all is one of the second, where the last is below X^m.
pub record WeightedSum (s low m low1 : ℕ) (w : List ℕ) : Type 0 where
  pub front : List ℕ
  pub last : ℕ
  pub fits : AllByRecursion (λ q. q < 2 ^ (8 * s)) front
  pub small : last < 2 ^ m
  pub whole : length w ≡ s * suc (length front)
  pub tuples : string 8 w ≡ string (8 * s) (front ++ last ∷ [])
  pub first : Divides (generator (8 * s) low) (weighted front)
  pub second : Divides (generator m low1) (bit_xor (plain front) last)

-- ---- what each notices

-- A CRC, by a generator with a constant term whose period is at least the bits of the reach: bursts of h bits, two bits.
abbrev pub Crc-notices : Type 0
Crc-notices =
    (h low reach : ℕ) → low < 2 ^ h → low % 2 ≡ 1 → NoReturn h low (8 * reach)
    → Notices (Crc h low) reach h 2 false

-- The same with an even number of terms: bursts of h bits, three bits, odd numbers of bits.
abbrev pub Crc-even_notices : Type 0
Crc-even_notices =
    (h low reach : ℕ) → low < 2 ^ h → low % 2 ≡ 1 → NoReturn h low (8 * reach) → terms h low % 2 ≡ 0
    → Notices (Crc h low) reach h 3 true

-- A CRC with parity, by a generator with an odd number of terms: bursts of h + 1 bits, three bits, odd numbers of bits.
-- The generator divides one bit less than the word has.
abbrev pub CrcParity-notices : Type 0
CrcParity-notices =
    (h low reach : ℕ) → low < 2 ^ h → low % 2 ≡ 1 → NoReturn h low (8 * reach - 1) → terms h low % 2 ≡ 1
    → Notices (CrcParity h low) reach (h + 1) 3 true

-- A weighted sum of n tuples and one more: bursts of as many bits as a tuple has, three bits, odd numbers of bits.
abbrev pub WeightedSum-notices : Type 0
WeightedSum-notices =
    (s low m low1 n : ℕ) → m ≤ 8 * s
    → low < 2 ^ (8 * s) → low % 2 ≡ 1 → NoReturn (8 * s) low n
    → low1 < 2 ^ m → low1 % 2 ≡ 1 → NoReturn m low1 (8 * s) → terms m low1 % 2 ≡ 0
    → Notices (WeightedSum s low m low1) (s * suc n) (8 * s) 3 true

-- ---- which checks make a message a word

-- The check of a CRC is the remainder of the message times X^h.
abbrev pub Crc-words : Type 0
Crc-words =
    (h low : ℕ) (msg chk : List ℕ) → low < 2 ^ h → Bytes chk → 8 * length chk ≡ h
    → Crc h low (msg ++ chk) ↔ (string 8 chk ≡ rem h low (string 8 msg * 2 ^ h))

-- The check of a CRC with parity is that remainder, and then the bit that makes the number of ones even.
abbrev pub CrcParity-words : Type 0
CrcParity-words =
    (h low : ℕ) (msg chk : List ℕ) → low < 2 ^ h → Bytes chk → 8 * length chk ≡ suc h
    → CrcParity h low (msg ++ chk)
    ↔ ((string 8 chk / 2 ≡ rem h low (string 8 msg * 2 ^ h)) × (count_ones (string 8 (msg ++ chk)) % 2 ≡ 0))

-- The check of a weighted sum is two tuples: p, the remainder of the message's weighted sum times X, and r, that of the plain sum with p.
abbrev pub Weighted-sums : Type 0
Weighted-sums =
    (h low m low1 : ℕ) (qs : List ℕ) (p r : ℕ) → low < 2 ^ h → low1 < 2 ^ m
    → ((p ≡ rem h low (weighted qs * 2)) × (r ≡ rem m low1 (bit_xor (plain qs) p)))
    ↔ ((p < 2 ^ h) × (r < 2 ^ m)
    × Divides (generator h low) (weighted (qs ++ p ∷ []))
    × Divides (generator m low1) (bit_xor (plain (qs ++ p ∷ [])) r))
