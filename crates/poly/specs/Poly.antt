-- Polynomials with coefficients modulo 2, as numbers: bit i of a number is the coefficient of X^i.
-- The sum of two polynomials is `bit_xor`, p times X^k is `p * 2 ^ k`, and `p < 2 ^ k` says that p has a degree below k.
-- Assumes nothing.
use Rattle.std.specs.Prelude.{◌≡◌, ℕ, zero, suc, ◌+◌, ◌*◌, ◌/◌, ◌%◌, ◌^◌, ◌<◌, ◌≤◌, List, [], ◌∷◌, length, bit_xor, count_ones}

-- Horner's scheme over the bits of p, highest first: f takes what the bits above gave, and the next bit.
-- The first number only bounds the recursion; `by_bits` gives it p, which is at least as many as the bits of p.
unfoldable pub horner : (ℕ → ℕ → ℕ) → ℕ → ℕ → ℕ
horner f zero p = zero
horner f (suc n) zero = zero
horner f (suc n) (suc p) = f (horner f n (suc p / 2)) (suc p % 2)

unfoldable pub by_bits : (ℕ → ℕ → ℕ) → ℕ → ℕ
unfolding horner
by_bits f p = horner f p p

-- The product, a carry-less multiplication: for each bit b of p, highest first, double and add b times q.
unfoldable pub clmul : ℕ → ℕ → ℕ
unfolding by_bits
clmul p q = by_bits (λ acc b. bit_xor (acc * 2) (b * q)) p

-- p has degree h: X^h is its highest term.
abbrev pub Degree : ℕ → ℕ → Type 0
Degree p h = (2 ^ h ≤ p) × (p < 2 ^ suc h)

-- m divides p.
abbrev pub Divides : ℕ → ℕ → Type 0
Divides m p = (q : ℕ) × (p ≡ clmul q m)

-- The generator of degree h with the low part low: X^h plus the low part.
abbrev pub generator : ℕ → ℕ → ℕ
generator h low = 2 ^ h + low

-- The number of nonzero coefficients of a generator, that of X^h included.
abbrev pub terms : ℕ → ℕ → ℕ
terms h low = count_ones (generator h low)

-- Division of p by the generator leaves r: p is a multiple of the generator plus r, and the degree of r is below h.
abbrev pub Remainder : ℕ → ℕ → ℕ → ℕ → Type 0
Remainder h low p r = (r < 2 ^ h) × ((q : ℕ) × (p ≡ bit_xor (clmul q (generator h low)) r))

-- p, which has a degree of at most h, with the generator taken away if the degree is h.
unfoldable pub reduce : ℕ → ℕ → ℕ → ℕ
reduce h low p = bit_xor p (p / 2 ^ h * generator h low)

-- The remainder, by long division: the bits of p come in from the highest, and the generator is taken away where it can be.
-- It is the only solution of `Remainder`.
unfoldable pub rem : ℕ → ℕ → ℕ → ℕ
unfolding by_bits reduce
rem h low p = by_bits (λ acc b. reduce h low (acc * 2 + b)) p

-- A string of digits of w bits as a polynomial, the first digit highest: the sum of each digit times X^(w × the number of digits after it).
abbrev pub string : ℕ → List ℕ → ℕ
string w [] = 0
string w (d ∷ ds) = bit_xor (d * 2 ^ (w * length ds)) (string w ds)

-- A byte string as a polynomial: its highest coefficient is the top bit of the first byte.
abbrev pub polynomial : List ℕ → ℕ
polynomial bytes = string 8 bytes

-- The remainder of a byte string: what division of string × X^h leaves.
abbrev pub remainder : ℕ → ℕ → List ℕ → ℕ
remainder h low bytes = rem h low (polynomial bytes * 2 ^ h)
