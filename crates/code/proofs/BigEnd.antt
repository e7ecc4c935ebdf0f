-- Numbers in two and four bytes, as the standard library writes them.
-- Assumes nothing.
use Rattle.std.proofs.Common.{◌≡◌, ℕ, ◌/◌, ◌%◌, ◌^◌, ◌<◌, [], ◌∷◌, arith, lit<}
use Rattle.words.specs.Digits.{digits}
use Rattle.words.proofs.DigitBytes.{digits_at}

pub two : (x : ℕ) → x < 2 ^ 16 → (x / 256 % 256) ∷ (x % 256) ∷ [] ≡ digits 2 x
two x l =
    let a = digits_at 2 x 0 l (lit< tt) in
    let b = digits_at 2 x 1 l (lit< tt) in
    let one : x / 1 ≡ x = omega arith in
    cc

pub four : (x : ℕ) → x < 2 ^ 32 → (x / 16777216 % 256) ∷ (x / 65536 % 256) ∷ (x / 256 % 256) ∷ (x % 256) ∷ [] ≡ digits 4 x
four x l =
    let a = digits_at 4 x 0 l (lit< tt) in
    let b = digits_at 4 x 1 l (lit< tt) in
    let d = digits_at 4 x 2 l (lit< tt) in
    let e = digits_at 4 x 3 l (lit< tt) in
    let one : x / 1 ≡ x = omega arith in
    cc
