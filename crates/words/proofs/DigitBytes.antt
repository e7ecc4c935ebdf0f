-- A number in k bytes, high byte first.
-- Assumes nothing.
use Rattle.std.proofs.Common.{◌≡◌, ℕ, zero, suc, ◌+◌, ◌-◌, ◌*◌, ◌/◌, ◌%◌, ◌^◌, ◌<◌, length, get_or, sym, refl, ap, ◌∙◌, subst, ap₂, mod-lt, arith, pow_pos, shr_lt}
use lib.Pow.{shr_mod, field, mod-mod-pow}
use lib.Bits.{bit_xor}
use Rattle.poly.specs.Poly.{string}
use Rattle.poly.proofs.Product.{xor_parts}
use Rattle.words.specs.Flips.{Bytes}
use Rattle.words.specs.Digits.{digits}

pub length_digits : (k x : ℕ) → length (digits k x) ≡ k
length_digits zero x = refl
length_digits (suc k) x = ap suc (length_digits k (x % 2 ^ (8 * k)))

more_bits : (k : ℕ) → 8 * suc k ≡ 8 + 8 * k
more_bits k = omega arith

pub bytes_digits : (k x : ℕ) → x < 2 ^ (8 * k) → Bytes (digits k x)
bytes_digits zero x l = tt
bytes_digits (suc k) x l = (
  shr_lt 8 (8 * k) (subst (λ n. x < 2 ^ n) (more_bits k) l),
  bytes_digits k (x % 2 ^ (8 * k)) (mod-lt x (pow_pos (8 * k))),
)

-- read again, the bytes are the number
pub string-digits : (k x : ℕ) → x < 2 ^ (8 * k) → string 8 (digits k x) ≡ x
string-digits zero x l = omega arith
string-digits (suc k) x l =
    ap₂ (λ n y. bit_xor (x / 2 ^ (8 * k) * 2 ^ (8 * n)) y) (length_digits k (x % 2 ^ (8 * k)))
    (string-digits k (x % 2 ^ (8 * k)) (mod-lt x (pow_pos (8 * k))))
    ∙ xor_parts x (8 * k)

-- byte i from the high end
pub digits_at : (k x i : ℕ) → x < 2 ^ (8 * k) → i < k → get_or (digits k x) i 0 ≡ x / 2 ^ (8 * (k - 1 - i)) % 2 ^ 8
digits_at zero x i l m = absurd (omega arith)
digits_at (suc k) x zero l m =
    let e : suc k - 1 - 0 ≡ k = omega arith in
    sym (shr_mod 8 (8 * k) (subst (λ n. x < 2 ^ n) (more_bits k) l)) ∙ ap (λ n. x / 2 ^ (8 * n) % 2 ^ 8) (sym e)
digits_at (suc k) x (suc i) l m =
    let n : ℕ = 8 * (k - 1 - i) in
    let j : ℕ = 8 * i in
    let e : 8 * k ≡ (j + 8) + n = omega arith in
    let f : k - 1 - i ≡ suc k - 1 - suc i = omega arith in
    digits_at k (x % 2 ^ (8 * k)) i (mod-lt x (pow_pos (8 * k))) (omega arith)
    ∙ ap (λ b. x % 2 ^ b / 2 ^ n % 2 ^ 8) e
    ∙ ap (λ y. y % 2 ^ 8) (field x (j + 8) n)
    ∙ mod-mod-pow (x / 2 ^ n) j 8
    ∙ ap (λ b. x / 2 ^ (8 * b) % 2 ^ 8) f
