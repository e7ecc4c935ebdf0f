-- A product by masks: each is all ones or none.
-- Assumes nothing.
use Rattle.std.proofs.Common.{◌≡◌, ℕ, ◌+◌, ◌-◌, ◌*◌, ◌/◌, ◌%◌, ◌^◌, ◌<◌, sym, ap, ◌∙◌, ap₂, mod-lt, zero-lt-suc, mul_assoc}
use lib.Bits.{bit_and, bit_xor}
use Rattle.poly.specs.Poly.{clmul}
use Rattle.poly.proofs.Product.{clmul_more}
use Rattle.poly.proofs.Masks.{masked}

-- one more bit of a, with the low part at its place
pub product_more : (a low i sum y b : ℕ) → sum ≡ clmul (a % 2 ^ i) low → y ≡ low * 2 ^ i → y < 2 ^ 32 → b ≡ a / 2 ^ i % 2
    → bit_xor sum (bit_and y ((0 + (2 ^ 32 - b)) % 2 ^ 32)) ≡ clmul (a % 2 ^ (i + 1)) low
product_more a low i sum y b es ey ly eb =
    ap₂ bit_xor es
    (ap (λ b. bit_and y ((0 + (2 ^ 32 - b)) % 2 ^ 32)) eb ∙ masked y (a / 2 ^ i % 2) ly (mod-lt (a / 2 ^ i) (zero-lt-suc 1))
    ∙ ap (λ y. a / 2 ^ i % 2 * y) ey ∙ sym (mul_assoc (a / 2 ^ i % 2) low (2 ^ i)))
    ∙ sym (clmul_more a low i)
