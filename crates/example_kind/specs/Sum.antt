-- The sum of bytes is their remainder by X^8 + 1, since X^8 leaves 1.
-- Assumes nothing.
use Rattle.std.specs.Prelude.{◌≡◌, ℕ, zero, suc, ◌*◌, ◌^◌, ◌<◌, List, [], ◌∷◌, length, bit_xor}
use Rattle.std.proofs.Common.{sym, ap, ap₂, subst, ◌∙◌, mul-one, mul_assoc, mul-suc, lit<, pow-add}
use Rattle.std.specs.Int.Bits.{xor_shifted, xor_zero_l}
use Rattle.poly.specs.Poly.{clmul, generator, rem, string, remainder}
use Rattle.poly.proofs.Product.{xor_cancel_r, clmul_xor_r, clmul_shl_r, clmul_one_r}
use Rattle.poly.proofs.Division.{rem_lt, rem-zero, rem-small, rem-xor, rem_multiple}
use Rattle.words.specs.Flips.{Bytes}
use Rattle.words.specs.Words.{plain}

pub small : 1 < 2 ^ 8
small = lit< tt

-- p times X^8 is a multiple and p
apart : (p : ℕ) → bit_xor (clmul p (generator 8 1)) p ≡ p * 2 ^ 8
apart p =
    ap (λ x. bit_xor x p)
    (ap (clmul p) (sym (xor_shifted 1 8 1 small)) ∙ clmul_xor_r p (1 * 2 ^ 8) 1
    ∙ ap₂ bit_xor (clmul_shl_r p 1 8 ∙ ap (λ x. x * 2 ^ 8) (clmul_one_r p)) (clmul_one_r p))
    ∙ xor_cancel_r (p * 2 ^ 8) p

shifted : (p : ℕ) → rem 8 1 (p * 2 ^ 8) ≡ rem 8 1 p
shifted p =
    ap (rem 8 1) (sym (apart p)) ∙ rem-xor 8 1 small (clmul p (generator 8 1)) p
    ∙ ap (λ x. bit_xor x (rem 8 1 p)) (rem_multiple 8 1 small p) ∙ xor_zero_l (rem 8 1 p)

shifts : (n p : ℕ) → rem 8 1 (p * 2 ^ (8 * n)) ≡ rem 8 1 p
shifts zero p = ap (rem 8 1) (mul-one p)
shifts (suc n) p =
    ap (rem 8 1) (ap (λ x. p * x) (ap (λ k. 2 ^ k) (mul-suc 8 n) ∙ pow-add 2 (8 * n) 8) ∙ sym (mul_assoc p (2 ^ (8 * n)) (2 ^ 8)))
    ∙ shifted (p * 2 ^ (8 * n)) ∙ shifts n p

sums : (bs : List ℕ) → Bytes bs → rem 8 1 (string 8 bs) ≡ plain bs
sums [] t = rem-zero 8 1 small
sums (b ∷ bs) (l, t) =
    rem-xor 8 1 small (b * 2 ^ (8 * length bs)) (string 8 bs)
    ∙ ap₂ bit_xor (shifts (length bs) b ∙ rem-small 8 1 small b l) (sums bs t)

pub sum_is : (message : List ℕ) → Bytes message → remainder 8 1 message ≡ plain message
sum_is message t = shifted (string 8 message) ∙ sums message t

pub sum_lt : (message : List ℕ) → Bytes message → plain message < 2 ^ 8
sum_lt message t = subst (λ x. x < 2 ^ 8) (sum_is message t) (rem_lt 8 1 small (string 8 message * 2 ^ 8))
