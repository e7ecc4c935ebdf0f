-- The laws of a CRC and of a CRC with parity, for words of bytes.
-- Assumes nothing.
use Rattle.std.proofs.Common.{◌≡◌, ℕ, zero, suc, ◌-◌, ◌*◌, ◌/◌, ◌^◌, ◌<◌, ◌≤◌, List, length, sym, subst, lt_of_lt_of_le, mul-le-mul_left, pow-suc, arith, pow_mono}
use lib.Bits.{xor_lt, xor_shr}
use Rattle.poly.specs.Poly.{Divides, generator, string}
use Rattle.poly.proofs.Product.{xor-eq}
use Rattle.poly.proofs.Divide.{divides_xor}
use Rattle.poly.proofs.Ones.{ones_xor}
use Rattle.poly.proofs.Digits.{string-lt, string_inj}
use Rattle.words.specs.Flips.{Bytes, flips}
use Rattle.words.specs.Words.{Crc-notices, Crc-even_notices, CrcParity-notices}
use Rattle.words.proofs.Crc.{sure_two, sure_three}
use Rattle.words.proofs.Parity.{sure_parity}

-- two words without a flip are the same word
pub no_flips : (u v : List ℕ) → Bytes u → Bytes v → length u ≡ length v → flips u v ≡ 0 → u ≡ v
no_flips u v a b l e = string_inj 8 u v a b l (xor-eq (string 8 u) (string 8 v) e)

pub flips-lt : (u v : List ℕ) → Bytes u → Bytes v → length u ≡ length v → (reach : ℕ) → length u ≤ reach
    → flips u v < 2 ^ (8 * reach)
flips-lt u v a b l reach r =
    lt_of_lt_of_le
    (xor_lt (8 * length u) (string 8 u) (string 8 v) (string-lt 8 u a)
    (subst (λ n. string 8 v < 2 ^ (8 * n)) (sym l) (string-lt 8 v b)))
    (pow_mono (mul-le-mul_left 8 r))

half_lt : (e k : ℕ) → e < 2 ^ k → e / 2 < 2 ^ (k - 1)
half_lt e zero l = omega arith
half_lt e (suc k) l =
    let less : suc k - 1 ≡ k = omega arith in
    subst (λ n. e / 2 < 2 ^ n) (sym less) (omega (arith, pow-suc 2 k))

pub crc_notices : Crc-notices
crc_notices h low reach small odd far u v a b l r p q =
    sure_two h low (8 * reach) small odd far (flips u v)
    (divides_xor (generator h low) (string 8 u) (string 8 v) p q)
    (flips-lt u v a b l reach r)

pub crc_even_notices : Crc-even_notices
crc_even_notices h low reach small odd far even u v a b l r p q =
    sure_three h low (8 * reach) small odd far even (flips u v)
    (divides_xor (generator h low) (string 8 u) (string 8 v) p q)
    (flips-lt u v a b l reach r)

pub crc_parity_notices : CrcParity-notices
crc_parity_notices h low reach small odd far uneven u v a b l r (p, pe) (q, qe) =
    sure_parity h low (8 * reach - 1) small odd far uneven (flips u v)
    (subst (Divides (generator h low)) (sym (xor_shr (string 8 u) (string 8 v) 1))
    (divides_xor (generator h low) (string 8 u / 2) (string 8 v / 2) p q))
    (omega (arith, ones_xor (string 8 u) (string 8 v)))
    (half_lt (flips u v) (8 * reach) (flips-lt u v a b l reach r))
