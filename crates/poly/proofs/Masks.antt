-- A mask that is all ones or none: 0 - b, cut to 32 bits, keeps a number where the bit b is set. So X times a residue has no test.
-- Assumes nothing.
use Rattle.std.proofs.Common.{◌≡◌, ℕ, ◌+◌, ◌-◌, ◌*◌, ◌/◌, ◌%◌, ◌^◌, ◌<◌, ◌≤◌, sym, ap, ◌∙◌, subst, ap₂, mod-lt, mod-eq_of_lt, one-mul, zero-mul, arith, pow_pos, pow-add, shr_lt}
use native.Mathlib.Nat.{mul-div-mul_right}
use lib.Bits.{bit_and, bit_xor, and_mask, and_zero_r, xor_comm, xor_shifted}
use Rattle.poly.specs.Poly.{clmul, generator, rem}
use Rattle.poly.proofs.Product.{bit_cases, xor_parts, xor_cancel_r, clmul_one_l}
use Rattle.poly.proofs.Division.{rem-xor, rem-zero, rem-small, rem_unique}

pub masked : (y b : ℕ) → y < 2 ^ 32 → b < 2 → bit_and y ((0 + (2 ^ 32 - b)) % 2 ^ 32) ≡ b * y
masked y b ly lb =
    bit_cases (λ b. bit_and y ((0 + (2 ^ 32 - b)) % 2 ^ 32) ≡ b * y)
    (and_zero_r y ∙ sym (zero-mul y)) (and_mask y 32 ∙ mod-eq_of_lt ly ∙ sym (one-mul y)) b lb

-- X^h leaves the low part
pub low_is : (h low : ℕ) → low < 2 ^ h → low ≡ rem h low (2 ^ h)
low_is h low small = sym (rem_unique h low small (2 ^ h) low (small, (1, apart)))
  where
    apart : 2 ^ h ≡ bit_xor (clmul 1 (generator h low)) low
    apart =
        sym (xor_cancel_r (2 ^ h) low)
        ∙ ap (λ x. bit_xor x low)
        (ap (λ x. bit_xor x low) (sym (one-mul (2 ^ h))) ∙ xor_shifted 1 h low small ∙ ap (λ x. x + low) (one-mul (2 ^ h))
        ∙ sym (clmul_one_l (generator h low)))

module _ (h low : ℕ) (h1 : 1 ≤ h) (small : low < 2 ^ h) where
  split_h : h ≡ (h - 1) + 1
  split_h = omega arith

  top_is : (r : ℕ) → r * 2 / 2 ^ h ≡ r / 2 ^ (h - 1)
  top_is r = ap (λ n. r * 2 / n) (ap (λ n. 2 ^ n) split_h ∙ pow-add 2 (h - 1) 1) ∙ mul-div-mul_right r (2 ^ (h - 1)) (pow_pos 1)

  -- the top bit
  pub top_lt : (r : ℕ) → r < 2 ^ h → r / 2 ^ (h - 1) < 2
  top_lt r l = let e : h ≡ 1 + (h - 1) = omega arith in shr_lt 1 (h - 1) (subst (λ n. r < 2 ^ n) e l)

  over : (c : ℕ) → c < 2 → rem h low (c * 2 ^ h) ≡ c * low
  over c l =
      bit_cases (λ c. rem h low (c * 2 ^ h) ≡ c * low)
      (ap (rem h low) (zero-mul (2 ^ h)) ∙ rem-zero h low small ∙ sym (zero-mul low))
      (ap (rem h low) (one-mul (2 ^ h)) ∙ sym (low_is h low small) ∙ sym (one-mul low)) c l

  -- what is kept, and the low part where X^h comes up
  pub twice_masked : (r : ℕ) → r < 2 ^ h → bit_xor (r * 2 % 2 ^ h) (r / 2 ^ (h - 1) * low) ≡ rem h low (r * 2)
  twice_masked r l =
      let k : ℕ = r * 2 % 2 ^ h in
      let t : ℕ = r / 2 ^ (h - 1) in
      sym (ap (rem h low) (sym (xor_parts (r * 2) h) ∙ ap (λ c. bit_xor (c * 2 ^ h) k) (top_is r))
      ∙ rem-xor h low small (t * 2 ^ h) k
      ∙ ap₂ bit_xor (over t (top_lt r l)) (rem-small h low small k (mod-lt (r * 2) (pow_pos h)))
      ∙ xor_comm (t * low) k)
