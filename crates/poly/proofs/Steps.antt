-- What one step of long division comes to: X times a residue, and one more bit of the dividend.
-- Assumes nothing.
use Rattle.std.proofs.Common.{◌≡◌, ℕ, suc, ◌+◌, ◌-◌, ◌*◌, ◌/◌, ◌%◌, ◌^◌, ◌<◌, ◌≤◌, ◌≢◌, sym, ap, ◌∙◌, subst, ap₂, lt_of_lt_of_le, mod-lt, zero-lt-suc, mul_assoc, one-mul, pow-suc, zero-mul, mul-one, add-one, arith, pow_mono, shr_lt}
use native.Mathlib.Nat.{div-eq_of_lt, div-div-eq-div-mul}
use lib.Bits.{bit_xor, xor_zero_r}
use Rattle.poly.specs.Poly.{rem, reduce, generator}
use Rattle.poly.proofs.Product.{xor_parts}
use Rattle.poly.proofs.Division.{rem_twice, rem-shl, rem-small, rem-xor, rem-zero}

module _ (h low : ℕ) (small : low < 2 ^ h) where
  -- X times r, where the degree stays below h, and where it comes to h
  pub twice_below : (r : ℕ) → r < 2 ^ h → r * 2 / 2 ^ h ≡ 0 → r * 2 ≡ rem h low (r * 2)
  unfolding reduce
  twice_below r l e =
      sym (rem_twice h low small r l
      ∙ ap (λ x. bit_xor (r * 2) (x * generator h low)) e
      ∙ ap (bit_xor (r * 2)) (zero-mul (generator h low)) ∙ xor_zero_r (r * 2))

  pub twice_over : (r : ℕ) → r < 2 ^ h → r * 2 / 2 ^ h ≢ 0 → bit_xor (r * 2) (2 ^ h + low) ≡ rem h low (r * 2)
  unfolding reduce
  twice_over r l ne =
      let e : suc h ≡ 1 + h = omega arith in
      let t : r * 2 < 2 ^ suc h = subst (λ n. r * 2 < n) (sym (pow-suc 2 h)) (bound l) in
      let bit : r * 2 / 2 ^ h < 2 = shr_lt 1 h (subst (λ n. r * 2 < 2 ^ n) e t) in
      let one : r * 2 / 2 ^ h ≡ 1 = omega arith in
      sym (rem_twice h low small r l
      ∙ ap (λ x. bit_xor (r * 2) (x * generator h low)) one
      ∙ ap (bit_xor (r * 2)) (one-mul (generator h low)))
    where
      bound : {x y : ℕ} → x < y → x * 2 < y * 2
      bound {x} {y} k = omega arith

  -- X^(i+1) times p, from X^i times p
  pub times_more : (p i : ℕ) → rem h low (rem h low (p * 2 ^ i) * 2) ≡ rem h low (p * 2 ^ (i + 1))
  times_more p i =
      sym (rem-shl h low small (p * 2 ^ i) 1)
      ∙ ap (rem h low) (mul_assoc p (2 ^ i) 2 ∙ ap (λ x. p * x) (sym (pow-suc 2 i)) ∙ ap (λ n. p * 2 ^ n) (sym (add-one i)))

  pub times_none : (p : ℕ) → p < 2 ^ h → p ≡ rem h low (p * 2 ^ 0)
  times_none p l = sym (ap (rem h low) (mul-one p) ∙ rem-small h low small p l)

  -- one bit more, at the low end
  pub bit_more : 2 ≤ h → (p : ℕ) → bit_xor (rem h low (rem h low (p / 2) * 2)) (p % 2) ≡ rem h low p
  bit_more two p =
      let l : p % 2 < 2 ^ h = lt_of_lt_of_le (mod-lt p (zero-lt-suc 1)) (pow_mono {i = 1} {j = h} (omega arith)) in
      ap₂ bit_xor (sym (rem-shl h low small (p / 2) 1)) (sym (rem-small h low small (p % 2) l))
      ∙ sym (rem-xor h low small (p / 2 * 2) (p % 2)) ∙ ap (rem h low) (xor_parts p 1)

  -- long division of p, of at most 32 bits, with i of them in
  pub divide_none : (p : ℕ) → p < 2 ^ 32 → 0 ≡ rem h low (p / 2 ^ 32)
  divide_none p l = sym (ap (rem h low) (div-eq_of_lt l) ∙ rem-zero h low small)

  pub divide_more : 2 ≤ h → (p i r t b : ℕ) → i < 32 → r ≡ rem h low (p / 2 ^ (32 - i)) → t ≡ rem h low (r * 2) → b ≡ p / 2 ^ (31 - i) % 2
      → bit_xor t b ≡ rem h low (p / 2 ^ (32 - (i + 1)))
  divide_more two p i r t b l er et eb =
      let k : 32 - i ≡ suc (31 - i) = omega arith in
      let n : 31 - i ≡ 32 - (i + 1) = omega arith in
      let half : p / 2 ^ (32 - i) ≡ p / 2 ^ (31 - i) / 2 =
      ap (λ x. p / 2 ^ x) k ∙ ap (λ x. p / x) (pow-suc 2 (31 - i)) ∙ sym (div-div-eq-div-mul p (2 ^ (31 - i)) 2) in
      ap₂ bit_xor (et ∙ ap (λ x. rem h low (x * 2)) (er ∙ ap (rem h low) half)) eb
      ∙ bit_more two (p / 2 ^ (31 - i)) ∙ ap (λ x. rem h low (p / 2 ^ x)) n
