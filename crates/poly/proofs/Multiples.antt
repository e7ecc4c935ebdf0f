-- The multiples of a generator: those that leave nothing, and which polynomials of few or low terms are none.
-- Assumes nothing.
use Rattle.std.proofs.Common.{◌≡◌, ℕ, zero, suc, ◌+◌, ◌-◌, ◌*◌, ◌%◌, ◌^◌, ◌<◌, ◌≤◌, ◌⊎◌, ◌↔◌, sym, ap, ◌∙◌, subst, ap₂, mul_comm, one-mul, pow-suc, mul-one, arith, pow-add}
use native.Mathlib.Decide.{dec_lt}
use lib.Pow.{pow-lt}
use lib.Bits.{bit_xor, xor_zero_r, xor_comm, xor_self}
use Rattle.poly.specs.Poly.{clmul, Degree, Divides, generator, rem}
use Rattle.poly.specs.Period.{NoReturn}
use Rattle.poly.proofs.Product.{xor-shl, xor-eq}
use Rattle.poly.proofs.Division.{rem_is, rem-small, rem-xor, rem_multiple}
use Rattle.poly.proofs.Divide.{divides_shr, low_multiple, same_degree}

module _ (h low : ℕ) (small : low < 2 ^ h) where
  pub generator_degree : Degree (generator h low) h
  generator_degree = (omega arith, omega (arith, pow-suc 2 h))

  -- the multiples are what leaves nothing
  pub divides_rem : (p : ℕ) → Divides (generator h low) p → rem h low p ≡ 0
  divides_rem p (q, e) = ap (rem h low) e ∙ rem_multiple h low small q

  pub rem_divides : (p : ℕ) → rem h low p ≡ 0 → Divides (generator h low) p
  rem_divides p z =
      let d = rem_is h low small p in
      let product : ℕ = clmul d.1.0 (generator h low) in
      (d.1.0, d.1.1 ∙ ap (bit_xor product) z ∙ xor_zero_r product)

  pub leaves_nothing : (p : ℕ) → (rem h low p ≡ 0) ↔ Divides (generator h low) p
  leaves_nothing p = (rem_divides p, divides_rem p)

  -- a sum with c, of a degree below h, is a multiple exactly if c is the remainder
  pub completes : (p c : ℕ) → c < 2 ^ h → Divides (generator h low) (bit_xor p c) ↔ (c ≡ rem h low p)
  completes p c l = (
    (λ d. sym (xor-eq (rem h low p) c (sym sum ∙ divides_rem (bit_xor p c) d))),
    (λ e. rem_divides (bit_xor p c) (sum ∙ ap (bit_xor (rem h low p)) e ∙ xor_self (rem h low p))),
  )
    where
      sum : rem h low (bit_xor p c) ≡ bit_xor (rem h low p) c
      sum = rem-xor h low small p c ∙ ap (bit_xor (rem h low p)) (rem-small h low small c l)

  -- a multiple of a degree below h is 0, and one of a degree of at most h is that or the generator
  pub multiple_low : (p : ℕ) → Divides (generator h low) p → p < 2 ^ h → p ≡ 0
  multiple_low p d l = low_multiple (generator h low) h p generator_degree d l

  pub multiple_same : (p : ℕ) → Divides (generator h low) p → p < 2 ^ suc h → (p ≡ 0) ⊎ (p ≡ generator h low)
  multiple_same p d l = same_degree (generator h low) h p generator_degree d l

  -- with a period of at least n: no X^j + 1 is a multiple, j from 1 to n - 1
  pub no_return : (n : ℕ) → 1 ≤ h → NoReturn h low n → (j : ℕ) → 1 ≤ j → j < n → ¬ Divides (generator h low) (bit_xor (2 ^ j) 1)
  no_return n h1 far j j1 l d =
      far j j1 l (xor-eq (rem h low (2 ^ j)) 1
      (ap (bit_xor (rem h low (2 ^ j))) (sym (rem-small h low small 1 (pow-lt h1)))
      ∙ sym (rem-xor h low small (2 ^ j) 1) ∙ divides_rem (bit_xor (2 ^ j) 1) d))

-- ---- a generator with a constant term

pub degree_pos : (h low : ℕ) → low < 2 ^ h → low % 2 ≡ 1 → 1 ≤ h
degree_pos zero low small odd = absurd (omega arith)
degree_pos (suc h) low small odd = omega arith

pub generator_odd : (h low : ℕ) → low < 2 ^ h → low % 2 ≡ 1 → generator h low % 2 ≡ 1
generator_odd zero low small odd = absurd (omega arith)
generator_odd (suc h) low small odd = omega (arith, pow-suc 2 h)

module _ (h low : ℕ) (small : low < 2 ^ h) (odd : low % 2 ≡ 1) where
  -- a factor X^i falls away
  pub multiple_shr : (b i : ℕ) → Divides (generator h low) (2 ^ i * b) → Divides (generator h low) b
  multiple_shr b i = divides_shr (generator h low) b i (generator_odd h low small odd)

  -- no power of X is a multiple
  pub no_power : (i : ℕ) → ¬ Divides (generator h low) (2 ^ i)
  no_power i d =
      let z = multiple_low h low small 1 (multiple_shr 1 i (subst (Divides (generator h low)) (sym (mul-one (2 ^ i))) d))
      (pow-lt (degree_pos h low small odd)) in
      omega arith

  module _ (n : ℕ) (far : NoReturn h low n) where
    apart : (a k : ℕ) → 1 ≤ k → a + k < n → ¬ Divides (generator h low) (bit_xor (2 ^ (a + k)) (2 ^ a))
    apart a k k1 l d =
        no_return h low small n (degree_pos h low small odd) far k k1 (omega arith)
        (multiple_shr (bit_xor (2 ^ k) 1) a (subst (Divides (generator h low)) same d))
      where
        same : bit_xor (2 ^ (a + k)) (2 ^ a) ≡ 2 ^ a * bit_xor (2 ^ k) 1
        same =
            ap₂ bit_xor (pow-add 2 a k ∙ mul_comm (2 ^ a) (2 ^ k)) (sym (one-mul (2 ^ a)))
            ∙ xor-shl (2 ^ k) 1 a ∙ mul_comm (bit_xor (2 ^ k) 1) (2 ^ a)

    -- two powers of X below X^n whose sum is a multiple are one
    pub powers_same : (a b : ℕ) → a < n → b < n → Divides (generator h low) (bit_xor (2 ^ a) (2 ^ b)) → a ≡ b
    powers_same a b la lb d = go (dec_lt a b) (dec_lt b a)
      where
        go : Dec (a < b) → Dec (b < a) → a ≡ b
        go (yes l) r =
            let e : a + (b - a) ≡ b = omega arith in
            absurd (apart a (b - a) (omega arith) (omega arith)
            (subst (λ x. Divides (generator h low) (bit_xor (2 ^ x) (2 ^ a))) (sym e)
            (subst (Divides (generator h low)) (xor_comm (2 ^ a) (2 ^ b)) d)))
        go (no m) (yes l) =
            let e : b + (a - b) ≡ a = omega arith in
            absurd (apart b (a - b) (omega arith) (omega arith)
            (subst (λ x. Divides (generator h low) (bit_xor (2 ^ x) (2 ^ b))) (sym e) d))
        go (no m) (no k) = omega arith
