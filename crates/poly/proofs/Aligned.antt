-- A generator moved up by s places, which is X^s times it: every remainder is moved up with it.
-- Assumes nothing.
use Rattle.std.proofs.Common.{◌≡◌, ℕ, ◌+◌, ◌-◌, ◌*◌, ◌/◌, ◌%◌, ◌^◌, ◌<◌, ◌≤◌, sym, refl, ap, ◌∙◌, subst, ap₂, lt_of_lt_of_le, mod-lt, mod-eq_of_lt, zero-lt-suc, mul_assoc, mul_comm, add-mul, one-mul, arith, pow_pos, pow_mono, pow-add, shl_lt}
use native.Mathlib.Nat.{eq_of_mul-eq-mul_right}
use lib.Pow.{shl-shr}
use lib.Bits.{bit_xor}
use Rattle.poly.specs.Poly.{clmul, generator, Remainder, rem}
use Rattle.poly.proofs.Product.{xor-shl, clmul_shl_r}
use Rattle.poly.proofs.Division.{rem_is, rem_unique, rem-shl}
use Rattle.poly.proofs.Steps.{times_more, divide_more}

pub shl_swap : (a i k : ℕ) → a * 2 ^ i * 2 ^ k ≡ a * 2 ^ k * 2 ^ i
shl_swap a i k = mul_assoc a (2 ^ i) (2 ^ k) ∙ ap (λ x. a * x) (mul_comm (2 ^ i) (2 ^ k)) ∙ sym (mul_assoc a (2 ^ k) (2 ^ i))

pub rem_aligned : (h s low : ℕ) → low < 2 ^ h → (p : ℕ) → rem (h + s) (low * 2 ^ s) (p * 2 ^ s) ≡ rem h low p * 2 ^ s
rem_aligned h s low small p =
    rem_unique (h + s) (low * 2 ^ s) (shl_lt h s small) (p * 2 ^ s) (rem h low p * 2 ^ s) (up (rem_is h low small p))
  where
    up : Remainder h low p (rem h low p) → Remainder (h + s) (low * 2 ^ s) (p * 2 ^ s) (rem h low p * 2 ^ s)
    up (l, (q, e)) = (
      shl_lt h s l,
      (
        q,
        ap (λ x. x * 2 ^ s) e ∙ sym (xor-shl (clmul q (generator h low)) (rem h low p) s)
            ∙ ap (λ x. bit_xor x (rem h low p * 2 ^ s))
            (sym (clmul_shl_r q (generator h low) s)
            ∙ ap (clmul q) (add-mul (2 ^ h) low (2 ^ s) ∙ ap (λ x. x + low * 2 ^ s) (sym (pow-add 2 h s)))),
      ),
    )

-- ---- at the top of 32 bits: up is the low part there, and one is 1

module _ (h low : ℕ) (small : low < 2 ^ h) (most : h ≤ 32) where
  all : 32 ≡ h + (32 - h)
  all = omega arith

  -- what is moved to the top is not cut
  pub to_top : (x : ℕ) → x < 2 ^ h → x * 2 ^ (32 - h) % 2 ^ 32 ≡ x * 2 ^ (32 - h)
  to_top x l = mod-eq_of_lt (subst (λ n. x * 2 ^ (32 - h) < 2 ^ n) (sym all) (shl_lt h (32 - h) l))

  pub rem_at_top : (up : ℕ) → up ≡ low * 2 ^ (32 - h) → (x : ℕ) → rem 32 up (x * 2 ^ (32 - h)) ≡ rem h low x * 2 ^ (32 - h)
  rem_at_top up eu x =
      ap₂ (λ n u. rem n u (x * 2 ^ (32 - h))) all eu ∙ rem_aligned h (32 - h) low small x

  -- X times the remainder r of p × X^i
  pub more_at_top : (up : ℕ) → up ≡ low * 2 ^ (32 - h) → (p i r t : ℕ) → r ≡ rem h low (p * 2 ^ i) * 2 ^ (32 - h) → t ≡ rem 32 up (r * 2)
      → t ≡ rem h low (p * 2 ^ (i + 1)) * 2 ^ (32 - h)
  more_at_top up eu p i r t er et =
      let s : ℕ = 32 - h in
      let x : ℕ = rem h low (p * 2 ^ i) in
      et ∙ ap (λ r. rem 32 up (r * 2)) er ∙ ap (rem 32 up) (shl_swap x s 1) ∙ rem_at_top up eu (x * 2) ∙ ap (λ y. y * 2 ^ s) (times_more h low small p i)

  -- from the top down to u places up
  pub down_to : (u : ℕ) → h + u ≤ 32 → (x : ℕ) → x * 2 ^ (32 - h) / 2 ^ (32 - h - u) ≡ x * 2 ^ u
  down_to u l x =
      let d : ℕ = 32 - h - u in
      let e : 32 - h ≡ u + d = omega arith in
      ap (λ n. x * 2 ^ n / 2 ^ d) e ∙ ap (λ n. n / 2 ^ d) (ap (λ n. x * n) (pow-add 2 u d) ∙ sym (mul_assoc x (2 ^ u) (2 ^ d)))
      ∙ shl-shr (x * 2 ^ u) d

  -- one more bit b of a dividend, of which q came in
  pub bit_at_top : 2 ≤ h → (up : ℕ) → up ≡ low * 2 ^ (32 - h) → (p i r t b : ℕ) → i < 32 → r ≡ rem 32 up (p / 2 ^ (32 - i) * 2 ^ (32 - h))
      → t ≡ rem 32 up (r * 2) → b ≡ p / 2 ^ (31 - i) % 2
      → bit_xor t (b * 2 ^ (32 - h) % 2 ^ 32) ≡ rem 32 up (p / 2 ^ (32 - (i + 1)) * 2 ^ (32 - h))
  bit_at_top two up eu p i r t b l er et eb =
      let s : ℕ = 32 - h in
      let q : ℕ = p / 2 ^ (32 - i) in
      let x : ℕ = rem h low q in
      let bit : b < 2 ^ h = subst (λ n. n < 2 ^ h) (sym eb) (lt_of_lt_of_le (mod-lt (p / 2 ^ (31 - i)) (zero-lt-suc 1)) (pow_mono {i = 1} {j = h} (omega arith))) in
      let step : t ≡ rem h low (x * 2) * 2 ^ s =
      et ∙ ap (λ r. rem 32 up (r * 2)) (er ∙ rem_at_top up eu q) ∙ ap (rem 32 up) (shl_swap x s 1) ∙ rem_at_top up eu (x * 2) in
      ap₂ bit_xor step (to_top b bit) ∙ xor-shl (rem h low (x * 2)) b s
      ∙ ap (λ y. y * 2 ^ s) (divide_more h low small two p i x (rem h low (x * 2)) b l refl refl eb)
      ∙ sym (rem_at_top up eu (p / 2 ^ (32 - (i + 1))))

  -- X^k times a remainder of p, and moved down again
  pub times_at_top : (up : ℕ) → up ≡ low * 2 ^ (32 - h) → (p x k r : ℕ) → x ≡ rem h low p → r ≡ rem 32 up (x * 2 ^ (32 - h) * 2 ^ k)
      → r / 2 ^ (32 - h) ≡ rem h low (p * 2 ^ k)
  times_at_top up eu p x k r ex er =
      let s : ℕ = 32 - h in
      ap (λ y. y / 2 ^ s)
      (er ∙ ap (rem 32 up) (shl_swap x s k) ∙ rem_at_top up eu (x * 2 ^ k)
      ∙ ap (λ y. y * 2 ^ s) (ap (λ y. rem h low (y * 2 ^ k)) ex ∙ sym (rem-shl h low small p k)))
      ∙ shl-shr (rem h low (p * 2 ^ k)) s

  -- a power of X returns at the top exactly if it returns
  module _ (up one : ℕ) (eu : up ≡ low * 2 ^ (32 - h)) (eo : one ≡ 2 ^ (32 - h)) (j : ℕ) where
    power_at_top : rem 32 up (one * 2 ^ j) ≡ rem h low (2 ^ j) * 2 ^ (32 - h)
    power_at_top = ap (rem 32 up) (ap (λ o. o * 2 ^ j) eo ∙ mul_comm (2 ^ (32 - h)) (2 ^ j)) ∙ rem_at_top up eu (2 ^ j)

    pub returns_from_top : rem 32 up (one * 2 ^ j) ≡ one → rem h low (2 ^ j) ≡ 1
    returns_from_top e =
        eq_of_mul-eq-mul_right (2 ^ (32 - h)) (pow_pos (32 - h)) (rem h low (2 ^ j)) 1 (sym power_at_top ∙ e ∙ eo ∙ sym (one-mul (2 ^ (32 - h))))

    pub returns_to_top : rem h low (2 ^ j) ≡ 1 → rem 32 up (one * 2 ^ j) ≡ one
    returns_to_top e = power_at_top ∙ ap (λ x. x * 2 ^ (32 - h)) e ∙ one-mul (2 ^ (32 - h)) ∙ sym eo
