-- Division by a generator: the remainder is there, is one, and is what `rem` works out; and the laws of `rem`.
-- Assumes nothing.
use Rattle.std.proofs.Common.{◌≡◌, ℕ, zero, suc, ◌+◌, ◌*◌, ◌/◌, ◌%◌, ◌^◌, ◌<◌, sym, refl, ap, ◌∙◌, subst, ap₂, lt_of_lt_of_le, not-suc-le-zero, add-zero, mod-lt, zero-lt-suc, div-lt_iff_lt-mul, one-mul, pow-suc, zero-mul, arith, pow_pos, pow_mono, shl_lt, shr_lt}
use native.Mathlib.Nat.{zero-div, div-eq_of_lt, mul-div-mul_right, div-div-eq-div-mul}
use lib.Arith.{bin_ind, lt-one, digits_lt}
use lib.Pow.{high}
use lib.Bits.{bit_xor, xor_zero_r, xor_assoc, xor_self, xor_shr, xor_lt, xor_shifted}
use Rattle.poly.specs.Poly.{by_bits, horner, clmul, generator, Remainder, reduce, rem}
use Rattle.poly.proofs.Product.{by_bits-step, xor-shl, xor_left_comm, xor_swap, xor_cancel_r, xor-eq, xor_parts, bit_cases, clmul_zero_l, clmul-step, clmul-bit, clmul_xor_l, clmul_shl_l, clmul_shl_r, clmul_one_r, clmul_comm, clmul_assoc}

two_pos : zero < 2
two_pos = zero-lt-suc 1

-- ---- bounds on the degree

pub lt_of_high : (x k : ℕ) → x / 2 ^ k ≡ 0 → x < 2 ^ k
lt_of_high x k e =
    let l : x / 2 ^ k < 1 = omega arith in
    subst (λ n. x < n) (one-mul (2 ^ k)) ((div-lt_iff_lt-mul (pow_pos k)).0 l)

-- the product of polynomials of degrees below i and at most j has a degree below i + j
pub clmul-lt : (i j a b : ℕ) → a < 2 ^ i → b < 2 ^ suc j → clmul a b < 2 ^ (i + j)
clmul-lt zero j a b ha hb =
    subst (λ x. x < 2 ^ (zero + j)) (sym (ap (λ x. clmul x b) (lt-one ha) ∙ clmul_zero_l b)) (pow_pos (zero + j))
clmul-lt (suc i) j a b ha hb =
    subst (λ x. x < 2 ^ (suc i + j)) (sym (clmul-step a b))
    (xor_lt (suc i + j) (clmul (a / 2) b * 2) (a % 2 * b)
    (let more : suc i + j ≡ (i + j) + 1 = omega arith in
    let p : clmul (a / 2) b * 2 < 2 ^ ((i + j) + 1) = shl_lt (i + j) 1 (clmul-lt i j (a / 2) b half hb) in
    subst (λ n. clmul (a / 2) b * 2 < 2 ^ n) (sym more) p)
    (bit_cases (λ x. x * b < 2 ^ (suc i + j))
    (subst (λ x. x < 2 ^ (suc i + j)) (sym (zero-mul b)) (pow_pos (suc i + j)))
    (subst (λ x. x < 2 ^ (suc i + j)) (sym (one-mul b)) (lt_of_lt_of_le hb (pow_mono (omega arith))))
    (a % 2) (mod-lt a two_pos)))
  where
    half : a / 2 < 2 ^ i
    half = let e : suc i ≡ i + 1 = omega arith in shr_lt i 1 (subst (λ n. a < 2 ^ n) e ha)

module _ (h low : ℕ) (small : low < 2 ^ h) where
  -- ---- the remainder is one

  bit_high : (c : ℕ) → c < 2 → c * generator h low / 2 ^ h ≡ c
  bit_high c hc =
      bit_cases (λ c. c * generator h low / 2 ^ h ≡ c)
      (ap (λ x. x / 2 ^ h) (zero-mul (generator h low)) ∙ zero-div (2 ^ h))
      (ap (λ x. x / 2 ^ h) (one-mul (generator h low) ∙ ap (λ x. x + low) (sym (one-mul (2 ^ h)))) ∙ high 1 h small) c hc

  -- a multiple of the generator other than 0 has at least its degree
  pub multiple_high : (n : ℕ) → 0 < n → 0 < clmul n (generator h low) / 2 ^ h
  multiple_high =
      bin_ind (λ (n : ℕ). 0 < n → 0 < clmul n (generator h low) / 2 ^ h) (λ l. absurd (not-suc-le-zero l))
      (λ n ih l. by_half n ih l (n / 2) refl)
    where
      by_half : (n : ℕ) → (0 < n / 2 → 0 < clmul (n / 2) (generator h low) / 2 ^ h) → 0 < n → (m : ℕ) → m ≡ n / 2
          → 0 < clmul n (generator h low) / 2 ^ h
      by_half n ih l zero e =
          let bit : n < 2 = omega arith in
          subst (λ x. 0 < x) (sym (ap (λ x. x / 2 ^ h) (clmul-bit n (generator h low) bit) ∙ bit_high n bit)) l
      by_half n ih l (suc m) e =
          let C : ℕ = clmul (n / 2) (generator h low) in
          let b : ℕ = n % 2 in
          let up : 0 < C / 2 ^ h = ih (omega arith) in
          let one : C * 2 / 2 ^ h / 2 ≡ C / 2 ^ h =
          div-div-eq-div-mul (C * 2) (2 ^ h) 2 ∙ mul-div-mul_right C (2 ^ h) two_pos in
          let here : clmul n (generator h low) / 2 ^ h ≡ bit_xor (C * 2 / 2 ^ h) b =
          ap (λ x. x / 2 ^ h) (clmul-step n (generator h low)) ∙ xor_shr (C * 2) (b * generator h low) h
          ∙ ap (bit_xor (C * 2 / 2 ^ h)) (bit_high b (mod-lt n two_pos)) in
          let next : bit_xor (C * 2 / 2 ^ h) b / 2 ≡ C / 2 ^ h =
          xor_shr (C * 2 / 2 ^ h) b 1 ∙ ap₂ bit_xor one (div-eq_of_lt (mod-lt n two_pos)) ∙ xor_zero_r (C / 2 ^ h) in
          subst (λ x. 0 < x) (sym here) (omega arith)

  unique_of : (n r : ℕ) → clmul n (generator h low) ≡ r → r < 2 ^ h → r ≡ 0
  unique_of zero r e l = sym e ∙ clmul_zero_l (generator h low)
  unique_of (suc n) r e l =
      let a : 0 < clmul (suc n) (generator h low) / 2 ^ h = multiple_high (suc n) (zero-lt-suc n) in
      let b : clmul (suc n) (generator h low) / 2 ^ h ≡ 0 = ap (λ x. x / 2 ^ h) e ∙ div-eq_of_lt l in
      absurd (omega arith)

  pub remainder_unique : (p r s : ℕ) → Remainder h low p r → Remainder h low p s → r ≡ s
  remainder_unique p r s (lr, (q, e)) (ls, (q', e')) =
      xor-eq r s (unique_of (bit_xor q q') (bit_xor r s)
      (clmul_xor_l q q' (generator h low)
      ∙ ap₂ bit_xor (part q r e) (part q' s e')
      ∙ xor_swap p r p s ∙ ap (λ x. bit_xor x (bit_xor r s)) (xor_self p))
      (xor_lt h r s lr ls))
    where
      part : (q r : ℕ) → p ≡ bit_xor (clmul q (generator h low)) r → clmul q (generator h low) ≡ bit_xor p r
      part q r e = sym (xor_cancel_r (clmul q (generator h low)) r) ∙ ap (λ x. bit_xor x r) (sym e)

  -- ---- remainders of sums and products

  pub remainder-small : (r : ℕ) → r < 2 ^ h → Remainder h low r r
  remainder-small r l = (l, (0, ap (λ x. bit_xor x r) (sym (clmul_zero_l (generator h low)))))

  -- a multiple of the generator more
  pub remainder_more : (p q t r : ℕ) → p ≡ bit_xor (clmul q (generator h low)) t → Remainder h low t r → Remainder h low p r
  remainder_more p q t r e (l, (u, f)) = (
    l,
    (
      bit_xor q u,
      e ∙ ap (bit_xor (clmul q (generator h low))) f
          ∙ sym (xor_assoc (clmul q (generator h low)) (clmul u (generator h low)) r)
          ∙ ap (λ x. bit_xor x r) (sym (clmul_xor_l q u (generator h low))),
    ),
  )

  pub remainder-xor : (a b r s : ℕ) → Remainder h low a r → Remainder h low b s → Remainder h low (bit_xor a b) (bit_xor r s)
  remainder-xor a b r s (lr, (q, e)) (ls, (u, f)) = (
    xor_lt h r s lr ls,
    (
      bit_xor q u,
      ap₂ bit_xor e f
          ∙ xor_swap (clmul q (generator h low)) r (clmul u (generator h low)) s
          ∙ ap (λ x. bit_xor x (bit_xor r s)) (sym (clmul_xor_l q u (generator h low))),
    ),
  )

  -- for a factor its remainder does as well
  pub remainder-mul : (p r b s : ℕ) → Remainder h low p r → Remainder h low (clmul r b) s → Remainder h low (clmul p b) s
  remainder-mul p r b s (lr, (q, e)) d =
      remainder_more (clmul p b) (clmul q b) (clmul r b) s
      (ap (λ x. clmul x b) e ∙ clmul_xor_l (clmul q (generator h low)) r b
      ∙ ap (λ x. bit_xor x (clmul r b))
      (clmul_assoc q (generator h low) b ∙ ap (clmul q) (clmul_comm (generator h low) b) ∙ sym (clmul_assoc q b (generator h low)))) d

  -- ---- `rem` is the remainder

  reduce-zero : reduce h low 0 ≡ 0
  unfolding reduce
  reduce-zero = ap (λ x. x * generator h low) (zero-div (2 ^ h)) ∙ zero-mul (generator h low)

  pub rem-step : (p : ℕ) → rem h low p ≡ reduce h low (rem h low (p / 2) * 2 + p % 2)
  unfolding rem
  rem-step p = by_bits-step (λ acc b. reduce h low (acc * 2 + b)) reduce-zero p

  pub rem-zero : rem h low 0 ≡ 0
  unfolding rem by_bits horner
  rem-zero = refl

  pub reduce_is : (t : ℕ) → t < 2 ^ suc h → Remainder h low t (reduce h low t)
  unfolding reduce
  reduce_is t l =
      let c : ℕ = t / 2 ^ h in
      let e : suc h ≡ 1 + h = omega arith in
      let bit : c < 2 = shr_lt 1 h (subst (λ n. t < 2 ^ n) e l) in (
        lt_of_high (bit_xor t (c * generator h low)) h
            (xor_shr t (c * generator h low) h ∙ ap (bit_xor c) (bit_high c bit) ∙ xor_self c),
        (
          c,
          sym (ap (λ x. bit_xor x (bit_xor t (c * generator h low))) (clmul-bit c (generator h low) bit)
              ∙ xor_left_comm (c * generator h low) t (c * generator h low)
              ∙ ap (bit_xor t) (xor_self (c * generator h low)) ∙ xor_zero_r t),
        ),
      )

  -- one bit more
  pub bit-lt : (r b : ℕ) → r < 2 ^ h → b < 2 → r * 2 + b < 2 ^ suc h
  bit-lt r b lr lb = subst (λ n. r * 2 + b < n) (sym (pow-suc 2 h)) (digits_lt lr lb)

  pub rem_is : (p : ℕ) → Remainder h low p (rem h low p)
  rem_is =
      bin_ind (λ (p : ℕ). Remainder h low p (rem h low p))
      (subst (Remainder h low 0) (sym rem-zero) (remainder-small 0 (pow_pos h)))
      step
    where
      step : (p : ℕ) → Remainder h low (p / 2) (rem h low (p / 2)) → Remainder h low p (rem h low p)
      step p (l, (q, e)) =
          let r : ℕ = rem h low (p / 2) in
          subst (Remainder h low p) (sym (rem-step p))
          (remainder_more p (q * 2) (r * 2 + p % 2) (reduce h low (r * 2 + p % 2))
          (sym (xor_parts p 1)
          ∙ ap (λ x. bit_xor (x * 2) (p % 2)) e
          ∙ ap (λ x. bit_xor x (p % 2)) (sym (xor-shl (clmul q (generator h low)) r 1))
          ∙ xor_assoc (clmul q (generator h low) * 2) (r * 2) (p % 2)
          ∙ ap₂ bit_xor (sym (clmul_shl_l q (generator h low) 1)) (xor_shifted r 1 (p % 2) (mod-lt p two_pos)))
          (reduce_is (r * 2 + p % 2) (bit-lt r (p % 2) l (mod-lt p two_pos))))

  pub rem_lt : (p : ℕ) → rem h low p < 2 ^ h
  rem_lt p = (rem_is p).0

  pub rem_unique : (p r : ℕ) → Remainder h low p r → rem h low p ≡ r
  rem_unique p r d = remainder_unique p (rem h low p) r (rem_is p) d

  pub rem-small : (p : ℕ) → p < 2 ^ h → rem h low p ≡ p
  rem-small p l = rem_unique p p (remainder-small p l)

  pub rem-xor : (a b : ℕ) → rem h low (bit_xor a b) ≡ bit_xor (rem h low a) (rem h low b)
  rem-xor a b =
      rem_unique (bit_xor a b) (bit_xor (rem h low a) (rem h low b))
      (remainder-xor a b (rem h low a) (rem h low b) (rem_is a) (rem_is b))

  pub rem-mul : (a b : ℕ) → rem h low (clmul a b) ≡ rem h low (clmul (rem h low a) b)
  rem-mul a b =
      rem_unique (clmul a b) (rem h low (clmul (rem h low a) b))
      (remainder-mul a (rem h low a) b (rem h low (clmul (rem h low a) b)) (rem_is a) (rem_is (clmul (rem h low a) b)))

  -- a multiple of the generator leaves nothing
  pub rem_multiple : (q : ℕ) → rem h low (clmul q (generator h low)) ≡ 0
  rem_multiple q = rem_unique (clmul q (generator h low)) 0 (pow_pos h, (q, sym (xor_zero_r (clmul q (generator h low)))))

  -- `p * 2 ^ k` is p times X^k
  pub shl_is : (p k : ℕ) → clmul p (2 ^ k) ≡ p * 2 ^ k
  shl_is p k =
      ap (clmul p) (sym (one-mul (2 ^ k))) ∙ clmul_shl_r p 1 k ∙ ap (λ x. x * 2 ^ k) (clmul_one_r p)

  pub rem-shl : (p k : ℕ) → rem h low (p * 2 ^ k) ≡ rem h low (rem h low p * 2 ^ k)
  rem-shl p k =
      ap (rem h low) (sym (shl_is p k)) ∙ rem-mul p (2 ^ k) ∙ ap (rem h low) (shl_is (rem h low p) k)

  -- one step of an engine: X times the register
  pub rem_twice : (r : ℕ) → r < 2 ^ h → rem h low (r * 2) ≡ reduce h low (r * 2)
  rem_twice r l =
      rem_unique (r * 2) (reduce h low (r * 2))
      (reduce_is (r * 2) (subst (λ n. n < 2 ^ suc h) (add-zero (r * 2)) (bit-lt r 0 l two_pos)))
