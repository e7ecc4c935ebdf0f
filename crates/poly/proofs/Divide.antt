-- Degrees and divisibility: every polynomial but 0 has a degree, the degree of a product is the sum of the degrees,
-- and what a polynomial with the constant term 1 can divide.
-- Assumes nothing.
use Rattle.std.proofs.Common.{◌≡◌, ℕ, zero, suc, ◌+◌, ◌*◌, ◌/◌, ◌%◌, ◌^◌, ◌<◌, ◌≤◌, ◌⊎◌, sym, ap, ◌∙◌, subst, ap₂, inl, inr, le_of_eq, lt_of_lt_of_le, lt_irrefl, mod-lt, mul_assoc, mul_comm, div-lt_iff_lt-mul, eq-zero-or-pos, le_antisymm, suc-add, one-mul, pow-suc, le-div_iff_mul-le, zero-add, zero-mul, arith, pow_pos, pow_mono}
use native.Mathlib.Nat.{mul-mod_left, div-eq_of_lt, eq_of_mul-eq-mul_right}
use lib.Arith.{bin_ind}
use lib.Bits.{bit_xor, xor_shr, xor_mod, xor_lt}
use Rattle.poly.specs.Poly.{clmul, Divides, Degree}
use Rattle.poly.proofs.Product.{bit_cases, clmul_zero_l, clmul_one_l, clmul-step, clmul_xor_l, clmul_shl_l}

-- ---- degrees

-- every polynomial but 0 has a degree
pub degree : (p : ℕ) → 0 < p → (h : ℕ) × Degree p h
degree = bin_ind (λ (p : ℕ). 0 < p → (h : ℕ) × Degree p h) (λ l. absurd (lt_irrefl 0 l)) step
  where
    step : (p : ℕ) → (0 < p / 2 → (h : ℕ) × Degree (p / 2) h) → 0 < p → (h : ℕ) × Degree p h
    step p ih l = go (eq-zero-or-pos (p / 2))
      where
        go : (p / 2 ≡ 0) ⊎ (0 < p / 2) → (h : ℕ) × Degree p h
        go (inl e) = (0, (l, omega arith))
        go (inr g) = let d = ih g in (suc d.0, (omega (arith, pow-suc 2 d.0), omega (arith, pow-suc 2 (suc d.0))))

-- its coefficient there is 1
top_one : (h p : ℕ) → Degree p h → p / 2 ^ h ≡ 1
top_one h p (lo, hi) =
    le_antisymm
    (omega (arith, (div-lt_iff_lt-mul (pow_pos h)).1 (lt_of_lt_of_le hi (le_of_eq (pow-suc 2 h ∙ mul_comm (2 ^ h) 2)))))
    ((le-div_iff_mul-le (pow_pos h)).1 (subst (λ x. x ≤ p) (sym (one-mul (2 ^ h))) lo))

-- a sum with what is of a lower degree keeps the degree
pub xor_degree : (h p r : ℕ) → Degree p h → r < 2 ^ h → Degree (bit_xor p r) h
xor_degree h p r d l = (low, xor_lt (suc h) p r d.1 (lt_of_lt_of_le l (pow_mono (omega arith))))
  where
    high : bit_xor p r / 2 ^ h ≡ 1
    high = xor_shr p r h ∙ ap₂ bit_xor (top_one h p d) (div-eq_of_lt l)

    low : 2 ^ h ≤ bit_xor p r
    low = subst (λ x. x ≤ bit_xor p r) (one-mul (2 ^ h)) ((le-div_iff_mul-le (pow_pos h)).0 (le_of_eq (sym high)))

half_degree : (p h : ℕ) → Degree p (suc h) → Degree (p / 2) h
half_degree p h (lo, hi) = (omega (arith, pow-suc 2 h), omega (arith, pow-suc 2 (suc h)))

twice_degree : (p h : ℕ) → Degree p h → Degree (p * 2) (suc h)
twice_degree p h (lo, hi) = (omega (arith, pow-suc 2 h), omega (arith, pow-suc 2 (suc h)))

-- the degree of a product is the sum of the degrees
pub clmul_degree : (d h q m : ℕ) → Degree q d → Degree m h → Degree (clmul q m) (d + h)
clmul_degree zero h q m (lo, hi) dm = let e : q ≡ 1 = omega arith in rw (e, clmul_one_l m, zero-add h) dm
clmul_degree (suc d) h q m dq dm =
    let n : ℕ = suc (d + h) in
    let up = twice_degree (clmul (q / 2) m) (d + h) (clmul_degree d h (q / 2) m (half_degree q d dq) dm) in
    let small : m < 2 ^ n = lt_of_lt_of_le dm.1 (pow_mono (omega arith)) in
    let low : q % 2 * m < 2 ^ n =
    bit_cases (λ b. b * m < 2 ^ n) (rw (zero-mul m) (pow_pos n)) (rw (one-mul m) small) (q % 2) (mod-lt q (pow_pos 1)) in
    rw (clmul-step q m, suc-add d h) (xor_degree n (clmul (q / 2) m * 2) (q % 2 * m) up low)

-- ---- divisibility

pub divides_xor : (m a b : ℕ) → Divides m a → Divides m b → Divides m (bit_xor a b)
divides_xor m a b (q, e) (r, f) = (bit_xor q r, ap₂ bit_xor e f ∙ sym (clmul_xor_l q r m))

-- the constant term of a product is the product of the constant terms
clmul_odd : (q m : ℕ) → m % 2 ≡ 1 → clmul q m % 2 ≡ q % 2
clmul_odd q m o =
    ap (λ x. x % 2) (clmul-step q m) ∙ xor_mod (clmul (q / 2) m * 2) (q % 2 * m) 1
    ∙ ap (λ x. bit_xor x (q % 2 * m % 2)) (mul-mod_left (clmul (q / 2) m) 2)
    ∙ bit_cases (λ b. b * m % 2 ≡ b) (rw (zero-mul m)) (rw (one-mul m, o)) (q % 2) (mod-lt q (pow_pos 1))

-- a factor X falls away
divides_half : (m b : ℕ) → m % 2 ≡ 1 → Divides m (b * 2) → Divides m b
divides_half m b o (q, e) = (
  q / 2,
  eq_of_mul-eq-mul_right 2 (pow_pos 1) b (clmul (q / 2) m) (e ∙ ap (λ x. clmul x m) whole ∙ clmul_shl_l (q / 2) m 1),
)
  where
    even : q % 2 ≡ 0
    even = sym (clmul_odd q m o) ∙ ap (λ x. x % 2) (sym e) ∙ mul-mod_left b 2

    whole : q ≡ q / 2 * 2
    whole = omega (arith, even)

-- and so does a power of X
pub divides_shr : (m b i : ℕ) → m % 2 ≡ 1 → Divides m (2 ^ i * b) → Divides m b
divides_shr m b zero o d = rw (one-mul b) at d
divides_shr m b (suc i) o d = divides_shr m b i o (divides_half m (2 ^ i * b) o (subst (Divides m) same d))
  where
    same : 2 ^ suc i * b ≡ 2 ^ i * b * 2
    same = rw (pow-suc 2 i, mul_assoc (2 ^ i) 2 b, mul_assoc (2 ^ i) b 2, mul_comm 2 b)

-- a multiple of a lower degree is 0
pub low_multiple : (m h p : ℕ) → Degree m h → Divides m p → p < 2 ^ h → p ≡ 0
low_multiple m h p dm (q, e) l = go (eq-zero-or-pos q)
  where
    go : (q ≡ 0) ⊎ (0 < q) → p ≡ 0
    go (inl z) = e ∙ ap (λ x. clmul x m) z ∙ clmul_zero_l m
    go (inr g) =
        let d = degree q g in
        let k = clmul_degree d.0 h q m d.1 dm in
        let j : 2 ^ h ≤ 2 ^ (d.0 + h) = pow_mono (omega arith) in
        absurd (omega arith)

-- the only other multiple of the same degree, or of a lower one, is the polynomial itself
pub same_degree : (m h p : ℕ) → Degree m h → Divides m p → p < 2 ^ suc h → (p ≡ 0) ⊎ (p ≡ m)
same_degree m h p dm (q, e) l = go (eq-zero-or-pos q)
  where
    unit : (d : ℕ) → Degree q d → q ≡ 1
    unit zero (lo, hi) = omega arith
    unit (suc d) dq =
        let k = clmul_degree (suc d) h q m dq dm in
        let j : 2 ^ suc h ≤ 2 ^ (suc d + h) = pow_mono (omega arith) in
        absurd (omega arith)

    go : (q ≡ 0) ⊎ (0 < q) → (p ≡ 0) ⊎ (p ≡ m)
    go (inl z) = inl (e ∙ ap (λ x. clmul x m) z ∙ clmul_zero_l m)
    go (inr g) = let d = degree q g in inr (e ∙ ap (λ x. clmul x m) (unit d.0 d.1) ∙ clmul_one_l m)
