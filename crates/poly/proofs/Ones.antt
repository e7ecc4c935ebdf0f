-- Polynomials by the number of their terms: its parity in sums and products, and the polynomials of one and of two terms.
-- Assumes nothing.
use Rattle.std.proofs.Common.{◌≡◌, ℕ, suc, ◌+◌, ◌*◌, ◌/◌, ◌%◌, ◌^◌, ◌<◌, ◌≤◌, ◌⊎◌, List, [], ◌∷◌, length, sym, refl, ap, ◌∙◌, ap₂, inl, inr, add-zero, mod-lt, eq-zero-or-pos, one-mul, pow-suc, zero-add, zero-mul, arith, pow_pos}
use lib.Arith.{bin_ind}
use lib.Count.{ones, ones_step, ones_cat}
use lib.Bits.{bit_xor, xor_shr, xor_add_and}
use Rattle.poly.specs.Poly.{clmul, Divides, string}
use Rattle.poly.proofs.Product.{bit_cases, clmul_zero_l, clmul-step}

-- ---- parity

pub ones_zero : ones 0 ≡ 0
unfolding ones
ones_zero = refl

pub ones_one : ones 1 ≡ 1
unfolding ones
ones_one = refl

xor_odd : (a b : ℕ) → bit_xor a b % 2 ≡ (a % 2 + b % 2) % 2
xor_odd a b = omega (arith, xor_add_and a b)

parity : (x y s t u : ℕ) → u % 2 ≡ (s + t) % 2 → ((x + y) % 2 + u) % 2 ≡ ((x + s) + (y + t)) % 2
parity x y s t u h = omega arith

-- in a sum terms meet in pairs
pub ones_xor : (a b : ℕ) → ones (bit_xor a b) % 2 ≡ (ones a + ones b) % 2
ones_xor =
    bin_ind (λ (n : ℕ). (b : ℕ) → ones (bit_xor n b) % 2 ≡ (ones n + ones b) % 2)
    (λ b. rw (ones_zero, zero-add (ones b)))
    (λ n ih b. ap (λ x. x % 2) (ones_step (bit_xor n b) ∙ ap₂ (λ x y. x + ones y) (xor_odd n b) (xor_shr n b 1))
    ∙ parity (n % 2) (b % 2) (ones (n / 2)) (ones (b / 2)) (ones (bit_xor (n / 2) (b / 2))) (ih (b / 2))
    ∙ sym (ap₂ (λ x y. (x + y) % 2) (ones_step n) (ones_step b)))

pub ones_shl : (a k : ℕ) → ones (a * 2 ^ k) ≡ ones a
ones_shl a k =
    ap ones (sym (add-zero (a * 2 ^ k))) ∙ ones_cat k a 0 (pow_pos k) ∙ ap (λ x. ones a + x) ones_zero ∙ add-zero (ones a)

-- a multiple of a polynomial with an even number of terms has an even number of terms
pub even_multiple : (m p : ℕ) → ones m % 2 ≡ 0 → Divides m p → ones p % 2 ≡ 0
even_multiple m p even (q, e) = ap (λ x. ones x % 2) e ∙ product q
  where
    term : (n : ℕ) → ones (n % 2 * m) % 2 ≡ 0
    term n =
        bit_cases (λ b. ones (b * m) % 2 ≡ 0) (rw (zero-mul m, ones_zero)) (rw (one-mul m) even) (n % 2) (mod-lt n (pow_pos 1))

    product : (n : ℕ) → ones (clmul n m) % 2 ≡ 0
    product =
        bin_ind (λ (n : ℕ). ones (clmul n m) % 2 ≡ 0)
        (rw (clmul_zero_l m, ones_zero))
        (λ n ih. omega (
          arith,
          ap ones (clmul-step n m),
          ones_xor (clmul (n / 2) m * 2) (n % 2 * m),
          ones_shl (clmul (n / 2) m) 1,
          term n,
        ))

-- the parity of a string's terms is that of its digits' terms, so that the width does not matter
pub ones_string : (w v : ℕ) (s : List ℕ) → ones (string w s) % 2 ≡ ones (string v s) % 2
ones_string w v [] = refl
ones_string w v (d ∷ s) =
    let k = ones_string w v s in
    omega (
      arith,
      ones_xor (d * 2 ^ (w * length s)) (string w s),
      ones_shl d (w * length s),
      ones_xor (d * 2 ^ (v * length s)) (string v s),
      ones_shl d (v * length s),
    )

-- ---- few terms

pub no_terms : (e : ℕ) → ones e ≡ 0 → e ≡ 0
no_terms =
    bin_ind (λ (e : ℕ). ones e ≡ 0 → e ≡ 0) (λ _. refl)
    (λ e ih h. let k = ones_step e in let z = ih (omega arith) in omega arith)

pub some_terms : (e : ℕ) → 0 < e → 1 ≤ ones e
some_terms e l = go (eq-zero-or-pos (ones e))
  where
    go : (ones e ≡ 0) ⊎ (0 < ones e) → 1 ≤ ones e
    go (inl z) = let k = no_terms e z in absurd (omega arith)
    go (inr p) = p

-- one term: X^i
pub one_term : (e : ℕ) → ones e ≡ 1 → (i : ℕ) × (e ≡ 2 ^ i)
one_term = bin_ind (λ (e : ℕ). ones e ≡ 1 → (i : ℕ) × (e ≡ 2 ^ i)) (λ h. absurd (omega (arith, ones_zero))) step
  where
    step : (e : ℕ) → (ones (e / 2) ≡ 1 → (i : ℕ) × (e / 2 ≡ 2 ^ i)) → ones e ≡ 1 → (i : ℕ) × (e ≡ 2 ^ i)
    step e ih h = bit_cases (λ b. e % 2 ≡ b → (i : ℕ) × (e ≡ 2 ^ i)) even odd (e % 2) (mod-lt e (pow_pos 1)) refl
      where
        even : e % 2 ≡ 0 → (i : ℕ) × (e ≡ 2 ^ i)
        even z = let r = ih (omega (arith, ones_step e)) in (suc r.0, omega (arith, pow-suc 2 r.0))

        odd : e % 2 ≡ 1 → (i : ℕ) × (e ≡ 2 ^ i)
        odd z = (0, omega (arith, no_terms (e / 2) (omega (arith, ones_step e))))

-- two terms: X^i times X^j + 1, with j at least 1
abbrev pub TwoTerms : ℕ → Type 0
TwoTerms e = (i : ℕ) × (j : ℕ) × (1 ≤ j) × (e ≡ 2 ^ i * (2 ^ j + 1))

pub two_terms : (e : ℕ) → ones e ≡ 2 → TwoTerms e
two_terms = bin_ind (λ (e : ℕ). ones e ≡ 2 → TwoTerms e) (λ h. absurd (omega (arith, ones_zero))) step
  where
    step : (e : ℕ) → (ones (e / 2) ≡ 2 → TwoTerms (e / 2)) → ones e ≡ 2 → TwoTerms e
    step e ih h = bit_cases (λ b. e % 2 ≡ b → TwoTerms e) even odd (e % 2) (mod-lt e (pow_pos 1)) refl
      where
        even : e % 2 ≡ 0 → TwoTerms e
        even z = let r = ih (omega (arith, ones_step e)) in (suc r.0, r.1, r.2, rw (pow-suc 2 r.0) (omega arith))

        odd : e % 2 ≡ 1 → TwoTerms e
        odd z =
            let r = one_term (e / 2) (omega (arith, ones_step e)) in
            (0, suc r.0, omega arith, omega (arith, pow-suc 2 r.0))
