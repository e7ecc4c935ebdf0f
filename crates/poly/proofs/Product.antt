-- The laws of Horner's scheme over bits, of the sum by `bit_xor` and of the product `clmul`.
-- Assumes nothing.
use Rattle.std.proofs.Common.{◌≡◌, ℕ, zero, suc, ◌+◌, ◌*◌, ◌/◌, ◌%◌, ◌^◌, ◌<◌, ◌≤◌, sym, refl, ap, ◌∙◌, ap₂, le_refl, le_of_suc-le-suc, not-suc-le-zero, add-zero, mod-lt, zero-lt-suc, mul_assoc, one-mul, pow-suc, mul-zero, zero-mul, mul-one, mul-div_cancel, arith, lit<, pow_pos}
use native.Mathlib.Nat.{mod-one, mul-mod_left}
use native.Mathlib.Decide.{le_ind}
use lib.Arith.{half_le, bin_ind}
use lib.Pow.{split, mod-pow-add}
use lib.Bits.{bit_xor, xor_zero_r, xor_comm, xor_assoc, xor_self, xor_block, xor_shr, xor_mod, xor_shifted}
use Rattle.poly.specs.Poly.{horner, by_bits, clmul}

two_pos : zero < 2
two_pos = zero-lt-suc 1

-- ---- Horner's scheme

more : (f : ℕ → ℕ → ℕ) (n p : ℕ) → p ≤ n → horner f (suc n) p ≡ horner f n p
unfolding horner
more f zero zero h = refl
more f zero (suc p) h = absurd (not-suc-le-zero h)
more f (suc n) zero h = refl
more f (suc n) (suc p) h = ap (λ (x : ℕ). f x (suc p % 2)) (more f n (suc p / 2) (half_le h))

enough : (f : ℕ → ℕ → ℕ) (n p : ℕ) → p ≤ n → horner f n p ≡ horner f p p
enough f n p h = le_ind (λ (m : ℕ). horner f m p ≡ horner f p p) refl (λ m k e. more f m p k ∙ e) n h

-- one bit more, at the low end
pub by_bits-step : (f : ℕ → ℕ → ℕ) → f 0 0 ≡ 0 → (p : ℕ) → by_bits f p ≡ f (by_bits f (p / 2)) (p % 2)
unfolding by_bits horner
by_bits-step f z zero = sym z
by_bits-step f z (suc p) = ap (λ (x : ℕ). f x (suc p % 2)) (enough f p (suc p / 2) (half_le (le_refl (suc p))))

-- ---- sums

pub xor-shl : (a b k : ℕ) → bit_xor (a * 2 ^ k) (b * 2 ^ k) ≡ bit_xor a b * 2 ^ k
xor-shl a b k =
    ap₂ bit_xor (sym (add-zero (a * 2 ^ k))) (sym (add-zero (b * 2 ^ k)))
    ∙ xor_block k a b 0 0 (pow_pos k) (pow_pos k) ∙ add-zero (bit_xor a b * 2 ^ k)

pub xor_left_comm : (a b c : ℕ) → bit_xor a (bit_xor b c) ≡ bit_xor b (bit_xor a c)
xor_left_comm a b c = sym (xor_assoc a b c) ∙ ap (λ x. bit_xor x c) (xor_comm a b) ∙ xor_assoc b a c

pub xor_swap : (a b c d : ℕ) → bit_xor (bit_xor a b) (bit_xor c d) ≡ bit_xor (bit_xor a c) (bit_xor b d)
xor_swap a b c d = xor_assoc a b (bit_xor c d) ∙ ap (bit_xor a) (xor_left_comm b c d) ∙ sym (xor_assoc a c (bit_xor b d))

pub xor_cancel_r : (a b : ℕ) → bit_xor (bit_xor a b) b ≡ a
xor_cancel_r a b = xor_assoc a b b ∙ ap (bit_xor a) (xor_self b) ∙ xor_zero_r a

-- what differs by nothing is equal
pub xor-eq : (a b : ℕ) → bit_xor a b ≡ 0 → a ≡ b
xor-eq a b e = sym (xor_cancel_r a b) ∙ ap (λ x. bit_xor x b) e

-- a number is its upper bits and its lowest
pub xor_parts : (n k : ℕ) → bit_xor (n / 2 ^ k * 2 ^ k) (n % 2 ^ k) ≡ n
xor_parts n k = xor_shifted (n / 2 ^ k) k (n % 2 ^ k) (mod-lt n (pow_pos k)) ∙ split n k

-- ---- a bit times a polynomial

not-bit : {A : Type 0} {x : ℕ} → suc (suc x) < 2 → A
not-bit h = absurd (not-suc-le-zero (le_of_suc-le-suc (le_of_suc-le-suc h)))

pub bit_cases : (P : ℕ → Type 0) → P 0 → P 1 → (x : ℕ) → x < 2 → P x
bit_cases P p q zero h = p
bit_cases P p q (suc zero) h = q
bit_cases P p q (suc (suc x)) h = not-bit h

pub bit-xor-mul : (q x y : ℕ) → x < 2 → y < 2 → bit_xor (x * q) (y * q) ≡ bit_xor x y * q
bit-xor-mul q x y hx hy =
    bit_cases (λ x. bit_xor (x * q) (y * q) ≡ bit_xor x y * q)
    (rw zero-mul refl)
    (bit_cases (λ y. bit_xor (1 * q) (y * q) ≡ bit_xor 1 y * q)
    (simp (zero-mul, one-mul) (xor_zero_r q))
    (simp (zero-mul, one-mul) (xor_self q)) y hy) x hx

pub bit-mul-xor : (x p q : ℕ) → x < 2 → x * bit_xor p q ≡ bit_xor (x * p) (x * q)
bit-mul-xor x p q hx =
    bit_cases (λ x. x * bit_xor p q ≡ bit_xor (x * p) (x * q)) (simp zero-mul) (simp one-mul) x hx

-- ---- the product

pub clmul_zero_l : (q : ℕ) → clmul 0 q ≡ 0
unfolding clmul by_bits horner
clmul_zero_l q = refl

pub clmul-step : (p q : ℕ) → clmul p q ≡ bit_xor (clmul (p / 2) q * 2) (p % 2 * q)
unfolding clmul
clmul-step p q = by_bits-step (λ acc b. bit_xor (acc * 2) (b * q)) (zero-mul q) p

-- a polynomial of degree 0
pub clmul-bit : (x q : ℕ) → x < 2 → clmul x q ≡ x * q
clmul-bit x q hx =
    bit_cases (λ x. clmul x q ≡ x * q)
    (clmul_zero_l q ∙ sym (zero-mul q))
    (clmul-step 1 q ∙ ap (λ y. bit_xor (y * 2) (1 * q)) (clmul_zero_l q)) x hx

pub clmul_one_l : (q : ℕ) → clmul 1 q ≡ q
clmul_one_l q = clmul-bit 1 q (lit< tt) ∙ one-mul q

pub clmul_xor_l : (a b c : ℕ) → clmul (bit_xor a b) c ≡ bit_xor (clmul a c) (clmul b c)
clmul_xor_l a b c =
    bin_ind (λ (n : ℕ). (b : ℕ) → clmul (bit_xor n b) c ≡ bit_xor (clmul n c) (clmul b c))
    (λ b. ap (λ x. bit_xor x (clmul b c)) (sym (clmul_zero_l c)))
    (λ n ih b. clmul-step (bit_xor n b) c
    ∙ ap₂ (λ x y. bit_xor (clmul x c * 2) (y * c)) (xor_shr n b 1) (xor_mod n b 1)
    ∙ ap₂ (λ x y. bit_xor x y)
    (ap (λ x. x * 2) (ih (b / 2)) ∙ sym (xor-shl (clmul (n / 2) c) (clmul (b / 2) c) 1))
    (sym (bit-xor-mul c (n % 2) (b % 2) (mod-lt n two_pos) (mod-lt b two_pos)))
    ∙ xor_swap (clmul (n / 2) c * 2) (clmul (b / 2) c * 2) (n % 2 * c) (b % 2 * c)
    ∙ ap₂ bit_xor (sym (clmul-step n c)) (sym (clmul-step b c))) a b

pub clmul_xor_r : (a b c : ℕ) → clmul a (bit_xor b c) ≡ bit_xor (clmul a b) (clmul a c)
clmul_xor_r a b c =
    bin_ind (λ (n : ℕ). clmul n (bit_xor b c) ≡ bit_xor (clmul n b) (clmul n c))
    (clmul_zero_l (bit_xor b c) ∙ ap₂ bit_xor (sym (clmul_zero_l b)) (sym (clmul_zero_l c)))
    (λ n ih. clmul-step n (bit_xor b c)
    ∙ ap₂ bit_xor
    (ap (λ x. x * 2) ih ∙ sym (xor-shl (clmul (n / 2) b) (clmul (n / 2) c) 1))
    (bit-mul-xor (n % 2) b c (mod-lt n two_pos))
    ∙ xor_swap (clmul (n / 2) b * 2) (clmul (n / 2) c * 2) (n % 2 * b) (n % 2 * c)
    ∙ ap₂ bit_xor (sym (clmul-step n b)) (sym (clmul-step n c))) a

clmul_twice_l : (a b : ℕ) → clmul (a * 2) b ≡ clmul a b * 2
clmul_twice_l a b =
    clmul-step (a * 2) b
    ∙ ap₂ (λ x y. bit_xor (clmul x b * 2) (y * b)) (mul-div_cancel a two_pos) (mul-mod_left a 2)
    ∙ ap (bit_xor (clmul a b * 2)) (zero-mul b) ∙ xor_zero_r (clmul a b * 2)

clmul_twice_r : (a b : ℕ) → clmul a (b * 2) ≡ clmul a b * 2
clmul_twice_r a b =
    bin_ind (λ (n : ℕ). clmul n (b * 2) ≡ clmul n b * 2)
    (clmul_zero_l (b * 2) ∙ ap (λ x. x * 2) (sym (clmul_zero_l b)))
    (λ n ih. clmul-step n (b * 2)
    ∙ ap₂ (λ x y. bit_xor (x * 2) y) ih (sym (mul_assoc (n % 2) b 2))
    ∙ xor-shl (clmul (n / 2) b * 2) (n % 2 * b) 1
    ∙ ap (λ x. x * 2) (sym (clmul-step n b))) a

pow_more : (a k : ℕ) → a * 2 ^ suc k ≡ a * 2 ^ k * 2
pow_more a k = ap (λ x. a * x) (pow-suc 2 k) ∙ sym (mul_assoc a (2 ^ k) 2)

-- times X^k
pub clmul_shl_l : (a b k : ℕ) → clmul (a * 2 ^ k) b ≡ clmul a b * 2 ^ k
clmul_shl_l a b zero = ap (λ x. clmul x b) (mul-one a) ∙ sym (mul-one (clmul a b))
clmul_shl_l a b (suc k) =
    ap (λ x. clmul x b) (pow_more a k) ∙ clmul_twice_l (a * 2 ^ k) b ∙ ap (λ x. x * 2) (clmul_shl_l a b k)
    ∙ sym (pow_more (clmul a b) k)

pub clmul_shl_r : (a b k : ℕ) → clmul a (b * 2 ^ k) ≡ clmul a b * 2 ^ k
clmul_shl_r a b zero = ap (clmul a) (mul-one b) ∙ sym (mul-one (clmul a b))
clmul_shl_r a b (suc k) =
    ap (clmul a) (pow_more b k) ∙ clmul_twice_r a (b * 2 ^ k) ∙ ap (λ x. x * 2) (clmul_shl_r a b k)
    ∙ sym (pow_more (clmul a b) k)

pub clmul_zero_r : (a : ℕ) → clmul a 0 ≡ 0
clmul_zero_r a =
    bin_ind (λ (n : ℕ). clmul n 0 ≡ 0) (clmul_zero_l 0)
    (λ n ih. clmul-step n 0 ∙ ap₂ (λ x y. bit_xor (x * 2) y) ih (mul-zero (n % 2))) a

pub clmul_one_r : (a : ℕ) → clmul a 1 ≡ a
clmul_one_r a =
    bin_ind (λ (n : ℕ). clmul n 1 ≡ n) (clmul_zero_l 1)
    (λ n ih. clmul-step n 1 ∙ ap₂ (λ x y. bit_xor (x * 2) y) ih (mul-one (n % 2)) ∙ xor_parts n 1) a

clmul_bit_r : (a x : ℕ) → x < 2 → clmul a x ≡ x * a
clmul_bit_r a x hx =
    bit_cases (λ x. clmul a x ≡ x * a) (clmul_zero_r a ∙ sym (zero-mul a)) (clmul_one_r a ∙ sym (one-mul a)) x hx

pub clmul_comm : (a b : ℕ) → clmul a b ≡ clmul b a
clmul_comm a b =
    bin_ind (λ (n : ℕ). clmul n b ≡ clmul b n) (clmul_zero_l b ∙ sym (clmul_zero_r b))
    (λ n ih. clmul-step n b
    ∙ ap₂ bit_xor (ap (λ x. x * 2) ih ∙ sym (clmul_twice_r b (n / 2))) (sym (clmul_bit_r b (n % 2) (mod-lt n two_pos)))
    ∙ sym (clmul_xor_r b (n / 2 * 2) (n % 2))
    ∙ ap (clmul b) (xor_parts n 1)) a

bit-clmul : (x b c : ℕ) → x < 2 → clmul (x * b) c ≡ x * clmul b c
bit-clmul x b c hx =
    bit_cases (λ x. clmul (x * b) c ≡ x * clmul b c)
    (ap (λ y. clmul y c) (zero-mul b) ∙ clmul_zero_l c ∙ sym (zero-mul (clmul b c)))
    (ap (λ y. clmul y c) (one-mul b) ∙ sym (one-mul (clmul b c))) x hx

pub clmul_assoc : (a b c : ℕ) → clmul (clmul a b) c ≡ clmul a (clmul b c)
clmul_assoc a b c =
    bin_ind (λ (n : ℕ). clmul (clmul n b) c ≡ clmul n (clmul b c))
    (ap (λ x. clmul x c) (clmul_zero_l b) ∙ clmul_zero_l c ∙ sym (clmul_zero_l (clmul b c)))
    (λ n ih. ap (λ x. clmul x c) (clmul-step n b)
    ∙ clmul_xor_l (clmul (n / 2) b * 2) (n % 2 * b) c
    ∙ ap₂ bit_xor
    (clmul_twice_l (clmul (n / 2) b) c ∙ ap (λ x. x * 2) ih)
    (bit-clmul (n % 2) b c (mod-lt n two_pos))
    ∙ sym (clmul-step n (clmul b c))) a

-- ---- the product bit by bit of a, lowest first

pub clmul_more : (a q i : ℕ) → clmul (a % 2 ^ (i + 1)) q ≡ bit_xor (clmul (a % 2 ^ i) q) (a / 2 ^ i % 2 * q * 2 ^ i)
clmul_more a q i =
    let e : i + 1 ≡ 1 + i = omega arith in
    let b : ℕ = a / 2 ^ i % 2 in
    ap (λ x. clmul x q)
    (ap (λ n. a % 2 ^ n) e ∙ mod-pow-add a 1 i ∙ sym (xor_shifted b i (a % 2 ^ i) (mod-lt a (pow_pos i)))
    ∙ xor_comm (b * 2 ^ i) (a % 2 ^ i))
    ∙ clmul_xor_l (a % 2 ^ i) (b * 2 ^ i) q
    ∙ ap (bit_xor (clmul (a % 2 ^ i) q))
    (clmul_shl_l b q i ∙ ap (λ x. x * 2 ^ i) (clmul-bit b q (mod-lt (a / 2 ^ i) two_pos)))

pub clmul-none : (a q : ℕ) → 0 ≡ clmul (a % 2 ^ 0) q
clmul-none a q = sym (ap (λ x. clmul x q) (mod-one a) ∙ clmul_zero_l q)
