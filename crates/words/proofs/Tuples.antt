-- Which flips of tuples a weighted sum notices. The weighted sum of tuples is their string of width 1, for each is times X to the
-- number of tuples after it, and the plain sum is their string of width 0; so one lemma on strings serves both.
-- Assumes nothing.
use Rattle.std.proofs.Common.{◌≡◌, ℕ, zero, suc, ◌+◌, ◌-◌, ◌*◌, ◌/◌, ◌%◌, ◌^◌, ◌<◌, ◌≤◌, Bool, true, ◌≢◌, ◌⊎◌, List, [], ◌∷◌, length, sym, refl, ap, ◌∙◌, subst, ap₂, inl, inr, le_trans, le_of_eq, le_refl, lt_of_lt_of_le, le-add_right, lt_of_le_of_lt, add-zero, mul-le-mul_right, mul_assoc, mul_comm, div-lt_iff_lt-mul, eq-zero-or-pos, lt_of_mul-lt-mul_right, mul-pos, one-mul, pow-suc, lt_of_not-le, div-add-mod', zero-mul, mul-one, not-le_of_lt, mul-div_cancel, arith, pow_pos, pow_mono, pow-add}
use native.Mathlib.Nat.{mul-lt-mul_of_pos_left, mul-mod_left, mul-add-mod_self_right}
use native.Mathlib.Decide.{dec_lt}
use lib.Arith.{digits_lt, digits_div, digits_mod}
use lib.Count.{ones, ones_cat}
use lib.Bits.{bit_xor, xor_zero_r, xor_lt}
use Rattle.std.specs.List.{AllByRecursion}
use Rattle.poly.specs.Poly.{Divides, generator, terms, string}
use Rattle.poly.specs.Period.{NoReturn}
use Rattle.poly.proofs.Product.{xor-shl, xor-eq}
use Rattle.poly.proofs.Ones.{ones_zero, ones_xor, ones_string, even_multiple, no_terms, some_terms, one_term}
use Rattle.poly.proofs.Digits.{pow-digits, string-lt, string-cons}
use Rattle.poly.proofs.Multiples.{multiple_low, multiple_shr, powers_same}
use Rattle.words.specs.Flips.{Burst, Sure}
use Rattle.words.specs.Words.{weighted, plain}

-- ---- both sums as strings

pub weighted_is : (qs : List ℕ) → weighted qs ≡ string 1 qs
weighted_is [] = refl
weighted_is (q ∷ qs) = ap₂ (λ n x. bit_xor (q * 2 ^ n) x) (sym (one-mul (length qs))) (weighted_is qs)

unmoved : (d n : ℕ) → d * 2 ^ (0 * n) ≡ d
unmoved d n = ap (λ x. d * 2 ^ x) (zero-mul n) ∙ mul-one d

pub plain_is : (qs : List ℕ) → plain qs ≡ string 0 qs
plain_is [] = refl
plain_is (q ∷ qs) = ap₂ bit_xor (sym (unmoved q (length qs))) (plain_is qs)

-- ---- tuples that are all zero, or have a first that is not

-- all are zero: their string of any width is 0
abbrev Zero : List ℕ → Type 0
Zero s = (w : ℕ) → string w s ≡ 0

-- the first that is not zero, and what stands after it: only these count, at any width
record Lead (h : ℕ) (s : List ℕ) : Type 0 where
  pub head : ℕ
  pub rest : List ℕ
  pub pos : 0 < head
  pub low : head < 2 ^ h
  pub all : AllByRecursion (λ d. d < 2 ^ h) rest
  pub short : length rest < length s
  pub same : (w : ℕ) → string w s ≡ string w (head ∷ rest)

lead : (h : ℕ) (s : List ℕ) → AllByRecursion (λ d. d < 2 ^ h) s → Zero s ⊎ Lead h s
lead h [] a = inl (λ w. refl)
lead h (x ∷ s) (l, a) = go (eq-zero-or-pos x) (lead h s a)
  where
    skip : x ≡ 0 → (w : ℕ) → string w (x ∷ s) ≡ string w s
    skip z w = rw (z, zero-mul (2 ^ (w * length s)))

    go : (x ≡ 0) ⊎ (0 < x) → Zero s ⊎ Lead h s → Zero (x ∷ s) ⊎ Lead h (x ∷ s)
    go (inr p) t =
        inr (record { head = x; rest = s; pos = p; low = l; all = a; short = le_refl (suc (length s)); same = λ w. refl })
    go (inl z) (inl t) = inl (λ w. skip z w ∙ t w)
    go (inl z) (inr t) = inr (record {
      head = t.head;
      rest = t.rest;
      pos = t.pos;
      low = t.low;
      all = t.all;
      short = omega arith;
      same = λ w. skip z w ∙ t.same w;
    })

all-zero : (h : ℕ) (s : List ℕ) → AllByRecursion (λ d. d < 2 ^ h) s → string h s ≡ 0 → Zero s
all-zero h s a e = go (lead h s a)
  where
    go : Zero s ⊎ Lead h s → Zero s
    go (inl z) = z
    go (inr t) =
        let p : 0 < t.head * 2 ^ (h * length t.rest) = mul-pos t.pos (pow_pos (h * length t.rest)) in
        absurd (omega (arith, t.same h, string-cons h t.head t.rest t.all))

-- the sum of a string whose rest is zero
alone : (w d : ℕ) (s : List ℕ) → Zero s → string w (d ∷ s) ≡ d * 2 ^ (w * length s)
alone w d s z = ap (bit_xor (d * 2 ^ (w * length s))) (z w) ∙ xor_zero_r (d * 2 ^ (w * length s))

-- ---- ones

ones_cons : (h d : ℕ) (s : List ℕ) → AllByRecursion (λ d. d < 2 ^ h) s → ones (string h (d ∷ s)) ≡ ones d + ones (string h s)
ones_cons h d s a = ap ones (string-cons h d s a) ∙ ones_cat (h * length s) d (string h s) (string-lt h s a)

not-zero : (burst few : ℕ) (odd : Bool) (e : ℕ) → e ≡ 0 → ¬ Sure burst few odd e
not-zero burst few odd e z (Sure.span (i, b, o, l, s)) =
    let k : 0 < 2 ^ i * b = mul-pos (pow_pos i) (omega arith) in omega arith
not-zero burst few odd e z (Sure.some_bits p q) = omega (arith, ap ones z, ones_zero)
not-zero burst few odd e z (Sure.uneven t k) = omega (arith, ap ones z, ones_zero)

-- ---- a burst over two neighbours

pow_below : (a h : ℕ) → 2 ^ a < 2 ^ h → a < h
pow_below a h l = lt_of_not-le (λ (g : h ≤ a). not-le_of_lt l (pow_mono g))

-- a factor 2^i * b, where i is at least k, has a factor 2^k
pow_part : (i k b : ℕ) → k ≤ i → 2 ^ i * b ≡ 2 ^ (i - k) * b * 2 ^ k
pow_part i k b l =
    let j : i ≡ (i - k) + k = omega arith in
    ap (λ x. 2 ^ x * b) j ∙ ap (λ x. x * b) (pow-add 2 (i - k) k) ∙ mul_assoc (2 ^ (i - k)) (2 ^ k) b
    ∙ ap (λ x. 2 ^ (i - k) * x) (mul_comm (2 ^ k) b) ∙ sym (mul_assoc (2 ^ (i - k)) b (2 ^ k))

regroup : (d x X f P Q : ℕ) → (d * (P * Q) + (x * Q + X)) * P + f ≡ (d * P + x) * (Q * P) + (X * P + f)
regroup d x X f P Q = omega arith

mul_zero_left : (x p : ℕ) → 0 < p → x * p ≡ 0 → x ≡ 0
mul_zero_left x p l e = go (eq-zero-or-pos x)
  where
    go : (x ≡ 0) ⊎ (0 < x) → x ≡ 0
    go (inl z) = z
    go (inr g) = let k = mul-pos g l in absurd (omega arith)

-- it starts above all but the two
past : (h k i b y r : ℕ) → b < 2 ^ h → 2 ^ h ≤ y → y * 2 ^ k + r ≡ 2 ^ i * b → k < i
past h k i b y r l g e =
    lt_of_not-le (λ (n : i ≤ k).
    let p : 2 ^ i * b < 2 ^ i * 2 ^ h = mul-lt-mul_of_pos_left l (pow_pos i) in
    let q : 2 ^ i * 2 ^ h ≤ 2 ^ k * 2 ^ h = mul-le-mul_right (2 ^ h) (pow_mono n) in
    let t : 2 ^ h * 2 ^ k ≤ y * 2 ^ k = mul-le-mul_right (2 ^ k) g in
    let c : 2 ^ h * 2 ^ k ≡ 2 ^ k * 2 ^ h = mul_comm (2 ^ h) (2 ^ k) in
    omega arith)

-- so the rest is not changed, and the two by themselves are a burst
cut : (k i b y r : ℕ) → r < 2 ^ k → y * 2 ^ k + r ≡ 2 ^ i * b → k < i → (a : ℕ) × (1 ≤ a) × (y ≡ 2 ^ a * b) × (r ≡ 0)
cut k i b y r l e g = (
  i - k,
  omega arith,
  sym (digits_div y l) ∙ ap (λ x. x / 2 ^ k) whole ∙ mul-div_cancel (2 ^ (i - k) * b) (pow_pos k),
  sym (digits_mod y l) ∙ ap (λ x. x % 2 ^ k) whole ∙ mul-mod_left (2 ^ (i - k) * b) (2 ^ k),
)
  where
    whole : y * 2 ^ k + r ≡ 2 ^ (i - k) * b * 2 ^ k
    whole = e ∙ pow_part i k b (omega arith)

-- of a burst over two tuples d and x, with x twice d, d is one bit
halved : (h a b d x : ℕ) → 0 < d → a < h → d * 2 ^ h + x ≡ 2 ^ a * b → d < 2 ^ a → x ≡ d * 2 → d * 2 ≡ 2 ^ a
halved h a b d x p l e g t = go (d * 2 / 2 ^ a) refl
  where
    split : d * 2 ^ h ≡ 2 ^ (h - a) * d * 2 ^ a
    split = mul_comm d (2 ^ h) ∙ pow_part h a d (omega arith)

    whole : d * 2 % 2 ^ a ≡ 0
    whole =
        ap (λ y. y % 2 ^ a) (sym t) ∙ sym (mul-add-mod_self_right (2 ^ (h - a) * d) (2 ^ a) x)
        ∙ ap (λ y. (y + x) % 2 ^ a) (sym split) ∙ ap (λ y. y % 2 ^ a) (e ∙ mul_comm (2 ^ a) b) ∙ mul-mod_left b (2 ^ a)

    back : d * 2 / 2 ^ a * 2 ^ a ≡ d * 2
    back =
        sym (add-zero (d * 2 / 2 ^ a * 2 ^ a)) ∙ ap (λ y. d * 2 / 2 ^ a * 2 ^ a + y) (sym whole) ∙ div-add-mod' (d * 2) (2 ^ a)

    below : d * 2 / 2 ^ a < 2
    below = (div-lt_iff_lt-mul (pow_pos a)).1 (omega arith)

    go : (c : ℕ) → d * 2 / 2 ^ a ≡ c → d * 2 ≡ 2 ^ a
    go zero c = let k : d * 2 ≡ 0 = sym back ∙ ap (λ y. y * 2 ^ a) c ∙ zero-mul (2 ^ a) in absurd (omega arith)
    go (suc zero) c = sym back ∙ ap (λ y. y * 2 ^ a) c ∙ one-mul (2 ^ a)
    go (suc (suc n)) c = absurd (omega (arith, below))

-- The tuples have h bits, the degree of the generator of the weighted sum; s are the flips of all tuples but the last, of which
-- there are at most n, and f those of the last, below X^m.
module _ (h low m low1 n : ℕ) (small : low < 2 ^ h) (odd : low % 2 ≡ 1) (far : NoReturn h low n)
    (small1 : low1 < 2 ^ m) (odd1 : low1 % 2 ≡ 1) (far1 : NoReturn m low1 h) (even1 : terms m low1 % 2 ≡ 0) (mh : m ≤ h) where
  last_low : (f : ℕ) → f < 2 ^ m → f < 2 ^ h
  last_low f l = lt_of_lt_of_le l (pow_mono mh)

  -- one tuple alone is not changed
  not_one : (d t : ℕ) → 0 < d → d < 2 ^ h → ¬ Divides (generator h low) (d * 2 ^ t)
  not_one d t p l v =
      let z = multiple_low h low small d (multiple_shr h low small odd d t (subst (Divides (generator h low)) (mul_comm d (2 ^ t)) v)) l in
      omega arith

  even : (s : List ℕ) (f : ℕ) → f < 2 ^ h → Divides (generator m low1) (bit_xor (string 0 s) f)
      → ones (string h s * 2 ^ h + f) % 2 ≡ 0
  even s f l v =
      let k = even_multiple (generator m low1) (bit_xor (string 0 s) f) even1 v in
      omega (arith, ones_cat h (string h s) f l, ones_string h 0 s, ones_xor (string 0 s) f)

  -- two bits, in two tuples
  no_two : (d d' t t' : ℕ) → d < 2 ^ h → d' < 2 ^ h → ones d ≡ 1 → ones d' ≡ 1 → t' < t → t < n
      → Divides (generator h low) (bit_xor (d * 2 ^ t) (d' * 2 ^ t')) → Divides (generator m low1) (bit_xor d d') → ⊥
  no_two d d' t t' ld ld' u u' less ln v w =
      let (a, da) = one_term d u in
      let (b, db) = one_term d' u' in
      let la : a < h = pow_below a h (subst (λ x. x < 2 ^ h) da ld) in
      let lb : b < h = pow_below b h (subst (λ x. x < 2 ^ h) db ld') in
      let s : a ≡ b = powers_same m low1 small1 odd1 h far1 a b la lb (subst (Divides (generator m low1)) (ap₂ bit_xor da db) w) in
      let same : d' ≡ 2 ^ a = db ∙ ap (λ x. 2 ^ x) (sym s) in
      let form : bit_xor (d * 2 ^ t) (d' * 2 ^ t') ≡ 2 ^ a * bit_xor (2 ^ t) (2 ^ t') =
      ap₂ (λ x y. bit_xor (x * 2 ^ t) (y * 2 ^ t')) da same
      ∙ ap₂ bit_xor (mul_comm (2 ^ a) (2 ^ t)) (mul_comm (2 ^ a) (2 ^ t'))
      ∙ xor-shl (2 ^ t) (2 ^ t') a ∙ mul_comm (bit_xor (2 ^ t) (2 ^ t')) (2 ^ a) in
      let r = powers_same h low small odd n far t t' ln (omega arith)
      (multiple_shr h low small odd (bit_xor (2 ^ t) (2 ^ t')) a (subst (Divides (generator h low)) form v)) in
      omega arith

  -- no tuple but the last is changed: then nothing is
  none : (s : List ℕ) (f : ℕ) → f < 2 ^ m → Zero s → Divides (generator m low1) (bit_xor (string 0 s) f)
      → string h s * 2 ^ h + f ≡ 0
  none s f l z v =
      let k : f ≡ 0 = multiple_low m low1 small1 f (subst (λ x. Divides (generator m low1) (bit_xor x f)) (z 0) v) l in
      rw (z h, k, zero-mul (2 ^ h))

  -- just one other is changed: that cannot be
  single : (s : List ℕ) (t : Lead h s) → Zero t.rest → ¬ Divides (generator h low) (string 1 s)
  single s t z v =
      not_one t.head (1 * length t.rest) t.pos t.low
      (subst (Divides (generator h low)) (t.same 1 ∙ alone 1 t.head t.rest z) v)

  -- two or more are changed, by two bits in all
  pair : (s : List ℕ) (f : ℕ) → length s ≤ n → f < 2 ^ m → (t : Lead h s) (t' : Lead h t.rest)
      → Divides (generator h low) (string 1 s) → Divides (generator m low1) (bit_xor (string 0 s) f)
      → ones (string h s * 2 ^ h + f) ≢ 2
  pair s f ln l t t' v w k =
      let c = ones_cat h (string h s) f (last_low f l) in
      let c1 = ap ones (t.same h) ∙ ones_cons h t.head t.rest t.all in
      let c2 = ap ones (t'.same h) ∙ ones_cons h t'.head t'.rest t'.all in
      let p = some_terms t.head t.pos in
      let p' = some_terms t'.head t'.pos in
      let f0 : f ≡ 0 = no_terms f (omega arith) in
      let z : Zero t'.rest = all-zero h t'.rest t'.all (no_terms (string h t'.rest) (omega arith)) in
      let both : (w : ℕ) → string w s ≡ bit_xor (t.head * 2 ^ (w * length t.rest)) (t'.head * 2 ^ (w * length t'.rest)) =
      λ w. t.same w ∙ ap (bit_xor (t.head * 2 ^ (w * length t.rest))) (t'.same w ∙ alone w t'.head t'.rest z) in
      let sum : bit_xor (string 0 s) f ≡ bit_xor t.head t'.head =
      ap₂ bit_xor (both 0 ∙ ap₂ bit_xor (unmoved t.head (length t.rest)) (unmoved t'.head (length t'.rest))) f0
      ∙ xor_zero_r (bit_xor t.head t'.head) in
      no_two t.head t'.head (1 * length t.rest) (1 * length t'.rest) t.low t'.low (omega arith) (omega arith)
      (omega arith) (omega arith)
      (subst (Divides (generator h low)) (both 1) v) (subst (Divides (generator m low1)) sum w)

  -- a burst over two neighbours
  two : (d x a b : ℕ) → 0 < d → d < 2 ^ h → x < 2 ^ h → 1 ≤ a → b < 2 ^ h → d * 2 ^ h + x ≡ 2 ^ a * b
      → Divides (generator h low) (bit_xor (d * 2) x) → Divides (generator m low1) (bit_xor d x) → ⊥
  two d x a b p ld lx a1 lb e v w = go a a1 e under (dec_lt a h)
    where
      under : d < 2 ^ a
      under =
          lt_of_mul-lt-mul_right (2 ^ h)
          (lt_of_le_of_lt (le-add_right (d * 2 ^ h) x)
          (subst (λ y. y < 2 ^ a * 2 ^ h) (sym e) (mul-lt-mul_of_pos_left lb (pow_pos a))))

      go : (a : ℕ) → 1 ≤ a → d * 2 ^ h + x ≡ 2 ^ a * b → d < 2 ^ a → Dec (a < h) → ⊥
      go zero a1 e s t = omega arith
      go (suc a) a1 e s (yes l) =
          let twice : d * 2 < 2 ^ h = lt_of_lt_of_le (omega (arith, pow-suc 2 (suc a))) (pow_mono l) in
          let t : x ≡ d * 2 =
          sym (xor-eq (d * 2) x (multiple_low h low small (bit_xor (d * 2) x) v (xor_lt h (d * 2) x twice lx))) in
          let k : d * 2 ≡ 2 ^ suc a = halved h (suc a) b d x p l e s t in
          let j : d ≡ 2 ^ a = omega (arith, pow-suc 2 a) in
          let r = powers_same m low1 small1 odd1 h far1 a (suc a) (omega arith) l
          (subst (Divides (generator m low1)) (ap₂ bit_xor j (t ∙ k)) w) in
          omega arith
      go (suc a) a1 e s (no g) =
          let q : d * 2 ^ h + x ≡ 2 ^ (suc a - h) * b * 2 ^ h = e ∙ pow_part (suc a) h b (omega arith) in
          let z : x ≡ 0 = sym (digits_mod d lx) ∙ ap (λ y. y % 2 ^ h) q ∙ mul-mod_left (2 ^ (suc a - h) * b) (2 ^ h) in
          not_one d 1 p ld (subst (Divides (generator h low)) (ap (bit_xor (d * 2)) z ∙ xor_zero_r (d * 2)) v)

  burst : (d : ℕ) (s : List ℕ) (f : ℕ) → 0 < d → d < 2 ^ h → AllByRecursion (λ d. d < 2 ^ h) s → f < 2 ^ h
      → Divides (generator h low) (string 1 (d ∷ s)) → Divides (generator m low1) (bit_xor (string 0 (d ∷ s)) f)
      → ¬ Burst h (string h (d ∷ s) * 2 ^ h + f)
  burst d [] f p ld all lf v w c = not_one d (1 * 0) p ld (subst (Divides (generator h low)) (xor_zero_r (d * 2 ^ (1 * 0))) v)
  burst d (x ∷ s) f p ld (lx, all) lf v w (i, b, ob, lb, e) =
      let u : ℕ = length s in
      let X : ℕ = string h s in
      let K : 2 ^ (h * u + h) ≡ 2 ^ (h * u) * 2 ^ h = pow-add 2 (h * u) h in
      let whole : string h (d ∷ x ∷ s) ≡ d * (2 ^ h * 2 ^ (h * u)) + (x * 2 ^ (h * u) + X) =
      string-cons h d (x ∷ s) (lx, all) ∙ ap₂ (λ y z. d * y + z) (pow-digits h u) (string-cons h x s all) in
      let form : (d * 2 ^ h + x) * 2 ^ (h * u + h) + (X * 2 ^ h + f) ≡ 2 ^ i * b =
      ap (λ y. (d * 2 ^ h + x) * y + (X * 2 ^ h + f)) K ∙ sym (regroup d x X f (2 ^ h) (2 ^ (h * u)))
      ∙ ap (λ y. y * 2 ^ h + f) (sym whole) ∙ e in
      let below : X * 2 ^ h + f < 2 ^ (h * u + h) =
      subst (λ y. X * 2 ^ h + f < y) (sym K) (digits_lt (string-lt h s all) lf) in
      let big : 2 ^ h ≤ d * 2 ^ h + x =
      le_trans (le_trans (le_of_eq (sym (one-mul (2 ^ h)))) (mul-le-mul_right (2 ^ h) p)) (le-add_right (d * 2 ^ h) x) in
      let c = cut (h * u + h) i b (d * 2 ^ h + x) (X * 2 ^ h + f) below form
      (past h (h * u + h) i b (d * 2 ^ h + x) (X * 2 ^ h + f) lb big form) in
      let f0 : f ≡ 0 = omega arith in
      let z : Zero s = all-zero h s all (mul_zero_left X (2 ^ h) (pow_pos h) (omega arith)) in
      let shifted : string 1 (d ∷ x ∷ s) ≡ 2 ^ u * bit_xor (d * 2) x =
      ap₂ bit_xor
      (ap (λ y. d * 2 ^ y) (one-mul (suc u)) ∙ ap (λ y. d * y) (pow-suc 2 u ∙ mul_comm (2 ^ u) 2) ∙ sym (mul_assoc d 2 (2 ^ u)))
      (alone 1 x s z ∙ ap (λ y. x * 2 ^ y) (one-mul u))
      ∙ xor-shl (d * 2) x u ∙ mul_comm (bit_xor (d * 2) x) (2 ^ u) in
      let sum : bit_xor (string 0 (d ∷ x ∷ s)) f ≡ bit_xor d x =
      ap₂ bit_xor (ap₂ bit_xor (unmoved d (suc u)) (alone 0 x s z ∙ unmoved x u)) f0 ∙ xor_zero_r (bit_xor d x) in
      two d x c.0 b p ld lx c.1 lb c.2
      (multiple_shr h low small odd (bit_xor (d * 2) x) u (subst (Divides (generator h low)) shifted v))
      (subst (Divides (generator m low1)) sum w)

  pub sure_weighted : (s : List ℕ) (f : ℕ) → AllByRecursion (λ d. d < 2 ^ h) s → length s ≤ n → f < 2 ^ m
      → Divides (generator h low) (string 1 s) → Divides (generator m low1) (bit_xor (string 0 s) f)
      → ¬ Sure h 3 true (string h s * 2 ^ h + f)
  sure_weighted s f all ln lf v w c = go (lead h s all) c
    where
      ev : ones (string h s * 2 ^ h + f) % 2 ≡ 0
      ev = even s f (last_low f lf) w

      some : (t : Lead h s) → Zero t.rest ⊎ Lead h t.rest → Sure h 3 true (string h s * 2 ^ h + f) → ⊥
      some t (inl z) c = single s t z v
      some t (inr t') (Sure.some_bits p q) = let k = pair s f ln lf t t' v w in omega (arith, ev)
      some t (inr t') (Sure.uneven p q) = omega (arith, ev)
      some t (inr t') (Sure.span b) =
          burst t.head t.rest f t.pos t.low t.all (last_low f lf)
          (subst (Divides (generator h low)) (t.same 1) v)
          (subst (λ y. Divides (generator m low1) (bit_xor y f)) (t.same 0) w)
          (subst (λ y. Burst h (y * 2 ^ h + f)) (t.same h) b)

      go : Zero s ⊎ Lead h s → Sure h 3 true (string h s * 2 ^ h + f) → ⊥
      go (inl z) c = not-zero h 3 true (string h s * 2 ^ h + f) (none s f lf z w) c
      go (inr t) c = some t (lead h t.rest t.all) c
