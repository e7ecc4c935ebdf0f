-- Strings of digits that fit their width: the digits stand side by side, so that the string and its number are known by each other.
-- And the laws of strings that hold of any digits: a digit at the end, the sum of two strings, strings of strings.
-- Assumes nothing.
use Rattle.std.proofs.Common.{◌≡◌, ℕ, suc, ◌+◌, ◌*◌, ◌/◌, ◌%◌, ◌^◌, ◌<◌, List, [], ◌∷◌, ◌++◌, map, length, sym, refl, ap, ◌∙◌, subst, ap₂, mul_assoc, add_comm, mul-zero, mul-one, mul-suc, arith, length-append, pow_pos, pow-add}
use lib.Arith.{digits_lt, digits_div, digits_mod}
use lib.ListN.{length-map}
use lib.Bits.{bit_xor, xor_zero_r, xor_lt, xor_shifted}
use Rattle.std.specs.List.{AllByRecursion}
use Rattle.poly.specs.Poly.{string}
use Rattle.poly.proofs.Product.{xor-shl, xor_swap}
use Rattle.poly.proofs.Strings.{string-append}

-- ---- digits below 2^w

pub pow-digits : (w n : ℕ) → 2 ^ (w * suc n) ≡ 2 ^ w * 2 ^ (w * n)
pow-digits w n = ap (λ x. 2 ^ x) (mul-suc w n ∙ add_comm (w * n) w) ∙ pow-add 2 w (w * n)

pub string-lt : (w : ℕ) (s : List ℕ) → AllByRecursion (λ d. d < 2 ^ w) s → string w s < 2 ^ (w * length s)
string-lt w [] a = pow_pos (w * 0)
string-lt w (d ∷ s) (l, a) =
    let below = string-lt w s a in
    rw (pow-digits w (length s), xor_shifted d (w * length s) (string w s) below) (digits_lt l below)

pub string-cons : (w d : ℕ) (s : List ℕ) → AllByRecursion (λ d. d < 2 ^ w) s → string w (d ∷ s) ≡ d * 2 ^ (w * length s) + string w s
string-cons w d s a = xor_shifted d (w * length s) (string w s) (string-lt w s a)

-- strings of one length are the same if their numbers are
pub string_inj : (w : ℕ) (s t : List ℕ) → AllByRecursion (λ d. d < 2 ^ w) s → AllByRecursion (λ d. d < 2 ^ w) t → length s ≡ length t
    → string w s ≡ string w t → s ≡ t
string_inj w [] [] a b l e = refl
string_inj w [] (y ∷ t) a b l e = absurd (omega arith)
string_inj w (x ∷ s) [] a b l e = absurd (omega arith)
string_inj w (x ∷ s) (y ∷ t) (xa, a) (yb, b) l e =
    let k : length s ≡ length t = omega arith in
    let p : ℕ = 2 ^ (w * length t) in
    let same : x * p + string w s ≡ y * p + string w t =
    ap (λ n. x * 2 ^ (w * n) + string w s) (sym k) ∙ sym (string-cons w x s a) ∙ e ∙ string-cons w y t b in
    let ls : string w s < p = subst (λ n. string w s < 2 ^ (w * n)) k (string-lt w s a) in
    let lt : string w t < p = string-lt w t b in
    let first : x ≡ y = sym (digits_div x ls) ∙ ap (λ n. n / p) same ∙ digits_div y lt in
    let rest : string w s ≡ string w t = sym (digits_mod x ls) ∙ ap (λ n. n % p) same ∙ digits_mod y lt in
    ap₂ {C = List ℕ} (λ z zs. z ∷ zs) first (string_inj w s t a b k rest)

-- ---- any digits

-- one digit more, at the end
pub string_push : (w : ℕ) (s : List ℕ) (d : ℕ) → string w (s ++ d ∷ []) ≡ bit_xor (string w s * 2 ^ w) d
string_push w s d =
    string-append w s (d ∷ [])
    ∙ ap₂ (λ n x. bit_xor (string w s * 2 ^ n) x) (mul-one w)
    (xor_zero_r (d * 2 ^ (w * 0)) ∙ ap (λ n. d * 2 ^ n) (mul-zero w) ∙ mul-one d)

-- the sum of two strings, digit by digit, as long as the shorter
abbrev pub added : List ℕ → List ℕ → List ℕ
added [] t = []
added (x ∷ s) [] = []
added (x ∷ s) (y ∷ t) = bit_xor x y ∷ added s t

pub length_added : (s t : List ℕ) → length s ≡ length t → length (added s t) ≡ length s
length_added [] t l = refl
length_added (x ∷ s) [] l = absurd (omega arith)
length_added (x ∷ s) (y ∷ t) l = ap suc (length_added s t (omega arith))

pub all_added : (w : ℕ) (s t : List ℕ) → AllByRecursion (λ d. d < 2 ^ w) s → AllByRecursion (λ d. d < 2 ^ w) t → AllByRecursion (λ d. d < 2 ^ w) (added s t)
all_added w [] t a b = tt
all_added w (x ∷ s) [] a b = tt
all_added w (x ∷ s) (y ∷ t) (xa, a) (yb, b) = (xor_lt w x y xa yb, all_added w s t a b)

pub string_added : (w : ℕ) (s t : List ℕ) → length s ≡ length t → string w (added s t) ≡ bit_xor (string w s) (string w t)
string_added w [] [] l = refl
string_added w [] (y ∷ t) l = absurd (omega arith)
string_added w (x ∷ s) [] l = absurd (omega arith)
string_added w (x ∷ s) (y ∷ t) l =
    let k : length s ≡ length t = omega arith in
    let n : ℕ = w * length s in
    ap₂ (λ i r. bit_xor (bit_xor x y * 2 ^ (w * i)) r) (length_added s t k) (string_added w s t k)
    ∙ ap (λ r. bit_xor r (bit_xor (string w s) (string w t))) (sym (xor-shl x y n))
    ∙ xor_swap (x * 2 ^ n) (y * 2 ^ n) (string w s) (string w t)
    ∙ ap (λ i. bit_xor (bit_xor (x * 2 ^ n) (string w s)) (bit_xor (y * 2 ^ (w * i)) (string w t))) k

-- strings one after the other
abbrev pub chained : List (List ℕ) → List ℕ
chained [] = []
chained (g ∷ gs) = g ++ chained gs

pub length_chained : (n : ℕ) (gs : List (List ℕ)) → AllByRecursion (λ g. length g ≡ n) gs → length (chained gs) ≡ n * length gs
length_chained n [] a = sym (mul-zero n)
length_chained n (g ∷ gs) (e, a) =
    length-append g (chained gs) ∙ ap₂ (λ x y. x + y) e (length_chained n gs a)
    ∙ add_comm n (n * length gs) ∙ sym (mul-suc n (length gs))

-- strings of n digits each are digits of n times the width
pub string_chained : (w n : ℕ) (gs : List (List ℕ)) → AllByRecursion (λ g. length g ≡ n) gs
    → string w (chained gs) ≡ string (w * n) (map (string w) gs)
string_chained w n [] a = refl
string_chained w n (g ∷ gs) (e, a) =
    string-append w g (chained gs)
    ∙ ap₂ (λ x y. bit_xor (string w g * 2 ^ x) y)
    (ap (λ x. w * x) (length_chained n gs a) ∙ sym (mul_assoc w n (length gs))
    ∙ ap (λ x. w * n * x) (sym (length-map gs (string w))))
    (string_chained w n gs a)
