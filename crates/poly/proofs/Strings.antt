-- Strings of digits as polynomials: one digit more, and strings joined.
-- Assumes nothing.
use Rattle.std.proofs.Common.{◌≡◌, ℕ, suc, ◌*◌, ◌^◌, List, [], ◌∷◌, ◌++◌, length, sym, refl, ap, ◌∙◌, mul_assoc, add_comm, mul-zero, zero-mul, mul-one, mul-suc, pow-add}
use lib.Bits.{bit_xor, xor_zero_r, xor_assoc}
use Rattle.poly.specs.Poly.{string}
use Rattle.poly.proofs.Product.{xor-shl}

-- p with the digits of s after it, one by one
abbrev pub joined : ℕ → ℕ → List ℕ → ℕ
joined w p [] = p
joined w p (d ∷ s) = joined w (bit_xor (p * 2 ^ w) d) s

pub joined-append : (w p : ℕ) (s t : List ℕ) → joined w p (s ++ t) ≡ joined w (joined w p s) t
joined-append w p [] t = refl
joined-append w p (d ∷ s) t = joined-append w (bit_xor (p * 2 ^ w) d) s t

pow_digit : (p w n : ℕ) → p * 2 ^ w * 2 ^ (w * n) ≡ p * 2 ^ (w * suc n)
pow_digit p w n =
    mul_assoc p (2 ^ w) (2 ^ (w * n))
    ∙ ap (λ x. p * x) (sym (pow-add 2 w (w * n)) ∙ ap (λ x. 2 ^ x) (add_comm w (w * n) ∙ sym (mul-suc w n)))

pub joined_is : (w p : ℕ) (s : List ℕ) → joined w p s ≡ bit_xor (p * 2 ^ (w * length s)) (string w s)
joined_is w p [] = sym (xor_zero_r (p * 2 ^ (w * 0)) ∙ ap (λ x. p * 2 ^ x) (mul-zero w) ∙ mul-one p)
joined_is w p (d ∷ s) =
    joined_is w (bit_xor (p * 2 ^ w) d) s
    ∙ ap (λ x. bit_xor x (string w s)) (sym (xor-shl (p * 2 ^ w) d (w * length s)))
    ∙ xor_assoc (p * 2 ^ w * 2 ^ (w * length s)) (d * 2 ^ (w * length s)) (string w s)
    ∙ ap (λ x. bit_xor x (bit_xor (d * 2 ^ (w * length s)) (string w s))) (pow_digit p w (length s))

pub joined-string : (w : ℕ) (s : List ℕ) → joined w 0 s ≡ string w s
joined-string w s = joined_is w 0 s ∙ ap (λ x. bit_xor x (string w s)) (zero-mul (2 ^ (w * length s)))

pub string-append : (w : ℕ) (s t : List ℕ) → string w (s ++ t) ≡ bit_xor (string w s * 2 ^ (w * length t)) (string w t)
string-append w s t =
    sym (joined-string w (s ++ t)) ∙ joined-append w 0 s t ∙ joined_is w (joined w 0 s) t
    ∙ ap (λ x. bit_xor (x * 2 ^ (w * length t)) (string w t)) (joined-string w s)
