-- The law of a weighted sum, for words of bytes.
-- Assumes nothing.
use Rattle.std.proofs.Common.{◌≡◌, ℕ, suc, ◌+◌, ◌*◌, ◌^◌, ◌<◌, ◌≤◌, true, List, length, sym, ap, ◌∙◌, subst, ap₂, le_trans, le_of_eq, lt_of_lt_of_le, le_of_suc-le-suc, arith, pow_mono}
use native.Mathlib.Nat.{le_of_mul-le-mul_left, eq_of_mul-eq-mul_left}
use lib.Bits.{bit_xor, xor_lt, xor_shifted}
use Rattle.poly.specs.Poly.{Divides, generator, string}
use Rattle.poly.proofs.Product.{xor-shl, xor_swap}
use Rattle.poly.proofs.Divide.{divides_xor}
use Rattle.poly.proofs.Digits.{string_push, added, length_added, all_added, string_added}
use Rattle.poly.proofs.Multiples.{degree_pos}
use Rattle.words.specs.Flips.{flips, Sure}
use Rattle.words.specs.Words.{weighted, plain, WeightedSum-notices}
use Rattle.words.proofs.Tuples.{weighted_is, plain_is, sure_weighted}

pub weighted_sum_notices : WeightedSum-notices
weighted_sum_notices s low m low1 n mh small odd far small1 odd1 far1 even1 u v bu bv l r wu wv c =
    let h : ℕ = 8 * s in
    let a : List ℕ = wu.front in
    let b : List ℕ = wv.front in
    let f : ℕ = bit_xor wu.last wv.last in
    let s1 : 1 ≤ s = omega (arith, degree_pos h low small odd) in
    let same : suc (length a) ≡ suc (length b) =
    eq_of_mul-eq-mul_left s s1 (suc (length a)) (suc (length b)) (sym wu.whole ∙ l ∙ wv.whole) in
    let k : length a ≡ length b = omega arith in
    let short : length a ≤ n = le_of_suc-le-suc (le_of_mul-le-mul_left {k = s} (le_trans (le_of_eq (sym wu.whole)) r) s1) in
    let lf : f < 2 ^ m = xor_lt m wu.last wv.last wu.small wv.small in
    let e : flips u v ≡ string h (added a b) * 2 ^ h + f =
    ap₂ bit_xor (wu.tuples ∙ string_push h a wu.last) (wv.tuples ∙ string_push h b wv.last)
    ∙ xor_swap (string h a * 2 ^ h) wu.last (string h b * 2 ^ h) wv.last
    ∙ ap (λ x. bit_xor x f) (xor-shl (string h a) (string h b) h ∙ ap (λ x. x * 2 ^ h) (sym (string_added h a b k)))
    ∙ xor_shifted (string h (added a b)) h f (lt_of_lt_of_le lf (pow_mono mh)) in
    let first : bit_xor (weighted a) (weighted b) ≡ string 1 (added a b) =
    ap₂ bit_xor (weighted_is a) (weighted_is b) ∙ sym (string_added 1 a b k) in
    let second : bit_xor (bit_xor (plain a) wu.last) (bit_xor (plain b) wv.last) ≡ bit_xor (string 0 (added a b)) f =
    xor_swap (plain a) wu.last (plain b) wv.last
    ∙ ap (λ x. bit_xor x f) (ap₂ bit_xor (plain_is a) (plain_is b) ∙ sym (string_added 0 a b k)) in
    sure_weighted h low m low1 n small odd far small1 odd1 far1 even1 mh (added a b) f
    (all_added h a b wu.fits wv.fits)
    (le_trans (le_of_eq (length_added a b k)) short)
    lf
    (subst (Divides (generator h low)) first
    (divides_xor (generator h low) (weighted a) (weighted b) wu.first wv.first))
    (subst (Divides (generator m low1)) second
    (divides_xor (generator m low1) (bit_xor (plain a) wu.last) (bit_xor (plain b) wv.last) wu.second wv.second))
    (subst (Sure h 3 true) e c)
