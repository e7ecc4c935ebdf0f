-- Which flips are no multiple of a generator: those that a CRC notices.
-- Assumes nothing.
use Rattle.std.proofs.Common.{◌≡◌, ℕ, ◌+◌, ◌*◌, ◌%◌, ◌^◌, ◌<◌, ◌≤◌, true, false, ◌≢◌, sym, subst, le_trans, mul-le-mul_right, one-mul, lt_of_not-le, not-le_of_lt, arith, pow_pos, pow_mono}
use lib.Pow.{pow-lt}
use lib.Count.{ones}
use lib.Bits.{bit_xor, xor_shifted}
use Rattle.poly.specs.Poly.{Divides, generator, terms}
use Rattle.poly.specs.Period.{NoReturn}
use Rattle.poly.proofs.Ones.{even_multiple, one_term, two_terms}
use Rattle.poly.proofs.Multiples.{degree_pos, multiple_low, multiple_shr, no_power, no_return}
use Rattle.words.specs.Flips.{Burst, Sure}

xor_one : (j : ℕ) → 1 ≤ j → bit_xor (2 ^ j) 1 ≡ 2 ^ j + 1
xor_one j l = rw (one-mul (2 ^ j)) at (xor_shifted 1 j 1 (pow-lt l))

-- an X^j + 1, times any X^i, within a polynomial of a degree below n has j below n
span_lt : (i j n : ℕ) → 2 ^ i * (2 ^ j + 1) < 2 ^ n → j < n
span_lt i j n l =
    lt_of_not-le (λ (g : n ≤ j). not-le_of_lt l
    (le_trans (pow_mono g) (le_trans (omega arith) (mul-le-mul_right {m = 1} (2 ^ j + 1) (pow_pos i)))))

module _ (h low n : ℕ) (small : low < 2 ^ h) (odd : low % 2 ≡ 1) (far : NoReturn h low n) where
  -- a multiple of a degree below n has at least three terms
  pub no_one : (e : ℕ) → Divides (generator h low) e → ones e ≢ 1
  no_one e d k = let t = one_term e k in no_power h low small odd t.0 (subst (Divides (generator h low)) t.1 d)

  pub no_two : (e : ℕ) → Divides (generator h low) e → e < 2 ^ n → ones e ≢ 2
  no_two e d l k =
      let t = two_terms e k in
      let j : ℕ = t.1 in
      no_return h low small n (degree_pos h low small odd) far j t.2
      (span_lt t.0 j n (subst (λ x. x < 2 ^ n) t.3 l))
      (subst (Divides (generator h low)) (sym (xor_one j t.2))
      (multiple_shr h low small odd (2 ^ j + 1) t.0 (subst (Divides (generator h low)) t.3 d)))

  -- and its terms span more than h places
  pub no_span : (e : ℕ) → Divides (generator h low) e → ¬ Burst h e
  no_span e d (i, b, o, l, s) =
      let z = multiple_low h low small b (multiple_shr h low small odd b i (subst (Divides (generator h low)) s d)) l in
      omega arith

  -- a generator with any number of terms
  pub sure_two : (e : ℕ) → Divides (generator h low) e → e < 2 ^ n → ¬ Sure h 2 false e
  sure_two e d l (Sure.span b) = no_span e d b
  sure_two e d l (Sure.some_bits p q) = let a = no_one e d in let b = no_two e d l in omega arith
  sure_two e d l (Sure.uneven t k) = t

  -- a generator with an even number of terms
  pub sure_three : terms h low % 2 ≡ 0 → (e : ℕ) → Divides (generator h low) e → e < 2 ^ n → ¬ Sure h 3 true e
  sure_three even e d l (Sure.span b) = no_span e d b
  sure_three even e d l (Sure.some_bits p q) =
      let a = no_one e d in let b = no_two e d l in let c = even_multiple (generator h low) e even d in omega arith
  sure_three even e d l (Sure.uneven t k) = let c = even_multiple (generator h low) e even d in omega arith
