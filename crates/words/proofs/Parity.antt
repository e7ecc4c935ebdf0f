-- Which flips a CRC with parity notices: its generator, with an odd number of terms, divides all bits but the last, and the last
-- makes the number of ones even.
-- Assumes nothing.
use Rattle.std.proofs.Common.{◌≡◌, ℕ, zero, suc, ◌+◌, ◌*◌, ◌/◌, ◌%◌, ◌^◌, ◌<◌, true, ◌⊎◌, ap, ◌∙◌, subst, inl, inr, mul_assoc, mul_comm, one-mul, pow-suc, mul-div_cancel, add-one, arith, pow_pos}
use lib.Count.{ones, ones_step}
use Rattle.poly.specs.Poly.{Divides, generator, terms}
use Rattle.poly.specs.Period.{NoReturn}
use Rattle.poly.proofs.Ones.{ones_one, ones_shl}
use Rattle.poly.proofs.Multiples.{multiple_low, multiple_same, multiple_shr}
use Rattle.words.specs.Flips.{Burst, Sure}
use Rattle.words.proofs.Crc.{no_one, no_two}

module _ (h low n : ℕ) (small : low < 2 ^ h) (odd : low % 2 ≡ 1) (far : NoReturn h low n) (uneven : terms h low % 2 ≡ 1) where
  -- a burst that starts at the last bit has nothing above it, and one above it is the generator itself
  no_span : (e : ℕ) → Divides (generator h low) (e / 2) → ones e % 2 ≡ 0 → ¬ Burst (suc h) e
  no_span e d even (zero, b, o, l, s) =
      let z = multiple_low h low small (e / 2) d (omega (arith, pow-suc 2 h, one-mul b)) in
      let k : e ≡ 1 = omega (arith, one-mul b) in
      omega (arith, ap ones k, ones_one)
  no_span e d even (suc i, b, o, l, s) =
      go (multiple_same h low small b (multiple_shr h low small odd b i (subst (Divides (generator h low)) half d)) l)
    where
      turned : e ≡ b * 2 ^ suc i
      turned = s ∙ mul_comm (2 ^ suc i) b

      half : e / 2 ≡ 2 ^ i * b
      half =
          ap (λ x. x / 2) (s ∙ rw (pow-suc 2 i, mul_assoc (2 ^ i) 2 b, mul_comm 2 b, ← mul_assoc (2 ^ i) b 2))
          ∙ mul-div_cancel (2 ^ i * b) (pow_pos 1)

      go : (b ≡ 0) ⊎ (b ≡ generator h low) → ⊥
      go (inl z) = omega arith
      go (inr z) = omega (arith, ap ones turned, ones_shl b (suc i), ap ones z)

  pub sure_parity : (e : ℕ) → Divides (generator h low) (e / 2) → ones e % 2 ≡ 0 → e / 2 < 2 ^ n → ¬ Sure (h + 1) 3 true e
  sure_parity e d even l (Sure.span b) = no_span e d even (subst (λ k. Burst k e) (add-one h) b)
  sure_parity e d even l (Sure.some_bits p q) =
      let a = no_one h low n small odd far (e / 2) d in
      let b = no_two h low n small odd far (e / 2) d l in
      omega (arith, ones_step e)
  sure_parity e d even l (Sure.uneven t k) = omega arith
