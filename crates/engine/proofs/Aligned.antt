-- A generator moved up by s places, which is X^s times it: every remainder is moved up with it.
-- Assumes nothing.
use Rattle.std.proofs.Common.{◌≡◌, ℕ, ◌+◌, ◌-◌, ◌*◌, ◌/◌, ◌^◌, ◌<◌, ◌≤◌, List, [], ◌∷◌, sym, refl, ap, ◌∙◌, subst, ap₂, mul_assoc, arith, pow-add, shl_lt, shr_lt}
use lib.Pow.{shl-shr}
use lib.Bits.{bit_xor}
use Rattle.poly.specs.Poly.{rem}
use Rattle.poly.proofs.Product.{xor-shl}
use Rattle.poly.proofs.Aligned.{shl_swap, rem_aligned}
use Rattle.engine.specs.Feed.{fed, fed_all}

module _ (h s low : ℕ) (small : low < 2 ^ h) where
  -- the remainder r of p × X^k, moved up
  pub power_aligned : (p k r : ℕ) → r ≡ rem h low (p * 2 ^ k) → r * 2 ^ s ≡ rem (h + s) (low * 2 ^ s) (p * 2 ^ s * 2 ^ k)
  power_aligned p k r e =
      ap (λ x. x * 2 ^ s) e ∙ sym (rem_aligned h s low small (p * 2 ^ k)) ∙ ap (rem (h + s) (low * 2 ^ s)) (shl_swap p k s)

  pub first_aligned : (k r : ℕ) → r ≡ rem h low (2 ^ k) → r * 2 ^ s ≡ rem (h + s) (low * 2 ^ s) (2 ^ (k + s))
  first_aligned k r e =
      ap (λ x. x * 2 ^ s) e ∙ sym (rem_aligned h s low small (2 ^ k)) ∙ ap (rem (h + s) (low * 2 ^ s)) (sym (pow-add 2 k s))

  pub fed_aligned : (r q : ℕ) → fed (h + s) (low * 2 ^ s) (r * 2 ^ s) q ≡ fed h low r q * 2 ^ s
  unfolding fed
  fed_aligned r q =
      ap (rem (h + s) (low * 2 ^ s))
      (ap₂ bit_xor (shl_swap r s 8) (ap (λ x. q * x) (pow-add 2 h s) ∙ sym (mul_assoc q (2 ^ h) (2 ^ s)))
      ∙ xor-shl (r * 2 ^ 8) (q * 2 ^ h) s)
      ∙ rem_aligned h s low small (bit_xor (r * 2 ^ 8) (q * 2 ^ h))

  pub fed_all_aligned : (r : ℕ) (bs : List ℕ) → fed_all (h + s) (low * 2 ^ s) (r * 2 ^ s) bs ≡ fed_all h low r bs * 2 ^ s
  fed_all_aligned r [] = refl
  fed_all_aligned r (b ∷ bs) = ap (λ x. fed_all (h + s) (low * 2 ^ s) x bs) (fed_aligned r b) ∙ fed_all_aligned (fed h low r b) bs

-- a register of h bits, at the top of 32 while it is fed
pub fed_at_top : (h : ℕ) → h ≤ 32 → (low r x : ℕ) (bs : List ℕ) → low < 2 ^ h → x ≡ fed_all 32 (low * 2 ^ (32 - h)) (r * 2 ^ (32 - h)) bs
    → x / 2 ^ (32 - h) ≡ fed_all h low r bs
fed_at_top h most low r x bs small ex =
    let s : ℕ = 32 - h in
    let e : 32 ≡ h + s = omega arith in
    ap (λ y. y / 2 ^ s) (ex ∙ ap (λ n. fed_all n (low * 2 ^ s) (r * 2 ^ s) bs) e ∙ fed_all_aligned h s low small r bs)
    ∙ shl-shr (fed_all h low r bs) s

-- what comes back from the top has h bits; d is the degree as the code has it
pub back_lt : (h : ℕ) → h ≤ 32 → (d x : ℕ) → d ≡ h → x < 2 ^ 32 → x / 2 ^ (32 - d) < 2 ^ h
back_lt h most d x ed l =
    let e : 32 ≡ h + (32 - h) = omega arith in
    subst (λ d. x / 2 ^ (32 - d) < 2 ^ h) (sym ed) (shr_lt h (32 - h) (subst (λ n. x < 2 ^ n) e l))

-- the low part moved to the top has 32 bits
pub up_lt : (h : ℕ) → h ≤ 32 → (low : ℕ) → low < 2 ^ h → low * 2 ^ (32 - h) < 2 ^ 32
up_lt h most low small =
    let e : h + (32 - h) ≡ 32 = omega arith in
    subst (λ n. low * 2 ^ (32 - h) < 2 ^ n) e (shl_lt h (32 - h) small)
