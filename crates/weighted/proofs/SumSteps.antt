-- One step of the weighted sum, at the top of 32 bits.
-- Assumes nothing.
use Rattle.std.proofs.Common.{◌≡◌, ℕ, zero, suc, ◌-◌, ◌*◌, ◌%◌, ◌^◌, ◌<◌, ◌≤◌, List, [], ◌∷◌, ◌++◌, take, drop, sym, refl, ap, ◌∙◌, ap₂}
use lib.Bits.{bit_xor}
use Rattle.std.specs.Simd.{first_chunks}
use Rattle.poly.specs.Poly.{rem}
use Rattle.poly.proofs.Product.{xor-shl}
use Rattle.poly.proofs.Division.{rem-xor, rem-small, rem-shl}
use Rattle.poly.proofs.Aligned.{shl_swap, to_top, rem_at_top}
use Rattle.words.specs.Words.{weighted}
use Rattle.words.specs.Tuples.{groups}
use Rattle.words.proofs.Members.{weighted_push}

module _ (h low : ℕ) (small : low < 2 ^ h) (most : h ≤ 32) where
  -- s is the way to the top, top the low part there, r the sum of qs there, and t X times it
  pub weighted_more : (s top : ℕ) → s ≡ 32 - h → top ≡ low * 2 ^ s % 2 ^ 32 → (qs : List ℕ) (q r t : ℕ) → q < 2 ^ h
      → r ≡ rem h low (weighted qs) * 2 ^ s → t ≡ rem 32 top (r * 2)
      → bit_xor t (q * 2 ^ s % 2 ^ 32) ≡ rem h low (weighted (qs ++ q ∷ [])) * 2 ^ s
  weighted_more s top es et qs q r t lq er ett =
      let up : ℕ = 32 - h in
      let x : ℕ = rem h low (weighted qs) in
      let eu : top ≡ low * 2 ^ up = et ∙ ap (λ n. low * 2 ^ n % 2 ^ 32) es ∙ to_top h low small most low small in
      let twice : t ≡ rem h low (x * 2) * 2 ^ up =
      ett ∙ ap (λ r. rem 32 top (r * 2)) (er ∙ ap (λ n. x * 2 ^ n) es) ∙ ap (rem 32 top) (shl_swap x up 1)
      ∙ rem_at_top h low small most top eu (x * 2) in
      let more : q * 2 ^ s % 2 ^ 32 ≡ q * 2 ^ up = ap (λ n. q * 2 ^ n % 2 ^ 32) es ∙ to_top h low small most q lq in
      ap₂ bit_xor twice more ∙ xor-shl (rem h low (x * 2)) q up
      ∙ ap (λ y. y * 2 ^ up)
      (ap₂ bit_xor (sym (rem-shl h low small (weighted qs) 1)) (sym (rem-small h low small q lq))
      ∙ sym (rem-xor h low small (weighted qs * 2) q) ∙ ap (rem h low) (sym (weighted_push qs q)))
      ∙ ap (λ n. rem h low (weighted (qs ++ q ∷ [])) * 2 ^ n) (sym es)

-- chunks of s bytes are groups of them
pub chunks_are : (s n : ℕ) (xs : List ℕ) → first_chunks s n xs ≡ groups n s xs
chunks_are s zero xs = refl
chunks_are s (suc n) xs = ap (λ gs. take s xs ∷ gs) (chunks_are s n (drop s xs))
