-- A table filled by sums: entry a is the remainder of a times the first one.
-- Assumes nothing.
use Rattle.std.proofs.Common.{◌≡◌, ℕ, ◌+◌, ◌*◌, ◌^◌, ◌<◌, List, length, get_or, set, sym, ap, ◌∙◌, ap₂, inl, inr, one-mul, arith, get_or-set_other, get_or-set_same}
use lib.Bits.{bit_xor, xor_shifted}
use Rattle.std.proofs.lemmas.Bool.{cases_eq}
use Rattle.poly.specs.Poly.{clmul, rem}
use Rattle.poly.proofs.Product.{clmul_zero_l, clmul_xor_l, clmul_shl_l, clmul_shl_r, clmul_one_l, clmul_comm}
use Rattle.poly.proofs.Division.{shl_is, rem-xor, rem-zero, rem-mul}

module _ (h low : ℕ) (small : low < 2 ^ h) where
  -- ---- a table by sums: entry a is that of a times the first

  pub fill_none : (first : ℕ) → 0 ≡ rem h low (clmul 0 first)
  fill_none first = sym (ap (rem h low) (clmul_zero_l first) ∙ rem-zero h low small)

  pub fill_more : (first k p x y : ℕ) → p ≡ rem h low (first * 2 ^ k) → y < 2 ^ k → x ≡ rem h low (clmul y first)
      → bit_xor p x ≡ rem h low (clmul (2 ^ k + y) first)
  fill_more first k p x y ep ly ex =
      ap₂ bit_xor (ep ∙ ap (rem h low) (sym (clmul_shl_l 1 first k ∙ ap (λ z. z * 2 ^ k) (clmul_one_l first)))) ex
      ∙ sym (rem-xor h low small (clmul (1 * 2 ^ k) first) (clmul y first))
      ∙ ap (rem h low) (sym (clmul_xor_l (1 * 2 ^ k) y first))
      ∙ ap (λ z. rem h low (clmul z first)) (xor_shifted 1 k y ly ∙ ap (λ z. z + y) (one-mul (2 ^ k)))

  -- .. as the loop writes it
  pub fill_write : (e : List ℕ) (first k p n i : ℕ) → n ≡ 2 ^ k → i < 2 ^ k → n + i < length e → p ≡ rem h low (first * 2 ^ k)
      → ((a : ℕ) → a < 2 ^ k + i → get_or e a 0 ≡ rem h low (clmul a first))
      → (a : ℕ) → a < 2 ^ k + (i + 1) → get_or (set e (n + i) (bit_xor p (get_or e i 0))) a 0 ≡ rem h low (clmul a first)
  fill_write e first k p n i en li lt ep before a la =
      elim (cases_eq a (n + i)) [
        | inl same ↦
            ap (λ z. get_or (set e (n + i) (bit_xor p (get_or e i 0))) z 0) same
            ∙ get_or-set_same e (n + i) (bit_xor p (get_or e i 0)) 0 lt
            ∙ fill_more first k p (get_or e i 0) i ep li (before i (omega arith))
            ∙ ap (λ z. rem h low (clmul z first)) (ap (λ z. z + i) (sym en) ∙ sym same)
        | inr other ↦ let l : a < 2 ^ k + i = omega arith in rw get_or-set_other (before a l)
      ]

  -- a head of a row and an entry of the first row, which has 2^k entries; next is what would come after them
  pub fill_row : (first k next j i x y : ℕ) → next ≡ rem h low (first * 2 ^ k) → i < 2 ^ k → x ≡ rem h low (clmul j next) → y ≡ rem h low (clmul i first)
      → bit_xor x y ≡ rem h low (clmul (j * 2 ^ k + i) first)
  fill_row first k next j i x y en li ex ey =
      ap₂ bit_xor (ex ∙ head) ey
      ∙ sym (rem-xor h low small (clmul (j * 2 ^ k) first) (clmul i first))
      ∙ ap (rem h low) (sym (clmul_xor_l (j * 2 ^ k) i first))
      ∙ ap (λ z. rem h low (clmul z first)) (xor_shifted j k i li)
    where
      head : rem h low (clmul j next) ≡ rem h low (clmul (j * 2 ^ k) first)
      head =
          ap (λ z. rem h low (clmul j z)) en
          ∙ ap (rem h low) (clmul_comm j (rem h low (first * 2 ^ k)))
          ∙ sym (rem-mul h low small (first * 2 ^ k) j)
          ∙ ap (rem h low) (clmul_comm (first * 2 ^ k) j ∙ clmul_shl_r j first k ∙ sym (clmul_shl_l j first k))

  -- where the first is X^m
  pub filled : (first m a : ℕ) → first ≡ rem h low (2 ^ m) → rem h low (clmul a first) ≡ rem h low (a * 2 ^ m)
  filled first m a e =
      ap (λ x. rem h low (clmul a x)) e
      ∙ ap (rem h low) (clmul_comm a (rem h low (2 ^ m)))
      ∙ sym (rem-mul h low small (2 ^ m) a)
      ∙ ap (rem h low) (clmul_comm (2 ^ m) a ∙ shl_is h low small a m)
