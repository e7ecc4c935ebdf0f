-- Four and sixteen bytes at a time.
-- Assumes nothing.
use Rattle.std.proofs.Common.{◌≡◌, ℕ, ◌+◌, ◌*◌, ◌/◌, ◌%◌, ◌^◌, ◌<◌, ◌≤◌, List, [], ◌∷◌, length, get_or, drop, sym, refl, ap, ◌∙◌, ap₂, le_of_suc-le-suc, not-suc-le-zero, add-zero, mod-lt, mul_assoc, mul-one, arith, length-drop, drop_of_length-le, get_or-drop, drop-drop, pow_pos, pow-add}
use native.Mathlib.Nat.{div-div-eq-div-mul}
use lib.Pow.{split}
use lib.Bits.{bit_xor, xor_zero_r, xor_comm, xor_assoc, xor_shifted}
use Rattle.poly.specs.Poly.{rem}
use Rattle.engine.specs.Feed.{fed, fed_all}
use Rattle.engine.specs.Tables.{Entries}
use Rattle.poly.proofs.Product.{xor-shl}
use Rattle.poly.proofs.Division.{rem-xor, rem-shl, rem-small}
use Rattle.slicing.specs.Tables.{word_of}

-- the four bytes of a list from place i on
abbrev pub word_at : List ℕ → ℕ → ℕ
word_at xs i = word_of (get_or xs i 0) (get_or xs (i + 1) 0) (get_or xs (i + 2) 0) (get_or xs (i + 3) 0)

shl-shl : (a i k : ℕ) → a * 2 ^ i * 2 ^ k ≡ a * 2 ^ (i + k)
shl-shl a i k = mul_assoc a (2 ^ i) (2 ^ k) ∙ ap (λ x. a * x) (sym (pow-add 2 i k))

-- bytes side by side are their sum
pub word_of_lem : (a b c d : ℕ) → a < 256 → b < 256 → c < 256 → d < 256
    → a * 16777216 + b * 65536 + c * 256 + d ≡ word_of a b c d
word_of_lem a b c d la lb lc ld =
    let x : ℕ = bit_xor (a * 2 ^ 8) b in
    let y : ℕ = bit_xor (x * 2 ^ 8) c in
    let ex : x ≡ a * 256 + b = xor_shifted a 8 b lb in
    let ey : y ≡ x * 256 + c = xor_shifted x 8 c lc in
    let ez : bit_xor (y * 2 ^ 8) d ≡ y * 256 + d = xor_shifted y 8 d ld in
    omega arith

digits_of : (w x y a b c d : ℕ) → w ≡ x * 256 + d → x ≡ y * 256 + c → y ≡ a * 256 + b → a * 16777216 + b * 65536 + c * 256 + d ≡ w
digits_of w x y a b c d ew ex ey = omega arith

-- a word is that of its bytes
pub word_bytes : (w : ℕ) → w < 2 ^ 32 → word_of (w / 2 ^ 24 % 256) (w / 2 ^ 16 % 256) (w / 2 ^ 8 % 256) (w % 256) ≡ w
word_bytes w l =
    let y : ℕ = w / 2 ^ 16 in
    let x : ℕ = w / 2 ^ 8 in
    let top : y / 2 ^ 8 ≡ w / 2 ^ 24 % 256 = omega arith in
    let next : x / 2 ^ 8 ≡ y = div-div-eq-div-mul w (2 ^ 8) (2 ^ 8) in
    let ey : y ≡ w / 2 ^ 24 % 256 * 256 + y % 256 = sym (split y 8) ∙ ap (λ q. q * 256 + y % 256) top in
    let ex : x ≡ y * 256 + x % 256 = sym (split x 8) ∙ ap (λ q. q * 256 + x % 256) next in
    sym (word_of_lem (w / 2 ^ 24 % 256) (y % 256) (x % 256) (w % 256) (mod-lt (w / 2 ^ 24) (pow_pos 8)) (mod-lt y (pow_pos 8)) (mod-lt x (pow_pos 8)) (mod-lt w (pow_pos 8)))
    ∙ digits_of w x y (w / 2 ^ 24 % 256) (y % 256) (x % 256) (w % 256) (sym (split w 8)) ex ey

module _ (low : ℕ) (small : low < 2 ^ 32) where
  rem-xor-shl : (a b k : ℕ) → rem 32 low (bit_xor a b * 2 ^ k) ≡ bit_xor (rem 32 low (a * 2 ^ k)) (rem 32 low (b * 2 ^ k))
  rem-xor-shl a b k = ap (rem 32 low) (sym (xor-shl a b k)) ∙ rem-xor 32 low small (a * 2 ^ k) (b * 2 ^ k)

  moved : (a i k : ℕ) → rem 32 low (a * 2 ^ i * 2 ^ k) ≡ rem 32 low (a * 2 ^ (k + i))
  moved a i k = let e : i + k ≡ k + i = omega arith in ap (rem 32 low) (shl-shl a i k ∙ ap (λ n. a * 2 ^ n) e)

  -- one more byte behind those that came
  behind_byte : (v q k : ℕ) → rem 32 low (bit_xor (v * 2 ^ 8) q * 2 ^ k) ≡ bit_xor (rem 32 low (v * 2 ^ (k + 8))) (rem 32 low (q * 2 ^ k))
  behind_byte v q k = rem-xor-shl (v * 2 ^ 8) q k ∙ ap (λ x. bit_xor x (rem 32 low (q * 2 ^ k))) (moved v 8 k)

  -- four bytes through four tables in a row
  pub four_is : (t3 t2 t1 t0 : List ℕ) (k a b c d : ℕ) → a < 256 → b < 256 → c < 256 → d < 256
      → Entries 32 low (k + 24) t3 → Entries 32 low (k + 16) t2 → Entries 32 low (k + 8) t1 → Entries 32 low k t0
      → bit_xor (bit_xor (get_or t3 a 0) (get_or t2 b 0)) (bit_xor (get_or t1 c 0) (get_or t0 d 0)) ≡ rem 32 low (word_of a b c d * 2 ^ k)
  four_is t3 t2 t1 t0 k a b c d la lb lc ld e3 e2 e1 e0 =
      let v : ℕ = bit_xor (a * 2 ^ 8) b in
      let two : k + 8 + 8 ≡ k + 16 = omega arith in
      let three : k + 16 + 8 ≡ k + 24 = omega arith in
      sym (behind_byte (bit_xor (v * 2 ^ 8) c) d k
      ∙ ap (λ x. bit_xor x (rem 32 low (d * 2 ^ k)))
      (behind_byte v c (k + 8)
      ∙ ap (λ x. bit_xor x (rem 32 low (c * 2 ^ (k + 8))))
      (ap (λ n. rem 32 low (v * 2 ^ n)) two ∙ behind_byte a b (k + 16)
      ∙ ap₂ bit_xor (ap (λ n. rem 32 low (a * 2 ^ n)) three ∙ sym (e3 a la)) (sym (e2 b lb)))
      ∙ ap (bit_xor (bit_xor (get_or t3 a 0) (get_or t2 b 0))) (sym (e1 c lc)))
      ∙ ap (bit_xor (bit_xor (bit_xor (get_or t3 a 0) (get_or t2 b 0)) (get_or t1 c 0))) (sym (e0 d ld))
      ∙ xor_assoc (bit_xor (get_or t3 a 0) (get_or t2 b 0)) (get_or t1 c 0) (get_or t0 d 0))

  -- ---- four bytes fed one after the other

  fed_stage : (m p v q r : ℕ) → r ≡ rem 32 low (bit_xor (p * 2 ^ m) (v * 2 ^ 32))
      → fed 32 low r q ≡ rem 32 low (bit_xor (p * 2 ^ (m + 8)) (bit_xor (v * 2 ^ 8) q * 2 ^ 32))
  unfolding fed
  fed_stage m p v q r e =
      let s : ℕ = bit_xor (p * 2 ^ m) (v * 2 ^ 32) in
      ap (λ x. rem 32 low (bit_xor (x * 2 ^ 8) (q * 2 ^ 32))) e
      ∙ rem-xor 32 low small (rem 32 low s * 2 ^ 8) (q * 2 ^ 32)
      ∙ ap (λ x. bit_xor x (rem 32 low (q * 2 ^ 32))) (sym (rem-shl 32 low small s 8))
      ∙ sym (rem-xor 32 low small (s * 2 ^ 8) (q * 2 ^ 32))
      ∙ ap (λ x. rem 32 low (bit_xor x (q * 2 ^ 32))) (sym (xor-shl (p * 2 ^ m) (v * 2 ^ 32) 8))
      ∙ ap (rem 32 low) (xor_assoc (p * 2 ^ m * 2 ^ 8) (v * 2 ^ 32 * 2 ^ 8) (q * 2 ^ 32))
      ∙ ap₂ (λ x y. rem 32 low (bit_xor x (bit_xor y (q * 2 ^ 32)))) (shl-shl p m 8) (shl-shl v 32 8 ∙ sym (shl-shl v 8 32))
      ∙ ap (λ x. rem 32 low (bit_xor (p * 2 ^ (m + 8)) x)) (xor-shl (v * 2 ^ 8) q 32)

  pub word-fed : (p a b c d : ℕ)
      → fed 32 low (fed 32 low (fed 32 low (fed 32 low (rem 32 low p) a) b) c) d ≡ rem 32 low (bit_xor p (word_of a b c d) * 2 ^ 32)
  word-fed p a b c d =
      fed_stage 24 p _ d _ (fed_stage 16 p _ c _ (fed_stage 8 p a b _ (first)))
      ∙ ap (rem 32 low) (xor-shl p (word_of a b c d) 32)
    where
      first : fed 32 low (rem 32 low p) a ≡ rem 32 low (bit_xor (p * 2 ^ 8) (a * 2 ^ 32))
      first =
          fed_stage 0 p 0 a (rem 32 low p) (ap (rem 32 low) (sym (xor_zero_r (p * 1) ∙ mul-one p)))

front : (xs : List ℕ) → 4 ≤ length xs → xs ≡ get_or xs 0 0 ∷ get_or xs 1 0 ∷ get_or xs 2 0 ∷ get_or xs 3 0 ∷ drop 4 xs
front [] l = absurd (not-suc-le-zero l)
front (a ∷ []) l = absurd (not-suc-le-zero (le_of_suc-le-suc l))
front (a ∷ b ∷ []) l = absurd (not-suc-le-zero (le_of_suc-le-suc (le_of_suc-le-suc l)))
front (a ∷ b ∷ c ∷ []) l = absurd (not-suc-le-zero (le_of_suc-le-suc (le_of_suc-le-suc (le_of_suc-le-suc l))))
front (a ∷ b ∷ c ∷ d ∷ xs) l = refl

module _ (low : ℕ) (small : low < 2 ^ 32) where
  -- four bytes of a list from place i on
  pub word_next : (p : ℕ) (xs : List ℕ) (i : ℕ) → i + 4 ≤ length xs
      → fed_all 32 low (rem 32 low p) (drop i xs) ≡ fed_all 32 low (rem 32 low (bit_xor p (word_at xs i) * 2 ^ 32)) (drop (i + 4) xs)
  word_next p xs i l =
      let many : 4 ≤ length (drop i xs) = simp length-drop (omega arith) in
      let at : (j : ℕ) → get_or (drop i xs) j 0 ≡ get_or xs (i + j) 0 = λ j. get_or-drop i xs j 0 in
      let none : get_or (drop i xs) 0 0 ≡ get_or xs i 0 = at 0 ∙ ap (λ n. get_or xs n 0) (add-zero i) in
      ap (fed_all 32 low (rem 32 low p)) (front (drop i xs) many)
      ∙ ap (λ r. fed_all 32 low r (drop 4 (drop i xs)))
      (word-fed low small p (get_or (drop i xs) 0 0) (get_or (drop i xs) 1 0) (get_or (drop i xs) 2 0) (get_or (drop i xs) 3 0))
      ∙ ap₂ (λ w ys. fed_all 32 low (rem 32 low (bit_xor p w * 2 ^ 32)) ys)
      (ap₂ (λ x y. bit_xor (bit_xor (x * 2 ^ 8) (get_or (drop i xs) 2 0) * 2 ^ 8) y)
      (ap₂ (λ x y. bit_xor (x * 2 ^ 8) y) none (at 1)) (at 3)
      ∙ ap (λ x. bit_xor (bit_xor (bit_xor (get_or xs i 0 * 2 ^ 8) (get_or xs (i + 1) 0) * 2 ^ 8) x * 2 ^ 8) (get_or xs (i + 3) 0)) (at 2))
      (drop-drop 4 i xs)

  -- one more word behind those that came
  behind : (p w k : ℕ) → rem 32 low (bit_xor p w * 2 ^ 32 * 2 ^ k) ≡ bit_xor (rem 32 low (p * 2 ^ (k + 32))) (rem 32 low (w * 2 ^ (k + 32)))
  behind p w k = moved low small (bit_xor p w) 32 k ∙ rem-xor-shl low small p w (k + 32)

  -- sixteen bytes: the words behind the first one, and the first with the register
  pub sixteen-fed : (r : ℕ) (xs : List ℕ) → r < 2 ^ 32 → length xs ≡ 16
      → fed_all 32 low r xs
      ≡ bit_xor (bit_xor (bit_xor (rem 32 low (word_at xs 4 * 2 ^ 96)) (rem 32 low (word_at xs 8 * 2 ^ 64))) (rem 32 low (word_at xs 12 * 2 ^ 32)))
      (rem 32 low (bit_xor (word_at xs 0) r * 2 ^ 128))
  sixteen-fed r xs lr many =
      let w0 : ℕ = word_at xs 0 in
      let w1 : ℕ = word_at xs 4 in
      let w2 : ℕ = word_at xs 8 in
      let w3 : ℕ = word_at xs 12 in
      let p1 : ℕ = bit_xor r w0 * 2 ^ 32 in
      let p2 : ℕ = bit_xor p1 w1 * 2 ^ 32 in
      let p3 : ℕ = bit_xor p2 w2 * 2 ^ 32 in
      let p4 : ℕ = bit_xor p3 w3 * 2 ^ 32 in
      let a0 : ℕ = rem 32 low (bit_xor w0 r * 2 ^ 128) in
      let a1 : ℕ = rem 32 low (w1 * 2 ^ 96) in
      let a2 : ℕ = rem 32 low (w2 * 2 ^ 64) in
      let a3 : ℕ = rem 32 low (w3 * 2 ^ 32) in
      ap (λ x. fed_all 32 low x xs) (sym (rem-small 32 low small r lr))
      ∙ word_next r xs 0 (omega arith)
      ∙ word_next p1 xs 4 (omega arith)
      ∙ word_next p2 xs 8 (omega arith)
      ∙ word_next p3 xs 12 (omega arith)
      ∙ ap (fed_all 32 low (rem 32 low p4)) (drop_of_length-le xs {i = 16} (omega arith))
      ∙ rem-xor-shl low small p3 w3 32
      ∙ ap (λ x. bit_xor x a3)
      (behind p2 w2 32
      ∙ ap (λ x. bit_xor x a2)
      (behind p1 w1 64
      ∙ ap (λ x. bit_xor x a1) (moved low small (bit_xor r w0) 32 96 ∙ ap (λ x. rem 32 low (x * 2 ^ 128)) (xor_comm r w0))))
      ∙ ap (λ x. bit_xor x a3) (xor_assoc a0 a1 a2)
      ∙ xor_assoc a0 (bit_xor a1 a2) a3
      ∙ xor_comm a0 (bit_xor (bit_xor a1 a2) a3)
