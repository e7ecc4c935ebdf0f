-- Which checks make a message a word, by remainders.
-- Assumes nothing.
use Rattle.std.proofs.Common.{◌≡◌, ℕ, suc, ◌+◌, ◌*◌, ◌/◌, ◌%◌, ◌^◌, ◌<◌, ◌≤◌, ◌↔◌, List, [], ◌∷◌, ◌++◌, map, length, sym, ap, ◌∙◌, subst, ap₂, lt_of_lt_of_le, mul_assoc, pow-suc, mul-one, mul-suc, mul-div_cancel, arith, length-append, pow_pos, pow_mono}
use native.Mathlib.Nat.{eq_of_mul-eq-mul_left}
use lib.Arith.{digits_div, digits_mod}
use lib.ListN.{length-map}
use lib.Bits.{bit_xor, xor_shr, xor_shifted}
use Rattle.std.specs.List.{AllByRecursion}
use Rattle.poly.specs.Poly.{Divides, generator, rem, string}
use Rattle.poly.proofs.Division.{rem_lt}
use Rattle.poly.proofs.Strings.{string-append}
use Rattle.poly.proofs.Digits.{string-lt, string_inj, string_push, chained, length_chained, string_chained}
use Rattle.poly.proofs.Multiples.{completes}
use Rattle.words.specs.Flips.{Bytes}
use Rattle.words.specs.Words.{weighted, plain, WeightedSum, Crc-words, CrcParity-words, Weighted-sums}
use Rattle.words.proofs.Tuples.{weighted_is, plain_is}

-- ---- the CRC, and with parity

pub crc_words : Crc-words
crc_words h low msg chk small bytes e =
    subst (λ x. Divides (generator h low) x ↔ (string 8 chk ≡ rem h low (string 8 msg * 2 ^ h)))
    (ap (λ n. bit_xor (string 8 msg * 2 ^ n) (string 8 chk)) (sym e) ∙ sym (string-append 8 msg chk))
    (completes h low small (string 8 msg * 2 ^ h) (string 8 chk) (subst (λ n. string 8 chk < 2 ^ n) e (string-lt 8 chk bytes)))

pub crc_parity_words : CrcParity-words
crc_parity_words h low msg chk small bytes e = (
  (λ w. (made.0 (subst (Divides (generator h low)) half w.0), w.1)),
  (λ w. (subst (Divides (generator h low)) (sym half) (made.1 w.0), w.1)),
)
  where
    below : string 8 chk / 2 < 2 ^ h
    below =
        let l : string 8 chk < 2 ^ suc h = subst (λ n. string 8 chk < 2 ^ n) e (string-lt 8 chk bytes) in
        omega (arith, pow-suc 2 h)

    made : Divides (generator h low) (bit_xor (string 8 msg * 2 ^ h) (string 8 chk / 2))
        ↔ (string 8 chk / 2 ≡ rem h low (string 8 msg * 2 ^ h))
    made = completes h low small (string 8 msg * 2 ^ h) (string 8 chk / 2) below

    shifted : string 8 msg * 2 ^ (8 * length chk) / 2 ≡ string 8 msg * 2 ^ h
    shifted =
        ap (λ n. string 8 msg * n / 2) (ap (λ n. 2 ^ n) e ∙ pow-suc 2 h)
        ∙ ap (λ x. x / 2) (sym (mul_assoc (string 8 msg) (2 ^ h) 2)) ∙ mul-div_cancel (string 8 msg * 2 ^ h) (pow_pos 1)

    half : string 8 (msg ++ chk) / 2 ≡ bit_xor (string 8 msg * 2 ^ h) (string 8 chk / 2)
    half =
        ap (λ x. x / 2) (string-append 8 msg chk)
        ∙ xor_shr (string 8 msg * 2 ^ (8 * length chk)) (string 8 chk) 1 ∙ ap (λ x. bit_xor x (string 8 chk / 2)) shifted

-- ---- the weighted sum

pub weighted_push : (qs : List ℕ) (p : ℕ) → weighted (qs ++ p ∷ []) ≡ bit_xor (weighted qs * 2) p
weighted_push qs p =
    weighted_is (qs ++ p ∷ []) ∙ string_push 1 qs p ∙ ap (λ x. bit_xor (x * 2) p) (sym (weighted_is qs))

pub plain_push : (qs : List ℕ) (p : ℕ) → plain (qs ++ p ∷ []) ≡ bit_xor (plain qs) p
plain_push qs p =
    plain_is (qs ++ p ∷ []) ∙ string_push 0 qs p ∙ ap (λ x. bit_xor x p) (mul-one (string 0 qs) ∙ sym (plain_is qs))

pub weighted-sums : Weighted-sums
weighted-sums h low m low1 qs p r small small1 = (
  (λ c.
      let lp : p < 2 ^ h = subst (λ x. x < 2 ^ h) (sym c.0) (rem_lt h low small (weighted qs * 2)) in
      let lr : r < 2 ^ m = subst (λ x. x < 2 ^ m) (sym c.1) (rem_lt m low1 small1 (bit_xor (plain qs) p)) in (
        lp,
        lr,
        subst (Divides (generator h low)) (sym (weighted_push qs p)) ((completes h low small (weighted qs * 2) p lp).1 c.0),
        subst (λ x. Divides (generator m low1) (bit_xor x r)) (sym (plain_push qs p))
            ((completes m low1 small1 (bit_xor (plain qs) p) r lr).1 c.1),
      )),
  (λ c. (
    (completes h low small (weighted qs * 2) p c.0).0 (subst (Divides (generator h low)) (weighted_push qs p) c.2),
    (completes m low1 small1 (bit_xor (plain qs) p) r c.1).0
        (subst (λ x. Divides (generator m low1) (bit_xor x r)) (plain_push qs p) c.3),
  )),
)

-- A word of bytes is one exactly by its tuples of s bytes: gs are all but the last, and b is the last.
module _ (s low m low1 : ℕ) (s1 : 1 ≤ s) (mh : m ≤ 8 * s) (gs : List (List ℕ)) (b : List ℕ)
    (lengths : AllByRecursion (λ g. length g ≡ s) gs) (bytes : AllByRecursion Bytes gs) (length-b : length b ≡ s) (bytes-b : Bytes b) where
  tuples_fit : (gs : List (List ℕ)) → AllByRecursion (λ g. length g ≡ s) gs → AllByRecursion Bytes gs → AllByRecursion (λ q. q < 2 ^ (8 * s)) (map (string 8) gs)
  tuples_fit [] l a = tt
  tuples_fit (g ∷ gs) (e, l) (x, a) = (subst (λ n. string 8 g < 2 ^ (8 * n)) e (string-lt 8 g x), tuples_fit gs l a)

  whole_length : length (chained gs ++ b) ≡ s * suc (length (map (string 8) gs))
  whole_length =
      length-append (chained gs) b ∙ ap₂ (λ x y. x + y) (length_chained s gs lengths) length-b
      ∙ sym (mul-suc s (length gs)) ∙ ap (λ n. s * suc n) (sym (length-map gs (string 8)))

  whole-string : string 8 (chained gs ++ b) ≡ string (8 * s) (map (string 8) gs ++ string 8 b ∷ [])
  whole-string =
      string-append 8 (chained gs) b
      ∙ ap₂ (λ x n. bit_xor (x * 2 ^ (8 * n)) (string 8 b)) (string_chained 8 s gs lengths) length-b
      ∙ sym (string_push (8 * s) (map (string 8) gs) (string 8 b))

  split_last : (front : List ℕ) (last : ℕ) → AllByRecursion (λ q. q < 2 ^ (8 * s)) front → last < 2 ^ m
      → length (chained gs ++ b) ≡ s * suc (length front)
      → string 8 (chained gs ++ b) ≡ string (8 * s) (front ++ last ∷ [])
      → (front ≡ map (string 8) gs) × (last ≡ string 8 b)
  split_last front last fits small whole tuples =
      let h : ℕ = 8 * s in
      let ts : List ℕ = map (string 8) gs in
      let ll : last < 2 ^ h = lt_of_lt_of_le small (pow_mono mh) in
      let lb : string 8 b < 2 ^ h = subst (λ n. string 8 b < 2 ^ (8 * n)) length-b (string-lt 8 b bytes-b) in
      let k : suc (length front) ≡ suc (length ts) =
      eq_of_mul-eq-mul_left s s1 (suc (length front)) (suc (length ts)) (sym whole ∙ whole_length) in
      let e : string h front * 2 ^ h + last ≡ string h ts * 2 ^ h + string 8 b =
      sym (string_push h front last ∙ xor_shifted (string h front) h last ll) ∙ sym tuples ∙ whole-string
      ∙ string_push h ts (string 8 b) ∙ xor_shifted (string h ts) h (string 8 b) lb in (
        string_inj h front ts fits (tuples_fit gs lengths bytes) (omega arith)
            (sym (digits_div (string h front) ll) ∙ ap (λ x. x / 2 ^ h) e ∙ digits_div (string h ts) lb),
        sym (digits_mod (string h front) ll) ∙ ap (λ x. x % 2 ^ h) e ∙ digits_mod (string h ts) lb,
      )

  pub weighted-tuples : WeightedSum s low m low1 (chained gs ++ b)
      ↔ ((string 8 b < 2 ^ m)
      × Divides (generator (8 * s) low) (weighted (map (string 8) gs))
      × Divides (generator m low1) (bit_xor (plain (map (string 8) gs)) (string 8 b)))
  weighted-tuples = (
    (λ w.
        let (ef, el) = split_last w.front w.last w.fits w.small w.whole w.tuples in (
          subst (λ x. x < 2 ^ m) el w.small,
          subst (λ x. Divides (generator (8 * s) low) (weighted x)) ef w.first,
          subst (λ x. Divides (generator m low1) (bit_xor (plain (map (string 8) gs)) x)) el
              (subst (λ x. Divides (generator m low1) (bit_xor (plain x) w.last)) ef w.second),
        )),
    (λ c. record {
      front = map (string 8) gs;
      last = string 8 b;
      fits = tuples_fit gs lengths bytes;
      small = c.0;
      whole = whole_length;
      tuples = whole-string;
      first = c.1;
      second = c.2;
    }),
  )
