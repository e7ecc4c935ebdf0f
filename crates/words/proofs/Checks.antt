-- A message with the check that a code writes after it is a word of the code.
-- Assumes nothing.
use Rattle.std.proofs.Common.{◌≡◌, ℕ, suc, ◌+◌, ◌*◌, ◌/◌, ◌%◌, ◌^◌, ◌<◌, ◌≤◌, List, [], ◌∷◌, ◌++◌, map, length, sym, ap, ◌∙◌, subst, append_assoc, lt_of_lt_of_le, mod-lt, zero-lt-suc, pow-suc, arith, pow_mono}
use native.Mathlib.Nat.{div-add-mod}
use lib.Bits.{bit_xor}
use lib.Count.{ones, ones_step}
use Rattle.std.proofs.lemmas.List.{map_push}
use Rattle.std.proofs.ByRecursion.{All-push}
use Rattle.poly.specs.Poly.{Divides, generator, rem, string, polynomial, remainder}
use Rattle.poly.proofs.Division.{rem_lt}
use Rattle.poly.proofs.Digits.{chained}
use Rattle.poly.proofs.Ones.{ones_xor, ones_shl}
use Rattle.poly.proofs.Strings.{string-append}
use Rattle.words.specs.Flips.{Bytes}
use Rattle.words.specs.Words.{Crc, CrcParity, WeightedSum, weighted, plain}
use Rattle.words.specs.Digits.{digits}
use Rattle.words.specs.Tuples.{groups, tuples}
use Rattle.words.proofs.DigitBytes.{length_digits, bytes_digits, string-digits}
use Rattle.words.proofs.Groups.{groups_lengths, groups_bytes, chained_groups, chained_push}
use Rattle.words.proofs.Members.{crc_words, crc_parity_words, weighted-sums, weighted-tuples}

-- ---- the CRC: the remainder, in k bytes

module _ (h low k : ℕ) (small : low < 2 ^ h) (bits : 8 * k ≡ h) (message : List ℕ) where
  pub crc-lt : remainder h low message < 2 ^ (8 * k)
  crc-lt = subst (λ n. remainder h low message < 2 ^ n) (sym bits) (rem_lt h low small _)

  pub crc-word : Crc h low (message ++ digits k (remainder h low message))
  crc-word =
      let x : ℕ = remainder h low message in
      (crc_words h low message (digits k x) small (bytes_digits k x crc-lt) (ap (λ n. 8 * n) (length_digits k x) ∙ bits)).1
      (string-digits k x crc-lt)

-- ---- with parity: the remainder, and then the bit that makes the ones even

-- the ones of the message and of its remainder, modulo 2
pub even-bit : (h low : ℕ) (message : List ℕ)
    → ones (bit_xor (polynomial message * 2 ^ h) (remainder h low message)) % 2
    ≡ (ones (polynomial message) + ones (remainder h low message)) % 2
even-bit h low message =
    let x = ones_xor (polynomial message * 2 ^ h) (remainder h low message) in
    let y = ones_shl (polynomial message) h in
    omega arith

ones_checked : (r b : ℕ) → b < 2 → ones (r * 2 + b) ≡ ones r + b
ones_checked r b l =
    let s = ones_step (r * 2 + b) in
    let e : (r * 2 + b) % 2 ≡ b = omega arith in
    let f : (r * 2 + b) / 2 ≡ r = omega arith in
    let g : ones ((r * 2 + b) / 2) ≡ ones r = ap ones f in
    omega arith

module _ (h low k : ℕ) (small : low < 2 ^ h) (bits : 8 * k ≡ suc h) (message : List ℕ) where
  abbrev checked : ℕ
  checked = remainder h low message * 2 + ones (bit_xor (polynomial message * 2 ^ h) (remainder h low message)) % 2

  pub parity_lt : remainder h low message * 2 + ones (bit_xor (polynomial message * 2 ^ h) (remainder h low message)) % 2 < 2 ^ (8 * k)
  parity_lt =
      let r : remainder h low message < 2 ^ h = rem_lt h low small _ in
      let b : ones (bit_xor (polynomial message * 2 ^ h) (remainder h low message)) % 2 < 2 = mod-lt _ (zero-lt-suc 1) in
      let l : checked < 2 ^ suc h = omega (arith, pow-suc 2 h) in
      subst (λ n. checked < 2 ^ n) (sym bits) l

  pub parity_word : CrcParity h low
      (message ++ digits k (remainder h low message * 2 + ones (bit_xor (polynomial message * 2 ^ h) (remainder h low message)) % 2))
  parity_word =
      let r : ℕ = remainder h low message in
      let b : ℕ = ones (bit_xor (polynomial message * 2 ^ h) r) % 2 in
      let x : ℕ = r * 2 + b in
      let lb : b < 2 = mod-lt _ (zero-lt-suc 1) in
      let sx : string 8 (digits k x) ≡ x = string-digits k x parity_lt in
      let half : string 8 (digits k x) / 2 ≡ r = omega arith in
      let oc : ones (string 8 (digits k x)) ≡ ones r + b = ap ones sx ∙ ones_checked r b lb in
      let ow : ones (string 8 (message ++ digits k x)) ≡ ones (bit_xor (string 8 message * 2 ^ (8 * length (digits k x))) (string 8 (digits k x))) =
      ap ones (string-append 8 message (digits k x)) in
      let ox = ones_xor (string 8 message * 2 ^ (8 * length (digits k x))) (string 8 (digits k x)) in
      let os = ones_shl (string 8 message) (8 * length (digits k x)) in
      let eb = even-bit h low message in
      let even : ones (string 8 (message ++ digits k x)) % 2 ≡ 0 = omega arith in
      (crc_parity_words h low message (digits k x) small (bytes_digits k x parity_lt)
      (ap (λ n. 8 * n) (length_digits k x) ∙ bits)).1 (half, even)

-- ---- the weighted sum: both sums, for a first generator of 8 * s bits

pub sum-word : (s low m low1 : ℕ) (message : List ℕ) → 1 ≤ s → m ≤ 8 * s → low < 2 ^ (8 * s) → low1 < 2 ^ m
    → length message % s ≡ 0 → Bytes message
    → (p r : ℕ) → p ≡ rem (8 * s) low (weighted (tuples s message) * 2) → r ≡ rem m low1 (bit_xor (plain (tuples s message)) p)
    → WeightedSum s low m low1 (message ++ (digits s p ++ digits s r))
sum-word s low m low1 message s1 mh small small1 whole bytes p r ep er =
    let n : ℕ = length message / s in
    let gs : List (List ℕ) = groups n s message in
    let qs : List ℕ = map (string 8) gs in
    let c = (weighted-sums (8 * s) low m low1 qs p r small small1).0 (ep, er) in
    let lr : r < 2 ^ (8 * s) = lt_of_lt_of_le c.1 (pow_mono mh) in
    let size : length message ≡ s * n = omega (arith, div-add-mod (length message) s) in
    let tuples-are : map (string 8) (gs ++ digits s p ∷ []) ≡ qs ++ p ∷ [] =
    map_push (string 8) gs (digits s p) ∙ ap (λ x. qs ++ x ∷ []) (string-digits s p c.0) in
    let last-is : string 8 (digits s r) ≡ r = string-digits s r lr in
    let same : chained (gs ++ digits s p ∷ []) ++ digits s r ≡ message ++ (digits s p ++ digits s r) =
    ap (λ x. x ++ digits s r) (chained_push gs (digits s p) ∙ ap (λ x. x ++ digits s p) (chained_groups n s message size))
    ∙ append_assoc message (digits s p) (digits s r) in
    subst (WeightedSum s low m low1) same
    ((weighted-tuples s low m low1 s1 mh (gs ++ digits s p ∷ []) (digits s r)
    (All-push (λ g. length g ≡ s) gs (digits s p) (groups_lengths n s message (omega arith)) (length_digits s p))
    (All-push Bytes gs (digits s p) (groups_bytes n s message bytes) (bytes_digits s p c.0))
    (length_digits s r) (bytes_digits s r lr)).1 (
      subst (λ x. x < 2 ^ m) (sym last-is) c.1,
      subst (λ x. Divides (generator (8 * s) low) (weighted x)) (sym tuples-are) c.2,
      subst (λ x. Divides (generator m low1) (bit_xor (plain (map (string 8) (gs ++ digits s p ∷ []))) x)) (sym last-is)
          (subst (λ x. Divides (generator m low1) (bit_xor (plain x) r)) (sym tuples-are) c.3),
    ))
