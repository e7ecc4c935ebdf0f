-- Printed bytes, read again.
-- Assumes nothing.
use Rattle.std.proofs.Common.{◌≡◌, ℕ, zero, suc, ◌*◌, ◌/◌, ◌%◌, ◌^◌, ◌<◌, true, List, [], ◌∷◌, length, get_or, drop, refl, ap₂, arith}
use Rattle.std.proofs.lemmas.Bool.Decides.{nat_tests}
use Rattle.words.specs.Flips.{Bytes}
use Rattle.console.specs.Decode.{digit_value, byte_of, decoded}
use Rattle.console.specs.Grammar.{is_digit, good_digits}
use Rattle.console.specs.Print.{hex_digit, hex}

-- ---- digits

value_below : (c : ℕ) → digit_value c < 16
value_below c = grind (arith, nat_tests)

digit_good : (d : ℕ) → d < 16 → is_digit (hex_digit d) ≡ true
digit_good d l = grind (arith, nat_tests)

digit_again : (d : ℕ) → d < 16 → digit_value (hex_digit d) ≡ d
digit_again d l = grind (arith, nat_tests)

-- ---- bytes

pub decoded_bytes : (s : List ℕ) → Bytes (decoded s)
decoded_bytes [] = tt
decoded_bytes (a ∷ []) = tt
decoded_bytes (a ∷ b ∷ s) = (omega (arith, value_below a, value_below b), decoded_bytes s)

byte_again : (b : ℕ) → b < 2 ^ 8 → byte_of (hex_digit (b / 16)) (hex_digit (b % 16)) ≡ b
byte_again b l = omega (arith, digit_again (b / 16) (omega arith), digit_again (b % 16) (omega arith))

pub hex_again : (s : List ℕ) → Bytes s → decoded (hex s) ≡ s
hex_again [] p = refl
hex_again (b ∷ s) p = ap₂ (λ (x : ℕ) (t : List ℕ). x ∷ t) (byte_again b p.0) (hex_again s p.1)

pub length-hex : (s : List ℕ) → length (hex s) ≡ 2 * length s
length-hex [] = refl
length-hex (b ∷ s) = let e = length-hex s in omega arith

pub hex_good : (s : List ℕ) → Bytes s → good_digits (hex s) ≡ length (hex s)
hex_good [] p = refl
hex_good (b ∷ s) p =
    rw (digit_good (b / 16) (omega (arith, p.0)), digit_good (b % 16) (omega arith)) (omega (arith, hex_good s p.1))

-- ---- bytes of bytes

pub byte_at : (s : List ℕ) (i : ℕ) → Bytes s → get_or s i 0 < 2 ^ 8
byte_at [] i p = omega arith
byte_at (b ∷ s) zero p = p.0
byte_at (b ∷ s) (suc i) p = byte_at s i p.1

pub bytes_drop : (i : ℕ) (s : List ℕ) → Bytes s → Bytes (drop i s)
bytes_drop zero s p = p
bytes_drop (suc i) [] p = tt
bytes_drop (suc i) (b ∷ s) p = bytes_drop i s p.1
