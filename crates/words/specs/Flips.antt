-- The bits at which two byte strings differ, and which changes a code is sure to notice.
-- Assumes nothing.
use Rattle.std.specs.Prelude.{◌≡◌, ℕ, ◌*◌, ◌%◌, ◌^◌, ◌<◌, ◌≤◌, Bool, T, List, length, bit_xor, count_ones}
use Rattle.std.specs.List.{AllByRecursion}
use Rattle.poly.specs.Poly.{string}

-- Byte strings.
abbrev pub Bytes : List ℕ → Type 0
Bytes s = AllByRecursion (λ b. b < 2 ^ 8) s

-- The flips between two byte strings, as a polynomial: the coefficient of a bit is 1 exactly where the strings differ.
abbrev pub flips : List ℕ → List ℕ → ℕ
flips u v = bit_xor (string 8 u) (string 8 v)

-- A burst of at most k bits: from the first flipped bit to the last, both included, there are at most k bits.
abbrev pub Burst : ℕ → ℕ → Type 0
Burst k e = (i : ℕ) × (b : ℕ) × (b % 2 ≡ 1) × (b < 2 ^ k) × (e ≡ 2 ^ i * b)

-- The sure flips: a burst of at most `burst` bits, from one to `few` bits anywhere, or, where `odd`, an odd number of bits.
pub data Sure (burst few : ℕ) (odd : Bool) (e : ℕ) : Type 0 where
  span : Burst burst e → Sure burst few odd e
  some_bits : 1 ≤ count_ones e → count_ones e ≤ few → Sure burst few odd e
  uneven : T odd → count_ones e % 2 ≡ 1 → Sure burst few odd e

-- A code notices its sure flips: no two words of one length, up to the reach, differ by such.
abbrev pub Notices : (List ℕ → Type 0) → ℕ → ℕ → ℕ → Bool → Type 0
Notices Word reach burst few odd =
    (u v : List ℕ) → Bytes u → Bytes v → length u ≡ length v → length u ≤ reach → Word u → Word v
    → ¬ Sure burst few odd (flips u v)
