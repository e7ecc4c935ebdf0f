-- Kind 3, the weighted sum: two sums of the message's tuples, each modulo a generator.
-- Assumes nothing.
use Rattle.std.specs.Prelude.{ℕ, ◌-◌, ◌*◌, ◌/◌, ◌%◌, Bool, true, ◌&&◌, ◌||◌, List, [], ◌∷◌, ◌++◌, ◌==◌, bit_xor, nat_le}
use Rattle.answer.specs.declared.fault.Layer.TheVariants.{Kind}
use Rattle.answer.specs.Refusal.{refusal}
use Rattle.answer.specs.Rules.{Rule, rule}
use Rattle.poly.specs.Poly.{terms, rem}
use Rattle.words.specs.Words.{weighted, plain}
use Rattle.words.specs.Digits.{digits}
use Rattle.words.specs.Tuples.{tuples}
use Rattle.code.specs.declared.description.Description.{Description}
use Rattle.code.specs.Model.{Model}
use Rattle.code.specs.Fields.{proper_low, period_at_least, lawful_reach}

-- ---- the sums

-- The first check tuple: the sum of the tuples, each times X to one more than the number of tuples after it, modulo the first generator.
abbrev pub first_sum : Description → List ℕ → ℕ
first_sum d qs = rem d.degree d.low (weighted qs * 2)

-- The second: the plain sum of the tuples and the first check tuple, modulo the second generator.
abbrev pub second_sum : Description → List ℕ → ℕ
second_sum d qs = rem d.degree2 d.low2 (bit_xor (plain qs) (first_sum d qs))

-- ---- the rules

-- A tuple has 1, 2 or 4 bytes.
abbrev pub weighted_degree : ℕ → Bool
weighted_degree h = h == 8 || h == 16 || h == 32

-- The second degree: from 2 to the smaller of 16 and the first.
abbrev pub second_degree : ℕ → ℕ → Bool
second_degree h m = nat_le 2 m && nat_le m 16 && nat_le m h

-- The degrees and the tuple bytes.
abbrev pub weighted_sizes : Description → List Rule
weighted_sizes d =
    rule (weighted_degree d.degree) (refusal 12 Kind 3)
    ∷ rule (second_degree d.degree d.degree2) (refusal 12 Kind 8)
    ∷ rule (d.tuple == d.degree / 8) (refusal 12 Kind 11)
    ∷ []

-- The low parts, and the terms of the second generator.
abbrev pub weighted_lows : Description → List Rule
weighted_lows d =
    rule (proper_low d.degree d.low) (refusal 13 Kind 4)
    ∷ rule (proper_low d.degree2 d.low2) (refusal 13 Kind 9)
    ∷ rule (terms d.degree2 d.low2 % 2 == 0) (refusal 14 Kind 9)
    ∷ []

-- A lawful reach, a first period of at least its tuples but one, and a second of at least the bits of a tuple.
abbrev pub weighted_reaches : Description → ℕ → List Rule
weighted_reaches d reach =
    rule (lawful_reach d.tuple (2 * d.tuple) reach) (refusal 16 Kind 12)
    ∷ rule (period_at_least d.degree d.low (reach / d.tuple - 1)) (refusal 17 Kind 4)
    ∷ rule (period_at_least d.degree2 d.low2 (8 * d.tuple)) (refusal 17 Kind 9)
    ∷ []

abbrev pub weighted_model : Model
weighted_model = record {
  serves = λ k. (k == 3);
  fits = λ d. weighted_sizes d ++ weighted_lows d;
  reaches = weighted_reaches;
  sheet = λ d. record { check = 2 * d.tuple; tuple = d.tuple; burst = d.degree; few = 3; odd = true };
  check = λ d message.
      digits d.tuple (first_sum d (tuples d.tuple message)) ++ digits d.tuple (second_sum d (tuples d.tuple message));
}
