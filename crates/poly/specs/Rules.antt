-- Which degrees and low parts make a generator.
-- Assumes nothing.
use Rattle.std.specs.Prelude.{ℕ, ◌%◌, ◌^◌, ◌&&◌, List, [], ◌∷◌, Ok, Err, Result, ◌==◌, nat_le, nat_lt}
use Rattle.answer.specs.declared.fault.Layer.TheVariants.{Engine}
use Rattle.answer.specs.declared.fault.Fault.{Fault}
use Rattle.answer.specs.Refusal.{Refusal, refusal, refusal_of}
use Rattle.answer.specs.Rules.{Rule, rule}
use Rattle.poly.specs.declared.generator.Generator.{Generator}

-- The degree lies from least to 32; the low part has no bit at the degree or above, and a constant term.
abbrev pub generator_rules : ℕ → ℕ → ℕ → List Rule
generator_rules least h low =
    rule (nat_le least h && nat_le h 32) (refusal 12 Engine 3)
    ∷ rule (nat_lt low (2 ^ h) && low % 2 == 1) (refusal 13 Engine 4)
    ∷ []

-- A generator by its degree and its low part.
pub record Pair : Type 0 where
  pub degree : ℕ
  pub low : ℕ

abbrev pub pair : ℕ → ℕ → Pair
pair h low = record { degree = h; low = low }

-- What a reader sees of a generator that was made or refused.
abbrev pub seen : Result Generator Fault → Result Pair Refusal
seen (Ok g) = Ok (pair g.degree g.low)
seen (Err f) = Err (refusal_of f)
