-- Longitudinal parity: the check is the sum of the message's bytes, which is the remainder by X^8 + 1.
-- Assumes nothing.
use Rattle.std.specs.Prelude.{ℕ, true, List, [], ◌∷◌, ◌==◌}
use Rattle.answer.specs.declared.fault.Layer.TheVariants.{Kind}
use Rattle.answer.specs.Refusal.{refusal}
use Rattle.answer.specs.Rules.{Rule, rule}
use Rattle.words.specs.Words.{plain}
use Rattle.code.specs.Fields.{lawful_reach}
use Rattle.code.specs.Model.{Model}

-- A check of one byte and tuples of one byte, within 4,096 bytes.
abbrev pub reach_rules : ℕ → List Rule
reach_rules reach = rule (lawful_reach 1 1 reach) (refusal 16 Kind 12) ∷ []

-- The description says X^8 + 1. Bursts of 8 bits are noticed, and every odd number of bits.
abbrev pub longitudinal : Model
longitudinal = record {
  serves = λ k. (k == 200);
  fits = λ d.
      rule (d.degree == 8) (refusal 12 Kind 3)
      ∷ rule (d.degree2 == 0) (refusal 12 Kind 8)
      ∷ rule (d.low2 == 0) (refusal 12 Kind 9)
      ∷ rule (d.tuple == 1) (refusal 12 Kind 11)
      ∷ rule (d.low == 1) (refusal 13 Kind 4)
      ∷ [];
  reaches = λ d reach. reach_rules reach;
  sheet = λ d. record { check = 1; tuple = 1; burst = 8; few = 1; odd = true };
  check = λ d message. plain message ∷ [];
}
