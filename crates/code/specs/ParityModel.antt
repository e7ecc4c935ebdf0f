-- Kind 2, the CRC with parity: the check is the remainder of the message, and then one bit that makes the ones of the word even in number.
-- Assumes nothing.
use Rattle.std.specs.Prelude.{ℕ, ◌+◌, ◌*◌, ◌%◌, ◌^◌, Bool, true, ◌||◌, List, [], ◌∷◌, ◌++◌, ◌==◌, bit_xor, count_ones}
use Rattle.answer.specs.declared.fault.Layer.TheVariants.{Kind, Engine}
use Rattle.answer.specs.Refusal.{refusal}
use Rattle.answer.specs.Rules.{Rule, rule}
use Rattle.poly.specs.Poly.{terms, polynomial, remainder}
use Rattle.words.specs.Digits.{digits}
use Rattle.code.specs.declared.description.Description.{Description}
use Rattle.code.specs.Model.{Model}
use Rattle.code.specs.Fields.{proper_low}
use Rattle.code.specs.CrcModel.{check_bytes, one_generator, crc_reaches}

abbrev pub parity_serves : ℕ → Bool
parity_serves k = k == 2

-- The degrees of kind 2 fill whole bytes with the parity bit.
abbrev pub parity_degree : ℕ → Bool
parity_degree h = h == 15 || h == 23 || h == 31

abbrev pub odd_terms : Description → Bool
odd_terms d = terms d.degree d.low % 2 == 1

-- What kind 2 asks of the fields of a description.
abbrev pub parity_fields : Description → List Rule
parity_fields d =
    rule (parity_degree d.degree) (refusal 12 Kind 3)
    ∷ (one_generator d
    ++ (rule (proper_low d.degree d.low) (refusal 13 Kind 4)
    ∷ rule (odd_terms d) (refusal 14 Kind 4) ∷ []))

-- What kind 2 asks of a description before the engine is asked.
abbrev pub parity_asks : Description → List Rule
parity_asks d = rule (parity_serves d.kind) (refusal 11 Kind 2) ∷ parity_fields d

-- The bit that makes the ones even: the ones of the message and of its remainder, modulo 2.
abbrev pub even_bit : Description → List ℕ → ℕ
even_bit d message = count_ones (bit_xor (polynomial message * 2 ^ d.degree) (remainder d.degree d.low message)) % 2

-- Kind 2 over an engine that carries what `carries` says.
abbrev pub parity_model : (ℕ → ℕ → Bool) → Model
parity_model carries = record {
  serves = parity_serves;
  fits = λ d. parity_fields d ++ (rule (carries d.degree d.low) (refusal 15 Engine 4) ∷ []);
  reaches = crc_reaches;
  sheet = λ d. record { check = check_bytes d.degree; tuple = 1; burst = d.degree + 1; few = 3; odd = true };
  check = λ d message. digits (check_bytes d.degree) (remainder d.degree d.low message * 2 + even_bit d message);
}
