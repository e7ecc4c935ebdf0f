-- Kind 1, the CRC: the check is the remainder of the message.
-- Assumes nothing.
use Rattle.std.specs.Prelude.{ℕ, ◌+◌, ◌*◌, ◌/◌, ◌%◌, Bool, cond, ◌||◌, List, [], ◌∷◌, ◌++◌, ◌==◌}
use Rattle.answer.specs.declared.fault.Layer.TheVariants.{Kind, Engine}
use Rattle.answer.specs.Refusal.{refusal}
use Rattle.answer.specs.Rules.{Rule, rule}
use Rattle.poly.specs.Poly.{terms, remainder}
use Rattle.words.specs.Digits.{digits}
use Rattle.code.specs.declared.description.Description.{Description}
use Rattle.code.specs.Model.{Model}
use Rattle.code.specs.Fields.{proper_low, period_at_least, lawful_reach}

-- The check bytes of a generator of degree h.
abbrev pub check_bytes : ℕ → ℕ
check_bytes h = (h + 7) / 8

-- The second generator is not used, and a tuple is a byte.
abbrev pub one_generator : Description → List Rule
one_generator d =
    rule (d.degree2 == 0) (refusal 12 Kind 8)
    ∷ rule (d.low2 == 0) (refusal 12 Kind 9)
    ∷ rule (d.tuple == 1) (refusal 12 Kind 11)
    ∷ []

-- A lawful reach, and a period of at least its bits.
abbrev pub crc_reaches : Description → ℕ → List Rule
crc_reaches d reach =
    rule (lawful_reach 1 (check_bytes d.degree) reach) (refusal 16 Kind 12)
    ∷ rule (period_at_least d.degree d.low (8 * reach)) (refusal 17 Kind 4)
    ∷ []

-- The degrees of kind 1 fill whole bytes.
abbrev pub crc_degree : ℕ → Bool
crc_degree h = h == 8 || h == 16 || h == 24 || h == 32

abbrev pub crc_serves : ℕ → Bool
crc_serves k = k == 1

-- What kind 1 asks of the fields of a description.
abbrev pub crc_fields : Description → List Rule
crc_fields d =
    rule (crc_degree d.degree) (refusal 12 Kind 3)
    ∷ (one_generator d ++ (rule (proper_low d.degree d.low) (refusal 13 Kind 4) ∷ []))

-- What kind 1 asks of a description before the engine is asked.
abbrev pub crc_asks : Description → List Rule
crc_asks d = rule (crc_serves d.kind) (refusal 11 Kind 2) ∷ crc_fields d

abbrev pub even_terms : Description → Bool
even_terms d = terms d.degree d.low % 2 == 0

-- Kind 1 over an engine that carries what `carries` says.
abbrev pub crc_model : (ℕ → ℕ → Bool) → Model
crc_model carries = record {
  serves = crc_serves;
  fits = λ d. crc_fields d ++ (rule (carries d.degree d.low) (refusal 15 Engine 4) ∷ []);
  reaches = crc_reaches;
  sheet = λ d. record {
    check = check_bytes d.degree;
    tuple = 1;
    burst = d.degree;
    few = cond (even_terms d) 3 2;
    odd = even_terms d;
  };
  check = λ d message. digits (check_bytes d.degree) (remainder d.degree d.low message);
}
