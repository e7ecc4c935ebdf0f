-- What the kinds over an engine have in common, and what they differ in.
-- Assumes nothing.
use Rattle.std.specs.Prelude.{◌≡◌, ℕ, ◌+◌, ◌*◌, ◌%◌, ◌^◌, Bool, true, cond, List, [], ◌∷◌, ◌++◌, ◌==◌, bit_xor, count_ones}
use Rattle.answer.specs.declared.fault.Layer.TheVariants.{Kind, Engine}
use Rattle.answer.specs.Refusal.{refusal}
use Rattle.answer.specs.Rules.{Rule, rule}
use Rattle.poly.specs.declared.generator.Generator.{Generator}
use Rattle.poly.specs.Poly.{terms, polynomial, remainder}
use Rattle.words.specs.Digits.{digits}
use Rattle.code.specs.declared.description.Description.{Description}
use Rattle.code.specs.declared.description.Sheet.{Sheet}
use Rattle.code.specs.Fields.{proper_low}
use Rattle.code.specs.CrcModel.{one_generator, crc_reaches, crc_degree, crc_serves, check_bytes}
use Rattle.code.specs.ParityModel.{parity_degree, parity_serves}
use Rattle.code.specs.Model.{Model}

-- The form of a kind: the kind numbers and the degrees that are its own, what it asks of the terms of a generator, the sheet of a
-- generator, and the check of a message as a number.
pub record Formed : Type 0 where
  pub serves : ℕ → Bool
  pub degrees : ℕ → Bool
  pub terms : ℕ → ℕ → List Rule
  pub sheet : ℕ → ℕ → Sheet
  pub number : ℕ → ℕ → List ℕ → ℕ

-- The generator that a description names.
abbrev pub Names : Description → Generator → Type 0
Names d g = (g.degree ≡ d.degree) × (g.low ≡ d.low)

-- What is asked of the fields of a description.
abbrev pub fields : Formed → Description → List Rule
fields f d =
    rule (f.degrees d.degree) (refusal 12 Kind 3)
    ∷ (one_generator d ++ (rule (proper_low d.degree d.low) (refusal 13 Kind 4) ∷ f.terms d.degree d.low))

-- What is asked of a description before the engine is asked.
abbrev pub asks : Formed → Description → List Rule
asks f d = rule (f.serves d.kind) (refusal 11 Kind 2) ∷ fields f d

-- A kind of the form over an engine that carries what `carries` says.
abbrev pub over : Formed → (ℕ → ℕ → Bool) → Model
over f carries = record {
  serves = f.serves;
  fits = λ d. fields f d ++ (rule (carries d.degree d.low) (refusal 15 Engine 4) ∷ []);
  reaches = crc_reaches;
  sheet = λ d. f.sheet d.degree d.low;
  check = λ d message. digits (f.sheet d.degree d.low).check (f.number d.degree d.low message);
}

-- Kind 1: `over crc_form` is `crc_model`.
abbrev pub crc_form : Formed
crc_form = record {
  serves = crc_serves;
  degrees = crc_degree;
  terms = λ h low. [];
  sheet = λ h low. record {
    check = check_bytes h;
    tuple = 1;
    burst = h;
    few = cond (terms h low % 2 == 0) 3 2;
    odd = terms h low % 2 == 0;
  };
  number = λ h low message. remainder h low message;
}

-- Kind 2: `over parity_form` is `parity_model`.
abbrev pub parity_form : Formed
parity_form = record {
  serves = parity_serves;
  degrees = parity_degree;
  terms = λ h low. rule (terms h low % 2 == 1) (refusal 14 Kind 4) ∷ [];
  sheet = λ h low. record { check = check_bytes h; tuple = 1; burst = h + 1; few = 3; odd = true };
  number = λ h low message.
      remainder h low message * 2 + count_ones (bit_xor (polynomial message * 2 ^ h) (remainder h low message)) % 2;
}
