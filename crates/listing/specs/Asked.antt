-- What an engine under a name answers.
-- Assumes nothing.
use Rattle.std.specs.Prelude.{ℕ, ◌*◌, ◌%◌, ◌^◌, Bool, List, fold, Ok, Result, bit_or}
use Rattle.answer.specs.Refusal.{Refusal}
use Rattle.answer.specs.Rules.{by_rules, then}
use Rattle.poly.specs.Poly.{remainder}
use Rattle.engine.specs.Pieces.{flat}
use Rattle.engine.specs.Rules.{set_rules}
use Rattle.code.specs.Model.{Asked, asked}
use Rattle.code.specs.Bank.{joined}
use Rattle.code.specs.CrcModel.{crc_model}
use Rattle.code.specs.ParityModel.{parity_model}
use Rattle.listing.specs.declared.asked.Question.{Question}
use Rattle.listing.specs.declared.asked.Question.TheVariants.{Remainder, Pieces, Check}

-- Kinds 1 and 2, over an engine that carries what `carries` says.
abbrev pub both_kinds : (ℕ → ℕ → Bool) → Asked
both_kinds carries = asked (joined (crc_model carries) (parity_model carries))

-- The number whose bytes these are, the highest first.
abbrev pub number_from : List ℕ → ℕ
number_from bytes = fold (λ n b. bit_or (n * 2 ^ 8 % 2 ^ 32) b) 0 bytes

-- The degree of the generator, or of the first of the code.
abbrev pub degree_asked : Question → ℕ
degree_asked (Remainder h low message) = h
degree_asked (Pieces h low pieces) = h
degree_asked (Check d message) = d.degree

-- A remainder of one string or of joined pieces, or a check, as a number; or the refusal.
abbrev pub answered : (ℕ → ℕ → Bool) → Question → Result ℕ Refusal
answered carries (Remainder h low message) = by_rules (set_rules (carries h low) h low) (remainder h low message.now)
answered carries (Pieces h low pieces) = by_rules (set_rules (carries h low) h low) (remainder h low (flat pieces.now))
answered carries (Check d message) = then ((both_kinds carries).check d message.now 4) (λ bytes. Ok (number_from bytes))
