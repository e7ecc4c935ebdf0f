-- Small sums by hand, as one claim of the definitions.
-- Assumes nothing.
use Rattle.std.specs.Prelude.{ℕ, Bool, true, false, cond, not, ◌&&◌, T, List, [], ◌∷◌, Ok, Err, Result, ◌==◌}
use Rattle.answer.specs.Refusal.{Refusal}
use Rattle.engine.specs.Meaning.{carries_all}
use Rattle.code.specs.declared.description.Description.{Description}
use Rattle.code.specs.Model.{Model, asked}
use Rattle.code.specs.Bank.{joined}
use Rattle.code.specs.CrcModel.{crc_model}
use Rattle.code.specs.ParityModel.{parity_model}
use Rattle.code.specs.WeightedModel.{weighted_model}
use Rattle.code.specs.Catalogue.{atm_hec, crc_ccitt, parity16, wsc8}

-- The bank of all kinds, over engines that carry everything.
abbrev pub all_kinds : Model
all_kinds = joined (crc_model carries_all) (joined (parity_model carries_all) weighted_model)

abbrev pub same_bytes : List ℕ → List ℕ → Bool
same_bytes [] [] = true
same_bytes [] (y ∷ ys) = false
same_bytes (x ∷ xs) [] = false
same_bytes (x ∷ xs) (y ∷ ys) = x == y && same_bytes xs ys

-- A check is the answer.
abbrev pub answers : List ℕ → Result (List ℕ) Refusal → Bool
answers check (Ok c) = same_bytes c check
answers check (Err r) = false

-- A message, and bytes that are its check, or not.
pub record Sample : Type 0 where
  pub description : Description
  pub message : List ℕ
  pub check : List ℕ
  pub is_check : Bool

abbrev pub sample : Description → List ℕ → List ℕ → Bool → Sample
sample d message check is = record { description = d; message = message; check = check; is_check = is }

abbrev pub samples : List Sample
samples =
    sample atm_hec (0x01 ∷ []) (0x07 ∷ []) true
    ∷ sample atm_hec (0x80 ∷ []) (0x89 ∷ []) true
    ∷ sample crc_ccitt (0x01 ∷ []) (0x10 ∷ 0x21 ∷ []) true
    ∷ sample crc_ccitt (0x80 ∷ []) (0x91 ∷ 0x88 ∷ []) true
    ∷ sample parity16 (0x01 ∷ []) (0x00 ∷ 0x07 ∷ []) true
    ∷ sample parity16 (0x03 ∷ []) (0x00 ∷ 0x0A ∷ []) true
    ∷ sample wsc8 (0x01 ∷ []) (0x02 ∷ 0x03 ∷ []) true
    ∷ sample wsc8 (0x80 ∷ []) (0x1D ∷ 0x16 ∷ []) true
    ∷ sample wsc8 (0x01 ∷ 0x01 ∷ []) (0x06 ∷ 0x06 ∷ []) true
    -- both sums of 01 02 36 vanish, and it is no word
    ∷ sample wsc8 (0x01 ∷ []) (0x02 ∷ 0x36 ∷ []) false
    ∷ []

abbrev pub right : List Sample → Bool
right [] = true
right (s ∷ ss) =
    cond (answers s.check ((asked all_kinds).check s.description s.message 64)) s.is_check (not s.is_check) && right ss

abbrev pub SamplesRight : Type 0
SamplesRight = T (right samples)
