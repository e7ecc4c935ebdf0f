-- The numbers by which kinds 1 to 3 and banks refuse, beside 11, 31 and 33: a description by 12 to 15, a reach by 16 or 17.
-- Assumes nothing.
use Rattle.std.specs.Prelude.{ℕ, Bool}
use Rattle.code.specs.Model.{Model, Numbered}
use Rattle.code.specs.Bank.{joined}
use Rattle.code.specs.CrcModel.{crc_model}
use Rattle.code.specs.ParityModel.{parity_model}
use Rattle.code.specs.WeightedModel.{weighted_model}

-- Kind 1 over every engine ..
abbrev pub CrcNumbered : Type 0
CrcNumbered = (carries : ℕ → ℕ → Bool) → Numbered (crc_model carries)

-- .. kind 2 over every engine ..
abbrev pub ParityNumbered : Type 0
ParityNumbered = (carries : ℕ → ℕ → Bool) → Numbered (parity_model carries)

-- .. kind 3 ..
abbrev pub WeightedNumbered : Type 0
WeightedNumbered = Numbered weighted_model

-- .. and every bank of kinds that do.
abbrev pub JoinedNumbered : Type 0
JoinedNumbered = (l r : Model) → Numbered l → Numbered r → Numbered (joined l r)
