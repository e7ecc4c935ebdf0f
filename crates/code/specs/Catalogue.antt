-- The published names and their descriptions.
-- Assumes nothing.
use Rattle.std.specs.Prelude.{ℕ, cond, List, [], ◌∷◌, Some, None, codes, Option}
use Rattle.std.specs.Str.{bytes_eq}
use Rattle.code.specs.declared.description.Description.{Description}

abbrev pub described : ℕ → ℕ → ℕ → ℕ → ℕ → ℕ → Description
described k h low m low1 s = record { kind = k; degree = h; low = low; degree2 = m; low2 = low1; tuple = s }

-- Kind 1 with a generator.
abbrev pub crc : ℕ → ℕ → Description
crc h low = described 1 h low 0 0 1

-- A name, and what is published under it.
pub record Published : Type 0 where
  pub name : List ℕ
  pub description : Description

abbrev pub entry : List ℕ → Description → Published
entry n d = record { name = n; description = d }

abbrev pub atm_hec : Description
atm_hec = crc 8 0x07

abbrev pub crc_ccitt : Description
crc_ccitt = crc 16 0x1021

abbrev pub parity16 : Description
parity16 = described 2 15 0x0003 0 0 1

abbrev pub wsc8 : Description
wsc8 = described 3 8 0x1D 5 0x15 1

abbrev pub catalogue : List Published
catalogue =
    entry (codes "CRC-16") (crc 16 0x8005)
    ∷ entry (codes "CRC-CCITT") crc_ccitt
    ∷ entry (codes "IEEE-802") (crc 32 0x04C11DB7)
    ∷ entry (codes "ATM-HEC") atm_hec
    ∷ entry (codes "FAST-16") (crc 16 0x011B)
    ∷ entry (codes "LONG-24") (crc 24 0x018301)
    ∷ entry (codes "PARITY-16") parity16
    ∷ entry (codes "WSC-8") wsc8
    ∷ []

-- The description of the first entry with the name.
abbrev pub looked_up : List Published → List ℕ → Option Description
looked_up [] n = None
looked_up (e ∷ es) n = cond (bytes_eq n e.name) (Some e.description) (looked_up es n)

abbrev pub published_of : List ℕ → Option Description
published_of n = looked_up catalogue n
