-- Calls in lines: every call of a station but a trial can be said in a line.
-- Assumes nothing.
use Rattle.std.specs.Prelude.{◌≡◌, ℕ, suc, ◌^◌, ◌<◌, ◌≤◌, List, [], ◌∷◌, ◌++◌, length}
use Rattle.code.specs.declared.description.Description.{Description}
use Rattle.words.specs.Digits.{digits}
use Rattle.words.specs.Flips.{Bytes}
use Rattle.station.specs.Calls as calls
use Rattle.code.specs.Model.{Fits}
use Rattle.station.specs.Calls.{Change, enter, narrow, retire, Call, change, ask}
use Rattle.station.specs.Frame.{coded}
use Rattle.console.specs.Deeds.{blank, makes, deed_of}
use Rattle.console.specs.Print.{hex}

-- A letter, a space and the bytes as they are printed.
abbrev pub line_for : ℕ → List ℕ → List ℕ
line_for letter bytes = letter ∷ 32 ∷ hex bytes

-- E, N, R, M and F with the bytes of a call's fields, the description as in the head, make that call: what is printed can be read again.
pub record CallsSaid : Type 0 where
  pub entry : (n : ℕ) (d : Description) (reach : ℕ) → n < 2 ^ 8 → Fits d → reach < 2 ^ 16
      → deed_of (line_for 69 (n ∷ (coded d ++ digits 2 reach))) ≡ makes (change (enter n d reach))
  pub narrowing : (n reach : ℕ) → n < 2 ^ 8 → reach < 2 ^ 16 → deed_of (line_for 78 (n ∷ digits 2 reach)) ≡ makes (change (narrow n reach))
  pub retirement : (n : ℕ) → n < 2 ^ 8 → deed_of (line_for 82 (n ∷ [])) ≡ makes (change (retire n))
  pub message : (n : ℕ) (s : List ℕ) → n < 2 ^ 8 → Bytes s → suc (length s) ≤ 4112
      → deed_of (line_for 77 (n ∷ s)) ≡ makes (ask (calls.seal n s blank))
  pub frame : (f : List ℕ) → Bytes f → length f ≤ 4112 → deed_of (line_for 70 f) ≡ makes (ask (calls.take f))
