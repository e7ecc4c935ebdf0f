-- How the answers of a kind's calls come together: from the rules on the description, and then from those on the reach or the message.
-- Assumes nothing.
use Rattle.std.proofs.Common.{◌≡◌, ℕ, leb, List, [], ◌∷◌, length, Ok, Err, Result, sym, ◌∙◌}
use Rattle.answer.specs.declared.fault.Layer.TheVariants.{Frame}
use Rattle.answer.specs.Refusal.{Refusal, refusal}
use Rattle.answer.specs.Rules.{Rule, rule}
use Rattle.answer.proofs.Ruled.{passes, refuses, then_rules, first_rules}
use Rattle.code.specs.declared.description.Description.{Description}
use Rattle.code.specs.Answered.{success}
use Rattle.code.specs.Model.{Model, asked, described_rules, whole}

-- what the check asks of a message and the room
abbrev pub fit_rules : ℕ → ℕ → List ℕ → ℕ → List Rule
fit_rules tuple check message room =
    rule (whole tuple message) (refusal 31 Frame (length message)) ∷ rule (leb check room) (refusal 33 Frame room) ∷ []

module _ (m : Model) (d : Description) where
  pub admit_refused : (reach : ℕ) (z : Refusal) → Err z ≡ success (described_rules m d) → Err z ≡ (asked m).admission d reach
  admit_refused reach z e = sym (first_rules tt tt (described_rules m d) (m.reaches d reach) z e)

  pub admit_then : (reach : ℕ) (x : Result (Unit {0}) Refusal) → Ok tt ≡ success (described_rules m d) → x ≡ success (m.reaches d reach)
      → x ≡ (asked m).admission d reach
  admit_then reach x e f = f ∙ sym (then_rules tt tt (described_rules m d) (m.reaches d reach) e)

  pub sheet_refused : (z : Refusal) → Err z ≡ success (described_rules m d) → Err z ≡ (asked m).sheet d
  sheet_refused z e = refuses tt (m.sheet d) (described_rules m d) z e

  pub sheet_made : Ok tt ≡ success (described_rules m d) → Ok (m.sheet d) ≡ (asked m).sheet d
  sheet_made e = passes tt (m.sheet d) (described_rules m d) e

  module _ (message : List ℕ) (room : ℕ) where
    fits : List Rule
    fits = fit_rules (m.sheet d).tuple (m.sheet d).check message room

    pub check_refused : (z : Refusal) → Err z ≡ success (described_rules m d) → (asked m).check d message room ≡ Err z
    unfolding fits
    check_refused z e = first_rules tt (m.check d message) (described_rules m d) fits z e

    pub check_unfit : (z : Refusal) → Ok tt ≡ success (described_rules m d)
        → Err z ≡ success (fit_rules (m.sheet d).tuple (m.sheet d).check message room) → (asked m).check d message room ≡ Err z
    unfolding fits
    check_unfit z e f =
        then_rules tt (m.check d message) (described_rules m d) fits e ∙ sym (refuses tt (m.check d message) fits z f)

    pub check_made : Ok tt ≡ success (described_rules m d) → Ok tt ≡ success (fit_rules (m.sheet d).tuple (m.sheet d).check message room)
        → (asked m).check d message room ≡ Ok (m.check d message)
    unfolding fits
    check_made e f = then_rules tt (m.check d message) (described_rules m d) fits e ∙ sym (passes tt (m.check d message) fits f)
