-- How kinds compare by their answers: banks of kinds that match or mean the same, one kind over two engines,
-- and what the two relations are.
-- Assumes nothing.
use Rattle.std.specs.Prelude.{◌≡◌, ℕ, Bool, cond, List}
use Rattle.code.specs.declared.description.Description.{Description}
use Rattle.code.specs.Model.{Model, asked, Matches, MeansTheSame}
use Rattle.code.specs.Bank.{joined}
use Rattle.code.specs.CrcModel.{crc_model}
use Rattle.code.specs.ParityModel.{parity_model}

-- ---- banks

-- A bank answers as the left kind where that serves the description's number, and as the right one elsewhere.
pub record AnswersAsOne (l r : Model) : Type 0 where
  pub admissions : (d : Description) (reach : ℕ)
      → (asked (joined l r)).admission d reach ≡ cond (l.serves d.kind) ((asked l).admission d reach) ((asked r).admission d reach)
  pub sheets : (d : Description)
      → (asked (joined l r)).sheet d ≡ cond (l.serves d.kind) ((asked l).sheet d) ((asked r).sheet d)
  pub checks : (d : Description) (message : List ℕ) (room : ℕ)
      → (asked (joined l r)).check d message room
      ≡ cond (l.serves d.kind) ((asked l).check d message room) ((asked r).check d message room)

abbrev pub JoinedAnswers : Type 0
JoinedAnswers = (l r : Model) → AnswersAsOne l r

-- Banks of matching kinds match.
abbrev pub JoinedMatches : Type 0
JoinedMatches = (a b c d : Model) → Matches a c → Matches b d → Matches (joined a b) (joined c d)

-- Banks of kinds that mean the same mean the same.
abbrev pub JoinedMeansTheSame : Type 0
JoinedMeansTheSame = (a b c d : Model) → MeansTheSame a c → MeansTheSame b d → MeansTheSame (joined a b) (joined c d)

-- ---- kinds over engines

-- A kind matches itself over any two engines, whatever these carry.
abbrev pub MatchesOverEngines : ((ℕ → ℕ → Bool) → Model) → Type 0
MatchesOverEngines build = (p q : ℕ → ℕ → Bool) → Matches (build p) (build q)

-- A kind means the same over engines that carry the same generators.
abbrev pub SameOverEngines : ((ℕ → ℕ → Bool) → Model) → Type 0
SameOverEngines build = (p q : ℕ → ℕ → Bool) → ((h low : ℕ) → p h low ≡ q h low) → MeansTheSame (build p) (build q)

abbrev pub CrcMatches : Type 0
CrcMatches = MatchesOverEngines crc_model

abbrev pub CrcMeansTheSame : Type 0
CrcMeansTheSame = SameOverEngines crc_model

abbrev pub ParityMatches : Type 0
ParityMatches = MatchesOverEngines parity_model

abbrev pub ParityMeansTheSame : Type 0
ParityMeansTheSame = SameOverEngines parity_model

-- ---- the two relations

-- Kinds that mean the same match.
abbrev pub SameMatches : Type 0
SameMatches = (a b : Model) → MeansTheSame a b → Matches a b

-- To match is reflexive and symmetric ..
abbrev pub MatchesReflexive : Type 0
MatchesReflexive = (a : Model) → Matches a a

abbrev pub MatchesSymmetric : Type 0
MatchesSymmetric = (a b : Model) → Matches a b → Matches b a

-- .. and not transitive: a kind that refuses every description matches all that serve the same numbers.
abbrev pub MatchesNotTransitive : Type 0
MatchesNotTransitive = ¬ ((a b c : Model) → Matches a b → Matches b c → Matches a c)

-- What matches a kind matches each that means the same.
abbrev pub MatchesSame : Type 0
MatchesSame = (a b c : Model) → Matches a b → MeansTheSame b c → Matches a c

-- To mean the same is an equivalence.
abbrev pub SameReflexive : Type 0
SameReflexive = (a : Model) → MeansTheSame a a

abbrev pub SameSymmetric : Type 0
SameSymmetric = (a b : Model) → MeansTheSame a b → MeansTheSame b a

abbrev pub SameTransitive : Type 0
SameTransitive = (a b c : Model) → MeansTheSame a b → MeansTheSame b c → MeansTheSame a c
