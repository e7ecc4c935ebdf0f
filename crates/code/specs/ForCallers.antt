-- How kinds compare by their answers at all that a caller can pass: banks of kinds that match or mean the same for callers, one kind over
-- two engines, and what the two relations are.
-- Assumes nothing.
use Rattle.std.specs.Prelude.{◌≡◌, ℕ, ◌%◌, ◌^◌, ◌<◌, ◌≤◌, Bool}
use Rattle.code.specs.Model.{Model, MatchesForCallers, MeansTheSameForCallers}
use Rattle.code.specs.Bank.{joined}
use Rattle.code.specs.CrcModel.{crc_model}
use Rattle.code.specs.ParityModel.{parity_model}

-- ---- banks

-- Banks of kinds that match for callers match for callers.
abbrev pub JoinedMatchesForCallers : Type 0
JoinedMatchesForCallers = (a b c d : Model) → MatchesForCallers a c → MatchesForCallers b d → MatchesForCallers (joined a b) (joined c d)

-- Banks of kinds that mean the same for callers mean the same for callers.
abbrev pub JoinedMeansTheSameForCallers : Type 0
JoinedMeansTheSameForCallers = (a b c d : Model) → MeansTheSameForCallers a c → MeansTheSameForCallers b d → MeansTheSameForCallers (joined a b) (joined c d)

-- ---- kinds over engines

-- A kind matches itself for callers over any two engines, whatever these carry.
abbrev pub MatchesOverEnginesForCallers : ((ℕ → ℕ → Bool) → Model) → Type 0
MatchesOverEnginesForCallers build = (p q : ℕ → ℕ → Bool) → MatchesForCallers (build p) (build q)

-- Engines carry the same generators: of those with a degree from 8 to 32, a low part below the degree and a constant term.
abbrev pub CarryTheSame : (ℕ → ℕ → Bool) → (ℕ → ℕ → Bool) → Type 0
CarryTheSame p q = (h low : ℕ) → 8 ≤ h → h ≤ 32 → low < 2 ^ h → low % 2 ≡ 1 → p h low ≡ q h low

-- A kind means the same for callers over engines that carry the same generators.
abbrev pub SameOverEnginesForCallers : ((ℕ → ℕ → Bool) → Model) → Type 0
SameOverEnginesForCallers build = (p q : ℕ → ℕ → Bool) → CarryTheSame p q → MeansTheSameForCallers (build p) (build q)

abbrev pub CrcMatchesForCallers : Type 0
CrcMatchesForCallers = MatchesOverEnginesForCallers crc_model

abbrev pub CrcMeansTheSameForCallers : Type 0
CrcMeansTheSameForCallers = SameOverEnginesForCallers crc_model

abbrev pub ParityMatchesForCallers : Type 0
ParityMatchesForCallers = MatchesOverEnginesForCallers parity_model

abbrev pub ParityMeansTheSameForCallers : Type 0
ParityMeansTheSameForCallers = SameOverEnginesForCallers parity_model

-- ---- the two relations

-- Kinds that mean the same for callers match for callers.
abbrev pub SameMatchesForCallers : Type 0
SameMatchesForCallers = (a b : Model) → MeansTheSameForCallers a b → MatchesForCallers a b

-- To match for callers is reflexive and symmetric ..
abbrev pub MatchesReflexiveForCallers : Type 0
MatchesReflexiveForCallers = (a : Model) → MatchesForCallers a a

abbrev pub MatchesSymmetricForCallers : Type 0
MatchesSymmetricForCallers = (a b : Model) → MatchesForCallers a b → MatchesForCallers b a

-- .. and not transitive: a kind that refuses every description matches all that serve the same numbers.
abbrev pub MatchesNotTransitiveForCallers : Type 0
MatchesNotTransitiveForCallers = ¬ ((a b c : Model) → MatchesForCallers a b → MatchesForCallers b c → MatchesForCallers a c)

-- What matches a kind for callers matches each that means the same for callers.
abbrev pub MatchesSameForCallers : Type 0
MatchesSameForCallers = (a b c : Model) → MatchesForCallers a b → MeansTheSameForCallers b c → MatchesForCallers a c

-- To mean the same for callers is an equivalence.
abbrev pub SameReflexiveForCallers : Type 0
SameReflexiveForCallers = (a : Model) → MeansTheSameForCallers a a

abbrev pub SameSymmetricForCallers : Type 0
SameSymmetricForCallers = (a b : Model) → MeansTheSameForCallers a b → MeansTheSameForCallers b a

abbrev pub SameTransitiveForCallers : Type 0
SameTransitiveForCallers = (a b c : Model) → MeansTheSameForCallers a b → MeansTheSameForCallers b c → MeansTheSameForCallers a c
