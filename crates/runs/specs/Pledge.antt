-- All that stations promise, in one record: what the contract of a run of calls carries.
-- Assumes nothing.
use Rattle.std.specs.Prelude.{◌≡◌, ℕ, Bool, List}
use Rattle.std.specs.List.{AllByRecursion}
use Rattle.code.specs.Model.{Model, asked, Keeps, Numbered, Matches, MatchesForCallers}
use Rattle.code.specs.Bank.{joined}
use Rattle.code.specs.ForCallers.{CarryTheSame}
use Rattle.code.specs.CrcModel.{crc_model}
use Rattle.code.specs.ParityModel.{parity_model}
use Rattle.code.specs.WeightedModel.{weighted_model}
use Rattle.station.specs.Book.{empty_book}
use Rattle.station.specs.Calls.{Call, Typed, answers_from, book_after}
use Rattle.runs.specs.Promises.{TakesTheLawful, SealsTheLawful, SealsAgain, HandsOverUnaltered, HandsOverUnalteredForCallers, RefusesSureFlips, RefusesSureFlipsForCallers, RefusesSureHeads, RefusesSureWords, AnswersAlike, AnswersAlikeForCallers}
use Rattle.runs.specs.Books.{BookLaws}
use Rattle.runs.specs.Ruling.{AnswersByRules, RulesFixAnswers, RunsByRules, HeldUnrefused}
use Rattle.runs.specs.Numbers.{AnswersByNumbers}

-- The bank of kinds 1 to 3, over an engine that carries what `carries` says.
abbrev pub three_kinds : (ℕ → ℕ → Bool) → Model
three_kinds carries = joined (crc_model carries) (joined (parity_model carries) weighted_model)

-- For banks of the three kinds no premise is left: they keep the laws, and match whatever their engines carry ..
abbrev pub ThreeKindsKeep : Type 0
ThreeKindsKeep = (p : ℕ → ℕ → Bool) → Keeps (three_kinds p)

abbrev pub ThreeKindsMatch : Type 0
ThreeKindsMatch = (p q : ℕ → ℕ → Bool) → Matches (three_kinds p) (three_kinds q)

-- .. and where their engines carry the same generators, stations over them answer alike, call by call.
abbrev pub ThreeKindsAlike : Type 0
ThreeKindsAlike =
    (p q : ℕ → ℕ → Bool) → ((h low : ℕ) → p h low ≡ q h low) → (cs : List Call)
    → (answers_from (asked (three_kinds p)) empty_book cs ≡ answers_from (asked (three_kinds q)) empty_book cs)
    × (book_after (asked (three_kinds p)) cs ≡ book_after (asked (three_kinds q)) cs)

-- ---- the same with an engine for each kind

-- The bank of kinds 1 to 3: kind 1 over an engine that carries what p says, kind 2 over one that carries what q says.
abbrev pub three_kinds_over : (ℕ → ℕ → Bool) → (ℕ → ℕ → Bool) → Model
three_kinds_over p q = joined (crc_model p) (joined (parity_model q) weighted_model)

-- They keep the laws, refuse by their own numbers, and match at all that a caller can pass, whatever their engines carry ..
abbrev pub ThreeKindsKeepOverTwo : Type 0
ThreeKindsKeepOverTwo = (p q : ℕ → ℕ → Bool) → Keeps (three_kinds_over p q)

-- .. the numbers
abbrev pub ThreeKindsNumberedOverTwo : Type 0
ThreeKindsNumberedOverTwo = (p q : ℕ → ℕ → Bool) → Numbered (three_kinds_over p q)

-- .. matching
abbrev pub ThreeKindsMatchOverTwo : Type 0
ThreeKindsMatchOverTwo = (p q r s : ℕ → ℕ → Bool) → MatchesForCallers (three_kinds_over p q) (three_kinds_over r s)

-- .. and where their engines carry the same generators, stations over them answer alike to the calls that a program can make.
abbrev pub ThreeKindsAlikeOverTwo : Type 0
ThreeKindsAlikeOverTwo =
    (p q r s : ℕ → ℕ → Bool) → CarryTheSame p r → CarryTheSame q s → (cs : List Call) → AllByRecursion Typed cs
    → (answers_from (asked (three_kinds_over p q)) empty_book cs ≡ answers_from (asked (three_kinds_over r s)) empty_book cs)
    × (book_after (asked (three_kinds_over p q)) cs ≡ book_after (asked (three_kinds_over r s)) cs)

-- What stations promise, over every list of calls and every bank that keeps the two laws; of two stations, over banks that match.
pub record StationsPromise : Type 0 where
  -- take hands over exactly the lawful frames, and seal writes exactly these
  pub taking : TakesTheLawful
  pub sealing : SealsTheLawful
  -- a frame that was taken is what seal writes for its message
  pub again : SealsAgain
  -- unaltered, a frame is handed over, over a matching bank, exactly where its code is held with reach enough; else 23, 45 or 32
  pub unaltered : HandsOverUnaltered
  pub unaltered_for_callers : HandsOverUnalteredForCallers
  -- altered by flips that its codes are sure of, it is refused at every station with a matching bank
  pub sure : RefusesSureFlips
  pub sure_for_callers : RefusesSureFlipsForCallers
  -- .. those in the head already by the head's own rules
  pub heads : RefusesSureHeads
  -- .. those in the word alone with the answer to the unaltered frame, or else with 47
  pub words : RefusesSureWords
  -- banks that mean the same make stations that answer alike
  pub alike : AnswersAlike
  pub alike_for_callers : AnswersAlikeForCallers
  -- the book: at most 16 entries, each admitted and under its own number, and what each call changes
  pub book : BookLaws
  -- every answer is that of the first broken rule of its call, or its work where none is broken, and nothing else is ever answered
  pub ruled : AnswersByRules
  pub runs : RunsByRules
  -- .. and the rules leave one answer to each call
  pub fixed : RulesFixAnswers
  pub clean : HeldUnrefused
  -- a refusal has one of its call's own numbers
  pub numbers : AnswersByNumbers
  -- for the three kinds over any engines
  pub kinds_keep : ThreeKindsKeep
  pub kinds_match : ThreeKindsMatch
  pub kinds_alike : ThreeKindsAlike
  -- .. and with an engine for each kind: the laws, the numbers and matching over any engines, the same answers over engines that carry the same generators
  pub kinds_keep_over_two : ThreeKindsKeepOverTwo
  pub kinds_numbered_over_two : ThreeKindsNumberedOverTwo
  pub kinds_match_over_two : ThreeKindsMatchOverTwo
  pub kinds_alike_over_two : ThreeKindsAlikeOverTwo
