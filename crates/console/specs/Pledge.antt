-- What the line program promises of every input, over banks that keep the two laws.
-- Assumes nothing.
use Rattle.std.specs.Prelude.{◌≡◌, ℕ, suc, List, ◌∷◌, ◌++◌, map, Err}
use Rattle.answer.specs.Refusal.{Refusal}
use Rattle.code.specs.Model.{Model, Asked, asked, Keeps, MeansTheSameForCallers}
use Rattle.station.specs.Book.{PlainBook, empty_book}
use Rattle.station.specs.Calls.{Call, wrote, answer, book_after, answers_from}
use Rattle.runs.specs.Pledge.{StationsPromise}
use Rattle.runs.specs.Ruling.{AllByRules}
use Rattle.console.specs.Decode.{decoded}
use Rattle.console.specs.Deeds.{deed_of, seals_by}
use Rattle.console.specs.Lines.{lines_of, LinesRejoin}
use Rattle.console.specs.Said.{CallsSaid}
use Rattle.console.specs.Transcript.{calls_of, transcript_from, transcript_of, printed_of, book_after_line}

-- The calls of an input.
abbrev pub calls_in : List ℕ → List Call
calls_in input = calls_of (map deed_of (lines_of input))

-- Each of them is answered by its rules, at the book that those before it left.
abbrev pub LinesByRules : Type 0
LinesByRules = (m : Model) → Keeps m → (input : List ℕ) → AllByRules m empty_book (calls_in input) (answers_from (asked m) empty_book (calls_in input))

-- A message, whatever its digits, is never refused for want of room: no answer is 33.
abbrev pub RoomForAll : Type 0
RoomForAll =
    (m : Model) → Keeps m → (cs : List Call) (d out : List ℕ) (r : Refusal)
    → answer (asked m) (book_after (asked m) cs) (seals_by (decoded d)) ≡ wrote (Err r) out → ¬ (r.number ≡ 33)

-- The printed lines of lines are the first one's, and then those of the others, with the next number and at the book after it.
abbrev pub LineByLine : Type 0
LineByLine =
    (a : Asked) (n : ℕ) (b : PlainBook) (line : List ℕ) (lines : List (List ℕ))
    → transcript_from a n b (line ∷ lines) ≡ printed_of a n b (deed_of line) ++ transcript_from a (suc n) (book_after_line a b (deed_of line)) lines

-- Banks that mean the same print the same of every input.
abbrev pub PrintedAlike : Type 0
PrintedAlike = (a b : Model) → MeansTheSameForCallers a b → (input : List ℕ) → transcript_of (asked a) input ≡ transcript_of (asked b) input

-- What `transcript` promises.
pub record LinesPromise : Type 0 where
  -- the lines of an input, with a 0A after each, are the input
  pub lines : LinesRejoin
  -- lines may be obeyed one by one
  pub one_by_one : LineByLine
  -- every call but a trial can be said in a line
  pub said : CallsSaid
  -- every call of an input is answered by its rules
  pub ruled : LinesByRules
  -- no message is refused for want of room
  pub room : RoomForAll
  -- banks that mean the same print the same
  pub alike : PrintedAlike
  -- and all that stations promise holds of the calls that lines make
  pub stations : StationsPromise
