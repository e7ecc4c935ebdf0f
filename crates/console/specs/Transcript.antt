-- The transcript of an input.
-- Assumes nothing.
use Rattle.std.specs.Prelude.{ℕ, suc, List, [], ◌∷◌, ◌++◌, map}
use Rattle.code.specs.Model.{Asked}
use Rattle.station.specs.Book.{PlainBook, empty_book}
use Rattle.station.specs.Calls.{Call, Answer, answer, step, answers_from}
use Rattle.console.specs.Deeds.{Deed, nothing, refused, makes, deed_of}
use Rattle.console.specs.Lines.{lines_of}
use Rattle.console.specs.Printed.{printed_refusal, printed_answer}

-- ---- a whole input

-- The calls that lines make, in their order.
abbrev pub calls_of : List Deed → List Call
calls_of [] = []
calls_of (nothing ∷ ds) = calls_of ds
calls_of (refused r ∷ ds) = calls_of ds
calls_of (makes c ∷ ds) = c ∷ calls_of ds

-- What is printed of lines that are numbered from n on, where the calls among them have these answers: every line counts, a call takes the next answer.
-- (There is one answer for each call, so the case of a call with no answer left never comes: see LineByLine of Pledge.antt.)
abbrev pub printed : ℕ → List Deed → List Answer → List ℕ
printed n [] xs = []
printed n (nothing ∷ ds) xs = printed (suc n) ds xs
printed n (refused r ∷ ds) xs = printed_refusal n r ++ printed (suc n) ds xs
printed n (makes c ∷ ds) [] = []
printed n (makes c ∷ ds) (x ∷ xs) = printed_answer n x ++ printed (suc n) ds xs

-- What is printed of lines from the number n and the book b on: the answers are those of a run of the lines' calls.
abbrev pub transcript_from : Asked → ℕ → PlainBook → List (List ℕ) → List ℕ
transcript_from a n b lines = printed n (map deed_of lines) (answers_from a b (calls_of (map deed_of lines)))

-- The transcript of an input at a new station: its lines are numbered from 1.
abbrev pub transcript_of : Asked → List ℕ → List ℕ
transcript_of a input = transcript_from a 1 empty_book (lines_of input)

-- ---- one line

-- What is printed of line n at the book b.
abbrev pub printed_of : Asked → ℕ → PlainBook → Deed → List ℕ
printed_of a n b nothing = []
printed_of a n b (refused r) = printed_refusal n r
printed_of a n b (makes c) = printed_answer n (answer a b c)

-- The book after a line.
abbrev pub book_after_line : Asked → PlainBook → Deed → PlainBook
book_after_line a b nothing = b
book_after_line a b (refused r) = b
book_after_line a b (makes c) = step a b c
