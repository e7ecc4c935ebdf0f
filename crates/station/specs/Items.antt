-- What a book, a place and a lent part are, read as the plain book and plain lists.
-- Assumes nothing.
use Rattle.std.specs.Prelude.{ℕ, suc, cond, not, List, [], ◌∷◌, length, is_some, Some, None, Ok, Err, Option, Result, ◌==◌, nat_lt}
use Rattle.std.specs.Borrow.{Bor}
use Rattle.std.specs.Option.{option_map}
use Rattle.answer.specs.declared.fault.Fault.{Fault}
use Rattle.answer.specs.declared.fault.Layer.TheVariants.{Book}
use Rattle.answer.specs.Refusal.{Refusal, refusal, refusal_of}
use Rattle.answer.specs.Rules.{then, need}
use Rattle.station.specs.declared.entry.Entry.{Entry}
use Rattle.station.specs.declared.book.Book.{Book as Kept}
use Rattle.station.specs.Book.{PlainBook, book_of, held}

-- The plain book that a book is.
abbrev pub items : Kept → PlainBook
items b = book_of b.entries.items

-- The place of the first entry with a number.
abbrev pub placed : List Entry → ℕ → Option ℕ
placed [] n = None
placed (e ∷ es) n = cond (e.number == n) (Some 0) (option_map suc (placed es n))

-- What the book itself asks of one entry more.
abbrev pub adding : PlainBook → ℕ → Result (Unit {0}) Refusal
adding b n =
    then (need (not (is_some (held b n))) (refusal 21 Book 1)) (λ _.
    need (nat_lt (length b.entries) 16) (refusal 22 Book 1))

-- What a result that lends bytes says.
abbrev pub seen : Result (Bor (List ℕ)) Fault → Result (List ℕ) Refusal
seen (Ok p) = Ok p.now
seen (Err f) = Err (refusal_of f)
