-- The plain book: which numbers are held, with which description and reach.
-- Assumes nothing.
use Rattle.std.specs.Prelude.{ℕ, cond, List, [], ◌∷◌, ◌++◌, Some, None, Option, ◌==◌}
use Rattle.code.specs.declared.description.Description.{Description}
use Rattle.station.specs.declared.entry.Entry.{Entry}

-- A plain book: its entries in the order in which they were entered.
pub record PlainBook : Type 0 where
  pub entries : List Entry

-- The book with these entries.
abbrev pub book_of : List Entry → PlainBook
book_of es = record { entries = es }

-- The book of a new station.
abbrev pub empty_book : PlainBook
empty_book = book_of []

-- The entry of a number, a description and a reach.
abbrev pub entry_of : ℕ → Description → ℕ → Entry
entry_of n d reach = record { number = n; description = d; reach = reach }

-- An entry with another reach.
abbrev pub with_reach : Entry → ℕ → Entry
with_reach e reach = entry_of e.number e.description reach

-- The first entry with a number.
abbrev pub held_in : List Entry → ℕ → Option Entry
held_in [] n = None
held_in (e ∷ es) n = cond (e.number == n) (Some e) (held_in es n)

-- What a book holds under a number.
abbrev pub held : PlainBook → ℕ → Option Entry
held b n = held_in b.entries n

-- The book with one entry more, at the end.
abbrev pub entered : PlainBook → Entry → PlainBook
entered b e = book_of (b.entries ++ e ∷ [])

-- The entries with another reach in the first that has the number.
abbrev pub narrowed_in : List Entry → ℕ → ℕ → List Entry
narrowed_in [] n reach = []
narrowed_in (e ∷ es) n reach = cond (e.number == n) (with_reach e reach ∷ es) (e ∷ narrowed_in es n reach)

-- The book with another reach under a number.
abbrev pub narrowed : PlainBook → ℕ → ℕ → PlainBook
narrowed b n reach = book_of (narrowed_in b.entries n reach)

-- The entries without the first that has the number.
abbrev pub retired_in : List Entry → ℕ → List Entry
retired_in [] n = []
retired_in (e ∷ es) n = cond (e.number == n) es (e ∷ retired_in es n)

-- The book without what it held under a number.
abbrev pub retired : PlainBook → ℕ → PlainBook
retired b n = book_of (retired_in b.entries n)
