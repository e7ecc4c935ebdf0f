-- The plain book as a law over runs: what it holds after any calls, and what one call more changes.
-- Assumes nothing.
use Rattle.std.specs.Prelude.{◌≡◌, ℕ, suc, ◌≤◌, List, [], ◌∷◌, ◌++◌, length, Some, None, Ok, Err, Option}
use Rattle.std.specs.List.{AllByRecursion}
use Rattle.answer.specs.Refusal.{Refusal}
use Rattle.code.specs.declared.description.Description.{Description}
use Rattle.code.specs.Model.{Model, asked, Admits}
use Rattle.station.specs.declared.entry.Entry.{Entry}
use Rattle.station.specs.Book.{PlainBook, entry_of, with_reach, held}
use Rattle.station.specs.Calls.{Change, enter, narrow, retire, Ask, Call, change, ask, entering, narrowing, changing, book_after}

-- The number whose entry a call can change.
abbrev pub about : Call → Option ℕ
about (change (enter n d reach)) = Some n
about (change (narrow n reach)) = Some n
about (change (retire n)) = Some n
about (ask q) = None

-- The book of a station over the bank m after some calls.
abbrev pub after : Model → List Call → PlainBook
after m cs = book_after (asked m) cs

-- .. and after one call more
abbrev pub after_one : Model → List Call → Call → PlainBook
after_one m cs c = book_after (asked m) (cs ++ c ∷ [])

-- What holds of the book after the calls cs, and of one call more.
pub record BookLaw (m : Model) (cs : List Call) : Type 0 where
  -- before any call nothing is held
  pub none_yet : (n : ℕ) → held (after m []) n ≡ None
  -- it has at most 16 entries
  pub most : length (after m cs).entries ≤ 16
  -- each is held under its own number, so that no number stands twice
  pub own : AllByRecursion (λ e. held (after m cs) e.number ≡ Some e) (after m cs).entries
  -- what is held under a number has that number, and its description and reach are admitted
  pub numbered : (n : ℕ) (e : Entry) → held (after m cs) n ≡ Some e → e.number ≡ n
  pub admitted : (n : ℕ) (e : Entry) → held (after m cs) n ≡ Some e → Admits m e.description e.reach
  -- what is held under the number of an entering, a narrowing, a retiring
  pub entered : (n : ℕ) (d : Description) (reach : ℕ) → entering (asked m) (after m cs) n d reach ≡ Ok tt
      → held (after_one m cs (change (enter n d reach))) n ≡ Some (entry_of n d reach)
  pub narrowed : (n reach : ℕ) (e : Entry) → held (after m cs) n ≡ Some e → narrowing (asked m) (after m cs) n reach ≡ Ok tt
      → held (after_one m cs (change (narrow n reach))) n ≡ Some (with_reach e reach)
  pub retired : (n : ℕ) → held (after_one m cs (change (retire n))) n ≡ None
  -- the number of entries: one more, the same, and one less, so that the place of a retired entry can be used again
  pub one_more : (n : ℕ) (d : Description) (reach : ℕ) → entering (asked m) (after m cs) n d reach ≡ Ok tt
      → length (after_one m cs (change (enter n d reach))).entries ≡ suc (length (after m cs).entries)
  pub as_many : (n reach : ℕ) → length (after_one m cs (change (narrow n reach))).entries ≡ length (after m cs).entries
  pub one_less : (n : ℕ) (e : Entry) → held (after m cs) n ≡ Some e
      → suc (length (after_one m cs (change (retire n))).entries) ≡ length (after m cs).entries
  -- what is held under every other number stays
  pub others : (c : Call) (k : ℕ) → ¬ (about c ≡ Some k) → held (after_one m cs c) k ≡ held (after m cs) k
  -- a refused change and an ask leave the book as it is
  pub refused : (c : Change) (z : Refusal) → changing (asked m) (after m cs) c ≡ Err z → after_one m cs (change c) ≡ after m cs
  pub asking : (q : Ask) → after_one m cs (ask q) ≡ after m cs

-- That holds over every bank, whatever calls came before.
abbrev pub BookLaws : Type 0
BookLaws = (m : Model) (cs : List Call) → BookLaw m cs
