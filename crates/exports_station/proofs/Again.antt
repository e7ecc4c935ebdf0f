-- One change more.
-- Assumes nothing.
use Rattle.std.proofs.Common.{◌≡◌, ℕ, ◌+◌, ◌<◌, List, map, length, get_or, take, sym, ap, ◌∙◌, ap₂}
use Rattle.std.proofs.lemmas.List.{map_more}
use Rattle.code.specs.Model.{Model, asked}
use Rattle.station.specs.Book.{PlainBook, empty_book}
use Rattle.station.specs.Calls.{step, run}
use Rattle.runs.proofs.Runs.{run_more}
use Rattle.exports_station.specs.declared.form.BookChange.{BookChange}
use Rattle.exports_station.specs.Forms.{call_of, book_with}

-- m is what the bank means at first, m' what it means now, b the book before the change and b' the one after it
pub changed_once : (m m' : Model) (cs : List BookChange) (i : ℕ) (blank : BookChange) (b b' : PlainBook) → i < length cs
    → b ≡ book_with (asked m) (take i cs) → m' ≡ m → b' ≡ step (asked m') b (call_of (get_or cs i blank)) → b' ≡ book_with (asked m) (take (i + 1) cs)
changed_once m m' cs i blank b b' l eb em e =
    let c = call_of (get_or cs i blank) in
    let made = map call_of (take i cs) in
    e ∙ ap₂ (λ (k : Model) (p : PlainBook). step (asked k) p c) em eb
    ∙ sym (ap (run (asked m) empty_book) (map_more call_of cs i blank l) ∙ run_more (asked m) empty_book made c)
