-- The station has the book of the changes.
-- Assumes nothing.
use Rattle.std.proofs.Common.{ap, ◌∙◌, ap₂}
use Rattle.code.specs.Model.{Model, asked}
use Rattle.station.specs.Book.{PlainBook}
use Rattle.station.specs.Calls.{changing}
use Rattle.exports_station.specs.Forms.{kinds_asked, book_with, done, plain, told}
use Rattle.exports_station.proofs.station_exports.pukhtamo_change.Goals as goal

pub returns : goal.returns
returns c =
    let s = c.station_with-station.ensures in
    c.into-2.ensures
    ∙ ap (λ r. told (done r))
    (c.make.ensures.answer
    ∙ ap₂ (λ (k : Model) (b : PlainBook). changing (asked k) b (plain c.into.result)) s.bank s.book
    ∙ ap (changing kinds_asked (book_with kinds_asked c.args.changes.now)) c.into.ensures)
