-- The station has the book of the changes.
-- Assumes nothing.
use Rattle.std.proofs.Common.{ap, ◌∙◌, ap₂}
use Rattle.code.specs.Model.{Model, asked, length_of}
use Rattle.station.specs.Book.{PlainBook}
use Rattle.station.specs.Frame.{taken}
use Rattle.exports_station.specs.Forms.{told}
use Rattle.exports_station.proofs.station_exports.pukhtamo_take.Goals as goal

pub returns : goal.returns
returns c =
    let s = c.station_with-station.ensures in
    c.into.ensures
    ∙ ap (λ r. told (length_of r))
    (c.take.ensures ∙ ap₂ (λ (k : Model) (b : PlainBook). taken (asked k) b c.args.frame.now) s.bank s.book)
