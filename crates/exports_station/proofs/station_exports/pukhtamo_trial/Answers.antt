-- The station has the book of the changes.
-- Assumes nothing.
use Rattle.std.proofs.Common.{ap, ◌∙◌, ap₂}
use Rattle.code.specs.Model.{Model, asked}
use Rattle.station.specs.Book.{PlainBook}
use Rattle.station.specs.Calls.{trying}
use Rattle.exports_station.specs.Forms.{done, told}
use Rattle.exports_station.proofs.station_exports.pukhtamo_trial.Goals as goal

pub returns-clause-answer : goal.returns-clause-answer
returns-clause-answer c =
    let s = c.station_with-station.ensures in
    c.into.ensures
    ∙ ap (λ r. told (done r))
    (c.trial.ensures.answer
    ∙ ap₂ (λ (k : Model) (b : PlainBook). trying (asked k) b c.args.frame.now c.args.at c.args.byte) s.bank s.book)
