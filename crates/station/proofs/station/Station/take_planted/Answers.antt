-- The byte is put back.
-- Assumes nothing.
use Rattle.std.proofs.Common.{◌∙◌, set-set}
use lib.Seq.{set-get_or}
use Rattle.station.proofs.station.Station.take_planted.Goals as goal

pub returns-clause-back : goal.returns-clause-back
returns-clause-back g c =
    let f = c.args.frame.now in
    let at = c.args.at in
    c.drop-planted-2.ensures ∙ set-set f at c.args.byte _ ∙ set-get_or f at 0
