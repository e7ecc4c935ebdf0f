-- After i turns the first i changes are made.
-- Assumes nothing.
use Rattle.std.proofs.Common.{◌≡◌, take}
use Rattle.code.specs.Model.{asked}
use Rattle.station.specs.Items.{items}
use Rattle.exports_station.specs.Forms.{book_with}
use Rattle.exports_station.proofs.stationing.station_with.Given as goal

abbrev pub invariant-loop-c : goal.invariant-loop-c
invariant-loop-c g l =
    (items l.station.book ≡ book_with (asked (g.K.Kind.model l.initial.station.bank)) (take l.c-index l.changes))
    × (g.K.Kind.model l.station.bank ≡ g.K.Kind.model l.initial.station.bank)
