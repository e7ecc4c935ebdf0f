-- Every time the station is the same, and the answer too.
-- Assumes nothing.
use Rattle.std.proofs.Common.{◌≡◌}
use Rattle.station.specs.Items.{seen}
use Rattle.exports_station.proofs.stationing.take.Given as goal

abbrev pub invariant-loop : goal.invariant-loop
invariant-loop g l =
    (g.K.Kind.model l.station.bank ≡ g.K.Kind.model l.initial.station.bank) × (l.station.book ≡ l.initial.station.book)
    × (seen l.answer ≡ seen l.initial.answer)
