-- Every time the station is the same, the output stands as it was first written, and so does the answer.
-- Assumes nothing.
use Rattle.std.proofs.Common.{◌≡◌}
use Rattle.answer.specs.Refusal.{read}
use Rattle.exports_station.proofs.stationing.seal.Given as goal

abbrev pub invariant-loop : goal.invariant-loop
invariant-loop g l =
    (g.K.Kind.model l.station.bank ≡ g.K.Kind.model l.initial.station.bank) × (l.station.book ≡ l.initial.station.book)
    × (l.out ≡ l.initial.out)
    × (read l.answer ≡ read l.initial.answer)
