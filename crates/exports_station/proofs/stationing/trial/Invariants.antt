-- Every time the station and the frame are the same, and the answer too.
-- Assumes nothing.
use Rattle.std.proofs.Common.{◌≡◌}
use Rattle.answer.specs.Refusal.{read}
use Rattle.exports_station.proofs.stationing.trial.Given as goal

abbrev pub invariant-loop : goal.invariant-loop
invariant-loop g l =
    (g.K.Kind.model l.station.bank ≡ g.K.Kind.model l.initial.station.bank) × (l.station.book ≡ l.initial.station.book)
    × (l.frame ≡ l.initial.frame)
    × (read l.answer ≡ read l.initial.answer)
