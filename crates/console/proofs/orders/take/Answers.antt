-- The message is no longer than the frame.
-- Assumes nothing.
use Rattle.std.proofs.Common.{length}
use Rattle.code.specs.Model.{asked}
use Rattle.station.specs.Frame.{taken}
use Rattle.station.specs.Items.{items}
use Rattle.console.proofs.Sealing.{within, lent}
use Rattle.console.proofs.orders.take.Goals as goal

pub returns-clause-sized : goal.returns-clause-sized
returns-clause-sized g c =
    let a = asked (g.K.Kind.model c.args.station.now.bank) in
    let b = items c.args.station.now.book in
    let f = c.args.frame.now in
    lent c.take.result (taken a b f) (length f) c.take.ensures.answer (within a b f)
