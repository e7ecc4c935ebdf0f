-- The frame that was written is shown.
-- Assumes nothing.
use Rattle.std.proofs.Common.{◌≡◌, ◌∙◌, rules}
use Rattle.code.specs.Model.{asked}
use Rattle.station.specs.Items.{items, seen}
use Rattle.console.specs.Printed.{printed_bytes, printed_lent}
use Rattle.console.proofs.Sealing.{sealing}
use Rattle.console.proofs.orders.call.Goals as goal

pub returns-in-Message-clause-answer : goal.returns-in-Message-clause-answer
returns-in-Message-clause-answer g c = λ n.
    let a = asked (g.K.Kind.model c.args.station.now.bank) in
    let b = items c.args.station.now.book in
    let shown : printed_lent n c.map-in-Message.result ≡ printed_bytes n (seen c.seal.result) = search rules in
    shown ∙ sealing a n b c.args.bytes.now c.args.command (seen c.seal.result) c.in-Message.is c.seal.ensures.answer
