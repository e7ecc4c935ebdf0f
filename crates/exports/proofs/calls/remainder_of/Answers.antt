-- A message fed to a register of zero leaves its remainder.
-- Assumes nothing.
use Rattle.std.proofs.Common.{◌∙◌}
use Rattle.engine.proofs.Feeding.{fed_message}
use Rattle.exports.proofs.calls.remainder_of.Goals as goal

pub returns-clause-answer : goal.returns-clause-answer
returns-clause-answer g c =
    let e = g.E.Engine in
    let x = c.args.engine.now in
    let y = c.clear.new.self in
    let cleared = c.clear.ensures in
    c.value.ensures
    ∙ fed_message (e.degree_of x) (e.low_of x) (e.degree_of y) (e.low_of y) (e.register_of y) (e.register_of c.feed_all.new.self)
    c.args.message.now (g.met.E.Engine.sound y).small cleared.degree cleared.low cleared.register c.feed_all.ensures.register
