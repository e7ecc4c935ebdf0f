-- A piece after what was fed before.
-- Assumes nothing.
use Rattle.engine.proofs.Feeding.{carried_on}
use Rattle.engine.proofs.running.RunningCheck.feed.Goals as goal

pub returns-clause-joined : goal.returns-clause-joined
returns-clause-joined g c =
    let e = g.E.Engine in
    let x = c.args.self.now.engine in
    carried_on (e.degree_of x) (e.low_of x) (e.register_of x) (e.register_of c.feed_all.new.self) c.args.piece.now
    (g.met.E.Engine.sound x).small c.feed_all.ensures.register
