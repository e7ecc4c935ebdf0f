-- A register of zero is the remainder of nothing.
-- Assumes nothing.
use Rattle.engine.proofs.Feeding.{holds_none}
use Rattle.engine.proofs.running.RunningCheck.begin.Goals as goal

pub returns-clause-nothing : goal.returns-clause-nothing
returns-clause-nothing g c =
    let e = g.E.Engine in
    holds_none (e.degree_of c.args.engine) (e.low_of c.args.engine) (e.register_of c.clear.new.self)
    (g.met.E.Engine.sound c.args.engine).small c.clear.ensures.register
