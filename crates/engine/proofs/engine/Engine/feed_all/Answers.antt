-- One byte more, and in the end all of them.
-- Assumes nothing.
use Rattle.std.proofs.Common.{◌∙◌, arith}
use Rattle.engine.proofs.Feeding.{fed_all_more}
use Rattle.engine.proofs.engine.Engine.feed_all.Goals as goal

pub loop-b-preserved : goal.loop-b-preserved
loop-b-preserved g c =
    let e = g.Self.Engine in
    let i = c.loop-b.invariant in (
      c.feed.ensures.degree ∙ i.0,
      c.feed.ensures.low ∙ i.1,
      fed_all_more (e.degree_of c.args.self.now) (e.low_of c.args.self.now) (e.register_of c.args.self.now) c.args.bytes.now
          c.loop-b.b-index (e.degree_of c.loop-b.self) (e.low_of c.loop-b.self) (e.register_of c.loop-b.self)
          (e.register_of c.feed.new.self) (omega arith) i.2 i.0 i.1 c.feed.ensures.register,
      c.feed.ensures.carries ∙ i.3,
    )
