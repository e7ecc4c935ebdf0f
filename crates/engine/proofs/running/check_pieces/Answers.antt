-- One piece more, and in the end all of them.
-- Assumes nothing.
use Rattle.std.proofs.Common.{◌∙◌}
use Rattle.engine.proofs.Feeding.{piece_more}
use Rattle.engine.proofs.running.check_pieces.Goals as goal

pub loop-piece-preserved : goal.loop-piece-preserved
loop-piece-preserved g c =
    let e = g.E.Engine in
    let x = c.begin-check.result.engine in
    let y = c.loop-piece.check.engine in
    let i = c.loop-piece.invariant in
    let r = c.feed.ensures in (
      r.degree ∙ i.0,
      r.low ∙ i.1,
      piece_more (e.degree_of x) (e.low_of x) (e.degree_of y) (e.low_of y) (e.register_of y) (e.register_of c.feed.new.self.engine)
          c.args.pieces.now c.loop-piece.piece-index _ i.0 i.1 c.loop-piece-test.true i.2 r.joined,
      r.carries ∙ i.3,
    )
