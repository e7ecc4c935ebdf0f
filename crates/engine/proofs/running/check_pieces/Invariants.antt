-- After i turns the register is the remainder of the first i pieces.
-- Assumes nothing.
use Rattle.std.proofs.Common.{◌≡◌, take}
use Rattle.poly.specs.Poly.{remainder}
use Rattle.engine.specs.Pieces.{flat}
use Rattle.engine.proofs.running.check_pieces.Given as goal

abbrev pub invariant-loop-piece : goal.invariant-loop-piece
invariant-loop-piece g l =
    let e = g.E.Engine in
    (e.degree_of l.check.engine ≡ e.degree_of l.initial.check.engine)
    × (e.low_of l.check.engine ≡ e.low_of l.initial.check.engine)
    × (e.register_of l.check.engine ≡ remainder (e.degree_of l.initial.check.engine) (e.low_of l.initial.check.engine) (flat (take l.piece-index l.pieces)))
    × (e.carries_of l.check.engine ≡ e.carries_of l.initial.check.engine)
