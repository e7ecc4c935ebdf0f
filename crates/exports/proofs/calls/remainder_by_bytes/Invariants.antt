-- After i turns the first i bytes are fed.
-- Assumes nothing.
use Rattle.std.proofs.Common.{◌≡◌, take}
use Rattle.engine.specs.Feed.{fed_all}
use Rattle.exports.proofs.calls.remainder_by_bytes.Given as goal

abbrev pub invariant-loop-b : goal.invariant-loop-b
invariant-loop-b g l =
    let e = g.E.Engine in
    (e.degree_of l.engine ≡ e.degree_of l.initial.engine)
    × (e.low_of l.engine ≡ e.low_of l.initial.engine)
    × (e.register_of l.engine
    ≡ fed_all (e.degree_of l.initial.engine) (e.low_of l.initial.engine) (e.register_of l.initial.engine) (take l.b-index l.message))
