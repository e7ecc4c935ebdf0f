-- After i turns the first i bytes are fed.
-- Assumes nothing.
use Rattle.std.proofs.Common.{◌≡◌, take}
use Rattle.engine.specs.Feed.{fed_all}
use Rattle.engine.proofs.engine.Engine.feed_all.Given as goal

abbrev pub invariant-loop-b : goal.invariant-loop-b
invariant-loop-b g l =
    let e = g.Self.Engine in
    (e.degree_of l.self ≡ e.degree_of l.initial.self)
    × (e.low_of l.self ≡ e.low_of l.initial.self)
    × (e.register_of l.self
    ≡ fed_all (e.degree_of l.initial.self) (e.low_of l.initial.self) (e.register_of l.initial.self) (take l.b-index l.bytes))
    × (e.carries_of l.self ≡ e.carries_of l.initial.self)
