-- After i turns the first i bytes are fed.
-- Assumes nothing.
use Rattle.std.proofs.Common.{◌≡◌, take}
use Rattle.engine.specs.Feed.{fed_all}
use Rattle.station.proofs.ccitt.ccitt_of.Given as goal

abbrev pub invariant-loop-b : goal.invariant-loop-b
invariant-loop-b l = l.register ≡ fed_all 16 0x1021 0 (take l.b-index l.bytes)
