-- After i blocks the first 16 i bytes are fed, and then the rest byte by byte.
-- Assumes nothing.
use Rattle.std.proofs.Common.{◌≡◌, ◌-◌, ◌*◌, ◌/◌, ◌^◌, ◌++◌, length, take}
use Rattle.engine.specs.Feed.{fed_all}
use Rattle.slicing.proofs.slicing.Slicing.after_string.Given as goal

abbrev pub invariant-loop-block : goal.invariant-loop-block
invariant-loop-block l =
    l.r ≡ fed_all 32 (l.self.register.generator.low * 2 ^ (32 - l.self.register.generator.degree)) l.register (take (l.block-index * 16) l.bytes)

abbrev pub invariant-loop-b : goal.invariant-loop-b
invariant-loop-b l =
    l.r ≡ fed_all 32 (l.self.register.generator.low * 2 ^ (32 - l.self.register.generator.degree)) l.register (take (length l.bytes / 16 * 16) l.bytes ++ take l.b-index l.rest)
