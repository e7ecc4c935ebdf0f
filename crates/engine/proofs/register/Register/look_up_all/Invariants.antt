-- After i turns the first i bytes are fed.
-- Assumes nothing.
use Rattle.std.proofs.Common.{◌≡◌, take}
use Rattle.engine.specs.Feed.{fed_all}
use Rattle.engine.proofs.register.Register.look_up_all.Given as goal

abbrev pub invariant-loop-b : goal.invariant-loop-b
invariant-loop-b l =
    let r = l.initial.self in
    (l.self.generator ≡ r.generator) × (l.self.value ≡ fed_all r.generator.degree r.generator.low r.value (take l.b-index l.bytes))
