-- One byte more, and in the end the remainder of all of them.
-- Assumes nothing.
use Rattle.std.proofs.Common.{◌≡◌, ℕ, ◌≤◌, List, length, take, ap, ◌∙◌, arith}
use Rattle.std.proofs.lemmas.List.{take_all}
use Rattle.engine.specs.Feed.{fed_all}
use Rattle.engine.proofs.Feeding.{fed_all_more, fed_message}
use Rattle.exports.proofs.calls.remainder_by_bytes.Goals as goal

pub loop-b-preserved : goal.loop-b-preserved
loop-b-preserved g c =
    let e = g.E.Engine in
    let y = c.clear.new.self in
    let z = c.loop-b.engine in
    let i = c.loop-b.invariant in (
      c.feed.ensures.degree ∙ i.0,
      c.feed.ensures.low ∙ i.1,
      fed_all_more (e.degree_of y) (e.low_of y) (e.register_of y) c.args.message.now c.loop-b.b-index (e.degree_of z) (e.low_of z)
          (e.register_of z) (e.register_of c.feed.new.self) (omega arith) i.2 i.0 i.1 c.feed.ensures.register,
    )

-- after the last turn all bytes are fed
whole : (h low r s : ℕ) (bytes : List ℕ) (i : ℕ) → s ≡ fed_all h low r (take i bytes) → length bytes ≤ i → s ≡ fed_all h low r bytes
whole h low r s bytes i e l = e ∙ ap (fed_all h low r) (take_all i bytes l)

pub returns-clause-answer : goal.returns-clause-answer
returns-clause-answer g c =
    let e = g.E.Engine in
    let x = c.args.engine.now in
    let y = c.clear.new.self in
    let z = c.loop-b.engine in
    let cleared = c.clear.ensures in
    c.value.ensures
    ∙ fed_message (e.degree_of x) (e.low_of x) (e.degree_of y) (e.low_of y) (e.register_of y) (e.register_of z) c.args.message.now
    (g.met.E.Engine.sound y).small cleared.degree cleared.low cleared.register
    (whole (e.degree_of y) (e.low_of y) (e.register_of y) (e.register_of z) c.args.message.now c.loop-b.b-index c.loop-b.invariant.2 (omega arith))
