-- One look-up is one step of the division.
-- Assumes nothing.
use Rattle.engine.proofs.Feeding.{looked_up_lem, fed_bound}
use Rattle.engine.proofs.register.Register.look_up.Goals as goal

pub invariant_of-self : goal.invariant_of-self
invariant_of-self c =
    let r = c.args.self.now in
    let g = r.generator in
    let e = looked_up_lem g.degree g.low g.ok.2 r.ok.0 c.args.entries.now c.requires r.value c.args.q c.top_byte-top.result c.moved_up.result
    r.ok.1 c.ranges.q.fits c.top_byte-top.ensures.byte c.moved_up.ensures in
    record { ok = (r.ok.0, fed_bound g.degree g.low g.ok.2 r.value c.args.q _ e) }

pub returns-clause-fed : goal.returns-clause-fed
returns-clause-fed c =
    let r = c.args.self.now in
    let g = r.generator in
    looked_up_lem g.degree g.low g.ok.2 r.ok.0 c.args.entries.now c.requires r.value c.args.q c.top_byte-top.result c.moved_up.result
    r.ok.1 c.ranges.q.fits c.top_byte-top.ensures.byte c.moved_up.ensures
