-- What comes back has h bits.
-- Assumes nothing.
use Rattle.engine.proofs.Aligned.{back_lt}
use Rattle.engine.proofs.register.Register.set_from_top.Goals as goal

pub invariant_of-self : goal.invariant_of-self
invariant_of-self c =
    let r = c.args.self.now in
    record { ok = (r.ok.0, back_lt r.generator.degree r.generator.ok.1 c.degree.result c.args.top c.degree.ensures c.ranges.top.fits) }
