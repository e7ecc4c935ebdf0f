-- The top byte of a register of h bits is a byte, and so is its sum with one.
-- Assumes nothing.
use Rattle.std.proofs.Common.{◌-◌, ◌/◌, ◌^◌, ◌<◌, sym, subst, ap₂}
use lib.Bits.{bit_xor}
use Rattle.engine.proofs.Feeding.{top_lt}
use Rattle.engine.proofs.register.Register.top_byte.Goals as goal

pub returns-clause-below : goal.returns-clause-below
returns-clause-below c =
    let r = c.args.self in
    let g = r.generator in
    subst (λ x. x < 2 ^ 8) (sym (ap₂ (λ h q. bit_xor (r.value / 2 ^ (h - 8)) q) c.degree.ensures c.from.ensures))
    (top_lt g.degree g.low g.ok.2 r.ok.0 r.value c.args.q r.ok.1 c.ranges.q.fits)
