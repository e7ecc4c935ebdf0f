-- The byte fits at the top of the register, so nothing is shifted out.
-- Assumes nothing.
use Rattle.std.proofs.Common.{◌≡◌, ◌+◌, ◌-◌, ◌*◌, ◌%◌, ◌^◌, ◌≤◌, sym, ap, ◌∙◌, ap₂, arith}
use lib.Bits.{bit_xor}
use Rattle.std.proofs.lemmas.Nat.{shl_whole}
use Rattle.poly.specs.Poly.{rem}
use Rattle.engine.specs.Feed.{fed}
use Rattle.engine.proofs.Feeding.{fed-bits, fed_bound}
use Rattle.engine.proofs.register.Register.feed_bits.Goals as goal

step : (c : goal.After-remainder-self) → c.remainder-self.result ≡ fed c.args.self.now.generator.degree c.args.self.now.generator.low c.args.self.now.value c.args.q
step c =
    let r = c.args.self.now in
    let g = r.generator in
    let bound : 8 + (g.degree - 8) ≤ 32 = omega (arith, g.ok.1, r.ok.0) in
    let d : c.degree.result - 8 ≡ g.degree - 8 = omega arith in
    c.remainder-self.ensures
    ∙ ap₂ (λ v k. rem g.degree g.low (bit_xor r.value (v * 2 ^ k % 2 ^ 32) * 2 ^ 8)) c.from.ensures d
    ∙ ap (λ x. rem g.degree g.low (bit_xor r.value x * 2 ^ 8)) (shl_whole c.args.q 8 (g.degree - 8) 32 c.ranges.q.fits bound)
    ∙ sym (fed-bits g.degree g.low g.ok.2 r.ok.0 r.value c.args.q)

pub invariant_of-self : goal.invariant_of-self
invariant_of-self c =
    let r = c.args.self.now in
    let g = r.generator in
    record { ok = (r.ok.0, fed_bound g.degree g.low g.ok.2 r.value c.args.q _ (step c)) }

pub returns-clause-fed : goal.returns-clause-fed
returns-clause-fed c = step c.before
