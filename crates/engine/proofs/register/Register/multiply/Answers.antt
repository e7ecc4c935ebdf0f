-- One product is one step of the division.
-- Assumes nothing.
use Rattle.std.proofs.Common.{◌≡◌, ◌-◌, ◌^◌, ◌<◌, ◌≤◌, sym, ap, ◌∙◌, subst, lt_of_lt_of_le, arith, pow_mono}
use lib.Bits.{bit_xor}
use Rattle.poly.specs.Poly.{clmul}
use Rattle.engine.specs.Feed.{fed}
use Rattle.engine.proofs.Feeding.{multiplied, fed_bound}
use Rattle.engine.proofs.register.Register.multiply.Goals as goal

pub product-requires : goal.product-requires
product-requires c =
    let g = c.args.self.now.generator in
    let l : g.degree - 7 ≤ 25 = omega (arith, g.ok.1) in
    (c.top_byte.ensures.below, subst (λ x. x < 2 ^ 25) (sym c.low.ensures) (lt_of_lt_of_le c.requires (pow_mono l)))

step : (c : goal.After-product) → bit_xor c.moved_up.result c.product.result
    ≡ fed c.args.self.now.generator.degree c.args.self.now.generator.low c.args.self.now.value c.args.q
step c =
    let r = c.args.self.now in
    let g = r.generator in
    ap (bit_xor c.moved_up.result) (c.product.ensures ∙ ap (clmul c.top_byte.result) c.low.ensures)
    ∙ multiplied g.degree g.low g.ok.2 r.ok.0 c.requires r.value c.args.q c.top_byte.result c.moved_up.result r.ok.1 c.ranges.q.fits
    c.top_byte.ensures.byte c.moved_up.ensures

pub invariant_of-self : goal.invariant_of-self
invariant_of-self c =
    let r = c.args.self.now in
    let g = r.generator in
    record { ok = (r.ok.0, fed_bound g.degree g.low g.ok.2 r.value c.args.q _ (step c)) }

pub returns-clause-fed : goal.returns-clause-fed
returns-clause-fed c = step c.before
