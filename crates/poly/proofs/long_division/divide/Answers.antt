-- Long division, one bit of the dividend a turn.
-- Assumes nothing.
use Rattle.std.proofs.Common.{◌≡◌, ℕ, ◌-◌, ◌*◌, ◌/◌, ◌%◌, ◌^◌, sym, ap, ◌∙◌, mod-lt, zero-mul, div-one, arith, pow_pos}
use native.Mathlib.Nat.{div-eq_of_lt}
use lib.Bits.{and_mask}
use lib.Pow.{shl-shr}
use Rattle.poly.specs.Poly.{rem}
use Rattle.poly.proofs.Division.{lt_of_high, rem-small, rem-zero}
use Rattle.poly.proofs.Aligned.{to_top, bit_at_top, rem_at_top}
use Rattle.poly.proofs.long_division.divide.Goals as goal

pub returns-then-from-generator-eq0 : goal.returns-then-from-generator-eq0
returns-then-from-generator-eq0 c =
    let g = c.args.generator in
    sym (rem-small g.degree g.low g.ok.2 c.args.p
    (lt_of_high c.args.p g.degree (ap (λ x. x / 2 ^ g.degree) (sym c.from.ensures) ∙ c.if-from-generator-eq0.true)))

pub loop-i-init : goal.loop-i-init
loop-i-init c =
    let g = c.args.generator in
    let s : ℕ = 32 - g.degree in
    let up : ℕ = g.low * 2 ^ s % 2 ^ 32 in
    sym (ap (λ x. rem 32 up (x * 2 ^ s)) (div-eq_of_lt c.ranges.p.fits) ∙ ap (rem 32 up) (zero-mul (2 ^ s))
    ∙ rem-zero 32 up (mod-lt (g.low * 2 ^ s) (pow_pos 32)))

pub loop-i-preserved : goal.loop-i-preserved
loop-i-preserved c =
    let g = c.args.generator in
    bit_at_top g.degree g.low g.ok.2 g.ok.1 g.ok.0 _ (to_top g.degree g.low g.ok.2 g.ok.1 g.low g.ok.2)
    c.args.p c.loop-i.i c.loop-i.r c.twice_at_top.result _ (omega arith)
    c.loop-i.invariant c.twice_at_top.ensures (and_mask (c.args.p / 2 ^ (31 - c.loop-i.i)) 1)

pub returns : goal.returns
returns c =
    let g = c.args.generator in
    let p = c.args.p in
    let s : ℕ = 32 - g.degree in
    let up : ℕ = g.low * 2 ^ s % 2 ^ 32 in
    let all : c.loop-i.i ≡ 32 = omega arith in
    ap (λ y. y / 2 ^ s)
    (c.loop-i.invariant ∙ ap (λ n. rem 32 up (p / 2 ^ (32 - n) * 2 ^ s)) all ∙ ap (λ q. rem 32 up (q * 2 ^ s)) (div-one p)
    ∙ rem_at_top g.degree g.low g.ok.2 g.ok.1 up (to_top g.degree g.low g.ok.2 g.ok.1 g.low g.ok.2) p)
    ∙ shl-shr (rem g.degree g.low p) s
