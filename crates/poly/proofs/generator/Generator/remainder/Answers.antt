-- X times the remainder, k times, at the top of 32 bits.
-- Assumes nothing.
use Rattle.std.proofs.Common.{◌≡◌, ℕ, ◌-◌, ◌*◌, ◌%◌, ◌^◌, ◌<◌, sym, ap, ◌∙◌, subst, ap₂, mod-lt, arith, pow_pos}
use Rattle.poly.specs.Poly.{rem}
use Rattle.poly.proofs.Division.{rem_lt}
use Rattle.poly.proofs.Steps.{times_none, times_more}
use Rattle.poly.proofs.Aligned.{to_top, times_at_top}
use Rattle.poly.proofs.generator.Generator.remainder.Goals as goal

pub loop-init : goal.loop-init
loop-init c =
    let g = c.args.self in
    let s : ℕ = 32 - g.degree in
    times_none 32 (g.low * 2 ^ s % 2 ^ 32) (mod-lt (g.low * 2 ^ s) (pow_pos 32)) (c.divide.result * 2 ^ s % 2 ^ 32)
    (mod-lt (c.divide.result * 2 ^ s) (pow_pos 32))

pub loop-preserved : goal.loop-preserved
loop-preserved c =
    let g = c.args.self in
    let s : ℕ = 32 - g.degree in
    let up : ℕ = g.low * 2 ^ s % 2 ^ 32 in
    c.twice_at_top-r.ensures ∙ ap (λ x. rem 32 up (x * 2)) c.loop.invariant
    ∙ times_more 32 up (mod-lt (g.low * 2 ^ s) (pow_pos 32)) (c.divide.result * 2 ^ s % 2 ^ 32) c.loop.counter

pub returns : goal.returns
returns c =
    let g = c.args.self in
    let s : ℕ = 32 - g.degree in
    let up : ℕ = g.low * 2 ^ s % 2 ^ 32 in
    let x = c.divide.result in
    let all : c.loop.counter ≡ c.args.k = omega arith in
    let below : x < 2 ^ g.degree = subst (λ y. y < 2 ^ g.degree) (sym c.divide.ensures) (rem_lt g.degree g.low g.ok.2 c.args.p) in
    times_at_top g.degree g.low g.ok.2 g.ok.1 up (to_top g.degree g.low g.ok.2 g.ok.1 g.low g.ok.2) c.args.p x
    c.args.k c.loop.r c.divide.ensures
    (c.loop.invariant ∙ ap₂ (λ y n. rem 32 up (y * 2 ^ n)) (to_top g.degree g.low g.ok.2 g.ok.1 x below) all)
