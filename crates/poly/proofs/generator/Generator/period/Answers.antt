-- The walk over the powers of X, at the top of 32 bits; the least return is the first one.
-- Assumes nothing.
use Rattle.std.proofs.Common.{◌≡◌, ℕ, ◌+◌, ◌-◌, ◌*◌, ◌%◌, ◌^◌, ◌<◌, ◌≤◌, Some, None, sym, refl, ap, ◌∙◌, mod-lt, one-mul, arith, rules, pow_pos}
use lib.Pow.{pow-lt}
use Rattle.poly.specs.Period.{Walked}
use Rattle.poly.specs.Poly.{rem}
use Rattle.poly.specs.declared.generator.Generator.{Generator}
use Rattle.poly.proofs.Steps.{times_none, times_more}
use Rattle.poly.proofs.Walks.{none_more, walked_first}
use Rattle.poly.proofs.Aligned.{to_top, returns_from_top, returns_to_top}
use Rattle.poly.proofs.generator.Generator.period.Goals as goal

-- the low part and 1, moved to the top
up : Generator → ℕ
up g = g.low * 2 ^ (32 - g.degree) % 2 ^ 32

one : Generator → ℕ
one g = 1 * 2 ^ (32 - g.degree) % 2 ^ 32

-- a power that returns, at the top and in place
from-top : (g : Generator) (j : ℕ) → rem 32 (up g) (one g * 2 ^ j) ≡ one g → rem g.degree g.low (2 ^ j) ≡ 1
unfolding up one
from-top g j =
    let low = to_top g.degree g.low g.ok.2 g.ok.1 in
    let l : 0 < g.degree = omega (arith, g.ok.0) in
    returns_from_top g.degree g.low g.ok.2 g.ok.1 (up g) (one g) (low g.low g.ok.2) (low 1 (pow-lt l) ∙ one-mul (2 ^ (32 - g.degree))) j

to-the-top : (g : Generator) (j : ℕ) → rem g.degree g.low (2 ^ j) ≡ 1 → rem 32 (up g) (one g * 2 ^ j) ≡ one g
unfolding up one
to-the-top g j =
    let low = to_top g.degree g.low g.ok.2 g.ok.1 in
    let l : 0 < g.degree = omega (arith, g.ok.0) in
    returns_to_top g.degree g.low g.ok.2 g.ok.1 (up g) (one g) (low g.low g.ok.2) (low 1 (pow-lt l) ∙ one-mul (2 ^ (32 - g.degree))) j

-- the next power
next : (g : Generator) (i r t : ℕ) → 1 ≤ i → r ≡ rem 32 (up g) (one g * 2 ^ (i - 1)) → t ≡ rem 32 (up g) (r * 2) → t ≡ rem 32 (up g) (one g * 2 ^ i)
unfolding up one
next g i r t l er et =
    let back : i - 1 + 1 ≡ i = omega arith in
    et ∙ ap (λ x. rem 32 (up g) (x * 2)) er ∙ times_more 32 (up g) (mod-lt (g.low * 2 ^ (32 - g.degree)) (pow_pos 32)) (one g) (i - 1)
    ∙ ap (λ n. rem 32 (up g) (one g * 2 ^ n)) back

-- the first power that returns, and what a walk to the end tells
found : (g : Generator) (i : ℕ) → 1 ≤ i → i ≤ 32768 → rem 32 (up g) (one g * 2 ^ i) ≡ one g
    → ((j : ℕ) → 1 ≤ j → j < i → rem 32 (up g) (one g * 2 ^ j) ≡ one g → ⊥)
    → Walked g.degree g.low 32768 (Some i) i
found g i least most here before =
    ((least, from-top g i here, λ j n m r. before j n m (to-the-top g j r)), most, refl)

none-found : (g : Generator) → ((j : ℕ) → 1 ≤ j → j < 32769 → rem 32 (up g) (one g * 2 ^ j) ≡ one g → ⊥)
    → Walked g.degree g.low 32768 None 32768
none-found g before = (λ j n m r. before j n m (to-the-top g j r), refl)

pub loop-steps-init : goal.loop-steps-init
unfolding up one
loop-steps-init c =
    let g = c.args.self in (
      times_none 32 (up g) (mod-lt (g.low * 2 ^ (32 - g.degree)) (pow_pos 32)) (one g) (mod-lt (1 * 2 ^ (32 - g.degree)) (pow_pos 32)),
      λ j l m e. let z : j < 1 = m in omega arith,
    )

pub returns-then-power-one : goal.returns-then-power-one
unfolding up one
returns-then-power-one c =
    let g = c.args.self in
    let l = c.loop-steps in
    let here = next g l.steps l.power c.twice_at_top-power.result (omega arith) l.invariant.0 c.twice_at_top-power.ensures in
    let w = found g l.steps (omega arith) (omega arith) (sym here ∙ c.if-power-one.true) l.invariant.1 in
    let f = walked_first g.degree g.low 32768 (Some l.steps) l.steps w in
    record { answer = search rules; least = w }

pub loop-steps-preserved : goal.loop-steps-preserved
unfolding up one
loop-steps-preserved c =
    let g = c.args.self in
    let l = c.loop-steps in
    let here = next g l.steps l.power c.twice_at_top-power.result (omega arith) l.invariant.0 c.twice_at_top-power.ensures in
    let back : l.steps ≡ l.steps + 1 - 1 = omega arith in (
      here ∙ ap (λ n. rem 32 (up g) (one g * 2 ^ n)) back,
      none_more (λ j. rem 32 (up g) (one g * 2 ^ j) ≡ one g) l.steps l.invariant.1 (λ e. c.if-power-one.false (here ∙ e)),
    )

pub returns : goal.returns
unfolding up one
returns c =
    let g = c.args.self in
    let w = none-found g (λ j n m. c.loop-steps.invariant.1 j n (omega arith)) in
    let f = walked_first g.degree g.low 32768 None 32768 w in
    record { answer = search rules; least = w }
