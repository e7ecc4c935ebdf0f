-- The degree and what is left of 32 bits make 32.
-- Assumes nothing.
use Rattle.std.proofs.Common.{◌≡◌, ◌+◌, ◌-◌, ◌*◌, ◌^◌, ◌<◌, sym, ap, ◌∙◌, subst, mul-one, arith}
use Rattle.poly.specs.Poly.{rem}
use Rattle.poly.proofs.Division.{rem_lt, rem-shl, rem-small}
use Rattle.engine.proofs.filling.tabulate_at_top.Goals as goal

pub fill-requires : goal.fill-requires
fill-requires c =
    let g = c.args.generator in
    (omega arith, subst (λ x. x < 2 ^ g.degree) (sym c.remainder-first.ensures) (rem_lt g.degree g.low g.ok.2 (c.args.first * 2 ^ 0)))

pub returns : goal.returns
returns c =
    let g = c.args.generator in
    let up : 32 - c.degree.result ≡ 32 - g.degree = omega arith in
    let whole : g.degree + (32 - g.degree) ≡ 32 = omega arith in
    let first = c.args.first in
    let reduced = c.remainder-first.ensures ∙ ap (rem g.degree g.low) (mul-one first) in
    record {
      next =
          c.fill.ensures.next ∙ ap (λ x. rem g.degree g.low (x * 2 ^ 8)) reduced ∙ sym (rem-shl g.degree g.low g.ok.2 first 8);
      entries =
          λ k e a l.
          let small = subst (λ x. x < 2 ^ g.degree) (sym e) (rem_lt g.degree g.low g.ok.2 (2 ^ k)) in
          c.fill.ensures.entries k (reduced ∙ rem-small g.degree g.low g.ok.2 first small ∙ e) a l
          ∙ ap (λ s. rem (g.degree + s) (g.low * 2 ^ s) (a * 2 ^ (k + s))) up
          ∙ ap (λ n. rem n (g.low * 2 ^ (32 - g.degree)) (a * 2 ^ (k + (32 - g.degree)))) whole;
    }
