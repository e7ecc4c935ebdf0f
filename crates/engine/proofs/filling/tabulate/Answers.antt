-- X^h leaves the low part.
-- Assumes nothing.
use Rattle.std.proofs.Common.{◌*◌, ◌^◌, ◌∙◌, ap₂, add-zero, mul-one}
use Rattle.poly.specs.Poly.{rem}
use Rattle.poly.proofs.Masks.{low_is}
use Rattle.engine.proofs.filling.tabulate.Goals as goal

pub returns : goal.returns
returns c a l =
    let g = c.args.generator in
    c.fill.ensures.entries g.degree (c.low.ensures ∙ low_is g.degree g.low g.ok.2) a l
    ∙ ap₂ (λ n x. rem n x (a * 2 ^ n)) (add-zero g.degree) (mul-one g.low)
