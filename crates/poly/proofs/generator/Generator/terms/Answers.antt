-- The terms of X^h + low are X^h and those of low.
-- Assumes nothing.
use Rattle.std.proofs.Common.{sym}
use Rattle.poly.proofs.Terms.{terms_is}
use Rattle.poly.proofs.generator.Generator.terms.Goals as goal

pub returns : goal.returns
returns c = let g = c.args.self in sym (terms_is g.degree g.low g.ok.2)
