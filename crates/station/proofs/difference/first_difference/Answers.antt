-- The first pair that differs, or else the end of the shorter string.
-- Assumes nothing.
use Rattle.std.proofs.Common.{◌≡◌, length, ◌∙◌, ap₂, rules, tests}
use Rattle.std.specs.List.{position, zip}
use Rattle.std.specs.Option.{option_or}
use Rattle.std.proofs.lemmas.Iterator.{YieldsList-from_slice, YieldsList-from_zip}
use Rattle.std.proofs.lemmas.Iterator.Search.{position_from_yields_List}
use Rattle.station.proofs.Differs.{unlike, by_flag, differ_by}
use Rattle.station.proofs.difference.first_difference.Goals as goal

pub returns-clause-is : goal.returns-clause-is
returns-clause-is c =
    let a = c.args.a.now in
    let b = c.args.b.now in
    let p : c.position.result ≡ position unlike (zip a b) =
    position_from_yields_List unlike c.position.new.self _ c.position.result c.position.ensures.ran
    (YieldsList-from_zip (YieldsList-from_slice a cc) (YieldsList-from_slice b cc)) (λ x t q k. search (rules, tests)) in
    c.or.ensures ∙ ap₂ option_or p (c.then_some.ensures ∙ by_flag (length a) (length b) c.min.result c.min.ensures) ∙ differ_by a b
