-- The first byte that is no digit, or the end.
-- Assumes nothing.
use Rattle.std.proofs.Common.{◌∙◌, not, rules, tests}
use Rattle.std.proofs.lemmas.Iterator.{YieldsList-from_slice}
use Rattle.std.proofs.lemmas.Iterator.Search.{position_from_yields_List}
use Rattle.console.specs.Grammar.{is_digit}
use Rattle.console.proofs.Places.{place}
use Rattle.console.proofs.line.digits_at_start.Goals as goal

pub returns-clause-value : goal.returns-clause-value
returns-clause-value c =
    let xs = c.args.bytes.now in
    let found = position_from_yields_List (λ b. not (is_digit b)) _ _ _ c.position.ensures.ran (YieldsList-from_slice xs c.iter.ensures.rest) (λ x b q k. search (rules, tests)) in
    c.unwrap_or.ensures ∙ place (λ b. not (is_digit b)) xs c.position.result found
