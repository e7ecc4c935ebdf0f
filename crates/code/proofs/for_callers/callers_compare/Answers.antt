-- How kinds compare for callers is a theorem: the function only names it.
-- Assumes nothing.
use Rattle.code.proofs.CallersCompared.{joined_matches}
use Rattle.code.proofs.for_callers.callers_compare.Goals as goal

pub returns-clause-matching : goal.returns-clause-matching
returns-clause-matching c = joined_matches
