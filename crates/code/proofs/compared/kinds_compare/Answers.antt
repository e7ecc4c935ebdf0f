-- How kinds compare is a theorem: the function only names it.
-- Assumes nothing.
use Rattle.code.proofs.Comparing.{joined_matches}
use Rattle.code.proofs.compared.kinds_compare.Goals as goal

pub returns-clause-matching : goal.returns-clause-matching
returns-clause-matching c = joined_matches
