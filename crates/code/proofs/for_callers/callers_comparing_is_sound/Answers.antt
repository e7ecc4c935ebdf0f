-- What the two relations are for callers is a theorem: the function only names it.
-- Assumes nothing.
use Rattle.code.proofs.CallersCompared.{matches_not_transitive}
use Rattle.code.proofs.for_callers.callers_comparing_is_sound.Goals as goal

pub returns-clause-not_transitive : goal.returns-clause-not_transitive
returns-clause-not_transitive c = matches_not_transitive
