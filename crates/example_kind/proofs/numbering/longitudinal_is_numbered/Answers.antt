-- The numbers of the kind are a theorem: the function only names it.
-- Assumes nothing.
use Rattle.example_kind.specs.Laws.{numbered}
use Rattle.example_kind.proofs.numbering.longitudinal_is_numbered.Goals as goal

pub returns-clause-numbers : goal.returns-clause-numbers
returns-clause-numbers c = numbered
