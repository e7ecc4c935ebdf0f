-- The theorem stands in Division: the function only names it.
-- Assumes nothing.
use Rattle.std.proofs.Common.{sym}
use Rattle.poly.proofs.Division.{rem_is, rem_unique}
use Rattle.poly.proofs.claims.division_stands.Goals as goal

pub returns-clause-division : goal.returns-clause-division
returns-clause-division c h low small p = (rem_is h low small p, λ r d. sym (rem_unique h low small p r d))
