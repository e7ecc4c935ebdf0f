-- What is promised.
-- Assumes nothing.
use Rattle.console.proofs.Pledged.{lines_promise}
use Rattle.console.proofs.transcript.transcript.Goals as goal

pub returns-clause-promises : goal.returns-clause-promises
returns-clause-promises g c = lines_promise

pub returns-in_err-obey_all-clause-promises : goal.returns-in_err-obey_all-clause-promises
returns-in_err-obey_all-clause-promises g c = lines_promise
