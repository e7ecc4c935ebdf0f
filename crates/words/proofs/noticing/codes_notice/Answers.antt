-- The laws of the codes are theorems: the function only names them.
-- Assumes nothing.
use Rattle.words.proofs.Words.{crc_notices, crc_even_notices, crc_parity_notices}
use Rattle.words.proofs.Weighted.{weighted_sum_notices}
use Rattle.words.proofs.noticing.codes_notice.Goals as goal

pub returns-clause-crc : goal.returns-clause-crc
returns-clause-crc c = crc_notices

pub returns-clause-even : goal.returns-clause-even
returns-clause-even c = crc_even_notices

pub returns-clause-parity : goal.returns-clause-parity
returns-clause-parity c = crc_parity_notices

pub returns-clause-weighted : goal.returns-clause-weighted
returns-clause-weighted c = weighted_sum_notices
