-- Which checks make a message a word is a theorem: the function only names it.
-- Assumes nothing.
use Rattle.words.proofs.Members.{crc_words, crc_parity_words, weighted-sums}
use Rattle.words.proofs.membership.checks_make_words.Goals as goal

pub returns-clause-crc : goal.returns-clause-crc
returns-clause-crc c = crc_words

pub returns-clause-parity : goal.returns-clause-parity
returns-clause-parity c = crc_parity_words

pub returns-clause-weighted : goal.returns-clause-weighted
returns-clause-weighted c = weighted-sums
