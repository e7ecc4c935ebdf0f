-- The definitions compute the samples.
-- Assumes nothing.
use lib.Count.{ones}
use Rattle.poly.specs.Poly.{horner, by_bits, reduce, rem}
use Rattle.code.proofs.by_hand.samples_right.Goals as goal

pub returns-clause-samples : goal.returns-clause-samples
unfolding rem by_bits horner reduce ones
returns-clause-samples c = tt
