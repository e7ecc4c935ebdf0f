-- The numbers keep the rule: one computed test.
-- Assumes nothing.
use Rattle.poly.specs.Poly.{horner, by_bits, reduce, rem}
use Rattle.engine.proofs.Numbers.{tested}
use Rattle.station.proofs.ccitt.numbers.Goals as goal

pub returns : goal.returns
unfolding rem by_bits horner reduce
returns c = tested 16 0x1021 16 _ tt
