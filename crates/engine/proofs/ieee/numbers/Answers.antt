-- The numbers keep the rule: one computed test.
-- Assumes nothing.
use Rattle.poly.specs.Poly.{horner, by_bits, reduce, rem}
use Rattle.engine.proofs.Numbers.{tested}
use Rattle.engine.proofs.ieee.numbers.Goals as goal

pub returns : goal.returns
unfolding rem by_bits horner reduce
returns c = tested 32 0x04C11DB7 32 _ tt
