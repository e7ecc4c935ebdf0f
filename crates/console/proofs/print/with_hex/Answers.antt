-- One byte's two digits more.
-- Assumes nothing.
use Rattle.std.proofs.Common.{arith}
use Rattle.console.proofs.Digits.{hex_more}
use Rattle.console.proofs.print.with_hex.Goals as goal

pub loop-b-preserved : goal.loop-b-preserved
loop-b-preserved c = (
  hex_more _ _ _ _ _ _ _ _ c.loop-b-test.true c.hex_digit.ensures c.hex_digit-in-loop-b.ensures c.loop-b.invariant.0 c.push_reserved.ensures.items c.push_reserved-in-loop-b.ensures.items,
  omega arith,
  omega arith,
)
