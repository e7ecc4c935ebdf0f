-- What is kept of X times r, and the low part or nothing.
-- Assumes nothing.
use Rattle.std.proofs.Common.{◌*◌, ◌/◌, ◌%◌, ◌^◌, ap, ◌∙◌, arith}
use lib.Bits.{bit_xor}
use Rattle.poly.proofs.Masks.{masked, top_lt, twice_masked}
use Rattle.poly.proofs.long_division.twice_at_top.Goals as goal

pub returns : goal.returns
returns c =
    let low = c.args.low in
    let r = c.args.r in
    ap (bit_xor (r * 2 % 2 ^ 32))
    (masked low (r / 2 ^ 31) c.ranges.low.fits (top_lt 32 low (omega arith) c.ranges.low.fits r c.ranges.r.fits))
    ∙ twice_masked 32 low (omega arith) c.ranges.low.fits r c.ranges.r.fits
