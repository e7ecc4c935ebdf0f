-- One bit of the byte a turn.
-- Assumes nothing.
use Rattle.std.proofs.Common.{◌+◌, ◌*◌, ◌/◌, ◌%◌, ◌^◌, ◌≤◌, mod-lt, arith, pow_pos}
use lib.Bits.{and_mask}
use Rattle.std.proofs.lemmas.Nat.{shl_whole}
use Rattle.poly.proofs.Product.{clmul-none}
use Rattle.engine.proofs.Masks.{product_more}
use Rattle.engine.proofs.product.product.Goals as goal

pub loop-i-init : goal.loop-i-init
loop-i-init c = clmul-none c.args.a c.args.low

pub loop-i-preserved : goal.loop-i-preserved
loop-i-preserved c =
    let bound : 25 + c.loop-i.i ≤ 32 = omega arith in
    product_more c.args.a c.args.low c.loop-i.i c.loop-i.sum (c.args.low * 2 ^ c.loop-i.i % 2 ^ 32) _
    c.loop-i.invariant (shl_whole c.args.low 25 c.loop-i.i 32 c.requires.1 bound) (mod-lt (c.args.low * 2 ^ c.loop-i.i) (pow_pos 32))
    (and_mask (c.args.a / 2 ^ c.loop-i.i) 1)
