-- One look-up is one step of the division.
-- Assumes nothing.
use Rattle.std.proofs.Common.{◌-◌, ◌*◌, ◌/◌, ◌^◌, [], get_or, refl, ap, lit≤, lit<}
use lib.Bits.{bit_xor}
use Rattle.engine.proofs.Aligned.{up_lt}
use Rattle.engine.proofs.Feeding.{looked_up_lem}
use Rattle.slicing.proofs.Filling.{table_of}
use Rattle.slicing.proofs.slicing.Slicing.after_byte.Goals as goal

pub returns : goal.returns
returns c =
    let s = c.args.self.now in
    let g = s.register.generator in
    let low = g.low * 2 ^ (32 - g.degree) in
    let small = up_lt g.degree g.ok.1 g.low g.ok.2 in
    let tables = s.table in
    looked_up_lem 32 low small (lit≤ tt) (get_or s.tables 0 []) (table_of low 16 s.tables tables 0 (lit< tt)) c.args.register c.args.q _ _
    c.ranges.register.fits c.ranges.q.fits (ap (bit_xor (c.args.register / 2 ^ 24)) c.from.ensures) refl
