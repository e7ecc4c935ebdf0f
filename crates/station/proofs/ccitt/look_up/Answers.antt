-- One look-up is one step of the division.
-- Assumes nothing.
use Rattle.std.proofs.Common.{refl, ◌∙◌, lit<, lit≤}
use Rattle.engine.proofs.Feeding.{looked_up_lem}
use Rattle.station.proofs.ccitt.look_up.Goals as goal

pub returns : goal.returns
returns c =
    looked_up_lem 16 0x1021 (lit< tt) (lit≤ tt) c.numbers-entries.result.now c.numbers-entries.ensures.rule c.args.register c.args.q
    c.from.result _ c.ranges.register.fits c.ranges.q.fits (c.from.ensures ∙ c.top_byte-top.ensures) refl
