-- One byte more, and in the end the remainder of all.
-- Assumes nothing.
use Rattle.std.proofs.Common.{refl, ap, ◌∙◌, arith, lit<}
use Rattle.std.proofs.lemmas.List.{take_all}
use Rattle.engine.specs.Feed.{fed_all}
use Rattle.engine.proofs.Feeding.{fed_all_more, fed_all-string}
use Rattle.station.specs.Frame.{ccitt}
use Rattle.station.proofs.ccitt.ccitt_of.Goals as goal

pub loop-b-preserved : goal.loop-b-preserved
loop-b-preserved c =
    fed_all_more 16 0x1021 0 c.args.bytes.now c.loop-b.b-index 16 0x1021 c.loop-b.register c.look_up-register.result (omega arith)
    c.loop-b.invariant refl refl c.look_up-register.ensures

pub returns : goal.returns
unfolding ccitt
returns c =
    c.loop-b.invariant ∙ ap (fed_all 16 0x1021 0) (take_all c.loop-b.b-index c.args.bytes.now (omega arith))
    ∙ fed_all-string 16 0x1021 (lit< tt) c.args.bytes.now
