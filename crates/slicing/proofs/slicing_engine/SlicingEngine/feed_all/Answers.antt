-- Moved up, fed, and moved back.
-- Assumes nothing.
use Rattle.std.proofs.Common.{◌-◌, ◌*◌, ◌^◌, ap, ◌∙◌}
use Rattle.engine.specs.Feed.{fed_all}
use Rattle.engine.proofs.Aligned.{fed_at_top}
use Rattle.slicing.proofs.slicing_engine.SlicingEngine.feed_all.Goals as goal

pub returns-clause-register : goal.returns-clause-register
returns-clause-register c =
    let s = c.args.self.now in
    let r = s.register in
    let g = r.generator in
    let low = g.low * 2 ^ (32 - g.degree) in
    c.set_from_top.ensures.value
    ∙ fed_at_top g.degree g.ok.1 g.low r.value c.after_string-top.result c.args.bytes.now g.ok.2
    (c.after_string-top.ensures
    ∙ ap (λ x. fed_all 32 low x c.args.bytes.now) c.at_top.ensures)
