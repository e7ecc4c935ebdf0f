-- One byte more, and in the end all of them.
-- Assumes nothing.
use Rattle.std.proofs.Common.{ap, ◌∙◌, arith}
use Rattle.engine.proofs.Feeding.{fed_all_more}
use Rattle.engine.proofs.register.Register.look_up_all.Goals as goal

pub loop-b-preserved : goal.loop-b-preserved
loop-b-preserved c =
    let r = c.args.self.now in
    let x = c.loop-b.self in
    let i = c.loop-b.invariant in (
      c.look_up.ensures.generator ∙ i.0,
      fed_all_more r.generator.degree r.generator.low r.value c.args.bytes.now c.loop-b.b-index x.generator.degree x.generator.low x.value
          c.look_up.new.self.value (omega arith) i.1 (ap (λ g. g.degree) i.0) (ap (λ g. g.low) i.0) c.look_up.ensures.fed,
    )
