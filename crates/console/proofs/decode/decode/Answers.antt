-- One byte more, and in the end all of them.
-- Assumes nothing.
use Rattle.std.proofs.Common.{◌+◌, ◌*◌, ap₂, ◌∙◌, arith, length-set}
use Rattle.console.proofs.Pairs.{turn, whole}
use Rattle.console.proofs.decode.decode.Goals as goal

pub loop-i-preserved : goal.loop-i-preserved
loop-i-preserved c =
    let l = c.loop-i in (
      length-set l.buffer l.i _ ∙ l.invariant.0,
      turn c.as_chunks.result.0.now l.buffer l.i _ c.loop-i-test.true (omega arith)
          (ap₂ (λ a b. 16 * a + b) c.digit_value.ensures.value c.digit_value-in-loop-i.ensures.value) l.invariant.1,
    )

pub returns-clause-bytes : goal.returns-clause-bytes
returns-clause-bytes c = whole c.as_chunks.result.0.now c.loop-i.buffer c.args.digits.now c.loop-i.i c.as_chunks.ensures.front (omega arith) c.loop-i.invariant.1
