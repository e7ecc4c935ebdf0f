-- Three writes, each right after the other.
-- Assumes nothing.
use Rattle.station.proofs.Writing.{three}
use Rattle.station.proofs.place.write_parts.Goals as goal

pub returns-clause-out : goal.returns-clause-out
returns-clause-out c =
    simp (c.copy_from_slice.ensures.after, c.copy_from_slice-2.ensures.after, c.copy_from_slice-3.ensures.after)
    (three c.args.out.now c.args.head.now c.args.message.now c.args.check.now)
