-- The bytes of the pairs so far stand at the start of the buffer.
-- Assumes nothing.
use Rattle.std.proofs.Common.{◌≡◌, length, take}
use Rattle.console.proofs.Pairs.{bytes_of}
use Rattle.console.proofs.decode.decode.Given as goal

abbrev pub invariant-loop-i : goal.invariant-loop-i
invariant-loop-i l = (length l.buffer ≡ 4112) × (take l.i l.buffer ≡ take l.i (bytes_of l.pairs))
