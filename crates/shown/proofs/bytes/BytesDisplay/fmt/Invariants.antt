-- What is written so far: the first bytes.
-- Assumes nothing.
use Rattle.std.proofs.Common.{take, flat_map}
use Rattle.std.specs.Fmt.{HasWritten, IsPlainFormatter}
use Rattle.answer.specs.Shown.{hexadecimal}
use Rattle.shown.proofs.bytes.BytesDisplay.fmt.Given as goal

abbrev pub invariant-loop-byte : goal.invariant-loop-byte
invariant-loop-byte g l =
    IsPlainFormatter l.initial.f → HasWritten g.W.Write.write_str_gives l.initial.f (flat_map (hexadecimal 2) (take l.byte-index l.byte-items)) l.f
