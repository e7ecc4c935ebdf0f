-- The digits of the bytes so far stand at the output's end.
-- Assumes nothing.
use Rattle.std.proofs.Common.{◌≡◌, ◌+◌, ◌*◌, ◌++◌, take, vec_items, vec_len, vec_capacity}
use Rattle.console.specs.Print.{hex}
use Rattle.console.proofs.print.with_hex.Given as goal

abbrev pub invariant-loop-b : goal.invariant-loop-b
invariant-loop-b l =
    (vec_items l.out ≡ vec_items l.initial.out ++ hex (take l.b-index l.bytes))
    × (vec_len l.out ≡ vec_len l.initial.out + 2 * l.b-index)
    × (vec_capacity l.out ≡ vec_capacity l.initial.out)
