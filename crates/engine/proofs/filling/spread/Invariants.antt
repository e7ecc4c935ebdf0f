-- The first row stays, and of the others there is what is written, column by column.
-- Assumes nothing.
use Rattle.std.proofs.Common.{◌≡◌, ℕ, ◌+◌, ◌*◌, ◌<◌, ◌≤◌, get_or}
use lib.Bits.{bit_xor}
use Rattle.engine.proofs.filling.spread.Given as goal

abbrev pub invariant-loop-i : goal.invariant-loop-i
invariant-loop-i l =
    ((c : ℕ) → c < 32 → get_or l.entries c 0 ≡ get_or l.initial.entries c 0)
    × ((c r : ℕ) → c < l.i → 1 ≤ r → r < 8 → get_or l.entries (32 * r + c) 0 ≡ bit_xor (get_or l.heads r 0) (get_or l.entries c 0))

abbrev pub invariant-loop-j : goal.invariant-loop-j
invariant-loop-j l =
    ((c : ℕ) → c < 32 → get_or l.entries c 0 ≡ get_or l.initial.entries c 0)
    × ((c r : ℕ) → 8 * c + r < 8 * l.i + l.j → 1 ≤ r → r < 8
    → get_or l.entries (32 * r + c) 0 ≡ bit_xor (get_or l.heads r 0) (get_or l.entries c 0))
