-- How many digits commands have.
-- Assumes nothing.
use Rattle.std.specs.Prelude.{ℕ, ◌≡◌, ◌≤◌, length}
use Rattle.console.specs.declared.line.Command.{Command}
use Rattle.console.specs.declared.line.Command.TheVariants.{Entry, Narrowing, Retirement, Message, Frame}
use Rattle.console.specs.declared.line.Line.{Line}
use Rattle.console.specs.declared.line.Line.TheVariants as lent

-- How many digits a command takes, two for each byte: 13, 3 and 1 bytes, and never more than the longest frame has.
abbrev pub Digits : Command → ℕ → Type 0
Digits Entry n = n ≡ 26
Digits Narrowing n = n ≡ 6
Digits Retirement n = n ≡ 2
Digits Message n = (2 ≤ n) × (n ≤ 8224)
Digits Frame n = n ≤ 8224

-- A line lends so many.
abbrev pub Sized : Line → Type 0
Sized (lent.Command c d) = Digits c (length d.now)
Sized lent.Remark = Unit {0}
Sized lent.Empty = Unit {0}
