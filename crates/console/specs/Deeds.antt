-- What a line does: the call that it makes, if any.
-- Assumes nothing.
use Rattle.std.specs.Prelude.{ℕ, List, drop, replicate, Ok, Err, Result, slice_index}
use Rattle.answer.specs.Refusal.{Refusal}
use Rattle.code.specs.Coded.{described_at, pair_at}
use Rattle.station.specs.declared.entry.Entry.{Entry}
use Rattle.station.specs.Book.{entry_of}
use Rattle.station.specs.Calls as calls
use Rattle.station.specs.Calls.{Call, change, ask, enter, narrow, retire}
use Rattle.console.specs.declared.line.Command.{Command}
use Rattle.console.specs.declared.line.Command.TheVariants as named
use Rattle.console.specs.Decode.{decoded}
use Rattle.console.specs.Grammar.{PlainLine, line_of, entry, narrowing, retirement, message, frame, remark, empty}

-- ---- the fields of a command

-- The entry in 13 bytes: number, description, reach.
abbrev pub entry_in : List ℕ → Entry
entry_in s = entry_of (slice_index s 0) (described_at s 1) (pair_at s 11)

-- The output that a message is sealed into: as long as the longest frame.
unfoldable pub blank : List ℕ
blank = replicate 4112 0

-- ---- what a line does

-- Nothing, a refusal by the grammar, or a call.
pub data Deed : Type 0 where
  nothing : Deed
  refused : Refusal → Deed
  makes : Call → Deed

-- The calls of commands with given bytes. E: number, description and reach.
abbrev pub enters_by : List ℕ → Call
enters_by s = change (enter (entry_in s).number (entry_in s).description (entry_in s).reach)

-- N: number and reach.
abbrev pub narrows_by : List ℕ → Call
narrows_by s = change (narrow (slice_index s 0) (pair_at s 1))

-- R: the number.
abbrev pub retires_by : List ℕ → Call
retires_by s = change (retire (slice_index s 0))

-- M: the number, and after it the message.
abbrev pub seals_by : List ℕ → Call
seals_by s = ask (calls.seal (slice_index s 0) (drop 1 s) blank)

-- F: the frame.
abbrev pub takes_by : List ℕ → Call
takes_by s = ask (calls.take s)

-- The call of a command with given bytes.
abbrev pub call_by : Command → List ℕ → Call
call_by named.Entry s = enters_by s
call_by named.Narrowing s = narrows_by s
call_by named.Retirement s = retires_by s
call_by named.Message s = seals_by s
call_by named.Frame s = takes_by s

-- What a line does, by what it is: a command makes its call, a remark and an empty line do nothing, and no other line is obeyed.
abbrev pub deed : Result PlainLine Refusal → Deed
deed (Ok (entry d)) = makes (enters_by (decoded d))
deed (Ok (narrowing d)) = makes (narrows_by (decoded d))
deed (Ok (retirement d)) = makes (retires_by (decoded d))
deed (Ok (message d)) = makes (seals_by (decoded d))
deed (Ok (frame d)) = makes (takes_by (decoded d))
deed (Ok remark) = nothing
deed (Ok empty) = nothing
deed (Err r) = refused r

-- What the line with these bytes does.
abbrev pub deed_of : List ℕ → Deed
deed_of line = deed (line_of line)
