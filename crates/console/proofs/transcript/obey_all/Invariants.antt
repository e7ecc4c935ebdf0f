-- What is printed so far, and then what is printed of the lines that are left, is all that is printed. No more lines are counted than bytes are gone.
-- Assumes nothing.
use Rattle.std.proofs.Common.{◌≡◌, suc, ◌+◌, ◌≤◌, ◌++◌, length, vec_items}
use Rattle.std.specs.Iterator.Adapters.{enumerate_count, enumerate_source}
use Rattle.code.specs.Model.{asked}
use Rattle.station.specs.Items.{items}
use Rattle.console.specs.Lines.{lines_of}
use Rattle.console.specs.Transcript.{transcript_from}
use Rattle.console.proofs.transcript.obey_all.Given as goal

abbrev pub invariant-loop-i : goal.invariant-loop-i
invariant-loop-i g l =
    ((goal.iterator-loop-i g).can_next l.i-iterator × (goal.iterator-loop-i g).is_finite l.i-iterator)
    × (vec_items l.out
    ++ transcript_from (asked (g.K.Kind.model l.initial.console.station.bank)) (suc (enumerate_count l.i-iterator)) (items l.console.station.book)
    (lines_of (enumerate_source l.i-iterator).0.now)
    ≡ vec_items l.initial.out
    ++ transcript_from (asked (g.K.Kind.model l.initial.console.station.bank)) 1 (items l.initial.console.station.book) (lines_of l.input))
    × (g.K.Kind.model l.console.station.bank ≡ g.K.Kind.model l.initial.console.station.bank)
    × (enumerate_count l.i-iterator + length (lines_of (enumerate_source l.i-iterator).0.now) ≤ length l.input)
