-- After i turns the first i calls are made.
-- Assumes nothing.
use Rattle.std.proofs.Common.{◌≡◌, take, vec_items}
use Rattle.code.specs.Model.{asked}
use Rattle.station.specs.Book.{empty_book}
use Rattle.station.specs.Calls.{answers_from, run}
use Rattle.station.specs.Items.{items}
use Rattle.station.specs.Outcomes.{plain_calls, outcomes_seen}
use Rattle.runs.proofs.run.run.Given as goal

abbrev pub invariant-loop-call : goal.invariant-loop-call
invariant-loop-call g l =
    (outcomes_seen (vec_items l.outcomes)
    ≡ answers_from (asked (g.K.Kind.model l.initial.station.bank)) empty_book (plain_calls (take l.call-index l.calls)))
    × (items l.station.book ≡ run (asked (g.K.Kind.model l.initial.station.bank)) empty_book (plain_calls (take l.call-index l.calls)))
    × (g.K.Kind.model l.station.bank ≡ g.K.Kind.model l.initial.station.bank)
