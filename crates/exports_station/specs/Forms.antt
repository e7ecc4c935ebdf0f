-- What C passes and is given, read as descriptions, calls and answers.
-- Assumes nothing.
use Rattle.std.specs.Prelude.{ℕ, cond, List, map, Ok, Err, Result, ◌==◌}
use Rattle.answer.specs.Refusal.{Refusal}
use Rattle.answer.specs.Rules.{then}
use Rattle.code.specs.Model.{Asked, asked}
use Rattle.engine.specs.Meaning.{carries_all}
use Rattle.station.specs.Book.{PlainBook}
use Rattle.station.specs.Calls.{Change, enter, narrow, retire, Call, change, book_after}
use Rattle.runs.specs.Pledge.{three_kinds_over}
use Rattle.exports_station.specs.declared.change.Change.{Change as MadeChange}
use Rattle.exports_station.specs.declared.change.Change.TheVariants.{Enter, Narrow, Retire}
use Rattle.exports_station.specs.declared.form.BookChange.{BookChange}
use Rattle.exports_station.specs.declared.form.CallAnswer.{CallAnswer}

-- The bank of every export: kinds 1 to 3, over an engine that carries every generator.
abbrev pub kinds_asked : Asked
kinds_asked = asked (three_kinds_over carries_all carries_all)

-- Which change a call number stands for.
abbrev pub change_of : BookChange → Change
change_of c =
    cond (c.call == 1) (enter c.number c.code c.reach)
    (cond (c.call == 2) (narrow c.number c.reach) (retire c.number))

-- A change as the calls' definitions have it.
abbrev pub plain : MadeChange → Change
plain (Enter n d reach) = enter n d reach
plain (Narrow n reach) = narrow n reach
plain (Retire n) = retire n

abbrev pub call_of : BookChange → Call
call_of c = change (change_of c)

-- The book of a station at which these changes were made, refused ones included.
abbrev pub book_with : Asked → List BookChange → PlainBook
book_with a cs = book_after a (map call_of cs)

-- An answer as numbers: 0 and a length, or the number and the place of a refusal.
abbrev pub told : Result ℕ Refusal → CallAnswer
told (Ok n) = record { number = 0; place = 0; length = n }
told (Err r) = record { number = r.number; place = r.place; length = 0 }

-- A call that hands nothing over has the length 0.
abbrev pub done : Result (Unit {0}) Refusal → Result ℕ Refusal
done r = then r (λ _. Ok 0)
