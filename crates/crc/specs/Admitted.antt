-- An admission that gives a value, read as the yes that it is.
-- Assumes nothing.
use Rattle.std.specs.Prelude.{Ok, Err, Result}
use Rattle.answer.specs.declared.fault.Fault.{Fault}
use Rattle.answer.specs.Refusal.{Refusal, refusal_of}

abbrev pub admitted : {A : Type 0} → Result A Fault → Result (Unit {0}) Refusal
admitted (Ok _) = Ok tt
admitted (Err f) = Err (refusal_of f)
