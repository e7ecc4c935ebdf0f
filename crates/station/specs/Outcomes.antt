-- Calls and outcomes of the code, read as plain calls and answers.
-- Assumes nothing.
use Rattle.std.specs.Prelude.{List, map, vec_items}
use Rattle.answer.specs.Refusal.{read}
use Rattle.station.specs.declared.call.Call.{Call as Made}
use Rattle.station.specs.declared.call.Call.TheVariants.{Enter, Narrow, Retire, Seal, Take, Trial}
use Rattle.station.specs.declared.call.Outcome.{Outcome}
use Rattle.station.specs.declared.call.Outcome.TheVariants.{Done, Wrote, Handed, Tried}
use Rattle.station.specs.Calls.{Call, change, ask, enter, narrow, retire, seal, take, trial, Answer, done, wrote, handed, tried}
use Rattle.station.specs.Items.{seen}

-- The plain call of a call: slices as the bytes that they show.
abbrev pub plain_call : Made → Call
plain_call (Enter n d reach) = change (enter n d reach)
plain_call (Narrow n reach) = change (narrow n reach)
plain_call (Retire n) = change (retire n)
plain_call (Seal n message out) = ask (seal n message.now out.now)
plain_call (Take frame) = ask (take frame.now)
plain_call (Trial frame at byte) = ask (trial frame.now at byte)

-- .. and of a list of calls
abbrev pub plain_calls : List Made → List Call
plain_calls cs = map plain_call cs

-- The plain answer of an outcome, with the output or the frame afterwards.
abbrev pub outcome_seen : Outcome → Answer
outcome_seen (Done r) = done (read r)
outcome_seen (Wrote r out) = wrote (read r) (vec_items out)
outcome_seen (Handed r frame) = handed (seen r) frame.now
outcome_seen (Tried r frame) = tried (read r) (vec_items frame)

-- .. and those of a list of outcomes
abbrev pub outcomes_seen : List Outcome → List Answer
outcomes_seen os = map outcome_seen os
