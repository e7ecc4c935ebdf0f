-- What is printed of an answer.
-- Assumes nothing.
use Rattle.std.specs.Prelude.{ℕ, List, [], ◌∷◌, ◌++◌, take, Ok, Err, Some, None, Option, Result}
use Rattle.std.specs.Borrow.{Bor}
use Rattle.answer.specs.declared.fault.Fault.{Fault}
use Rattle.answer.specs.Refusal.{Refusal, refusal_of}
use Rattle.answer.specs.Rules.{then}
use Rattle.station.specs.Calls.{Answer, done, wrote, handed, tried}
use Rattle.console.specs.Print.{decimal, hex}

-- A printed line: the line number, a space, the answer number, what comes after it, a 0A.
abbrev pub printed_line : ℕ → ℕ → List ℕ → List ℕ
printed_line n answer more = decimal n ++ (32 ∷ (decimal answer ++ (more ++ 10 ∷ [])))

-- A refusal: its number, a space and its place.
abbrev pub printed_refusal : ℕ → Refusal → List ℕ
printed_refusal n r = printed_line n r.number (32 ∷ decimal r.place)

-- The answer of a change: on success 0 and nothing after it.
abbrev pub printed_done : ℕ → Result (Unit {0}) Refusal → List ℕ
printed_done n (Ok _) = printed_line n 0 []
printed_done n (Err r) = printed_refusal n r

-- The answer with a frame or a message: on success 0, a space and the bytes.
abbrev pub printed_bytes : ℕ → Result (List ℕ) Refusal → List ℕ
printed_bytes n (Ok bytes) = printed_line n 0 (32 ∷ hex bytes)
printed_bytes n (Err r) = printed_refusal n r

-- The frame that a seal wrote at the start of an output.
abbrev pub wrote_frame : Result ℕ Refusal → List ℕ → Result (List ℕ) Refusal
wrote_frame x out = then x (λ n. Ok (take n out))

-- The line that is printed of an answer: of a seal the frame, of a take the message. (No line makes a trial.)
abbrev pub printed_answer : ℕ → Answer → List ℕ
printed_answer n (done x) = printed_done n x
printed_answer n (wrote x out) = printed_bytes n (wrote_frame x out)
printed_answer n (handed x frame) = printed_bytes n x
printed_answer n (tried x frame) = printed_done n x

-- The line that is printed of what the code lends: nothing or bytes, or a refusal.
abbrev pub printed_lent : ℕ → Result (Option (Bor (List ℕ))) Fault → List ℕ
printed_lent n (Ok None) = printed_line n 0 []
printed_lent n (Ok (Some bytes)) = printed_line n 0 (32 ∷ hex bytes.now)
printed_lent n (Err fault) = printed_refusal n (refusal_of fault)
