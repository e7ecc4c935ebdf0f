-- The calls of a station, the plain book that they make, and what each answers.
-- A call changes the book (enter, narrow, retire) or asks (seal, take, trial).
-- Assumes nothing.
use Rattle.std.specs.Prelude.{ℕ, ◌^◌, ◌<◌, Bool, true, false, not, List, [], ◌∷◌, length, is_some, Ok, Result, nat_lt, slice_set}
use Rattle.answer.specs.declared.fault.Layer.TheVariants.{Book, Frame}
use Rattle.answer.specs.Refusal.{Refusal, refusal, if_ok}
use Rattle.answer.specs.Rules.{then, need}
use Rattle.words.specs.Flips.{Bytes}
use Rattle.code.specs.declared.description.Description.{Description}
use Rattle.code.specs.Model.{Asked, Fits, length_of, written}
use Rattle.station.specs.Book.{PlainBook, empty_book, entry_of, held, entered, narrowed, retired}
use Rattle.station.specs.Frame.{entry_at, sealed, taken}

-- The calls that can change the book: enter a description with a reach under a number, narrow its reach, retire it.
pub data Change : Type 0 where
  enter : ℕ → Description → ℕ → Change
  narrow : ℕ → ℕ → Change
  retire : ℕ → Change

-- The calls that only ask: seal a message under a number into an output, take a frame, try a frame with a byte at a place.
pub data Ask : Type 0 where
  seal : ℕ → List ℕ → List ℕ → Ask
  take : List ℕ → Ask
  trial : List ℕ → ℕ → ℕ → Ask

-- A call of a station.
pub data Call : Type 0 where
  change : Change → Call
  ask : Ask → Call

-- The calls that write: made as values they need memory, for a copy of the output or the frame that is shown.
abbrev pub copies : Call → Bool
copies (change c) = false
copies (ask (seal n message out)) = true
copies (ask (take f)) = false
copies (ask (trial f at byte)) = true

-- What a call answers: the value or the refusal, the message that take hands over, and the output or the frame afterwards.
pub data Answer : Type 0 where
  done : Result (Unit {0}) Refusal → Answer
  wrote : Result ℕ Refusal → List ℕ → Answer
  handed : Result (List ℕ) Refusal → List ℕ → Answer
  tried : Result (Unit {0}) Refusal → List ℕ → Answer

-- ---- what the changes answer

-- Enter: the bank admits the description with the reach; the number is free, else 21; the book has fewer than 16 entries, else 22.
abbrev pub entering : Asked → PlainBook → ℕ → Description → ℕ → Result (Unit {0}) Refusal
entering a b n d reach =
    then (a.admission d reach) (λ _.
    then (need (not (is_some (held b n))) (refusal 21 Book 1)) (λ _.
    need (nat_lt (length b.entries) 16) (refusal 22 Book 1)))

-- Narrow: the number is held, else 23; the reach is lower, else 24; the bank admits it.
abbrev pub narrowing : Asked → PlainBook → ℕ → ℕ → Result (Unit {0}) Refusal
narrowing a b n reach =
    then (entry_at b n) (λ e.
    then (need (nat_lt reach e.reach) (refusal 24 Book 12)) (λ _.
    a.admission e.description reach))

-- Retire: the number is held, else 23.
abbrev pub retiring : PlainBook → ℕ → Result (Unit {0}) Refusal
retiring b n = then (entry_at b n) (λ _. Ok tt)

-- What a change answers at a book.
abbrev pub changing : Asked → PlainBook → Change → Result (Unit {0}) Refusal
changing a b (enter n d reach) = entering a b n d reach
changing a b (narrow n reach) = narrowing a b n reach
changing a b (retire n) = retiring b n

-- ---- what the asks answer

-- Trial: the frame with a byte at a place is taken, and put back.
abbrev pub trying : Asked → PlainBook → List ℕ → ℕ → ℕ → Result (Unit {0}) Refusal
trying a b f at byte =
    then (need (nat_lt at (length f)) (refusal 48 Frame (length f))) (λ _.
    then (taken a b (slice_set f at byte)) (λ _. Ok tt))

-- What an ask answers at a book, with the output or the frame afterwards.
abbrev pub asking : Asked → PlainBook → Ask → Answer
asking a b (seal n message out) =
    wrote (length_of (sealed a b n message (length out))) (written (sealed a b n message (length out)) out)
asking a b (take f) = handed (taken a b f) f
asking a b (trial f at byte) = tried (trying a b f at byte) f

-- What a call answers at a book.
abbrev pub answer : Asked → PlainBook → Call → Answer
answer a b (change c) = done (changing a b c)
answer a b (ask q) = asking a b q

-- ---- the plain book

-- The change that is made where it is not refused.
abbrev pub changed : PlainBook → Change → PlainBook
changed b (enter n d reach) = entered b (entry_of n d reach)
changed b (narrow n reach) = narrowed b n reach
changed b (retire n) = retired b n

-- The book after a call: a refused call and an ask leave it.
abbrev pub step : Asked → PlainBook → Call → PlainBook
step a b (change c) = if_ok (changing a b c) (changed b c) b
step a b (ask q) = b

-- The book after some calls, from the book b.
abbrev pub run : Asked → PlainBook → List Call → PlainBook
run a b [] = b
run a b (c ∷ cs) = run a (step a b c) cs

-- The book of a station that started empty.
abbrev pub book_after : Asked → List Call → PlainBook
book_after a cs = run a empty_book cs

-- The answers, call by call.
abbrev pub answers_from : Asked → PlainBook → List Call → List Answer
answers_from a b [] = []
answers_from a b (c ∷ cs) = answer a b c ∷ answers_from a (step a b c) cs

-- ---- calls that a program can make

-- Numbers fit their bytes, and strings are bytes. Every call that a program can make is such a one, by the types of its parts: a number is a u8, a reach a u16,
-- a message or a frame a slice of u8. The definitions, whose numbers have no bound, can say other calls too.
abbrev pub TypedChange : Change → Type 0
TypedChange (enter n d reach) = (n < 2 ^ 8) × Fits d × (reach < 2 ^ 16)
TypedChange (narrow n reach) = (n < 2 ^ 8) × (reach < 2 ^ 16)
TypedChange (retire n) = n < 2 ^ 8

-- .. of an ask
abbrev pub TypedAsk : Ask → Type 0
TypedAsk (seal n message out) = (n < 2 ^ 8) × Bytes message × Bytes out
TypedAsk (take f) = Bytes f
TypedAsk (trial f at byte) = Bytes f × (byte < 2 ^ 8)

-- .. of any call
abbrev pub Typed : Call → Type 0
Typed (change c) = TypedChange c
Typed (ask q) = TypedAsk q
