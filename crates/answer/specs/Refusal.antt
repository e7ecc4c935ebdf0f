-- How an answer is read: a success with its values, or a refusal with number, layer and place.
-- Assumes nothing.
use Rattle.std.specs.Prelude.{ℕ, Ok, Err, Result}
use Rattle.answer.specs.declared.fault.Layer.{Layer}
use Rattle.answer.specs.declared.fault.Layer.TheVariants.{Line, Engine, Kind, Book, Frame}
use Rattle.answer.specs.declared.fault.Fault.{Fault}
use Rattle.answer.specs.declared.fault.Fault.TheVariants.{Command, Digit, Operands, LineLimit, Unserved, EngineDegree, KindField, EngineLow, KindLow, Terms, NotCarried, Reach, Period, InUse, Full, NotHeld, NotBelow, Message, OverReach, Output, ShortFrame, Layout, HeadCheck, FrameLength, Description, WordLength, Check, Outside}

-- A refusal, as every contract names it.
pub record Refusal : Type 0 where
  pub number : ℕ
  pub layer : Layer
  pub place : ℕ

-- "refused with number n by the layer l at place p"
abbrev pub refusal : ℕ → Layer → ℕ → Refusal
refusal n l p = record { number = n; layer = l; place = p }

-- The number, the layer and the place of each fault.
abbrev pub refusal_of : Fault → Refusal
refusal_of Command = refusal 1 Line 0
refusal_of (Digit p) = refusal 2 Line p
refusal_of (Operands p) = refusal 3 Line p
refusal_of (LineLimit p) = refusal 4 Line p
refusal_of Unserved = refusal 11 Kind 2
refusal_of EngineDegree = refusal 12 Engine 3
refusal_of (KindField p) = refusal 12 Kind p
refusal_of EngineLow = refusal 13 Engine 4
refusal_of (KindLow p) = refusal 13 Kind p
refusal_of (Terms p) = refusal 14 Kind p
refusal_of NotCarried = refusal 15 Engine 4
refusal_of Reach = refusal 16 Kind 12
refusal_of (Period p) = refusal 17 Kind p
refusal_of InUse = refusal 21 Book 1
refusal_of Full = refusal 22 Book 1
refusal_of NotHeld = refusal 23 Book 1
refusal_of NotBelow = refusal 24 Book 12
refusal_of (Message p) = refusal 31 Frame p
refusal_of OverReach = refusal 32 Frame 12
refusal_of (Output p) = refusal 33 Frame p
refusal_of (ShortFrame p) = refusal 41 Frame p
refusal_of Layout = refusal 42 Frame 0
refusal_of (HeadCheck p) = refusal 43 Frame p
refusal_of FrameLength = refusal 44 Frame 12
refusal_of (Description p) = refusal 45 Frame p
refusal_of WordLength = refusal 46 Frame 12
refusal_of (Check p) = refusal 47 Frame p
refusal_of (Outside p) = refusal 48 Frame p

-- What a reader of a result sees.
abbrev pub read : {A : Type 0} → Result A Fault → Result A Refusal
read (Ok v) = Ok v
read (Err f) = Err (refusal_of f)

-- The number of an answer: 0 is success.
abbrev pub number_of : {A : Type 0} → Result A Refusal → ℕ
number_of (Ok _) = 0
number_of (Err r) = r.number

-- The place of an answer: 0 on success.
abbrev pub place_of : {A : Type 0} → Result A Refusal → ℕ
place_of (Ok _) = 0
place_of (Err r) = r.place

-- What is there after a call: `after` where it succeeded, `before` where it was refused.
abbrev pub if_ok : {A E B : Type 0} → Result A E → B → B → B
if_ok (Ok _) after before = after
if_ok (Err _) after before = before
