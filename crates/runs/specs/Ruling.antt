-- The rules of each call as predicates, in their order: a call is refused by the first that is broken, and does its work where none is.
-- Assumes nothing.
use Rattle.std.specs.Prelude.{◌≡◌, ℕ, suc, ◌+◌, ◌-◌, ◌%◌, ◌<◌, ◌≤◌, true, ◌⊎◌, List, [], ◌∷◌, ◌++◌, length, take, drop, Some, Ok, Err, Result, slice_index, slice_set}
use Rattle.std.specs.List.{AllByRecursion}
use Rattle.answer.specs.declared.fault.Layer.{Layer}
use Rattle.answer.specs.declared.fault.Layer.TheVariants.{Book, Frame}
use Rattle.answer.specs.Refusal.{Refusal, refusal}
use Rattle.answer.specs.Rules.{Rule}
use Rattle.code.specs.declared.description.Description.{Description}
use Rattle.code.specs.declared.description.Sheet.{Sheet}
use Rattle.code.specs.Model.{Model, asked, sheet_at, described_rules, length_of, written, Admits, Keeps, LawfulSheet}
use Rattle.station.specs.declared.entry.Entry.{Entry}
use Rattle.station.specs.Layout.{layout}
use Rattle.station.specs.Book.{PlainBook, empty_book, held}
use Rattle.station.specs.Frame.{coded, ccitt, frame, pair_at}
use Rattle.station.specs.Calls as calls
use Rattle.station.specs.Calls.{Change, enter, narrow, retire, Call, change, ask, Answer, done, wrote, handed, tried, answer, step, book_after, answers_from, Typed}
use Rattle.runs.specs.Promises.{FirstDiffer}

-- ---- rules as predicates

-- A rule: what it asks, and which refusal is the answer where that fails.
pub record Demand : Type 1 where
  pub asks : Type 0
  pub answers : Refusal → Type 0

-- The rule that asks this, and has these answers.
abbrev pub demand : Type 0 → (Refusal → Type 0) → Demand
demand asks answers = record { asks = asks; answers = answers }

-- The refusal is the one with this number, layer and place.
abbrev pub exactly : ℕ → Layer → ℕ → Refusal → Type 0
exactly number layer place z = z ≡ refusal number layer place

-- The refusal has this number, and its place is the first at which two strings differ, counted from `start`.
abbrev pub at_first : ℕ → ℕ → List ℕ → List ℕ → Refusal → Type 0
at_first number start xs ys z = (p : ℕ) × FirstDiffer xs ys p × (z ≡ refusal number Frame (start + p))

-- No rule of a list is broken.
abbrev pub NoneBroken : List Demand → Type 0
NoneBroken [] = Unit {0}
NoneBroken (r ∷ rs) = r.asks × NoneBroken rs

-- The first broken rule of a list has the refusal z for its answer.
abbrev pub FirstBroken : List Demand → Refusal → Type 0
FirstBroken [] z = ⊥
FirstBroken (r ∷ rs) z = ((¬ r.asks) × r.answers z) ⊎ (r.asks × FirstBroken rs z)

-- A result goes by rules: it is a value with the property P where none is broken, or the answer of the first that is.
pub data GoesBy {A : Type 0} (rs : List Demand) (P : A → Type 0) : Result A Refusal → Type 0 where
  works : {v : A} → NoneBroken rs → P v → GoesBy rs P (Ok v)
  refuses : {z : Refusal} → FirstBroken rs z → GoesBy rs P (Err z)

-- The rules of a kind, which are tests, as such predicates.
abbrev pub of_tests : List Rule → List Demand
of_tests [] = []
of_tests (r ∷ rs) = demand (r.asks ≡ true) (λ z. z ≡ r.otherwise) ∷ of_tests rs

-- ---- the entry of a number

-- Something is held under a number.
abbrev pub IsHeld : PlainBook → ℕ → Type 0
IsHeld b n = (e : Entry) × (held b n ≡ Some e)

-- A property of the entry under a number, if there is one.
abbrev pub OfEntry : PlainBook → ℕ → (Entry → Type 0) → Type 0
OfEntry b n P = (e : Entry) → held b n ≡ Some e → P e

-- The sheet of an entry.
abbrev pub sheet_of : Model → Entry → Sheet
sheet_of m e = sheet_at m e.description e.reach

-- ---- the changes

-- Where a change does its work there is nothing more to answer.
abbrev pub Done : Unit {0} → Type 0
Done _ = Unit {0}

-- Enter: the bank's admission, with its own refusal; the number is free; the book has a place.
abbrev pub enter_rules : Model → PlainBook → ℕ → Description → ℕ → List Demand
enter_rules m b n d reach =
    demand (Admits m d reach) (FirstBroken (of_tests (described_rules m d ++ m.reaches d reach)))
    ∷ demand (¬ IsHeld b n) (exactly 21 Book 1)
    ∷ demand (length b.entries < 16) (exactly 22 Book 1)
    ∷ []

-- Narrow: the number is held; the reach is below the entry's; the bank's admission, which can refuse only for the reach.
abbrev pub narrow_rules : Model → PlainBook → ℕ → ℕ → List Demand
narrow_rules m b n reach =
    demand (IsHeld b n) (exactly 23 Book 1)
    ∷ demand (OfEntry b n (λ e. reach < e.reach)) (exactly 24 Book 12)
    ∷ demand (OfEntry b n (λ e. Admits m e.description reach))
    (λ z. OfEntry b n (λ e. FirstBroken (of_tests (m.reaches e.description reach)) z))
    ∷ []

-- Retire: the number is held.
abbrev pub retire_rules : PlainBook → ℕ → List Demand
retire_rules b n = demand (IsHeld b n) (exactly 23 Book 1) ∷ []

-- The rules of each change.
abbrev pub change_rules : Model → PlainBook → Change → List Demand
change_rules m b (enter n d reach) = enter_rules m b n d reach
change_rules m b (narrow n reach) = narrow_rules m b n reach
change_rules m b (retire n) = retire_rules b n

-- ---- seal

-- The number is held; the message is some whole tuples; message and check are within the reach; the frame fits the output.
abbrev pub seal_rules : Model → PlainBook → ℕ → List ℕ → ℕ → List Demand
seal_rules m b n message room =
    demand (IsHeld b n) (exactly 23 Book 1)
    ∷ demand (OfEntry b n (λ e. (1 ≤ length message) × (length message % (sheet_of m e).tuple ≡ 0))) (exactly 31 Frame (length message))
    ∷ demand (OfEntry b n (λ e. length message + (sheet_of m e).check ≤ e.reach)) (exactly 32 Frame 12)
    ∷ demand (OfEntry b n (λ e. layout.size + (length message + (sheet_of m e).check) ≤ room)) (exactly 33 Frame room)
    ∷ []

-- What seal writes: head, message and check.
abbrev pub Written : Model → PlainBook → ℕ → List ℕ → List ℕ → Type 0
Written m b n message f = OfEntry b n (λ e. f ≡ frame n e.description message (m.check e.description message))

-- ---- take and trial

-- The word of a frame.
abbrev pub word_of : List ℕ → List ℕ
word_of f = drop layout.size f

-- The message of a word, by a sheet.
abbrev pub message_of : Sheet → List ℕ → List ℕ
message_of s w = take (length w - s.check) w

-- The check of a word, by a sheet.
abbrev pub check_of : Sheet → List ℕ → List ℕ
check_of s w = drop (length w - s.check) w

-- What is asked of the word w and the description `ten` of a frame under the number n: the entry's description; longer than the check, whole tuples;
-- within the reach; and the check is that of the message.
abbrev pub word_rules : Model → PlainBook → ℕ → List ℕ → List ℕ → List Demand
word_rules m b n ten w =
    demand (OfEntry b n (λ e. ten ≡ coded e.description)) (λ z. OfEntry b n (λ e. at_first 45 2 ten (coded e.description) z))
    ∷ demand (OfEntry b n (λ e. ((sheet_of m e).check < length w) × (length w % (sheet_of m e).tuple ≡ 0))) (exactly 46 Frame 12)
    ∷ demand (OfEntry b n (λ e. length w ≤ e.reach)) (exactly 32 Frame 12)
    ∷ demand (OfEntry b n (λ e. check_of (sheet_of m e) w ≡ m.check e.description (message_of (sheet_of m e) w)))
    (λ z. OfEntry b n (λ e.
    at_first 47 (layout.size + (length w - (sheet_of m e).check))
    (check_of (sheet_of m e) w) (m.check e.description (message_of (sheet_of m e) w)) z))
    ∷ []

-- Take: longer than a head; the layout; the head's check; the length; the number is held; then the description and the word.
abbrev pub take_rules : Model → PlainBook → List ℕ → List Demand
take_rules m b f =
    demand (suc layout.size ≤ length f) (exactly 41 Frame (length f))
    ∷ demand (slice_index f 0 ≡ layout.mark) (exactly 42 Frame 0)
    ∷ demand (pair_at f layout.checked ≡ ccitt (take layout.checked f)) (exactly 43 Frame layout.checked)
    ∷ demand (layout.size + pair_at f 12 ≡ length f) (exactly 44 Frame 12)
    ∷ demand (IsHeld b (slice_index f 1)) (exactly 23 Book 1)
    ∷ word_rules m b (slice_index f 1) (take 10 (drop 2 f)) (word_of f)

-- What take hands over: the message of the word.
abbrev pub Handed : Model → PlainBook → List ℕ → List ℕ → Type 0
Handed m b f message = OfEntry b (slice_index f 1) (λ e. message ≡ message_of (sheet_of m e) (word_of f))

-- Trial: the place is inside the frame; then take's rules for the frame with the byte there.
abbrev pub trial_rules : Model → PlainBook → List ℕ → ℕ → ℕ → List Demand
trial_rules m b f at byte = demand (at < length f) (exactly 48 Frame (length f)) ∷ take_rules m b (slice_set f at byte)

-- ---- every call

-- An answer goes by the rules of its call: the result, what is written or handed over, and the output or the frame afterwards.
abbrev pub ByItsRules : Model → PlainBook → Call → Answer → Type 0
ByItsRules m b (change c) x = (y : Result (Unit {0}) Refusal) × (x ≡ done y) × GoesBy (change_rules m b c) Done y
ByItsRules m b (ask (calls.seal n message out)) x =
    (y : Result (List ℕ) Refusal) × (x ≡ wrote (length_of y) (written y out)) × GoesBy (seal_rules m b n message (length out)) (Written m b n message) y
ByItsRules m b (ask (calls.take f)) x = (y : Result (List ℕ) Refusal) × (x ≡ handed y f) × GoesBy (take_rules m b f) (Handed m b f) y
ByItsRules m b (ask (calls.trial f at byte)) x = (y : Result (Unit {0}) Refusal) × (x ≡ tried y f) × GoesBy (trial_rules m b f at byte) Done y

-- Whatever calls came before, every call that a program can make answers by its rules.
abbrev pub AnswersByRules : Type 0
AnswersByRules =
    (m : Model) → Keeps m → (cs : List Call) (c : Call) → Typed c
    → ByItsRules m (book_after (asked m) cs) c (answer (asked m) (book_after (asked m) cs) c)

-- The rules fix the answer: two answers by the rules of one call at one book are the same.
abbrev pub RulesFixAnswers : Type 0
RulesFixAnswers = (m : Model) (b : PlainBook) (c : Call) (x y : Answer) → ByItsRules m b c x → ByItsRules m b c y → x ≡ y

-- So does every call of a run that began with the book b: one answer for each.
abbrev pub AllByRules : Model → PlainBook → List Call → List Answer → Type 0
AllByRules m b [] [] = Unit {0}
AllByRules m b [] (x ∷ xs) = ⊥
AllByRules m b (c ∷ cs) [] = ⊥
AllByRules m b (c ∷ cs) (x ∷ xs) = ByItsRules m b c x × AllByRules m (step (asked m) b c) cs xs

-- The answers of a run from the empty book.
abbrev pub RunsByRules : Type 0
RunsByRules = (m : Model) → Keeps m → (cs : List Call) → AllByRecursion Typed cs → AllByRules m empty_book cs (answers_from (asked m) empty_book cs)

-- ---- nothing else

-- The bank refuses neither the sheet of an entry nor the check of a message in whole tuples; the reach and the sheet are lawful, so that no tuple is
-- empty and no check longer than the 64 bytes that a station has for it.
pub record Unrefused (m : Model) (e : Entry) : Type 0 where
  pub lawful : LawfulSheet (sheet_of m e) e.reach
  pub sheet : (asked m).sheet e.description ≡ Ok (sheet_of m e)
  pub check : (message : List ℕ) → 1 ≤ length message → length message % (sheet_of m e).tuple ≡ 0 → length message ≤ 4096
      → (asked m).check e.description message 64 ≡ Ok (m.check e.description message)

-- Whatever calls came before, that holds of every entry in the book: so seal, take and trial never answer a refusal of the bank.
abbrev pub HeldUnrefused : Type 0
HeldUnrefused = (m : Model) → Keeps m → (cs : List Call) → AllByRecursion (Unrefused m) (book_after (asked m) cs).entries
