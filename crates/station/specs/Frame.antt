-- The frame: what seal writes and take hands over.
-- Assumes nothing.
use Rattle.std.specs.Prelude.{ℕ, suc, ◌+◌, ◌-◌, ◌%◌, cond, ◌&&◌, List, [], ◌∷◌, ◌++◌, length, take, drop, Some, None, Ok, Err, Option, Result, ◌==◌, nat_le, nat_lt, slice_index}
use Rattle.std.specs.Option.{option_map}
use Rattle.answer.specs.declared.fault.Layer.TheVariants.{Book, Frame}
use Rattle.answer.specs.Refusal.{Refusal, refusal}
use Rattle.answer.specs.Rules.{then, need}
use Rattle.poly.specs.Poly.{remainder}
use Rattle.words.specs.Digits.{digits}
use Rattle.code.specs.declared.description.Description.{Description}
use Rattle.code.specs.Model.{Asked}
pub use Rattle.code.specs.Coded.{coded, pair_at}
use Rattle.station.specs.declared.entry.Entry.{Entry}
use Rattle.station.specs.Layout.{layout}
use Rattle.station.specs.Book.{PlainBook, held}

-- ---- the head

-- The remainder of a string under CRC-CCITT.
unfoldable pub ccitt : List ℕ → ℕ
ccitt s = remainder 16 0x1021 s

-- The head without its check, for a word of w bytes: the layout, the number, the description, the word's length.
abbrev pub front : ℕ → Description → ℕ → List ℕ
front n d w = layout.mark ∷ n ∷ (coded d ++ digits 2 w)

-- The head: that, and its remainder under CRC-CCITT.
abbrev pub head : ℕ → Description → ℕ → List ℕ
head n d w = front n d w ++ digits 2 (ccitt (front n d w))

-- A frame: the head, the message, the check.
abbrev pub frame : ℕ → Description → List ℕ → List ℕ → List ℕ
frame n d message check = head n d (length message + length check) ++ (message ++ check)

-- ---- seal and take

-- A number's entry, or 23.
abbrev pub entry_at : PlainBook → ℕ → Result Entry Refusal
entry_at b n = elim (held b n) [ Some e ↦ Ok e | None ↦ Err (refusal 23 Book 1) ]

-- The first place where two strings differ.
abbrev pub differ : List ℕ → List ℕ → Option ℕ
differ [] [] = None
differ [] (y ∷ ys) = Some 0
differ (x ∷ xs) [] = Some 0
differ (x ∷ xs) (y ∷ ys) = cond (x == y) (option_map suc (differ xs ys)) (Some 0)

-- No difference, or a refusal with its place, which counts from `start`.
abbrev pub alike : ℕ → ℕ → Option ℕ → Result (Unit {0}) Refusal
alike number start None = Ok tt
alike number start (Some i) = Err (refusal number Frame (start + i))

-- The frame that seal writes where the output has `room` bytes. No check is longer than 64 bytes.
abbrev pub sealed : Asked → PlainBook → ℕ → List ℕ → ℕ → Result (List ℕ) Refusal
sealed a b n message room =
    then (entry_at b n) (λ e.
    then (a.sheet e.description) (λ s.
    then (need (nat_lt 0 (length message) && length message % s.tuple == 0) (refusal 31 Frame (length message))) (λ _.
    then (need (nat_le (length message + s.check) e.reach) (refusal 32 Frame 12)) (λ _.
    then (need (nat_le (layout.size + (length message + s.check)) room) (refusal 33 Frame room)) (λ _.
    then (a.check e.description message 64) (λ c.
    Ok (frame n e.description message c)))))))

-- Take by the entry e: `ten` is the description in the head, w the word.
abbrev pub opened : Asked → Entry → List ℕ → List ℕ → Result (List ℕ) Refusal
opened a e ten w =
    then (alike 45 2 (differ ten (coded e.description))) (λ _.
    then (a.sheet e.description) (λ s.
    then (need (nat_lt s.check (length w) && length w % s.tuple == 0) (refusal 46 Frame 12)) (λ _.
    then (need (nat_le (length w) e.reach) (refusal 32 Frame 12)) (λ _.
    then (a.check e.description (take (length w - s.check) w) 64) (λ c.
    then (alike 47 (layout.size + (length w - s.check)) (differ (drop (length w - s.check) w) c)) (λ _.
    Ok (take (length w - s.check) w)))))))

-- Take at a book: longer than a head, else 41; the layout, else 42; the head's check, else 43; the length, else 44; the number is held, else 23; then the
-- description and the word by its entry. The message that is handed over, or the refusal.
abbrev pub taken : Asked → PlainBook → List ℕ → Result (List ℕ) Refusal
taken a b f =
    then (need (nat_le (suc layout.size) (length f)) (refusal 41 Frame (length f))) (λ _.
    then (need (slice_index f 0 == layout.mark) (refusal 42 Frame 0)) (λ _.
    then (need (pair_at f layout.checked == ccitt (take layout.checked f)) (refusal 43 Frame layout.checked)) (λ _.
    then (need (layout.size + pair_at f 12 == length f) (refusal 44 Frame 12)) (λ _.
    then (entry_at b (slice_index f 1)) (λ e.
    opened a e (take 10 (drop 2 f)) (drop layout.size f))))))
