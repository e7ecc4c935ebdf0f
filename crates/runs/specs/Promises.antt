-- What stations promise one another, over every list of calls and every pair of banks that keep the two laws.
-- Assumes nothing.
use Rattle.std.specs.Prelude.{◌≡◌, ℕ, ◌+◌, ◌<◌, ◌≤◌, false, cond, ◌↔◌, List, [], ◌∷◌, length, take, drop, is_ok, Some, None, Ok, Err, Result, ◌==◌, bit_xor, slice_index}
use Rattle.std.specs.List.{AllByRecursion}
use Rattle.answer.specs.declared.fault.Layer.TheVariants.{Book, Frame}
use Rattle.answer.specs.Refusal.{Refusal, refusal}
use Rattle.poly.specs.Poly.{string}
use Rattle.words.specs.Flips.{Bytes, Sure}
use Rattle.code.specs.declared.description.Description.{Description}
use Rattle.code.specs.declared.description.Sheet.{Sheet}
use Rattle.code.specs.Model.{Model, Asked, asked, sheet_at, Keeps, Matches, MeansTheSame, MatchesForCallers, MeansTheSameForCallers, LawfulMessage}
use Rattle.station.specs.declared.entry.Entry.{Entry}
use Rattle.station.specs.Layout.{layout}
use Rattle.station.specs.Book.{PlainBook, held}
use Rattle.station.specs.Frame.{coded, ccitt, frame, pair_at, sealed, taken}
use Rattle.station.specs.Calls.{Call, Typed, answers_from, book_after}
use Rattle.station.specs.Book.{empty_book}

-- A frame with the bits of a mask flipped.
abbrev pub altered : List ℕ → List ℕ → List ℕ
altered [] mask = []
altered (x ∷ f) [] = x ∷ f
altered (x ∷ f) (y ∷ mask) = bit_xor x y ∷ altered f mask

-- The flips that a frame's codes are sure of, by the sheet of the sealing entry. Those in the head count alone if there are any: then a burst
-- of at most 16 bits, or at most 3, whatever happens to the word. Else those in the word. No flips at all are none of these.
pub data SureFlips (s : Sheet) (mask : List ℕ) : Type 0 where
  in_head : Sure 16 3 false (string 8 (take layout.size mask)) → SureFlips s mask
  in_word : string 8 (take layout.size mask) ≡ 0 → Sure s.burst s.few s.odd (string 8 (drop layout.size mask)) → SureFlips s mask

-- f is a lawful frame at a book, under the number n and with the message s: some entry is held under n, s is lawful,
-- the word is within the reach, and f is head, message and check.
pub record LawfulFrame (m : Model) (b : PlainBook) (n : ℕ) (f s : List ℕ) : Type 0 where
  pub entry : Entry
  pub is_held : held b n ≡ Some entry
  pub lawful : LawfulMessage (m.sheet entry.description).tuple s
  pub within : length s + length (m.check entry.description s) ≤ entry.reach
  pub is_frame : f ≡ frame n entry.description s (m.check entry.description s)

-- A station over the bank a, after some calls, sealed s under n by the entry e into f.
pub record Sent (a : Model) (n : ℕ) (s f : List ℕ) (e : Entry) : Type 0 where
  pub calls : List Call
  pub typed : AllByRecursion Typed calls
  pub room : ℕ
  pub bytes : Bytes s
  pub by : held (book_after (asked a) calls) n ≡ Some e
  pub wrote : sealed (asked a) (book_after (asked a) calls) n s room ≡ Ok f

-- Sure flips are refused at every station with a matching bank, whatever either book holds.
abbrev pub RefusesSureFlips : Type 0
RefusesSureFlips =
    (a b : Model) → Keeps a → Keeps b → Matches a b → (n : ℕ) (s f : List ℕ) (e : Entry) → Sent a n s f e
    → (mask : List ℕ) → Bytes mask → length mask ≡ length f → SureFlips (sheet_at a e.description e.reach) mask
    → (ds : List Call) → is_ok (taken (asked b) (book_after (asked b) ds) (altered f mask)) ≡ false

-- .. also where the banks match at all that a caller can pass, and maybe not at other numbers
abbrev pub RefusesSureFlipsForCallers : Type 0
RefusesSureFlipsForCallers =
    (a b : Model) → Keeps a → Keeps b → MatchesForCallers a b → (n : ℕ) (s f : List ℕ) (e : Entry) → Sent a n s f e
    → (mask : List ℕ) → Bytes mask → length mask ≡ length f → SureFlips (sheet_at a e.description e.reach) mask
    → (ds : List Call) → is_ok (taken (asked b) (book_after (asked b) ds) (altered f mask)) ≡ false

-- The law of the head by itself, at any bank and book: a frame whose head check is right, altered by a burst of at most 16 bits of the head, or by
-- at most 3, and by anything in the word, is refused: with 42 at 0 where byte 0 is another then, and else with 43 at 14.
abbrev pub RefusesSureHeads : Type 0
RefusesSureHeads =
    (a : Asked) (b : PlainBook) (f mask : List ℕ) → Bytes f → Bytes mask → length mask ≡ length f → layout.size < length f
    → pair_at f layout.checked ≡ ccitt (take layout.checked f) → Sure 16 3 false (string 8 (take layout.size mask))
    → taken a b (altered f mask) ≡ cond (slice_index (altered f mask) 0 == layout.mark) (Err (refusal 43 Frame layout.checked)) (Err (refusal 42 Frame 0))

-- A book holds the description d under the number n, with a reach of at least w.
pub record HoldsEnough (b : PlainBook) (n : ℕ) (d : Description) (w : ℕ) : Type 0 where
  pub own : Entry
  pub is_held : held b n ≡ Some own
  pub same_code : own.description ≡ d
  pub enough : w ≤ own.reach

-- Strings differ first at place p.
pub record FirstDiffer (xs ys : List ℕ) (p : ℕ) : Type 0 where
  pub before : take p xs ≡ take p ys
  pub inside : (p < length xs) × (p < length ys)
  pub here : ¬ (slice_index xs p ≡ slice_index ys p)

-- What a book makes of an unaltered frame with the number n, the description d and a word of w bytes whose message is s:
-- the message exactly where the description is held with reach enough; else 23 at 1, 45 at the first differing byte of 2 to 11, or 32 at 12.
pub record Fate (b : PlainBook) (n : ℕ) (d : Description) (w : ℕ) (s : List ℕ) (x : Result (List ℕ) Refusal) : Type 0 where
  pub exactly : (t : List ℕ) → (x ≡ Ok t) ↔ (HoldsEnough b n d w × (t ≡ s))
  pub unheld : held b n ≡ None → x ≡ Err (refusal 23 Book 1)
  pub unlike : (own : Entry) (p : ℕ) → held b n ≡ Some own → FirstDiffer (coded d) (coded own.description) p → x ≡ Err (refusal 45 Frame (2 + p))
  -- the ten bytes of another description have such a place
  pub apart : (own : Entry) → held b n ≡ Some own → ¬ (own.description ≡ d)
      → (p : ℕ) × FirstDiffer (coded d) (coded own.description) p × (x ≡ Err (refusal 45 Frame (2 + p)))
  pub too_long : (own : Entry) → held b n ≡ Some own → own.description ≡ d → own.reach < w → x ≡ Err (refusal 32 Frame 12)

-- An unaltered frame has that fate at every station with a matching bank, whatever either book holds.
abbrev pub HandsOverUnaltered : Type 0
HandsOverUnaltered =
    (a b : Model) → Keeps a → Keeps b → Matches a b → (n : ℕ) (s f : List ℕ) (e : Entry) → Sent a n s f e
    → (ds : List Call) → Fate (book_after (asked b) ds) n e.description (length (drop layout.size f)) s (taken (asked b) (book_after (asked b) ds) f)

-- .. also where the banks match at all that a caller can pass
abbrev pub HandsOverUnalteredForCallers : Type 0
HandsOverUnalteredForCallers =
    (a b : Model) → Keeps a → Keeps b → MatchesForCallers a b → (n : ℕ) (s f : List ℕ) (e : Entry) → Sent a n s f e
    → (ds : List Call) → Fate (book_after (asked b) ds) n e.description (length (drop layout.size f)) s (taken (asked b) (book_after (asked b) ds) f)

-- What the book b makes of g, a frame f with the message s and the description d whose word was altered: where it refuses f, it refuses g with the same
-- answer; where it would hand over s, the answer is 47 at the first place where the check that arrived differs from the check of the message that arrived.
pub record WordRefused (m : Model) (b : PlainBook) (d : Description) (s f g : List ℕ) : Type 0 where
  pub as_unaltered : (z : Refusal) → taken (asked m) b f ≡ Err z → taken (asked m) b g ≡ Err z
  pub by_check : taken (asked m) b f ≡ Ok s
      → (p : ℕ) × FirstDiffer (drop (length s) (drop layout.size g)) (m.check d (take (length s) (drop layout.size g))) p
      × (taken (asked m) b g ≡ Err (refusal 47 Frame (layout.size + length s + p)))

-- Sure flips in the word alone, exactly: at every station with a matching bank, whatever either book holds.
abbrev pub RefusesSureWords : Type 0
RefusesSureWords =
    (a b : Model) → Keeps a → Keeps b → MatchesForCallers a b → (n : ℕ) (s f : List ℕ) (e : Entry) → Sent a n s f e
    → (mask : List ℕ) → Bytes mask → length mask ≡ length f → string 8 (take layout.size mask) ≡ 0
    → SureFlips (sheet_at a e.description e.reach) mask
    → (ds : List Call) → WordRefused b (book_after (asked b) ds) e.description s f (altered f mask)

-- Banks that mean the same make stations that answer alike, call by call.
abbrev pub AnswersAlike : Type 0
AnswersAlike =
    (a b : Model) → MeansTheSame a b → (cs : List Call)
    → (answers_from (asked a) empty_book cs ≡ answers_from (asked b) empty_book cs) × (book_after (asked a) cs ≡ book_after (asked b) cs)

-- .. and so do banks that mean the same at all that a caller can pass, to the calls that a program can make
abbrev pub AnswersAlikeForCallers : Type 0
AnswersAlikeForCallers =
    (a b : Model) → MeansTheSameForCallers a b → (cs : List Call) → AllByRecursion Typed cs
    → (answers_from (asked a) empty_book cs ≡ answers_from (asked b) empty_book cs) × (book_after (asked a) cs ≡ book_after (asked b) cs)

-- Sealing a taken frame's message under its number gives the frame back.
abbrev pub SealsAgain : Type 0
SealsAgain =
    (m : Model) → Keeps m → (cs : List Call) (f s : List ℕ) → Bytes f → taken (asked m) (book_after (asked m) cs) f ≡ Ok s
    → (room : ℕ) → length f ≤ room → sealed (asked m) (book_after (asked m) cs) (slice_index f 1) s room ≡ Ok f

-- Take succeeds exactly on the lawful frames of its book.
abbrev pub TakesTheLawful : Type 0
TakesTheLawful =
    (m : Model) → Keeps m → (cs : List Call) (f s : List ℕ) → Bytes f
    → (taken (asked m) (book_after (asked m) cs) f ≡ Ok s) ↔ ((n : ℕ) × LawfulFrame m (book_after (asked m) cs) n f s)

-- Seal writes exactly these, where the output has room for them.
abbrev pub SealsTheLawful : Type 0
SealsTheLawful =
    (m : Model) → Keeps m → (cs : List Call) (n : ℕ) (f s : List ℕ) (room : ℕ) → Bytes s
    → (sealed (asked m) (book_after (asked m) cs) n s room ≡ Ok f) ↔ (LawfulFrame m (book_after (asked m) cs) n f s × (length f ≤ room))
