-- What a kind means, what it answers, the laws of every kind, and when two kinds match or mean the same, at all numbers or at all that a
-- caller can pass.
-- Assumes nothing.
use Rattle.std.specs.Prelude.{◌≡◌, ℕ, ◌+◌, ◌%◌, ◌^◌, ◌<◌, ◌≤◌, Bool, ◌&&◌, List, [], ◌∷◌, ◌++◌, length, drop, Ok, Err, Result, ◌==◌, nat_le, nat_lt}
use Rattle.std.specs.List.{AllByRecursion}
use Rattle.answer.specs.declared.fault.Layer.TheVariants.{Kind, Frame}
use Rattle.answer.specs.Refusal.{Refusal, refusal}
use Rattle.answer.specs.Rules.{Rule, rule, by_rules}
use Rattle.words.specs.Flips.{Bytes, Notices}
use Rattle.code.specs.declared.description.Description.{Description}
use Rattle.code.specs.declared.description.Sheet.{Sheet}

-- The meaning of a kind: the kind numbers that it serves, what it asks of a description (refusals 12 to 15) and then of a reach (16, 17),
-- the sheet, and the check of a message.
pub record Model : Type 0 where
  pub serves : ℕ → Bool
  pub fits : Description → List Rule
  pub reaches : Description → ℕ → List Rule
  pub sheet : Description → Sheet
  pub check : Description → List ℕ → List ℕ

-- The sheet at a reach: today it is the same at every one.
abbrev pub sheet_at : Model → Description → ℕ → Sheet
sheet_at m d reach = m.sheet d

-- ---- the answers of the four calls, by one definition for all kinds

-- What every call asks of a description: that its kind is served, and what the kind asks.
abbrev pub described_rules : Model → Description → List Rule
described_rules m d = rule (m.serves d.kind) (refusal 11 Kind 2) ∷ m.fits d

-- Some bytes, whole tuples of t bytes, and at most 4,096 of them.
abbrev pub whole : ℕ → List ℕ → Bool
whole t message = nat_lt 0 (length message) && length message % t == 0 && nat_le (length message) 4096

pub record Asked : Type 0 where
  pub serves : ℕ → Bool
  pub admission : Description → ℕ → Result (Unit {0}) Refusal
  pub sheet : Description → Result Sheet Refusal
  pub check : Description → List ℕ → ℕ → Result (List ℕ) Refusal

-- Admission asks of the description, then of the reach; the sheet of the description; the check of the description, the message and the room.
abbrev pub asked : Model → Asked
asked m = record {
  serves = m.serves;
  admission = λ d reach. by_rules (described_rules m d ++ m.reaches d reach) tt;
  sheet = λ d. by_rules (described_rules m d) (m.sheet d);
  check = λ d message room.
      by_rules
      (described_rules m d
      ++ (rule (whole (m.sheet d).tuple message) (refusal 31 Frame (length message))
      ∷ rule (nat_le (m.sheet d).check room) (refusal 33 Frame room) ∷ []))
      (m.check d message);
}

-- What is written at the start of an output: the answer is its length, and the rest of the output is kept.
abbrev pub length_of : Result (List ℕ) Refusal → Result ℕ Refusal
length_of (Ok bytes) = Ok (length bytes)
length_of (Err r) = Err r

abbrev pub written : Result (List ℕ) Refusal → List ℕ → List ℕ
written (Ok bytes) out = bytes ++ drop (length bytes) out
written (Err r) out = out

-- ---- the two laws

abbrev pub Admits : Model → Description → ℕ → Type 0
Admits m d reach = (asked m).admission d reach ≡ Ok tt

-- A lawful message for tuples of t bytes.
pub record LawfulMessage (t : ℕ) (message : List ℕ) : Type 0 where
  pub some : 1 ≤ length message
  pub tuples : length message % t ≡ 0
  pub most : length message ≤ 4096
  pub bytes : Bytes message

-- A word: a lawful message and then its check.
pub record Word (m : Model) (d : Description) (w : List ℕ) : Type 0 where
  pub message : List ℕ
  pub lawful : LawfulMessage (m.sheet d).tuple message
  pub is_word : w ≡ message ++ m.check d message

-- A lawful reach for a sheet, and a lawful sheet.
pub record LawfulSheet (s : Sheet) (reach : ℕ) : Type 0 where
  pub multiple : reach % s.tuple ≡ 0
  pub least : s.check + s.tuple ≤ reach
  pub most : reach ≤ 4096
  pub some_tuple : 1 ≤ s.tuple
  pub some_burst : 1 ≤ s.burst
  pub some_few : 1 ≤ s.few
  pub some_check : 1 ≤ s.check
  pub short_check : s.check ≤ 64
  pub whole_check : s.check % s.tuple ≡ 0

-- The two laws, for a description with an admitted reach. First: the reach and the sheet are lawful, and the check of every lawful message has
-- the sheet's length. Second: no two different words of one length within the reach differ by flips that the sheet is sure of.
pub record Keeps (m : Model) : Type 0 where
  pub lawful : (d : Description) (reach : ℕ) → Admits m d reach → LawfulSheet (sheet_at m d reach) reach
  pub long : (d : Description) (reach : ℕ) → Admits m d reach → (message : List ℕ) → LawfulMessage (m.sheet d).tuple message
      → (length (m.check d message) ≡ (m.sheet d).check) × Bytes (m.check d message)
  pub apart : (d : Description) (reach : ℕ) → Admits m d reach
      → Notices (Word m d) reach (sheet_at m d reach).burst (sheet_at m d reach).few (sheet_at m d reach).odd

-- ---- the numbers of refusals

-- A rule that refuses with a number from `least` to `most`.
abbrev pub Between : ℕ → ℕ → Rule → Type 0
Between least most r = (least ≤ r.otherwise.number) × (r.otherwise.number ≤ most)

-- A kind refuses by its own numbers alone: a description by 12 to 15, a reach by 16 or 17. (11, 31 and 33 are those of `asked`.)
pub record Numbered (m : Model) : Type 0 where
  pub fits : (d : Description) → AllByRecursion (Between 12 15) (m.fits d)
  pub reaches : (d : Description) (reach : ℕ) → AllByRecursion (Between 16 17) (m.reaches d reach)

-- ---- kinds compared by their answers

-- Two kinds match: they serve the same numbers, and where neither refuses they give equal sheets and checks.
pub record Matches (a b : Model) : Type 0 where
  pub serve : (k : ℕ) → a.serves k ≡ b.serves k
  pub sheets : (d : Description) (s t : Sheet) → (asked a).sheet d ≡ Ok s → (asked b).sheet d ≡ Ok t → s ≡ t
  pub checks : (d : Description) (message : List ℕ) (room : ℕ) (x y : List ℕ) → Bytes message
      → (asked a).check d message room ≡ Ok x → (asked b).check d message room ≡ Ok y → x ≡ y

-- Two kinds mean the same: equal answers to everything.
pub record MeansTheSame (a b : Model) : Type 0 where
  pub serve : (k : ℕ) → a.serves k ≡ b.serves k
  pub admissions : (d : Description) (reach : ℕ) → (asked a).admission d reach ≡ (asked b).admission d reach
  pub sheets : (d : Description) → (asked a).sheet d ≡ (asked b).sheet d
  pub checks : (d : Description) (message : List ℕ) (room : ℕ) → (asked a).check d message room ≡ (asked b).check d message room

-- ---- the same, at all that a caller can pass

-- A description whose fields fit their types.
pub record Fits (d : Description) : Type 0 where
  pub kind : d.kind < 2 ^ 8
  pub degree : d.degree < 2 ^ 8
  pub low : d.low < 2 ^ 32
  pub degree2 : d.degree2 < 2 ^ 8
  pub low2 : d.low2 < 2 ^ 16
  pub tuple : d.tuple < 2 ^ 8

-- Two kinds match for callers: at all that a caller can pass they serve the same numbers, and where neither refuses they give equal sheets and checks.
pub record MatchesForCallers (a b : Model) : Type 0 where
  pub serve : (k : ℕ) → k < 2 ^ 8 → a.serves k ≡ b.serves k
  pub sheets : (d : Description) → Fits d → (s t : Sheet) → (asked a).sheet d ≡ Ok s → (asked b).sheet d ≡ Ok t → s ≡ t
  pub checks : (d : Description) → Fits d → (message : List ℕ) → Bytes message → (room : ℕ) (x y : List ℕ)
      → (asked a).check d message room ≡ Ok x → (asked b).check d message room ≡ Ok y → x ≡ y

-- Two kinds mean the same for callers: equal answers to all that a caller can pass.
pub record MeansTheSameForCallers (a b : Model) : Type 0 where
  pub serve : (k : ℕ) → k < 2 ^ 8 → a.serves k ≡ b.serves k
  pub admissions : (d : Description) → Fits d → (reach : ℕ) → reach < 2 ^ 16 → (asked a).admission d reach ≡ (asked b).admission d reach
  pub sheets : (d : Description) → Fits d → (asked a).sheet d ≡ (asked b).sheet d
  pub checks : (d : Description) → Fits d → (message : List ℕ) → Bytes message → (room : ℕ)
      → (asked a).check d message room ≡ (asked b).check d message room
