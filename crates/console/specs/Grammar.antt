-- What a line is, by its bytes.
-- Assumes nothing.
use Rattle.std.specs.Prelude.{◌≡◌, ℕ, ◌+◌, ◌/◌, ◌%◌, Bool, true, false, cond, not, ◌&&◌, ◌||◌, List, [], ◌∷◌, length, drop, Ok, Err, Result, MatchResult, ◌==◌, nat_le, nat_lt, slice_index}
use Rattle.std.specs.List.{position_or_len}
use Rattle.answer.specs.declared.fault.Fault.{Fault}
use Rattle.answer.specs.declared.fault.Layer.TheVariants.{Line}
use Rattle.answer.specs.Refusal.{Refusal, refusal, refusal_of}
use Rattle.answer.specs.Rules.{Rule, rule, by_rules}
use Rattle.console.specs.declared.line.Command.{Command}
use Rattle.console.specs.declared.line.Command.TheVariants.{Entry, Narrowing, Retirement, Message, Frame}
use Rattle.console.specs.declared.line.Line.{Line as Lent}
use Rattle.console.specs.declared.line.Line.TheVariants as lent

-- A line as a value: a command with its hexadecimal digits, a remark, or an empty line.
pub data PlainLine : Type 0 where
  entry : List ℕ → PlainLine
  narrowing : List ℕ → PlainLine
  retirement : List ℕ → PlainLine
  message : List ℕ → PlainLine
  frame : List ℕ → PlainLine
  remark : PlainLine
  empty : PlainLine

-- A command with its digits.
abbrev pub plain : Command → List ℕ → PlainLine
plain Entry d = entry d
plain Narrowing d = narrowing d
plain Retirement d = retirement d
plain Message d = message d
plain Frame d = frame d

-- What the code lends, read as such a value.
abbrev pub line_seen : Result Lent Fault → Result PlainLine Refusal
line_seen (Ok (lent.Command c d)) = Ok (plain c d.now)
line_seen (Ok lent.Remark) = Ok remark
line_seen (Ok lent.Empty) = Ok empty
line_seen (Err f) = Err (refusal_of f)

-- ---- bytes

-- E N R M F
abbrev pub is_command : ℕ → Bool
is_command c = c == 69 || c == 78 || c == 82 || c == 77 || c == 70

-- The letter of a command.
abbrev pub letter_of : Command → ℕ
letter_of Entry = 69
letter_of Narrowing = 78
letter_of Retirement = 82
letter_of Message = 77
letter_of Frame = 70

-- The result is the command with this letter, or the refusal of a letter that no command has.
abbrev pub Names : ℕ → Result Command Fault → Type 0
Names letter r = MatchResult r (λ command. letter_of command ≡ letter) (λ fault. (refusal_of fault ≡ refusal 1 Line 0) × (is_command letter ≡ false))

-- 0 to 9 and A to F
abbrev pub is_digit : ℕ → Bool
is_digit b = (nat_le 48 b && nat_le b 57) || (nat_le 65 b && nat_le b 70)

-- How many digits stand at the start: the place of the first byte that is none.
abbrev pub good_digits : List ℕ → ℕ
good_digits s = position_or_len (λ b. not (is_digit b)) s

-- ---- commands

-- The command with a letter and digits.
abbrev pub command : ℕ → List ℕ → PlainLine
command c d =
    cond (c == 69) (entry d) (cond (c == 78) (narrowing d) (cond (c == 82) (retirement d) (cond (c == 77) (message d) (frame d))))

-- The number of bytes that a command with the letter takes: E 13, N 3, R 1, M one or more, F any.
abbrev pub operands : ℕ → ℕ → Bool
operands c n = cond (c == 69) (n == 13) (cond (c == 78) (n == 3) (cond (c == 82) (n == 1) (cond (c == 77) (nat_lt 0 n) true)))

-- ---- the rules

-- The digits d make the right number of bytes for the letter c, in a line of n bytes.
abbrev pub count_rules : ℕ → List ℕ → ℕ → List Rule
count_rules c d n = rule (operands c (length d / 2)) (refusal 3 Line n) ∷ []

-- After letter and space all are digits; they make whole bytes; and the right number of them.
abbrev pub digit_rules : ℕ → List ℕ → ℕ → List Rule
digit_rules c d n =
    rule (good_digits d == length d) (refusal 2 Line (2 + good_digits d))
    ∷ rule (length d % 2 == 0) (refusal 2 Line n)
    ∷ count_rules c d n

-- A line that is no remark and not empty: it has at most 8,226 bytes; the first is a command's letter; the second is a space; then digits.
abbrev pub line_rules : List ℕ → List Rule
line_rules s =
    rule (nat_le (length s) 8226) (refusal 4 Line 8226)
    ∷ rule (is_command (slice_index s 0)) (refusal 1 Line 0)
    ∷ rule (slice_index s 1 == 32) (refusal 2 Line 1)
    ∷ digit_rules (slice_index s 0) (drop 2 s) (length s)

-- The line with these bytes: empty, a remark (#), or by the rules.
abbrev pub line_of : List ℕ → Result PlainLine Refusal
line_of s =
    cond (length s == 0) (Ok empty)
    (cond (slice_index s 0 == 35) (Ok remark)
    (by_rules (line_rules s) (command (slice_index s 0) (drop 2 s))))

-- ---- parts of the code

-- A command whose digits make whole bytes, by the rule on their number alone.
abbrev pub counted_of : ℕ → List ℕ → ℕ → Result PlainLine Refusal
counted_of c d n = by_rules (count_rules c d n) (command c d)

-- A command in a line of n bytes, by the rules on its digits alone.
abbrev pub command_of : ℕ → List ℕ → ℕ → Result PlainLine Refusal
command_of c d n = by_rules (digit_rules c d n) (command c d)
