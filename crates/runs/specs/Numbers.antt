-- The numbers that each call can be refused with.
-- Assumes nothing.
use Rattle.std.specs.Prelude.{◌≡◌, ℕ, Bool, true, false, ◌||◌, List, [], ◌∷◌, ◌==◌}
use Rattle.answer.specs.Refusal.{number_of}
use Rattle.code.specs.Model.{Model, asked, Keeps, Numbered}
use Rattle.station.specs.Calls.{enter, narrow, retire, Call, change, ask, seal, take, trial, Answer, done, wrote, handed, tried, answer, book_after}

-- A number stands in a list.
abbrev pub among : List ℕ → ℕ → Bool
among [] k = false
among (n ∷ ns) k = k == n || among ns k

-- The number of an answer: 0, or that of its refusal.
abbrev pub number_in : Answer → ℕ
number_in (done x) = number_of x
number_in (wrote x out) = number_of x
number_in (handed x f) = number_of x
number_in (tried x f) = number_of x

-- Take's own numbers, in the order of its rules.
abbrev pub take_numbers : List ℕ
take_numbers = 41 ∷ 42 ∷ 43 ∷ 44 ∷ 23 ∷ 45 ∷ 46 ∷ 32 ∷ 47 ∷ []

-- The numbers that a call can be refused with, in the order of its rules.
abbrev pub numbers_of : Call → List ℕ
numbers_of (change (enter n d reach)) = 11 ∷ 12 ∷ 13 ∷ 14 ∷ 15 ∷ 16 ∷ 17 ∷ 21 ∷ 22 ∷ []
numbers_of (change (narrow n reach)) = 23 ∷ 24 ∷ 16 ∷ 17 ∷ []
numbers_of (change (retire n)) = 23 ∷ []
numbers_of (ask (seal n message out)) = 23 ∷ 31 ∷ 32 ∷ 33 ∷ []
numbers_of (ask (take f)) = take_numbers
numbers_of (ask (trial f at byte)) = 48 ∷ take_numbers

-- An answer has the number 0 or one of its call's own.
abbrev pub ByItsNumbers : Call → Answer → Type 0
ByItsNumbers c x = among (0 ∷ numbers_of c) (number_in x) ≡ true

-- So has every answer of a run: one for each call.
abbrev pub AllByNumbers : List Call → List Answer → Type 0
AllByNumbers [] [] = Unit {0}
AllByNumbers [] (x ∷ xs) = ⊥
AllByNumbers (c ∷ cs) [] = ⊥
AllByNumbers (c ∷ cs) (x ∷ xs) = ByItsNumbers c x × AllByNumbers cs xs

-- Whatever calls came before, every call answers by its own numbers, over a bank that does.
abbrev pub AnswersByNumbers : Type 0
AnswersByNumbers =
    (m : Model) → Keeps m → Numbered m → (cs : List Call) (c : Call) → ByItsNumbers c (answer (asked m) (book_after (asked m) cs) c)
