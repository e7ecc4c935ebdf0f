-- Books whose entries are admitted, and sealing at any book.
-- Assumes nothing.
use Rattle.std.specs.Prelude.{◌≡◌, ℕ, ◌+◌, ◌%◌, Bool, true, ◌&&◌, List, [], ◌∷◌, length, is_ok, Ok, Result, ◌==◌, nat_le, nat_lt}
use Rattle.answer.specs.declared.fault.Layer.TheVariants.{Frame}
use Rattle.answer.specs.Refusal.{Refusal, refusal}
use Rattle.answer.specs.Rules.{then, need}
use Rattle.code.specs.Model.{Asked, length_of, written}
use Rattle.station.specs.declared.entry.Entry.{Entry}
use Rattle.station.specs.Layout.{layout}
use Rattle.station.specs.Book.{PlainBook}
use Rattle.station.specs.Frame.{entry_at, frame}
use Rattle.station.specs.Calls as calls
use Rattle.station.specs.Calls.{Call, change, ask, Answer, wrote, answer}

-- The bank admits every one of these entries.
abbrev pub all_admitted : Asked → List Entry → Bool
all_admitted a [] = true
all_admitted a (e ∷ es) = is_ok (a.admission e.description e.reach) && all_admitted a es

-- The bank admits every entry of the book. This holds after every list of calls.
abbrev pub Admitted : Asked → PlainBook → Type 0
Admitted a b = all_admitted a b.entries ≡ true

-- Sealing at any book: one rule more, that a check is as long as the sheet says. Where the entries are admitted it is never broken.
abbrev pub sealed_fitting : Asked → PlainBook → ℕ → List ℕ → ℕ → Result (List ℕ) Refusal
sealed_fitting a b n message room =
    then (entry_at b n) (λ e.
    then (a.sheet e.description) (λ s.
    then (need (nat_lt 0 (length message) && length message % s.tuple == 0) (refusal 31 Frame (length message))) (λ _.
    then (need (nat_le (length message + s.check) e.reach) (refusal 32 Frame 12)) (λ _.
    then (need (nat_le (layout.size + (length message + s.check)) room) (refusal 33 Frame room)) (λ _.
    then (a.check e.description message 64) (λ c.
    then (need (length c == s.check) (refusal 33 Frame room)) (λ _.
    Ok (frame n e.description message c))))))))

-- That, by the entry e of the number n.
abbrev pub sealed_by : Asked → Entry → ℕ → List ℕ → ℕ → Result (List ℕ) Refusal
sealed_by a e n message room =
    then (a.sheet e.description) (λ s.
    then (need (nat_lt 0 (length message) && length message % s.tuple == 0) (refusal 31 Frame (length message))) (λ _.
    then (need (nat_le (length message + s.check) e.reach) (refusal 32 Frame 12)) (λ _.
    then (need (nat_le (layout.size + (length message + s.check)) room) (refusal 33 Frame room)) (λ _.
    then (a.check e.description message 64) (λ c.
    then (need (length c == s.check) (refusal 33 Frame room)) (λ _.
    Ok (frame n e.description message c)))))))

-- What a call answers at any book: that of a seal is by the rules above, and every other answer is as ever.
abbrev pub answer_fitting : Asked → PlainBook → Call → Answer
answer_fitting a b (change c) = answer a b (change c)
answer_fitting a b (ask (calls.seal n message out)) =
    wrote (length_of (sealed_fitting a b n message (length out))) (written (sealed_fitting a b n message (length out)) out)
answer_fitting a b (ask (calls.take f)) = answer a b (ask (calls.take f))
answer_fitting a b (ask (calls.trial f at byte)) = answer a b (ask (calls.trial f at byte))
