-- Lists of calls, one call more at a time.
-- Assumes nothing.
use Rattle.std.proofs.Common.{◌≡◌, ℕ, ◌+◌, ◌<◌, ◌≤◌, List, [], ◌∷◌, ◌++◌, length, get_or, take, sym, refl, ap, ◌∙◌, ap₂}
use Rattle.std.proofs.lemmas.List.{map_more, map_push, take_all}
use Rattle.code.specs.Model.{Model, Asked, asked}
use Rattle.station.specs.declared.call.Call.{Call as Made}
use Rattle.station.specs.declared.call.Outcome.{Outcome}
use Rattle.station.specs.Book.{PlainBook, empty_book}
use Rattle.station.specs.Calls.{Call, answer, step, run, answers_from}
use Rattle.station.specs.Outcomes.{plain_call, plain_calls, outcome_seen, outcomes_seen}

-- ---- one call more

pub run_more : (a : Asked) (b : PlainBook) (cs : List Call) (c : Call) → run a b (cs ++ c ∷ []) ≡ step a (run a b cs) c
run_more a b [] c = refl
run_more a b (d ∷ cs) c = run_more a (step a b d) cs c

pub answers_more : (a : Asked) (b : PlainBook) (cs : List Call) (c : Call)
    → answers_from a b (cs ++ c ∷ []) ≡ answers_from a b cs ++ answer a (run a b cs) c ∷ []
answers_more a b [] c = refl
answers_more a b (d ∷ cs) c = ap (λ x. answer a b d ∷ x) (answers_more a (step a b d) cs c)

-- one turn of a run: m is what the bank means at first, m' what it means now, b the book before the call and b' the one after it
pub turn : (m m' : Model) (cs : List Made) (i : ℕ) (blank : Made) (outs outs' : List Outcome) (o : Outcome) (b b' : PlainBook) → i < length cs
    → outcomes_seen outs ≡ answers_from (asked m) empty_book (plain_calls (take i cs)) → b ≡ run (asked m) empty_book (plain_calls (take i cs)) → m' ≡ m
    → outs' ≡ outs ++ o ∷ [] → outcome_seen o ≡ answer (asked m') b (plain_call (get_or cs i blank))
    → b' ≡ step (asked m') b (plain_call (get_or cs i blank))
    → (outcomes_seen outs' ≡ answers_from (asked m) empty_book (plain_calls (take (i + 1) cs))) × (b' ≡ run (asked m) empty_book (plain_calls (take (i + 1) cs)))
turn m m' cs i blank outs outs' o b b' l eo eb em ep h eb' =
    let a = asked m in
    let c = plain_call (get_or cs i blank) in
    let made = plain_calls (take i cs) in
    let more : plain_calls (take (i + 1) cs) ≡ made ++ c ∷ [] = map_more plain_call cs i blank l in (
      ap outcomes_seen ep ∙ map_push outcome_seen outs o
          ∙ ap₂ (λ x y. x ++ y ∷ []) eo (h ∙ ap₂ (λ (k : Model) (p : PlainBook). answer (asked k) p c) em eb)
          ∙ sym (ap (answers_from a empty_book) more ∙ answers_more a empty_book made c),
      eb' ∙ ap₂ (λ (k : Model) (p : PlainBook). step (asked k) p c) em eb ∙ sym (ap (run a empty_book) more ∙ run_more a empty_book made c),
    )

-- after the last turn: m is what the bank means at the station, and m' what it means to the caller
pub book_of_all : (m m' : Model) (cs : List Made) (i : ℕ) (b : PlainBook) → length cs ≤ i → m ≡ m'
    → b ≡ run (asked m) empty_book (plain_calls (take i cs)) → b ≡ run (asked m') empty_book (plain_calls cs)
book_of_all m m' cs i b l e p = p ∙ ap₂ (λ (k : Model) (xs : List Made). run (asked k) empty_book (plain_calls xs)) e (take_all i cs l)

pub outcomes_of_all : (m m' : Model) (cs : List Made) (i : ℕ) (outs : List Outcome) → length cs ≤ i → m ≡ m'
    → outcomes_seen outs ≡ answers_from (asked m) empty_book (plain_calls (take i cs)) → outcomes_seen outs ≡ answers_from (asked m') empty_book (plain_calls cs)
outcomes_of_all m m' cs i outs l e p =
    p ∙ ap₂ (λ (k : Model) (xs : List Made). answers_from (asked k) empty_book (plain_calls xs)) e (take_all i cs l)
