-- An answer by rules whose value is more than a success.
-- Assumes nothing.
use Rattle.std.specs.Prelude.{◌≡◌, List, Ok, Err, Result}
use Rattle.answer.specs.declared.fault.Fault.{Fault}
use Rattle.answer.specs.Refusal.{Refusal, refusal_of}
use Rattle.answer.specs.Rules.{Rule, by_rules}

-- What the rules say of a bare success.
abbrev pub success : List Rule → Result (Unit {0}) Refusal
success rs = by_rules rs tt

-- The refusal of the first rule that is broken, or else a value of which P holds.
abbrev pub Answers : {A : Type 0} → Result A Fault → List Rule → (A → Type 0) → Type 0
Answers (Ok v) rs P = (Ok tt ≡ success rs) × P v
Answers (Err f) rs P = Err (refusal_of f) ≡ success rs
