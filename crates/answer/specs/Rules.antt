-- Rules in their order: a call is refused by the first that is broken, and does its work where none is.
-- Assumes nothing.
use Rattle.std.specs.Prelude.{Bool, cond, List, [], ◌∷◌, Ok, Err, Result}
use Rattle.answer.specs.Refusal.{Refusal}

-- A rule: what it asks, and the refusal where that fails.
pub record Rule : Type 0 where
  pub asks : Bool
  pub otherwise : Refusal

abbrev pub rule : Bool → Refusal → Rule
rule b r = record { asks = b; otherwise = r }

-- The answer by a list of rules: the refusal of the first that is broken, or else the value.
abbrev pub by_rules : {A : Type 0} → List Rule → A → Result A Refusal
by_rules [] v = Ok v
by_rules (r ∷ rs) v = cond r.asks (by_rules rs v) (Err r.otherwise)

-- What `?` does: go on with the value, or pass the refusal up unchanged.
abbrev pub then : {A B : Type 0} → Result A Refusal → (A → Result B Refusal) → Result B Refusal
then (Ok v) f = f v
then (Err r) f = Err r

-- One rule by itself: kept, or the refusal.
abbrev pub need : Bool → Refusal → Result (Unit {0}) Refusal
need b r = cond b (Ok tt) (Err r)
