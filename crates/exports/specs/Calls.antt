-- What the exported calls answer.
-- Assumes nothing.
use Rattle.std.specs.Prelude.{ℕ, Bool, Some, None, Ok, Err, Option, Result}
use Rattle.answer.specs.Refusal.{Refusal}
use Rattle.answer.specs.Rules.{by_rules}
use Rattle.engine.specs.Rules.{set_rules}
use Rattle.poly.specs.Rules.{generator_rules}
use Rattle.poly.specs.Period.{walk_of}
use Rattle.poly.specs.declared.walk.Walk.{Walk}

-- What set answers, by whether the engine carries the generator.
abbrev pub setting : Bool → ℕ → ℕ → Result (Unit {0}) Refusal
setting carried degree low = by_rules (set_rules carried degree low) tt

-- What the period call answers.
abbrev pub walking : ℕ → ℕ → Result Walk Refusal
walking degree low = by_rules (generator_rules 2 degree low) (walk_of degree low)

-- A period as a number: 0 where there is none.
abbrev pub or_zero : Option ℕ → ℕ
or_zero (Some i) = i
or_zero None = 0

-- The period and the steps of an answer, each 0 where the call was refused.
abbrev pub period_in : Result Walk Refusal → ℕ
period_in (Ok w) = or_zero w.period
period_in (Err _) = 0

abbrev pub steps_in : Result Walk Refusal → ℕ
steps_in (Ok w) = w.steps
steps_in (Err _) = 0
