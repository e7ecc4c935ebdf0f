-- What set asks, in this order: a degree from 8 to 32, a proper low part, a generator that the engine carries.
-- Assumes nothing.
use Rattle.std.specs.Prelude.{ℕ, Bool, List, [], ◌∷◌, ◌++◌}
use Rattle.answer.specs.declared.fault.Layer.TheVariants.{Engine}
use Rattle.answer.specs.Refusal.{refusal}
use Rattle.answer.specs.Rules.{Rule, rule}
use Rattle.poly.specs.Rules.{generator_rules}

abbrev pub set_rules : Bool → ℕ → ℕ → List Rule
set_rules carried h low = generator_rules 8 h low ++ (rule carried (refusal 15 Engine 4) ∷ [])
