-- The engine is asked last: where all before it is kept, set is refused exactly by what the engine does not carry.
-- Assumes nothing.
use Rattle.std.proofs.Common.{◌≡◌, ℕ, ◌%◌, ◌^◌, ◌<◌, ◌≤◌, Bool, List, [], ◌∷◌, ◌++◌, Ok, Result, sym}
use Rattle.std.proofs.lemmas.Bool.{le-leb, lt-ltb, eq-eqb}
use Rattle.answer.specs.declared.fault.Layer.TheVariants.{Engine}
use Rattle.answer.specs.Refusal.{Refusal, refusal}
use Rattle.answer.specs.Rules.{Rule, rule, by_rules}
use Rattle.answer.proofs.Ruled.{then_rules, kept}
use Rattle.engine.specs.Rules.{set_rules}
use Rattle.code.specs.declared.description.Description.{Description}
use Rattle.code.proofs.FieldRules.{proper_low_lem}
use Rattle.crc.specs.Form.{Formed, asks}

pub after : (rules : List Rule) (carried : Bool) (h low : ℕ) → ◌≡◌ {A = Result (Unit {0}) Refusal} (Ok tt) (by_rules rules tt)
    → 8 ≤ h → h ≤ 32 → low < 2 ^ h → low % 2 ≡ 1
    → ◌≡◌ {A = Result (Unit {0}) Refusal} (by_rules (set_rules carried h low) tt) (by_rules (rules ++ (rule carried (refusal 15 Engine 4) ∷ [])) tt)
after rules carried h low e least most small constant =
    let a = le-leb 8 h least in
    let b = le-leb h 32 most in
    let c = lt-ltb low (2 ^ h) small in
    let d = eq-eqb (low % 2) 1 constant in
    rw (a, b, c, d) (sym (then_rules tt tt rules (rule carried (refusal 15 Engine 4) ∷ []) e))

pub engine_last : (f : Formed) (d : Description) (carried : Bool) → ◌≡◌ {A = Result (Unit {0}) Refusal} (Ok tt) (by_rules (asks f d) tt)
    → 8 ≤ d.degree → d.degree ≤ 32
    → ◌≡◌ {A = Result (Unit {0}) Refusal} (by_rules (set_rules carried d.degree d.low) tt) (by_rules (asks f d ++ (rule carried (refusal 15 Engine 4) ∷ [])) tt)
engine_last f d carried e least most =
    let low = proper_low_lem d.degree d.low (kept tt (asks f d) (sym e)).1.1.1.1.1.0 in
    after (asks f d) carried d.degree d.low e least most low.0 low.1
