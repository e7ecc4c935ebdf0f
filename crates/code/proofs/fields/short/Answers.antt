-- A number of 32 bits is below 2 ^ degree where the degree is 32 or more, or where nothing is left from the degree on.
-- Assumes nothing.
use Rattle.std.proofs.Common.{◌/◌, ◌^◌, sym, ◌∙◌, inl, inr, lt_of_lt_of_le, arith, pow_mono}
use native.Mathlib.Nat.{div-eq_of_lt}
use Rattle.std.proofs.lemmas.Bool.{le-leb, lt-ltb, le-ltb, eq-eqb, ne_eqb, cases_lt}
use Rattle.poly.proofs.Division.{lt_of_high}
use Rattle.code.proofs.fields.short.Goals as goal

pub returns-then-degree-ge32 : goal.returns-then-degree-ge32
returns-then-degree-ge32 c =
    le-leb 32 c.args.degree c.if-degree-ge32.true
    ∙ sym (lt-ltb c.args.low (2 ^ c.args.degree) (lt_of_lt_of_le c.ranges.low.fits (pow_mono c.if-degree-ge32.true)))

pub returns-else-degree-ge32 : goal.returns-else-degree-ge32
returns-else-degree-ge32 c =
    let x = c.args.low in
    let h = c.args.degree in
    elim (cases_lt x (2 ^ h)) [
      | inl l ↦ eq-eqb (x / 2 ^ h) 0 (div-eq_of_lt l) ∙ sym (lt-ltb x (2 ^ h) l)
      | inr g ↦ ne_eqb (x / 2 ^ h) 0 (λ e. let l = lt_of_high x h e in omega arith) ∙ sym (le-ltb x (2 ^ h) g)
    ]
