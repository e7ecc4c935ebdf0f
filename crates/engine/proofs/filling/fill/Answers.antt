-- Entry a stands in the row a / 32 and the column a % 32.
-- Assumes nothing.
use Rattle.std.proofs.Common.{◌≡◌, ℕ, ◌+◌, ◌*◌, ◌/◌, ◌%◌, ◌^◌, ◌<◌, ◌≤◌, get_or, sym, ap, ◌∙◌, subst, inl, inr, mul_assoc, arith, shl_lt}
use Rattle.std.proofs.lemmas.Bool.{cases_eq}
use Rattle.poly.specs.Poly.{rem, clmul}
use Rattle.poly.proofs.Division.{rem_lt, rem-shl}
use Rattle.engine.proofs.Aligned.{power_aligned, first_aligned}
use Rattle.engine.proofs.TableSums.{fill_row, filled}
use Rattle.engine.proofs.filling.fill.Goals as goal

pub double-last-requires : goal.double-last-requires
double-last-requires c =
    let g = c.args.generator in
    let below = subst (λ x. x < 2 ^ g.degree) (sym c.double-next.ensures.next) (rem_lt g.degree g.low g.ok.2 (c.args.first * 2 ^ 5)) in
    (omega arith, (omega arith, (c.requires.0, below)))

pub returns : goal.returns
returns c =
    let g = c.args.generator in
    let first = c.args.first in
    let up = c.args.up in
    let h = g.degree + up in
    let low = g.low * 2 ^ up in
    let small = shl_lt g.degree up g.ok.2 in
    let row = c.double-next.new.entries in
    let heads = c.double-last.new.entries in
    let entry : (a : ℕ) → a < 256 → get_or c.spread.new.entries a 0 ≡ rem h low (clmul a (first * 2 ^ up)) =
    λ a l.
    elim (cases_eq (a / 32) 0) [
      | inl none ↦
          let column : a < 32 = omega arith in
          c.spread.ensures.first a column ∙ c.double-next.ensures.entries a column
      | inr some ↦
          let place : a ≡ 32 * (a / 32) + a % 32 = omega arith in
          let back : a / 32 * 2 ^ 5 + a % 32 ≡ a = omega arith in
          let column : a % 32 < 32 = omega arith in
          let least : 1 ≤ a / 32 = omega arith in
          let most : a / 32 < 8 = omega arith in
          ap (λ z. get_or c.spread.new.entries z 0) place
          ∙ c.spread.ensures.rows (a % 32) (a / 32) column least most
          ∙ fill_row h low small (first * 2 ^ up) 5 (c.double-next.result * 2 ^ up) (a / 32) (a % 32) (get_or heads (a / 32) 0) (get_or row (a % 32) 0)
          (power_aligned g.degree up g.low g.ok.2 first 5 c.double-next.result c.double-next.ensures.next)
          column (c.double-last.ensures.entries (a / 32) most) (c.double-next.ensures.entries (a % 32) column)
          ∙ ap (λ z. rem h low (clmul z (first * 2 ^ up))) back
    ] in
    record {
      next =
          c.double-last.ensures.next
          ∙ ap (λ x. rem g.degree g.low (x * 2 ^ 3)) c.double-next.ensures.next
          ∙ sym (rem-shl g.degree g.low g.ok.2 (first * 2 ^ 5) 3)
          ∙ ap (rem g.degree g.low) (mul_assoc first (2 ^ 5) (2 ^ 3));
      entries =
          λ k e a l.
          entry a l
          ∙ filled h low small (first * 2 ^ up) (k + up) a (first_aligned g.degree up g.low g.ok.2 k first e);
    }
