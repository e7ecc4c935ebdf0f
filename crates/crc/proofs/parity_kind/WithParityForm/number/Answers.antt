-- The remainder, and then the parity bit.
-- Assumes nothing.
use Rattle.std.proofs.Common.{◌≡◌, ◌+◌, ◌*◌, ◌%◌, ◌^◌, ◌<◌, sym, ap, ◌∙◌, subst, lt_of_lt_of_le, arith, pow_mono}
use lib.Count.{ones}
use Rattle.poly.specs.Poly.{polynomial, remainder}
use Rattle.poly.proofs.Division.{rem_lt}
use Rattle.words.proofs.Checks.{even-bit, parity_lt}
use Rattle.code.specs.CrcModel.{check_bytes}
use Rattle.code.proofs.ParityLaws.{bitwise}
use Rattle.crc.specs.Form.{parity_form}
use Rattle.crc.proofs.Parity.{plain_ones}
use Rattle.crc.proofs.parity_kind.WithParityForm.number.Goals as goal

short : (c : goal.After-sum) → c.args.r < 2 ^ 31
short c =
    let g = c.args.arg1 in
    let small : c.args.r < 2 ^ g.degree = subst (λ x. x < 2 ^ g.degree) (sym c.requires.1) (rem_lt g.degree g.low g.ok.2 _) in
    lt_of_lt_of_le small (pow_mono (bitwise g.degree c.requires.0).most)

pub overflow_mul-result : goal.overflow_mul-result
overflow_mul-result c = let l = short c in omega arith

pub overflow_add-result : goal.overflow_add-result
overflow_add-result c = let l = short c in omega arith

number_is : (c : goal.After-sum)
    → c.args.r * 2 + (ones c.sum.result + ones c.args.r) % 2 ≡ parity_form.number c.args.arg1.degree c.args.arg1.low c.args.message.now
number_is c =
    let g = c.args.arg1 in
    let message = c.args.message.now in
    let bit : (ones c.sum.result + ones c.args.r) % 2 ≡ (ones (polynomial message) + ones c.args.r) % 2 = omega (arith, plain_ones message, ap ones c.sum.ensures) in
    ap (λ x. c.args.r * 2 + x) bit
    ∙ ap (λ y. y * 2 + (ones (polynomial message) + ones y) % 2) c.requires.1
    ∙ ap (λ y. remainder g.degree g.low message * 2 + y) (sym (even-bit g.degree g.low message))

pub returns-clause-answer : goal.returns-clause-answer
returns-clause-answer c = number_is c

pub returns-clause-below : goal.returns-clause-below
returns-clause-below c =
    let g = c.args.arg1 in
    subst (λ x. x < 2 ^ (8 * check_bytes g.degree)) (sym (number_is c))
    (parity_lt g.degree g.low (check_bytes g.degree) g.ok.2 (bitwise g.degree c.requires.0).bits c.args.message.now)
