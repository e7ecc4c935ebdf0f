-- The rules on the description, then those on the message and the room; then the sum is written.
-- Assumes nothing.
use Rattle.std.proofs.Common.{◌≡◌, ℕ, ◌≤◌, List, [], ◌∷◌, ◌++◌, length, drop, set, sym, refl, ap, ◌∙◌, arith}
use Rattle.std.proofs.lemmas.Result.{err_from_is_err_and}
use Rattle.std.proofs.lemmas.Bool.{leb-true}
use Rattle.answer.specs.Refusal.{refusal_of}
use Rattle.answer.proofs.Ruled.{kept}
use Rattle.words.specs.Words.{plain}
use Rattle.code.specs.Model.{length_of, written}
use Rattle.code.proofs.Asking.{fit_rules, check_refused, check_unfit, check_made}
use Rattle.example_kind.specs.Model.{longitudinal}
use Rattle.example_kind.proofs.longitudinal.LongitudinalKind.check.Goals as goal

pub returns-in_err-fields : goal.returns-in_err-fields
returns-in_err-fields c =
    let out = c.args.out.now in
    let p = err_from_is_err_and c.from_residual.result c.from_residual.ensures.1 in
    let e = check_refused longitudinal c.args.d c.args.message.now (length out) (refusal_of c.in_err-fields.field-0.0) c.in_err-fields.ensures in
    record { answer = rw (p.1, p.2) (ap length_of (sym e)); written = ap (λ x. written x out) (sym e); same = refl }

pub returns-in_err-fitting : goal.returns-in_err-fitting
returns-in_err-fitting c =
    let out = c.args.out.now in
    let p = err_from_is_err_and c.from_residual-in_err-fitting.result c.from_residual-in_err-fitting.ensures.1 in
    let e = check_unfit longitudinal c.args.d c.args.message.now (length out) (refusal_of c.in_err-fitting.field-0.0)
    c.in_ok-fields.ensures c.in_err-fitting.ensures in
    record { answer = rw (p.1, p.2) (ap length_of (sym e)); written = ap (λ x. written x out) (sym e); same = refl }

first_byte : (out : List ℕ) (x : ℕ) → 1 ≤ length out → set out 0 x ≡ (x ∷ []) ++ drop 1 out
first_byte [] x l = absurd (omega arith)
first_byte (o ∷ out) x l = refl

pub returns : goal.returns
returns c =
    let d = c.args.d in
    let message = c.args.message.now in
    let out = c.args.out.now in
    let fit = c.in_ok-fitting.ensures in
    let e = check_made longitudinal d message (length out) c.in_ok-fields.ensures fit in
    let room = leb-true 1 (length out) (kept tt (fit_rules 1 1 message (length out)) (sym fit)).1.0 in
    record {
      answer = ap length_of (sym e);
      written = ap (λ x. set out 0 x) c.sum.ensures ∙ first_byte out (plain message) room ∙ ap (λ x. written x out) (sym e);
      same = refl;
    }
