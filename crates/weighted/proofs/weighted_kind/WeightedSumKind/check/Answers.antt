-- What refuses a description refuses its check.
-- Assumes nothing.
use Rattle.std.proofs.Common.{length, sym, ap}
use Rattle.std.proofs.lemmas.Result.{err_from_is_err_and}
use Rattle.answer.specs.Refusal.{refusal_of}
use Rattle.code.specs.Model.{length_of}
use Rattle.code.specs.WeightedModel.{weighted_model}
use Rattle.code.proofs.Asking.{check_refused}
use Rattle.weighted.proofs.weighted_kind.WeightedSumKind.check.Goals as goal

pub returns-in_err-w-clause-answer : goal.returns-in_err-w-clause-answer
returns-in_err-w-clause-answer c =
    let p = err_from_is_err_and c.from_residual.result c.from_residual.ensures.1 in
    rw (p.1, p.2)
    (sym (ap length_of (check_refused weighted_model c.args.d c.args.message.now (length c.args.out.now) (refusal_of c.in_err-w.field-0.0) c.in_err-w.ensures)))
