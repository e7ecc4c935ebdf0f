-- The output has the check first.
-- Assumes nothing.
use Rattle.std.proofs.Common.{Ok, ap, ◌∙◌}
use Rattle.std.proofs.lemmas.Result.{err_from_is_err_and}
use Rattle.answer.specs.Refusal.{refusal_of}
use Rattle.listing.proofs.Checked.{number_of_check, check_refused}
use Rattle.listing.proofs.asked.check_by.Goals as goal

pub returns-in_err-size : goal.returns-in_err-size
returns-in_err-size g c =
    let p = err_from_is_err_and c.from_residual.result c.from_residual.ensures.1 in
    rw (p.1, p.2) (check_refused _ (refusal_of c.in_err-size.field-0.0) c.in_err-size.ensures.answer)

pub returns : goal.returns
returns g c =
    ap Ok c.number_from.ensures
    ∙ number_of_check _ c.in_ok-size.size _ c.check.new.out c.in_ok-size.ensures.answer c.in_ok-size.ensures.written
