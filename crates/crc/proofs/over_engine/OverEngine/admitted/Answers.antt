-- What is admitted.
-- Assumes nothing.
use Rattle.std.proofs.Common.{Ok, Err, sym, ◌∙◌, ap₂}
use Rattle.std.proofs.lemmas.Result.{err_from_is_err_and}
use Rattle.answer.specs.Refusal.{refusal_of}
use Rattle.answer.proofs.Ruled.{kept}
use Rattle.code.specs.Answered.{success}
use Rattle.code.specs.Catalogue.{crc}
use Rattle.code.specs.CrcModel.{crc_reaches}
use Rattle.code.specs.Model.{described_rules}
use Rattle.code.proofs.CrcLaws.{far_of}
use Rattle.code.proofs.FieldRules.{proper_low_lem}
use Rattle.code.proofs.Asking.{admit_refused, admit_then}
use Rattle.crc.specs.Form.{over}
use Rattle.crc.proofs.over_engine.OverEngine.admitted.Goals as goal

pub returns-in_err-generator-clause-answer : goal.returns-in_err-generator-clause-answer
returns-in_err-generator-clause-answer g c =
    let m = over g.F.Form.form (g.E.Engine.carries_of c.args.self.now.engine) in
    let p = err_from_is_err_and c.from_residual.result c.from_residual.ensures.1 in
    rw (p.1, p.2) (admit_refused m c.args.d c.args.reach (refusal_of c.in_err-generator.field-0.0) c.in_err-generator.ensures.answer)

pub returns-in_err-reaches-clause-answer : goal.returns-in_err-reaches-clause-answer
returns-in_err-reaches-clause-answer g c =
    let m = over g.F.Form.form (g.E.Engine.carries_of c.args.self.now.engine) in
    let reach = c.args.reach in
    let fit = c.in_ok-generator.ensures.answer in
    let p = err_from_is_err_and c.from_residual-in_err-reaches.result c.from_residual-in_err-reaches.ensures.1 in
    rw (p.1, p.2)
    (admit_then m c.args.d reach (Err (refusal_of c.in_err-reaches.field-0.0)) fit.0
    (c.in_err-reaches.ensures ∙ ap₂ (λ h low. success (crc_reaches (crc h low) reach)) fit.1.0 fit.1.1))

pub invariant_of-result : goal.invariant_of-result
invariant_of-result g c =
    let d = c.args.d in
    let reach = c.args.reach in
    let fit = c.in_ok-generator.ensures.answer in
    let rules = kept tt (described_rules (over g.F.Form.form (g.E.Engine.carries_of c.args.self.now.engine)) d) (sym fit.0) in
    let low = proper_low_lem d.degree d.low rules.1.1.1.1.1.0 in
    let asked = c.in_ok-reaches.ensures ∙ ap₂ (λ h low. success (crc_reaches (crc h low) reach)) fit.1.0 fit.1.1 in
    record { small = low.0; constant = low.1; far = far_of d reach (kept tt (crc_reaches d reach) (sym asked)) }

pub returns-clause-answer : goal.returns-clause-answer
returns-clause-answer g c =
    let m = over g.F.Form.form (g.E.Engine.carries_of c.args.self.now.engine) in
    let reach = c.args.reach in
    let fit = c.in_ok-generator.ensures.answer in
    admit_then m c.args.d reach (Ok tt) fit.0
    (c.in_ok-reaches.ensures ∙ ap₂ (λ h low. success (crc_reaches (crc h low) reach)) fit.1.0 fit.1.1)
