-- The sheet of the generator is that of the description.
-- Assumes nothing.
use Rattle.std.proofs.Common.{Ok, ap, ◌∙◌, ap₂}
use Rattle.std.proofs.lemmas.Result.{err_from_is_err_and}
use Rattle.answer.specs.Refusal.{refusal_of}
use Rattle.code.proofs.Asking.{sheet_refused, sheet_made}
use Rattle.crc.specs.Form.{over}
use Rattle.crc.proofs.over_engine.OverEngineKind.sheet.Goals as goal

pub returns-in_err-generator-clause-answer : goal.returns-in_err-generator-clause-answer
returns-in_err-generator-clause-answer g c =
    let m = over g.F.Form.form (g.E.Engine.carries_of c.args.self.now.engine) in
    let p = err_from_is_err_and c.from_residual.result c.from_residual.ensures.1 in
    rw (p.1, p.2) (sheet_refused m c.args.d (refusal_of c.in_err-generator.field-0.0) c.in_err-generator.ensures.answer)

pub returns-clause-answer : goal.returns-clause-answer
returns-clause-answer g c =
    let m = over g.F.Form.form (g.E.Engine.carries_of c.args.self.now.engine) in
    let fit = c.in_ok-generator.ensures.answer in
    ap Ok (c.sheet.ensures.answer ∙ ap₂ g.F.Form.form.sheet fit.1.0 fit.1.1) ∙ sheet_made m c.args.d fit.0
