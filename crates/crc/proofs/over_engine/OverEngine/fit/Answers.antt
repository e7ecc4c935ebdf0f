-- A broken rule of the fields is the answer; the engine is asked last.
-- Assumes nothing.
use Rattle.std.proofs.Common.{[], ◌∷◌, sym, ◌∙◌, arith}
use Rattle.std.proofs.lemmas.Result.{err_from_is_err_and}
use Rattle.answer.specs.declared.fault.Layer.TheVariants.{Engine}
use Rattle.answer.specs.Refusal.{refusal, refusal_of}
use Rattle.answer.specs.Rules.{rule}
use Rattle.answer.proofs.Ruled.{first_rules}
use Rattle.crc.specs.Form.{asks}
use Rattle.crc.proofs.Fitted.{engine_last}
use Rattle.crc.proofs.over_engine.OverEngine.fit.Goals as goal

pub returns-in_err-generator-clause-answer : goal.returns-in_err-generator-clause-answer
returns-in_err-generator-clause-answer g c =
    let d = c.args.d in
    let p = err_from_is_err_and c.from_residual.result c.from_residual.ensures.1 in
    rw (p.1, p.2)
    (sym (first_rules tt tt (asks g.F.Form.form d) (rule (g.E.Engine.carries_of c.args.self.now.engine d.degree d.low) (refusal 15 Engine 4) ∷ [])
    (refusal_of c.in_err-generator.field-0.0) c.in_err-generator.ensures))

pub returns-in_err-set-clause-answer : goal.returns-in_err-set-clause-answer
returns-in_err-set-clause-answer g c =
    let d = c.args.d in
    let made = c.in_ok-generator in
    let p = err_from_is_err_and c.from_residual-in_err-set.result c.from_residual-in_err-set.ensures.1 in
    rw (p.1, p.2)
    (c.in_err-set.ensures.answer
    ∙ engine_last g.F.Form.form d (g.E.Engine.carries_of c.args.self.now.engine d.degree d.low) made.ensures.0
    (omega (arith, made.ensures.1)) (omega (arith, made.ensures.1, made.generator.ok)))

pub returns-clause-answer : goal.returns-clause-answer
returns-clause-answer g c =
    let d = c.args.d in
    let made = c.in_ok-generator in (
      c.in_ok-set.ensures.answer
          ∙ engine_last g.F.Form.form d (g.E.Engine.carries_of c.args.self.now.engine d.degree d.low) made.ensures.0
          (omega (arith, made.ensures.1)) (omega (arith, made.ensures.1, made.generator.ok)),
      made.ensures.1.1,
    )
