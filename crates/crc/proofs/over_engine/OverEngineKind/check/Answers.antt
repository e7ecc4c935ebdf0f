-- The check: a number that follows from the remainder, at the start of the output.
-- Assumes nothing.
use Rattle.std.proofs.Common.{◌≡◌, ℕ, ◌*◌, ◌^◌, ◌<◌, ◌≤◌, true, length, Ok, Err, Result, sym, ap, ◌∙◌, subst, ap₂, arith}
use Rattle.std.proofs.lemmas.Result.{err_from_is_err_and}
use Rattle.std.proofs.lemmas.Bool.{leb-true}
use Rattle.answer.specs.Refusal.{Refusal, refusal_of}
use Rattle.answer.proofs.Ruled.{kept}
use Rattle.poly.specs.Poly.{remainder}
use Rattle.engine.proofs.Feeding.{fed_message}
use Rattle.words.proofs.DigitBytes.{length_digits}
use Rattle.code.specs.declared.description.Sheet.{Sheet}
use Rattle.code.specs.Model.{length_of, written, described_rules}
use Rattle.code.specs.Answered.{success}
use Rattle.code.proofs.Asking.{fit_rules, check_refused, check_unfit, check_made}
use Rattle.crc.specs.Form.{over}
use Rattle.crc.proofs.Started.{put_start}
use Rattle.crc.proofs.over_engine.OverEngineKind.check.Goals as goal

pub returns-in_err-generator-clause-answer : goal.returns-in_err-generator-clause-answer
returns-in_err-generator-clause-answer g c =
    let m = over g.F.Form.form (g.E.Engine.carries_of c.args.self.now.engine) in
    let p = err_from_is_err_and c.from_residual.result c.from_residual.ensures.1 in
    rw (p.1, p.2)
    (sym (ap length_of (check_refused m c.args.d c.args.message.now (length c.args.out.now) (refusal_of c.in_err-generator.field-0.0) c.in_err-generator.ensures.answer)))

pub returns-in_err-generator-clause-written : goal.returns-in_err-generator-clause-written
returns-in_err-generator-clause-written g c =
    let m = over g.F.Form.form (g.E.Engine.carries_of c.args.self.now.engine) in
    let out = c.args.out.now in
    sym (ap (λ x. written x out) (check_refused m c.args.d c.args.message.now (length out) (refusal_of c.in_err-generator.field-0.0) c.in_err-generator.ensures.answer))

pub returns-in_err-fitting-clause-answer : goal.returns-in_err-fitting-clause-answer
returns-in_err-fitting-clause-answer g c =
    let m = over g.F.Form.form (g.E.Engine.carries_of c.args.self.now.engine) in
    let d = c.args.d in
    let message = c.args.message.now in
    let room = length c.args.out.now in
    let fit = c.in_ok-generator.ensures.answer in
    let z = refusal_of c.in_err-fitting.field-0.0 in
    let s : c.sheet-sheet.result ≡ m.sheet d = c.sheet-sheet.ensures.answer ∙ ap₂ g.F.Form.form.sheet fit.1.0 fit.1.1 in
    let f = subst (λ (x : Sheet). Err z ≡ success (fit_rules x.tuple x.check message room)) s c.in_err-fitting.ensures in
    let p = err_from_is_err_and c.from_residual-in_err-fitting.result c.from_residual-in_err-fitting.ensures.1 in
    rw (p.1, p.2) (sym (ap length_of (check_unfit m d message room z fit.0 f)))

pub returns-in_err-fitting-clause-written : goal.returns-in_err-fitting-clause-written
returns-in_err-fitting-clause-written g c =
    let m = over g.F.Form.form (g.E.Engine.carries_of c.args.self.now.engine) in
    let d = c.args.d in
    let message = c.args.message.now in
    let out = c.args.out.now in
    let fit = c.in_ok-generator.ensures.answer in
    let z = refusal_of c.in_err-fitting.field-0.0 in
    let s : c.sheet-sheet.result ≡ m.sheet d = c.sheet-sheet.ensures.answer ∙ ap₂ g.F.Form.form.sheet fit.1.0 fit.1.1 in
    let f = subst (λ (x : Sheet). Err z ≡ success (fit_rules x.tuple x.check message (length out))) s c.in_err-fitting.ensures in
    sym (ap (λ x. written x out) (check_unfit m d message (length out) z fit.0 f))

pub number-requires : goal.number-requires
number-requires g c =
    let e = g.E.Engine in
    let f = g.F.Form.form in
    let d = c.args.d in
    let message = c.args.message.now in
    let x = c.fit.new.self.engine in
    let set = c.in_ok-generator.ensures in
    let k = kept tt (described_rules (over f (e.carries_of c.args.self.now.engine)) d) (sym set.answer.0) in (
      subst (λ h. f.degrees h ≡ true) (sym set.answer.1.0) k.1.0,
      c.value.ensures
          ∙ fed_message d.degree d.low (e.degree_of x) (e.low_of x) (e.register_of x) (e.register_of c.feed_all.new.self) message
          (g.met.E.Engine.sound x).small set.degree set.low set.register c.feed_all.ensures.register
          ∙ sym (ap₂ (λ h low. remainder h low message) set.answer.1.0 set.answer.1.1),
    )

pub returns-clause-answer : goal.returns-clause-answer
returns-clause-answer g c =
    let f = g.F.Form.form in
    let m = over f (g.E.Engine.carries_of c.args.self.now.engine) in
    let d = c.args.d in
    let message = c.args.message.now in
    let room = length c.args.out.now in
    let fit = c.in_ok-generator.ensures.answer in
    let s : c.sheet-sheet.result ≡ m.sheet d = c.sheet-sheet.ensures.answer ∙ ap₂ f.sheet fit.1.0 fit.1.1 in
    let fits = subst (λ (x : Sheet). Ok tt ≡ success (fit_rules x.tuple x.check message room)) s c.in_ok-fitting.ensures in
    let n : c.from-count.result ≡ (m.sheet d).check = c.from-count.ensures ∙ ap (λ (x : Sheet). x.check) s in
    ap {B = Result ℕ Refusal} (λ i. Ok i) (n ∙ sym (length_digits (m.sheet d).check (f.number d.degree d.low message)))
    ∙ sym (ap length_of (check_made m d message room fit.0 fits))

pub returns-clause-written : goal.returns-clause-written
returns-clause-written g c =
    let f = g.F.Form.form in
    let m = over f (g.E.Engine.carries_of c.args.self.now.engine) in
    let d = c.args.d in
    let message = c.args.message.now in
    let out = c.args.out.now in
    let fit = c.in_ok-generator.ensures.answer in
    let s : c.sheet-sheet.result ≡ m.sheet d = c.sheet-sheet.ensures.answer ∙ ap₂ f.sheet fit.1.0 fit.1.1 in
    let k : ℕ = (m.sheet d).check in
    let y : ℕ = f.number d.degree d.low message in
    let count : c.sheet-sheet.result.check ≡ k = ap (λ (x : Sheet). x.check) s in
    let number : c.number.result ≡ y = c.number.ensures.answer ∙ ap₂ (λ h low. f.number h low message) fit.1.0 fit.1.1 in
    let few : k ≤ 4 = omega (arith, count, c.sheet-sheet.ensures.short) in
    let below : y < 2 ^ (8 * k) =
    subst (λ x. x < 2 ^ (8 * k)) number
    (subst (λ (x : Sheet). c.number.result < 2 ^ (8 * x.check)) (ap₂ f.sheet fit.1.0 fit.1.1) c.number.ensures.below) in
    let fits = subst (λ (x : Sheet). Ok tt ≡ success (fit_rules x.tuple x.check message (length out))) s c.in_ok-fitting.ensures in
    let room = leb-true k (length out) (kept tt (fit_rules (m.sheet d).tuple k message (length out)) (sym fits)).1.0 in
    c.put.ensures
    ∙ put_start out c.from-count.result c.number.result k y (c.from-count.ensures ∙ count) number few room below
    ∙ sym (ap (λ z. written z out) (check_made m d message (length out) fit.0 fits))
