-- Where no rule is broken the frame is written.
-- Assumes nothing.
use Rattle.std.proofs.Common.{◌≡◌, length, Ok, sym, ap, ◌∙◌, rules}
use Rattle.code.specs.Model.{asked, written}
use Rattle.station.specs.Fitting.{sealed_by}
use Rattle.station.specs.Frame.{frame}
use Rattle.station.proofs.sealing.seal_by.Goals as goal

pub returns-clause-written : goal.returns-clause-written
returns-clause-written g c =
    let a = asked (g.K.Kind.model c.args.bank.now) in
    let out = c.args.out.now in
    let all : sealed_by a c.args.e c.args.number c.args.message.now (length out) ≡ Ok (frame c.args.number c.args.e.description c.args.message.now c.in_ok-check.check.now) =
    search rules in
    c.write_frame.ensures.out ∙ sym (ap (λ x. written x out) all)
