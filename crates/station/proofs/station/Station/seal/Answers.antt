-- At an admitted book every check has the sheet's length.
-- Assumes nothing.
use Rattle.std.proofs.Common.{◌≡◌, length, sym, refl, ap, ◌∙◌}
use Rattle.code.specs.Model.{asked, length_of, written}
use Rattle.station.specs.Fitting.{sealed_by, sealed_fitting}
use Rattle.station.specs.Items.{items}
use Rattle.station.proofs.Chains.{then_at}
use Rattle.station.proofs.Sealed.{bytes_known, fitting_sealed}
use Rattle.station.proofs.station.Station.seal.Goals as goal

pub returns : goal.returns
returns g c =
    let m = g.K.Kind.model in
    let s = c.args.self.now in
    let a = asked (m s.bank) in
    let b = items s.book in
    let message = c.args.message.now in
    let out = c.args.out.now in
    let by : sealed_fitting a b c.args.number message (length out) ≡ sealed_by a c.in_ok-e.e c.args.number message (length out) =
    then_at _ c.in_ok-e.e (λ e. sealed_by a e c.args.number message (length out)) c.in_ok-e.ensures in
    let is =
    sym by
    ∙ fitting_sealed (m s.bank) (g.met.K.Kind.keeps s.bank) b s.admitted c.args.number message (bytes_known message c.type_inv.message) (length out) in
    record {
      answer = c.seal_by.ensures.answer ∙ ap length_of is;
      written = c.seal_by.ensures.written ∙ ap (λ x. written x out) is;
      book = refl;
      bank = c.seal_by.ensures.same;
    }
