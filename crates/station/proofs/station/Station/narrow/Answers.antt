-- The lower reach is admitted before it is written.
-- Assumes nothing.
use Rattle.std.proofs.Common.{is_ok, sym, ap}
use Rattle.code.specs.Model.{asked}
use Rattle.station.specs.Book.{held}
use Rattle.station.specs.Items.{items}
use Rattle.station.proofs.Admission.{all-narrowed, admitted_as}
use Rattle.station.proofs.Sealed.{by_option}
use Rattle.station.proofs.station.Station.narrow.Goals as goal

pub invariant_of-self-2 : goal.invariant_of-self-2
invariant_of-self-2 g c =
    let m = g.K.Kind.model in
    let s = c.args.self.now in
    let b = items s.book in
    let e = c.in_ok-e.e in
    let kept =
    all-narrowed (asked (m s.bank)) b.entries c.args.number c.args.reach e s.admitted (by_option (held b c.args.number) e (sym c.in_ok-e.ensures))
    (ap is_ok (sym c.in_ok-admit.ensures.answer)) in
    record { admitted = admitted_as (m s.bank) _ _ _ c.admit.ensures.same c.lower.ensures kept }
