-- The entry is admitted before it is added.
-- Assumes nothing.
use Rattle.std.proofs.Common.{is_ok, sym, ap}
use Rattle.code.specs.Model.{asked}
use Rattle.station.specs.Book.{entry_of}
use Rattle.station.specs.Items.{items, adding}
use Rattle.station.proofs.Admission.{added_kept, admitted_as}
use Rattle.station.proofs.station.Station.enter.Goals as goal

pub invariant_of-self-2 : goal.invariant_of-self-2
invariant_of-self-2 g c =
    let m = g.K.Kind.model in
    let s = c.args.self.now in
    let b = items s.book in
    let e = entry_of c.args.number c.args.d c.args.reach in
    let kept = added_kept (asked (m s.bank)) b e (adding b c.args.number) s.admitted (ap is_ok (sym c.in_ok-admit.ensures.answer)) in
    record { admitted = admitted_as (m s.bank) _ _ _ c.admit.ensures.same c.add.ensures.book kept }
