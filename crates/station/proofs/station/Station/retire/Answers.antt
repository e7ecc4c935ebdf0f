-- The entries that stay are admitted.
-- Assumes nothing.
use Rattle.std.proofs.Common.{refl}
use Rattle.code.specs.Model.{asked}
use Rattle.station.specs.Calls.{retiring}
use Rattle.station.specs.Items.{items}
use Rattle.station.proofs.Admission.{admitted_as, retired_kept}
use Rattle.station.proofs.station.Station.retire.Goals as goal

pub invariant_of-self : goal.invariant_of-self
invariant_of-self g c =
    let m = g.K.Kind.model in
    let s = c.args.self.now in
    let b = items s.book in
    record { admitted = admitted_as (m s.bank) _ _ _ refl c.remove.ensures.book (retired_kept (asked (m s.bank)) b c.args.number (retiring b c.args.number) s.admitted) }
