-- One change more, and in the end all of them.
-- Assumes nothing.
use Rattle.std.proofs.Common.{List, refl, ap, ◌∙◌, ap₂, arith}
use Rattle.std.proofs.lemmas.List.{take_all}
use Rattle.code.specs.Model.{asked, Model}
use Rattle.station.specs.Book.{PlainBook}
use Rattle.station.specs.Calls.{Change, change, step}
use Rattle.station.specs.Items.{items}
use Rattle.exports_station.specs.declared.form.BookChange.{BookChange}
use Rattle.exports_station.specs.Forms.{book_with}
use Rattle.exports_station.proofs.Again.{changed_once}
use Rattle.exports_station.proofs.stationing.station_with.Goals as goal

pub loop-c-preserved : goal.loop-c-preserved
loop-c-preserved g c =
    let m = g.K.Kind.model in
    let l = c.loop-c in
    let made = c.make.ensures.book ∙ ap (λ (k : Change). step (asked (m l.station.bank)) (items l.station.book) (change k)) c.into.ensures in (
      changed_once (m c.new-station.result.bank) (m l.station.bank) c.args.changes.now l.c-index _ (items l.station.book)
          (items c.make.new.station.book) c.loop-c-test.true l.invariant.0 l.invariant.1 made,
      c.make.ensures.bank ∙ l.invariant.1,
    )

pub returns : goal.returns
returns g c =
    let m = g.K.Kind.model in
    let l = c.loop-c in
    let a = asked (m c.args.bank) in
    let changes = c.args.changes.now in
    let bank = ap m c.new-station.ensures.bank in
    let book =
    l.invariant.0
    ∙ ap₂ (λ (k : Model) (cs : List BookChange). book_with (asked k) cs) bank (take_all l.c-index changes (omega arith)) in
    record { book = book; bank = l.invariant.1 ∙ bank }
