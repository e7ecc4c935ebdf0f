-- The gap is closed.
-- Assumes nothing.
use Rattle.std.proofs.Common.{◌≡◌, Err, sym, refl, ap, ◌∙◌, rules}
use Rattle.answer.specs.declared.fault.Fault.TheVariants.{NotHeld}
use Rattle.station.specs.Book.{book_of}
use Rattle.station.proofs.Places.{at, off, went_on, gave_up}
use Rattle.station.proofs.book.Book.remove.Goals as goal

pub returns-in_err-i : goal.returns-in_err-i
returns-in_err-i c =
    let es = c.args.self.now.entries.items in
    let g = gave_up c.find.result _ (sym c.ok_or.ensures.value ∙ c.in_err-i.was) in
    let t = (off es c.args.number (sym c.find.ensures.is ∙ g.0)).is_held in
    let r : c.from_residual.result ≡ Err NotHeld = search (rules, g.1) in
    record { answer = rw (r, t) refl; book = rw t refl }

pub returns : goal.returns
returns c =
    let es = c.args.self.now.entries.items in
    let a = at es c.args.number c.in_ok-i.i (sym c.find.ensures.is ∙ went_on c.find.result _ (sym c.ok_or.ensures.value ∙ c.in_ok-i.was)) in
    let t = a.is_held in
    record { answer = rw t refl; book = rw t (ap book_of (c.remove.ensures.items ∙ sym a.is_retired)) }
