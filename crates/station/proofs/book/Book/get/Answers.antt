-- The entry at the number's place.
-- Assumes nothing.
use Rattle.std.proofs.Common.{◌≡◌, get_or, Ok, Err, sym, refl, ap, ◌∙◌, rules}
use Rattle.answer.specs.declared.fault.Fault.TheVariants.{NotHeld}
use Rattle.station.proofs.Places.{blank, at, off, went_on, gave_up}
use Rattle.station.proofs.book.Book.get.Goals as goal

pub returns-in_err-i : goal.returns-in_err-i
returns-in_err-i c =
    let es = c.args.self.now.entries.items in
    let g = gave_up c.find.result _ (sym c.ok_or.ensures.value ∙ c.in_err-i.was) in
    let t = (off es c.args.number (sym c.find.ensures.is ∙ g.0)).is_held in
    let r : c.from_residual.result ≡ Err NotHeld = search (rules, g.1) in
    rw (r, t) refl

pub returns : goal.returns
returns c =
    let es = c.args.self.now.entries.items in
    let t = (at es c.args.number c.in_ok-i.i (sym c.find.ensures.is ∙ went_on c.find.result _ (sym c.ok_or.ensures.value ∙ c.in_ok-i.was))).is_held in
    rw t (ap (λ xs. Ok (get_or xs c.in_ok-i.i blank)) c.deref.ensures.0)
