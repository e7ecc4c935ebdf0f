-- One entry's reach, at the number's place.
-- Assumes nothing.
use Rattle.std.proofs.Common.{get_or, set, sym, ap, ◌∙◌, length-set}
use Rattle.arrayvec.proofs.ArrayVecLemmas.{items-with_items}
use Rattle.station.specs.Book.{book_of, with_reach}
use Rattle.station.proofs.Places.{blank, at, off}
use Rattle.station.proofs.book.Book.lower.Goals as goal

pub returns-in-Some : goal.returns-in-Some
returns-in-Some c =
    let v = c.args.self.now.entries in
    let i = c.in-Some.i in
    let lowered = set v.items i (with_reach (get_or v.items i blank) c.args.reach) in
    let a = at v.items c.args.number i (sym c.in-Some.ensures.is) in
    rw c.deref_mut.ensures.value
    (ap book_of (items-with_items v lowered (length-set v.items i _) ∙ sym (a.is_narrowed c.args.reach)))

pub returns-in_default : goal.returns-in_default
returns-in_default c =
    let es = c.args.self.now.entries.items in
    ap book_of (sym ((off es c.args.number (sym c.find.ensures.is ∙ c.in_default.is)).is_narrowed c.args.reach))
