-- The entry goes to the end, or the book refuses it.
-- Assumes nothing.
use Rattle.std.proofs.Common.{◌≡◌, true, false, ltb, length, sym, refl, ap, arith, le-ltb, lt-ltb, eqb-true}
use Rattle.std.proofs.lemmas.Bool.{eqb-false}
use Rattle.station.specs.Book.{book_of}
use Rattle.station.proofs.Places.{held_when}
use Rattle.station.proofs.book.Book.add.Goals as goal

pub returns-then-is_some : goal.returns-then-is_some
returns-then-is_some c =
    let es = c.args.self.now.entries.items in
    let t = held_when es c.args.entry.number _ true c.find.ensures.is c.if-is_some.ensures in
    record { answer = rw t refl; book = rw t refl }

pub returns-then-is_full-clause-answer : goal.returns-then-is_full-clause-answer
returns-then-is_full-clause-answer c =
    let es = c.args.self.now.entries.items in
    let t = held_when es c.args.entry.number _ false c.find.ensures.is c.if-is_some.ensures in
    let full : ltb (length es) 16 ≡ false = le-ltb (length es) 16 (omega (arith, eqb-true (length es) 16 (sym c.if-is_full.ensures.value))) in
    rw (t, full) refl

pub returns : goal.returns
returns c =
    let es = c.args.self.now.entries.items in
    let t = held_when es c.args.entry.number _ false c.find.ensures.is c.if-is_some.ensures in
    let room : ltb (length es) 16 ≡ true = lt-ltb (length es) 16 (omega (arith, c.is_full.ensures.fits, eqb-false (length es) 16 (sym c.if-is_full.ensures.value))) in
    record { answer = rw (t, room) refl; book = rw (t, room) (ap book_of c.push.ensures.items) }
