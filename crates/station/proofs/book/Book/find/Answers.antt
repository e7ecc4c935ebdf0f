-- The first entry with the number.
-- Assumes nothing.
use Rattle.std.proofs.Common.{eqb, ◌∙◌, rules, tests}
use Rattle.std.proofs.lemmas.Iterator.{YieldsList-from_slice}
use Rattle.std.proofs.lemmas.Iterator.Search.{position_from_yields_List}
use Rattle.station.specs.declared.entry.Entry.{Entry}
use Rattle.station.proofs.Places.{is_placed}
use Rattle.station.proofs.book.Book.find.Goals as goal

pub returns-clause-is : goal.returns-clause-is
returns-clause-is c =
    let es = c.args.self.now.entries.items in
    position_from_yields_List (λ (e : Entry). eqb e.number c.args.number) _ _ c.position.result c.position.ensures.ran (YieldsList-from_slice es cc) (λ x b q k. search (rules, tests))
    ∙ is_placed c.args.number es
