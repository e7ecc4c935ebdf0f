-- One call more, and in the end all of them.
-- Assumes nothing.
use Rattle.std.proofs.Common.{◌≤◌, cond, [], ◌∷◌, ◌++◌, length, is_ok, vec_items, sym, ap, ◌∙◌, subst, arith}
use Rattle.station.specs.Book.{empty_book}
use Rattle.station.specs.Items.{items}
use Rattle.station.specs.Outcomes.{plain_calls}
use Rattle.runs.specs.Numbers.{AllByNumbers}
use Rattle.runs.specs.Ruling.{AllByRules}
use Rattle.runs.proofs.Numbers.{all_by_numbers}
use Rattle.runs.proofs.EveryCall.{runs_by_rules}
use Rattle.runs.proofs.Booked.{book_laws}
use Rattle.runs.proofs.Pledged.{stations_promise}
use Rattle.runs.proofs.Runs.{turn, book_of_all, outcomes_of_all}
use Rattle.runs.proofs.run.run.Goals as goal

pub loop-call-preserved : goal.loop-call-preserved
loop-call-preserved g c =
    let m = g.K.Kind.model in
    let l = c.loop-call in
    let told = c.in_ok-outcome.ensures in
    let outs = vec_items l.outcomes in
    let o = c.in_ok-outcome.outcome in
    let grown = c.push.ensures.items ∙ ap (λ r. cond (is_ok r) (outs ++ o ∷ []) outs) c.in_ok-push.was in
    let t =
    turn (m c.new-station.result.bank) (m l.station.bank) c.args.calls.now l.call-index _ outs (vec_items c.push.new.self) o
    (items l.station.book) (items c.perform.new.self.book) (omega arith) l.invariant.0 l.invariant.1 l.invariant.2 grown told.answer told.book in
    (t.0, t.1, told.bank ∙ l.invariant.2)

pub returns-clause-promises : goal.returns-clause-promises
returns-clause-promises g c = stations_promise

pub returns-in_err-outcome-clause-promises : goal.returns-in_err-outcome-clause-promises
returns-in_err-outcome-clause-promises g c = stations_promise

pub returns-in_err-push-clause-promises : goal.returns-in_err-push-clause-promises
returns-in_err-push-clause-promises g c = stations_promise

pub returns-clause-few : goal.returns-clause-few
returns-clause-few g c =
    let m = g.K.Kind.model in
    let l = c.loop-call in
    let book = book_of_all (m c.new-station.result.bank) (m c.args.bank) c.args.calls.now l.call-index _ (omega arith) (ap m c.new-station.ensures.bank) l.invariant.1 in
    subst (λ p. length p.entries ≤ 16) (sym book) (book_laws (m c.args.bank) (plain_calls c.args.calls.now)).most

pub returns-clause-numbers : goal.returns-clause-numbers
returns-clause-numbers g c = λ numbered.
    let m = g.K.Kind.model in
    let l = c.loop-call in
    let calls = plain_calls c.args.calls.now in
    let outcomes = outcomes_of_all (m c.new-station.result.bank) (m c.args.bank) c.args.calls.now l.call-index _ (omega arith) (ap m c.new-station.ensures.bank) l.invariant.0 in
    subst (AllByNumbers calls) (sym outcomes) (all_by_numbers (m c.args.bank) (g.met.K.Kind.keeps c.args.bank) numbered empty_book tt calls)

pub returns-clause-ruled : goal.returns-clause-ruled
returns-clause-ruled g c = λ typed.
    let m = g.K.Kind.model in
    let l = c.loop-call in
    let calls = plain_calls c.args.calls.now in
    let outcomes = outcomes_of_all (m c.new-station.result.bank) (m c.args.bank) c.args.calls.now l.call-index _ (omega arith) (ap m c.new-station.ensures.bank) l.invariant.0 in
    subst (AllByRules (m c.args.bank) empty_book calls) (sym outcomes)
    (runs_by_rules (m c.args.bank) (g.met.K.Kind.keeps c.args.bank) calls typed)
