-- Success is 0, with nothing or with a space and the bytes after it.
-- Assumes nothing.
use Rattle.std.proofs.Common.{◌≡◌, Some, None, vec_items, rules}
use Rattle.console.proofs.Puts.{nothing, bytes}
use Rattle.console.proofs.answers.put_answer.Goals as goal

pub returns-in-Ok-None : goal.returns-in-Ok-None
returns-in-Ok-None c =
    let e : c.in-Ok-None.field-0 ≡ None = search rules in
    nothing c.args.number (vec_items c.args.out.now) c.args.answer c.in-Ok-None.field-0 c.in-Ok-None.is e
    c.put_decimal.ensures.items c.put.ensures.items

pub returns-in-Ok-Some : goal.returns-in-Ok-Some
returns-in-Ok-Some c =
    let e : c.in-Ok-Some.field-0 ≡ Some c.in-Ok-Some.bytes = search rules in
    bytes c.args.number (vec_items c.args.out.now) c.args.answer c.in-Ok-Some.field-0 c.in-Ok-Some.bytes c.in-Ok-Some.is e
    c.put_decimal.ensures.items c.put-in-Ok-Some.ensures.items c.put_hex.ensures.items c.put-in-Ok-Some-2.ensures.items
