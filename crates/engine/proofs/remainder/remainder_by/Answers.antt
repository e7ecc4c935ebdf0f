-- After a set that is not refused, the register of the fed engine is the remainder of the message.
-- Assumes nothing.
use Rattle.std.proofs.Common.{◌≡◌, ℕ, Result, ap, ◌∙◌}
use Rattle.answer.specs.Refusal.{Refusal}
use Rattle.answer.specs.Rules.{by_rules}
use Rattle.answer.proofs.Ruled.{passes}
use Rattle.engine.specs.Rules.{set_rules}
use Rattle.poly.specs.Poly.{remainder}
use Rattle.engine.proofs.Feeding.{fed_message}
use Rattle.engine.proofs.remainder.remainder_by.Goals as goal

pub returns : goal.returns
returns g c =
    let e = g.E.Engine in
    let set = c.in_ok-set.ensures in
    let fed = c.feed_all.ensures in
    let x = c.set.new.self in
    let rules = set_rules (e.carries_of c.args.engine.now c.args.degree c.args.low) c.args.degree c.args.low in
    let left : e.register_of c.feed_all.new.self ≡ remainder c.args.degree c.args.low c.args.message.now =
    fed_message c.args.degree c.args.low (e.degree_of x) (e.low_of x) (e.register_of x) (e.register_of c.feed_all.new.self)
    c.args.message.now (g.met.E.Engine.sound x).small set.degree set.low set.register fed.register in
    record {
      answer =
          passes tt c.value.result rules set.answer
          ∙ ap {B = Result ℕ Refusal} (λ v. by_rules rules v) (c.value.ensures ∙ left);
      degree = fed.degree ∙ set.degree;
      low = fed.low ∙ set.low;
      register = left;
      carries = fed.carries ∙ set.carries;
    }
