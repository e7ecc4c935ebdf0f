-- Head, message and check are the frame.
-- Assumes nothing.
use Rattle.std.proofs.Common.{◌≡◌, ◌+◌, ◌++◌, length, drop, ap, ◌∙◌, arith, length-append}
use Rattle.station.specs.Frame.{head}
use Rattle.station.proofs.sealing.write_frame.Goals as goal

pub returns-clause-out : goal.returns-clause-out
returns-clause-out c =
    let s = c.args.message.now in
    let t = c.args.check.now in
    let out = c.args.out.now in
    let h = head c.args.number c.args.d (length s + length t) in
    let first = c.head_of-head.result in
    let is : first ≡ h = c.head_of-head.ensures in
    let long : length first + length s + length t ≡ length (h ++ (s ++ t)) =
    ap (λ l. length l + length s + length t) is ∙ omega (arith, length-append s t) in
    let end = c.write_parts.ensures.end ∙ long in
    c.write_parts.ensures.out ∙ ap (λ l. (l ++ (s ++ t)) ++ drop c.write_parts.result out) is ∙ ap (λ k. (h ++ (s ++ t)) ++ drop k out) end
