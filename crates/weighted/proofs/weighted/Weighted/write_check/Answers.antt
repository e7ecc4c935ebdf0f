-- Both check tuples fit their bytes, and stand one after the other.
-- Assumes nothing.
use Rattle.std.proofs.Common.{◌≡◌, ℕ, ◌*◌, ◌/◌, ◌^◌, ◌<◌, ◌≤◌, List, ◌++◌, drop, ap, ◌∙◌, ap₂, arith, pow_mono}
use Rattle.words.specs.Digits.{digits}
use Rattle.words.specs.Tuples.{tuples}
use Rattle.words.proofs.DigitBytes.{length_digits}
use Rattle.code.specs.WeightedModel.{first_sum, second_sum}
use Rattle.code.proofs.Output.{put_is}
use Rattle.code.proofs.WeightedFit.{size, sized}
use Rattle.weighted.specs.Described.{description_of}
use Rattle.weighted.proofs.WeightedCheck.{fits_tuple, two_puts}
use Rattle.weighted.proofs.weighted.Weighted.write_check.Goals as goal

pub returns : goal.returns
returns c =
    let w = c.args.self in
    let d = description_of w in
    let s : ℕ = c.from-tuple.result in
    let is = c.from-tuple.ensures in
    let eighth : w.tuple ≡ w.first.degree / 8 = omega (arith, w.bits) in
    let few = sized w.tuple (size w.first.degree w.tuple w.size eighth).0 in
    let bits : w.first.degree ≤ 8 * s = omega (arith, w.bits) in
    let below : w.second.degree ≤ 8 * s = omega (arith, w.below) in
    let out = c.args.out.now in
    let mid = c.put.new.out in
    let qs : List ℕ = tuples w.tuple c.args.message.now in
    let p : ℕ = c.check_tuples-first.result.0 in
    let r : ℕ = c.check_tuples-first.result.1 in
    let p-fits : p < 2 ^ (8 * s) = fits_tuple w.first.degree w.first.low _ p s w.first.ok.2 c.check_tuples-first.ensures.first (pow_mono bits) in
    let r-fits : r < 2 ^ (8 * s) = fits_tuple w.second.degree w.second.low _ r s w.second.ok.2 c.check_tuples-first.ensures.second (pow_mono below) in
    let first = c.put.ensures ∙ put_is out 0 s p (omega arith) (omega arith) p-fits in
    let second = c.put-2.ensures ∙ put_is mid s s r (omega arith) (omega (arith, c.put.auto.out)) r-fits in
    two_puts out mid c.put-2.new.out (digits s p) (digits s r) s (length_digits s p) first second
    ∙ ap₂ (λ x y. (digits s x ++ digits s y) ++ drop (2 * s) out) c.check_tuples-first.ensures.first c.check_tuples-first.ensures.second
    ∙ ap (λ n. (digits n (first_sum d qs) ++ digits n (second_sum d qs)) ++ drop (2 * n) out) is
