-- The sums of the tuples, each reduced once more.
-- Assumes nothing.
use Rattle.std.proofs.Common.{◌≡◌, ℕ, ◌*◌, List, sym, ap, ◌∙◌, ap₂, mul-one}
use lib.Bits.{bit_xor}
use Rattle.poly.specs.Poly.{rem}
use Rattle.poly.proofs.Division.{rem-shl}
use Rattle.words.specs.Words.{weighted}
use Rattle.words.specs.Tuples.{tuples}
use Rattle.code.specs.WeightedModel.{first_sum}
use Rattle.weighted.specs.Described.{description_of}
use Rattle.weighted.proofs.weighted.Weighted.check_tuples.Goals as goal

pub returns : goal.returns
returns c =
    let w = c.args.self in
    let g = w.first in
    let qs : List ℕ = tuples w.tuple c.args.message.now in
    let first : c.remainder-first.result ≡ first_sum (description_of w) qs =
    c.remainder-first.ensures ∙ ap (λ y. rem g.degree g.low (y * 2)) c.sums-sums.ensures.horner ∙ sym (rem-shl g.degree g.low g.ok.2 (weighted qs) 1) in
    record {
      first = first;
      second =
          c.remainder-second.ensures
          ∙ ap (rem w.second.degree w.second.low)
          (mul-one (bit_xor c.sums-sums.result.total c.remainder-first.result) ∙ ap₂ bit_xor c.sums-sums.ensures.total first);
    }
