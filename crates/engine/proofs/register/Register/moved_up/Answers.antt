-- A mask of h ones cuts to h bits.
-- Assumes nothing.
use Rattle.std.proofs.Common.{◌≡◌, ◌-◌, ◌*◌, ◌%◌, ◌^◌, ap, ◌∙◌, ap₂, arith}
use lib.Bits.{bit_and, and_mask}
use Rattle.std.proofs.lemmas.Nat.{one_shl}
use Rattle.engine.proofs.register.Register.moved_up.Goals as goal

pub returns : goal.returns
returns c =
    let r = c.args.self in
    let whole : c.from.result * 256 % 2 ^ 64 ≡ r.value * 256 = omega arith in
    ap₂ (λ x y. bit_and x (y - 1)) whole (one_shl c.degree.result 64 (omega arith))
    ∙ and_mask (r.value * 256) c.degree.result
    ∙ ap (λ h. r.value * 256 % 2 ^ h) c.degree.ensures
