-- The terms of X^h + low are X^h and those of low.
-- Assumes nothing.
use Rattle.std.proofs.Common.{◌≡◌, ℕ, ◌+◌, ◌^◌, ◌<◌, sym, refl, ap, ◌∙◌, one-mul}
use lib.Count.{ones, ones_cat}
use Rattle.poly.specs.Poly.{terms}

ones_one : ones 1 ≡ 1
unfolding ones
ones_one = refl

pub terms_is : (h low : ℕ) → low < 2 ^ h → terms h low ≡ 1 + ones low
terms_is h low small =
    ap (λ x. ones (x + low)) (sym (one-mul (2 ^ h))) ∙ ones_cat h 1 low small ∙ ap (λ x. x + ones low) ones_one
