-- What kind 3 writes: two remainders in tuples, one after the other.
-- Assumes nothing.
use Rattle.std.proofs.Common.{◌≡◌, ℕ, ◌+◌, ◌*◌, ◌^◌, ◌<◌, ◌≤◌, List, ◌++◌, length, take, drop, sym, ap, ◌∙◌, subst, ap₂, append_assoc, lt_of_lt_of_le, zero-add, arith}
use Rattle.std.proofs.lemmas.List.{take_at, drop_at, drop-drop}
use Rattle.poly.specs.Poly.{rem}
use Rattle.poly.proofs.Division.{rem_lt}

-- a remainder in a tuple of s bytes
pub fits_tuple : (h low p x s : ℕ) → low < 2 ^ h → x ≡ rem h low p → 2 ^ h ≤ 2 ^ (8 * s) → x < 2 ^ (8 * s)
fits_tuple h low p x s small e t = lt_of_lt_of_le (subst (λ y. y < 2 ^ h) (sym e) (rem_lt h low small p)) t

-- a number of s bytes at the start of an output, and then another
pub two_puts : (out o₁ o₂ a b : List ℕ) (s : ℕ) → length a ≡ s → o₁ ≡ take 0 out ++ (a ++ drop (0 + s) out)
    → o₂ ≡ take s o₁ ++ (b ++ drop (s + s) o₁) → o₂ ≡ (a ++ b) ++ drop (2 * s) out
two_puts out o₁ o₂ a b s la e f =
    let start : o₁ ≡ a ++ drop s out = e ∙ ap (λ n. a ++ drop n out) (zero-add s) in
    let twice : s + s ≡ 2 * s = omega arith in
    let rest : drop (s + s) o₁ ≡ drop (2 * s) out =
    ap (drop (s + s)) start ∙ sym (drop-drop s s (a ++ drop s out)) ∙ ap (drop s) (drop_at a (drop s out) s la)
    ∙ drop-drop s s out ∙ ap (λ n. drop n out) twice in
    f ∙ ap₂ (λ x y. x ++ (b ++ y)) (ap (take s) start ∙ take_at a (drop s out) s la) rest
    ∙ sym (append_assoc a b (drop (2 * s) out))
