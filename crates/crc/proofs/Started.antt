-- A check as a number, at the start of an output.
-- Assumes nothing.
use Rattle.std.proofs.Common.{◌≡◌, ℕ, ◌*◌, ◌^◌, ◌<◌, ◌≤◌, List, ◌++◌, length, drop, sym, ap, ◌∙◌, ap₂, zero-add, arith}
use Rattle.words.specs.Digits.{digits}
use Rattle.words.proofs.DigitBytes.{length_digits}
use Rattle.code.specs.Output.{with_number}
use Rattle.code.proofs.Output.{put_is}

-- i and x are what the code has for the bytes and for the number
pub put_start : (out : List ℕ) (i x k y : ℕ) → i ≡ k → x ≡ y → k ≤ 4 → k ≤ length out → y < 2 ^ (8 * k)
    → with_number out 0 i x ≡ digits k y ++ drop (length (digits k y)) out
put_start out i x k y e f few room below =
    ap₂ (with_number out 0) e f ∙ put_is out 0 k y few (omega arith) below
    ∙ ap (λ n. digits k y ++ drop n out) (zero-add k ∙ sym (length_digits k y))
