-- The last bytes of four.
-- Assumes nothing.
use Rattle.std.proofs.Common.{◌≡◌, ℕ, zero, suc, ◌+◌, ◌-◌, ◌*◌, ◌/◌, ◌%◌, ◌^◌, ◌<◌, ◌≤◌, List, [], ◌∷◌, take, drop, refl, sym, ap, ap₂, ◌∙◌, arith}
use Rattle.std.proofs.lemmas.Slice.{put_mid-paste}
use Rattle.std.proofs.lemmas.List.Edits.{paste_all}
use Rattle.words.specs.Digits.{digits}
use Rattle.words.proofs.DigitBytes.{length_digits}
use Rattle.code.proofs.bytes.write.Goals as goal

abbrev four : ℕ → List ℕ
four x = x / 16777216 % 256 ∷ x / 65536 % 256 ∷ x / 256 % 256 ∷ x % 256 ∷ []

last : (k x : ℕ) → k ≤ 4 → x < 2 ^ (8 * k) → take (4 - (4 - k)) (drop (4 - k) (four x)) ≡ digits k x
last zero x l s = refl
last (suc zero) x l s = ap (λ a. a ∷ []) (omega arith)
last (suc (suc zero)) x l s = ap₂ (λ a b. a ∷ b ∷ []) (omega arith) (omega arith)
last (suc (suc (suc zero))) x l s = ap₂ (λ a bs. a ∷ bs) (omega arith) (ap₂ (λ a b. a ∷ b ∷ []) (omega arith) (omega arith))
last (suc (suc (suc (suc zero)))) x l s =
    ap₂ (λ a bs. a ∷ bs) (omega arith) (ap₂ (λ a bs. a ∷ bs) (omega arith) (ap₂ (λ a b. a ∷ b ∷ []) (omega arith) (omega arith)))
last (suc (suc (suc (suc (suc k))))) x l s = absurd (omega arith)

pub returns : goal.returns
returns c =
    let k : ℕ = c.args.count in
    let at : ℕ = c.args.at in
    let out = c.args.out.now in
    let bytes = c.copy_from_slice.ensures.after
    ∙ ap (λ bs. take (4 - (4 - k)) (drop (4 - k) bs)) c.to_be_bytes.ensures
    ∙ last k c.args.value c.requires.1.0 c.requires.1.1 in
    put_mid-paste at (at + k - at) out c.copy_from_slice.new.self (digits k c.args.value) k bytes (omega arith) (sym (length_digits k c.args.value))
    ∙ paste_all out at (digits k c.args.value) k (sym (length_digits k c.args.value))
