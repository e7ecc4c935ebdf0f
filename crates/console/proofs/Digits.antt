-- Hexadecimal digits, one byte more.
-- Assumes nothing.
use Rattle.std.proofs.Common.{◌≡◌, ℕ, ◌+◌, ◌/◌, ◌%◌, ◌<◌, List, [], ◌∷◌, ◌++◌, length, get_or, take, refl, ap, ◌∙◌, append_assoc}
use Rattle.std.proofs.lemmas.List.{take_more}
use Rattle.console.specs.Print.{hex_digit, hex}

hex-append : (xs ys : List ℕ) → hex (xs ++ ys) ≡ hex xs ++ hex ys
hex-append [] ys = refl
hex-append (x ∷ xs) ys = rw (hex-append xs ys)

-- v0, v1 and v2 are an output before a byte's two digits, between them and after them.
pub hex_more :
    (out xs : List ℕ) (i d e : ℕ) (v0 v1 v2 : List ℕ) →
    i < length xs → d ≡ hex_digit (get_or xs i 0 / 16) → e ≡ hex_digit (get_or xs i 0 % 16) →
    v0 ≡ out ++ hex (take i xs) → v1 ≡ v0 ++ d ∷ [] → v2 ≡ v1 ++ e ∷ [] →
    v2 ≡ out ++ hex (take (i + 1) xs)
hex_more out xs i d e v0 v1 v2 h p q e0 e1 e2 =
    let more : hex (take (i + 1) xs) ≡ hex (take i xs) ++ (d ∷ e ∷ []) =
    ap hex (take_more xs i 0 h) ∙ hex-append (take i xs) (get_or xs i 0 ∷ []) ∙ rw (← p, ← q) in
    rw (e2, e1, e0, more) (simp append_assoc)
