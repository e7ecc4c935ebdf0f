-- The bytes of pairs of digits.
-- Assumes nothing.
use Rattle.std.proofs.Common.{◌≡◌, ℕ, zero, suc, ◌+◌, ◌/◌, ◌<◌, List, [], ◌∷◌, ◌++◌, map, length, get_or, take, set, sym, refl, ap, ◌∙◌, ap₂, arith}
use Rattle.std.proofs.lemmas.List.{take_more, take_more_set, take_all, get_or-map, length-map}
use Rattle.std.specs.Simd.{first_chunks}
use Rattle.console.specs.Decode.{byte_of, decoded}

-- a byte for every pair
abbrev pub bytes_of : List (List ℕ) → List ℕ
bytes_of pairs = map (λ p. byte_of (get_or p 0 0) (get_or p 1 0)) pairs

by_pairs : (k : ℕ) (s : List ℕ) → k ≡ length s / 2 → bytes_of (first_chunks 2 k s) ≡ decoded s
by_pairs zero [] e = refl
by_pairs zero (a ∷ []) e = refl
by_pairs zero (a ∷ b ∷ s) e = absurd (omega arith)
by_pairs (suc k) [] e = absurd (omega arith)
by_pairs (suc k) (a ∷ []) e = absurd (omega arith)
by_pairs (suc k) (a ∷ b ∷ s) e = ap (λ t. byte_of a b ∷ t) (by_pairs k s (omega arith))

-- one byte more
pub turn : (pairs : List (List ℕ)) (buffer : List ℕ) (i v : ℕ) → i < length pairs → i < length buffer
    → v ≡ byte_of (get_or (get_or pairs i []) 0 0) (get_or (get_or pairs i []) 1 0)
    → take i buffer ≡ take i (bytes_of pairs) → take (i + 1) (set buffer i v) ≡ take (i + 1) (bytes_of pairs)
turn pairs buffer i v l h e inv =
    take_more_set buffer i v h
    ∙ ap₂ (λ s b. s ++ b ∷ []) inv (e ∙ sym (get_or-map _ pairs i [] 0 l))
    ∙ sym (take_more (bytes_of pairs) i 0 (rw (length-map pairs _) l))

-- in the end all of them
pub whole : (pairs : List (List ℕ)) (buffer s : List ℕ) (i : ℕ) → pairs ≡ first_chunks 2 (length s / 2) s → i ≡ length pairs
    → take i buffer ≡ take i (bytes_of pairs) → take (length pairs) buffer ≡ decoded s
whole pairs buffer s i e n inv =
    ap (λ k. take k buffer) (sym n)
    ∙ inv
    ∙ take_all i (bytes_of pairs) (omega (arith, length-map pairs (λ p. byte_of (get_or p 0 0) (get_or p 1 0)), n))
    ∙ ap bytes_of e
    ∙ by_pairs (length s / 2) s refl
