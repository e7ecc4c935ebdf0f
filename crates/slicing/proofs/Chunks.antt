-- A string in pieces of one length, and the rest of it.
-- Assumes nothing.
use Rattle.std.proofs.Common.{◌≡◌, ℕ, zero, suc, ◌+◌, ◌*◌, ◌<◌, List, [], ◌∷◌, ◌++◌, length, get_or, take, drop, sym, ap, ◌∙◌, ap₂, lit<, ◌^◌, add-zero, le_of_suc-le-suc, not-suc-le-zero, suc-mul, add_comm, zero-mul, add-one, get_or-drop, drop-drop, take-add}
use Rattle.std.proofs.lemmas.List.{take_more, get_or-take}
use Rattle.std.specs.Simd.{first_chunks}
use lib.Bits.{bit_xor}
use Rattle.engine.specs.Feed.{fed, fed_all}
use Rattle.engine.proofs.Feeding.{fed_all-append}
use Rattle.slicing.proofs.Sixteen.{word_at}

pub chunk_at : (n k : ℕ) (xs : List ℕ) (i : ℕ) → i < k → get_or (first_chunks n k xs) i [] ≡ take n (drop (i * n) xs)
chunk_at n zero xs i l = absurd (not-suc-le-zero l)
chunk_at n (suc k) xs zero l = ap (λ m. take n (drop m xs)) (sym (zero-mul n))
chunk_at n (suc k) xs (suc i) l =
    chunk_at n k (drop n xs) i (le_of_suc-le-suc l)
    ∙ ap (take n) (drop-drop (i * n) n xs ∙ ap (λ m. drop m xs) (add_comm n (i * n) ∙ sym (suc-mul i n)))

-- one piece more
pub chunk_more : (h low r₀ n : ℕ) (xs : List ℕ) (i r s : ℕ) → r ≡ fed_all h low r₀ (take (i * n) xs)
    → s ≡ fed_all h low r (take n (drop (i * n) xs)) → s ≡ fed_all h low r₀ (take ((i + 1) * n) xs)
chunk_more h low r₀ n xs i r s er es =
    es ∙ ap (λ x. fed_all h low x (take n (drop (i * n) xs))) er
    ∙ sym (ap (λ m. fed_all h low r₀ (take m xs)) (ap (λ m. m * n) (add-one i) ∙ suc-mul i n)
    ∙ ap (fed_all h low r₀) (take-add (i * n) n xs)
    ∙ fed_all-append h low r₀ (take (i * n) xs) (take n (drop (i * n) xs)))

-- one byte more behind the pieces
pub byte_more : (h low r₀ : ℕ) (front rest : List ℕ) (i r s : ℕ) → i < length rest → r ≡ fed_all h low r₀ (front ++ take i rest)
    → s ≡ fed h low r (get_or rest i 0) → s ≡ fed_all h low r₀ (front ++ take (i + 1) rest)
byte_more h low r₀ front rest i r s l er es =
    es ∙ ap (λ x. fed h low x (get_or rest i 0)) (er ∙ fed_all-append h low r₀ front (take i rest))
    ∙ sym (fed_all-append h low r₀ front (take (i + 1) rest)
    ∙ ap (fed_all h low (fed_all h low r₀ front)) (take_more rest i 0 l)
    ∙ fed_all-append h low (fed_all h low r₀ front) (take i rest) (get_or rest i 0 ∷ []))

-- entry i of piece j
pub chunk_entry : (n k : ℕ) (xs : List ℕ) (j i : ℕ) → j < k → i < n → get_or (get_or (first_chunks n k xs) j []) i 0 ≡ get_or xs (j * n + i) 0
chunk_entry n k xs j i lj li =
    ap (λ (ys : List ℕ). get_or ys i 0) (chunk_at n k xs j lj) ∙ get_or-take n (drop (j * n) xs) i 0 li ∙ get_or-drop (j * n) xs i 0

-- the word of piece j
pub chunk_word : (k : ℕ) (xs : List ℕ) (j : ℕ) → j < k → word_at (get_or (first_chunks 4 k xs) j []) 0 ≡ word_at xs (j * 4)
chunk_word k xs j l =
    let entry : (i : ℕ) → i < 4 → get_or (get_or (first_chunks 4 k xs) j []) i 0 ≡ get_or xs (j * 4 + i) 0 = λ i li. chunk_entry 4 k xs j i l li in
    let two : ℕ → ℕ → ℕ = λ x y. bit_xor (x * 2 ^ 8) y in
    ap₂ two (ap₂ two (ap₂ two (entry 0 (lit< tt) ∙ ap (λ n. get_or xs n 0) (add-zero (j * 4))) (entry 1 (lit< tt))) (entry 2 (lit< tt))) (entry 3 (lit< tt))
