-- Groups of s bytes: put together again they are the bytes, and one group more is the next s bytes.
-- Assumes nothing.
use Rattle.std.proofs.Common.{◌≡◌, ℕ, zero, suc, ◌+◌, ◌*◌, ◌≤◌, List, [], ◌∷◌, ◌++◌, length, take, drop, sym, ap, ◌∙◌, append_assoc, append-nil, add_comm, mul-zero, mul-suc, arith, length-drop, take-append-drop, length-take}
use Rattle.std.specs.List.{AllByRecursion}
use Rattle.std.proofs.lemmas.List.{drop-drop, nil_from_length}
use Rattle.std.proofs.ByRecursion.{All-take, All-drop}
use Rattle.poly.proofs.Digits.{chained}
use Rattle.words.specs.Flips.{Bytes}
use Rattle.words.specs.Tuples.{groups}

one_more : (s n : ℕ) → s * suc n ≡ s + s * n
one_more s n = mul-suc s n ∙ add_comm (s * n) s

pub groups_lengths : (n s : ℕ) (xs : List ℕ) → s * n ≤ length xs → AllByRecursion (λ g. length g ≡ s) (groups n s xs)
groups_lengths zero s xs l = tt
groups_lengths (suc n) s xs l =
    let e = one_more s n in (
      omega (arith, length-take s xs),
      groups_lengths n s (drop s xs) (omega (arith, length-drop s xs)),
    )

pub groups_bytes : (n s : ℕ) (xs : List ℕ) → Bytes xs → AllByRecursion Bytes (groups n s xs)
groups_bytes zero s xs b = tt
groups_bytes (suc n) s xs b = (All-take (λ x. _) s xs b, groups_bytes n s (drop s xs) (All-drop (λ x. _) s xs b))

pub chained_groups : (n s : ℕ) (xs : List ℕ) → length xs ≡ s * n → chained (groups n s xs) ≡ xs
chained_groups zero s xs e = sym (nil_from_length xs (e ∙ mul-zero s))
chained_groups (suc n) s xs e =
    let f = one_more s n in
    ap (λ x. take s xs ++ x) (chained_groups n s (drop s xs) (omega (arith, length-drop s xs))) ∙ take-append-drop s xs

pub chained_push : (gs : List (List ℕ)) (g : List ℕ) → chained (gs ++ g ∷ []) ≡ chained gs ++ g
chained_push [] g = append-nil g
chained_push (x ∷ gs) g = ap (λ y. x ++ y) (chained_push gs g) ∙ sym (append_assoc x (chained gs) g)

pub groups_more : (n s : ℕ) (xs : List ℕ) → groups (suc n) s xs ≡ groups n s xs ++ take s (drop (s * n) xs) ∷ []
groups_more zero s xs = rw (mul-zero s)
groups_more (suc n) s xs =
    ap (λ x. take s xs ∷ x) (groups_more n s (drop s xs))
    ∙ ap (λ x. take s xs ∷ (groups n s (drop s xs) ++ take s x ∷ []))
    (drop-drop (s * n) s xs ∙ ap (λ k. drop k xs) (sym (one_more s n)))
