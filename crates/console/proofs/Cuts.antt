-- Inputs cut into lines.
-- Assumes nothing.
use Rattle.std.proofs.Common.{◌≡◌, ℕ, suc, ◌+◌, ◌<◌, ◌≤◌, Bool, true, false, cond, eqb, List, [], ◌∷◌, length, take, drop, position, Some, None, refl, ap, ◌∙◌, inl, inr, add-one, arith, eq-eqb, ne_eqb}
use Rattle.std.proofs.lemmas.Bool.{cases_eq}
use Rattle.std.proofs.lemmas.List.{take_all, drop_all}
use Rattle.std.specs.List.{position_or_len}
use Rattle.console.proofs.Places.{place}
use Rattle.std.specs.List.{AllByRecursion}
use Rattle.console.specs.Lines.{onto, lines_of, ended, closed, LinesRejoin}

-- ---- the first line and the others

abbrev pub breaks : ℕ → Bool
breaks b = eqb b 10

pub cut : (xs : List ℕ) → 0 < length xs → lines_of xs ≡ take (position_or_len breaks xs) xs ∷ lines_of (drop (suc (position_or_len breaks xs)) xs)
cut [] some = absurd (omega arith)
cut (x ∷ []) some = elim (cases_eq x 10) [ inl e ↦ rw (eq-eqb x 10 e) refl | inr e ↦ rw (ne_eqb x 10 e) refl ]
cut (x ∷ y ∷ ys) some =
    let p : ℕ = position_or_len breaks (y ∷ ys) in
    let more : 1 + p ≡ suc p = omega arith in
    elim (cases_eq x 10) [
      | inl e ↦ rw (eq-eqb x 10 e) refl
      | inr e ↦ rw (ne_eqb x 10 e, more) (ap (onto x) (cut (y ∷ ys) (omega arith)))
    ]

-- at the place that is found, or at none
pub cut_at : (xs : List ℕ) (i : ℕ) → 0 < length xs → Some i ≡ position breaks xs → lines_of xs ≡ take i xs ∷ lines_of (drop (i + 1) xs)
cut_at xs i some e = rw (add-one i, place breaks xs (Some i) e) (cut xs some)

pub cut_none : (xs : List ℕ) → 0 < length xs → None ≡ position breaks xs → lines_of xs ≡ xs ∷ []
cut_none xs some e =
    let p : ℕ = position_or_len breaks xs in
    let end : length xs ≡ p = place breaks xs None e in
    cut xs some
    ∙ ap (λ s. s ∷ lines_of (drop (suc p) xs)) (take_all p xs (omega arith))
    ∙ ap (λ s. xs ∷ lines_of s) (drop_all (suc p) xs (omega arith))

-- ---- all lines

some_onto : (b : ℕ) (lines : List (List ℕ)) → 0 < length (onto b lines)
some_onto b [] = omega arith
some_onto b (line ∷ lines) = omega arith

-- No more lines than bytes.
few_onto : (b : ℕ) (lines : List (List ℕ)) → length (onto b lines) ≤ suc (length lines)
few_onto b [] = omega arith
few_onto b (line ∷ lines) = omega arith

pub few_lines : (s : List ℕ) → length (lines_of s) ≤ length s
few_lines [] = omega arith
few_lines (b ∷ bs) =
    let h = few_lines bs in
    let P : Bool → Type 0 = λ t. length (cond t ([] ∷ lines_of bs) (onto b (lines_of bs))) ≤ suc (length bs) in
    elim (eqb b 10) as P [ true ↦ omega arith | false ↦ omega (arith, few_onto b (lines_of bs), h) ]

-- Where there are bytes there is a line.
some_lines : (b : ℕ) (bs : List ℕ) → 0 < length (lines_of (b ∷ bs))
some_lines b bs =
    let P : Bool → Type 0 = λ t. 0 < length (cond t ([] ∷ lines_of bs) (onto b (lines_of bs))) in
    elim (eqb b 10) as P [ true ↦ omega arith | false ↦ some_onto b (lines_of bs) ]

ended-onto : (b : ℕ) (lines : List (List ℕ)) → 0 < length lines → ended (onto b lines) ≡ b ∷ ended lines
ended-onto b [] h = absurd (omega arith)
ended-onto b (line ∷ lines) h = refl

rejoined : (s : List ℕ) → ended (lines_of s) ≡ closed s
rejoined [] = refl
rejoined (b ∷ []) = elim (cases_eq b 10) [ inl e ↦ rw (eq-eqb b 10 e, e) | inr e ↦ rw (ne_eqb b 10 e) ]
rejoined (b ∷ c ∷ bs) =
    elim (cases_eq b 10) [
      | inl e ↦ rw (eq-eqb b 10 e, e) (ap (λ x. 10 ∷ x) (rejoined (c ∷ bs)))
      | inr e ↦ rw (ne_eqb b 10 e) (ended-onto b (lines_of (c ∷ bs)) (some_lines c bs) ∙ ap (λ x. b ∷ x) (rejoined (c ∷ bs)))
    ]

-- No 0A in a line.
abbrev Whole : List ℕ → Type 0
Whole line = AllByRecursion (λ b. b ≡ 10 → ⊥) line

whole-onto : (b : ℕ) (lines : List (List ℕ)) → (b ≡ 10 → ⊥) → AllByRecursion Whole lines → AllByRecursion Whole (onto b lines)
whole-onto b [] e h = ((e, tt), tt)
whole-onto b (line ∷ lines) e h = ((e, h.0), h.1)

whole : (s : List ℕ) → AllByRecursion Whole (lines_of s)
whole [] = tt
whole (b ∷ bs) =
    elim (cases_eq b 10) [
      | inl e ↦ rw (eq-eqb b 10 e) (tt, whole bs)
      | inr e ↦ rw (ne_eqb b 10 e) (whole-onto b (lines_of bs) e (whole bs))
    ]

pub lines_rejoin : LinesRejoin
lines_rejoin s = (rejoined s, whole s)
