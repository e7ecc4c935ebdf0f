-- The powers of X one after the other.
-- Assumes nothing.
use Rattle.std.proofs.Common.{◌≡◌, ℕ, zero, suc, ◌+◌, ◌*◌, ◌^◌, ◌<◌, ◌≤◌, true, false, eqb, Some, None, Option, sym, refl, ap, ◌∙◌, subst, inl, inr, pow-suc, add-one, arith}
use lib.Pow.{pow-lt}
use Rattle.std.proofs.lemmas.Bool.{cases_eq, eq-eqb, ne_eqb}
use Rattle.poly.specs.Poly.{rem}
use Rattle.poly.specs.Period.{Returns, NoReturn, Period, Walked, first_return, steps_of}
use Rattle.poly.proofs.Division.{rem-shl, rem-small}

module _ (h low : ℕ) (small : low < 2 ^ h) where
  pub power_none : 2 ≤ h → 1 ≡ rem h low (2 ^ 0)
  power_none two = let l : 0 < h = omega arith in sym (rem-small h low small 1 (pow-lt l))

  pub power_more : (i r s : ℕ) → r ≡ rem h low (2 ^ i) → s ≡ rem h low (r * 2) → s ≡ rem h low (2 ^ (i + 1))
  power_more i r s e f =
      f ∙ ap (λ x. rem h low (x * 2)) e ∙ sym (rem-shl h low small (2 ^ i) 1)
      ∙ ap (rem h low) (sym (pow-suc 2 i) ∙ ap (λ n. 2 ^ n) (sym (add-one i)))

-- what holds of no j from 1 up to i, nor of i
pub none_more : (P : ℕ → Type 0) (i : ℕ) → ((j : ℕ) → 1 ≤ j → j < i → P j → ⊥) → (P i → ⊥) → (j : ℕ) → 1 ≤ j → j < i + 1 → P j → ⊥
none_more P i before here j l m e = elim (cases_eq j i) [ inl same ↦ here (subst P same e) | inr other ↦ before j l (omega arith) e ]

-- ---- the first return

unreturned : (h low i : ℕ) → (Returns h low i → ⊥) → eqb (rem h low (2 ^ i)) 1 ≡ false
unreturned h low i n = ne_eqb (rem h low (2 ^ i)) 1 n

pub first_none : (h low n : ℕ) → NoReturn h low (n + 1) → first_return h low n ≡ None
unfolding first_return
first_none h low zero f = refl
first_none h low (suc n) f =
    let before : first_return h low n ≡ None = first_none h low n (λ j l m. f j l (omega arith)) in
    let here : eqb (rem h low (2 ^ suc n)) 1 ≡ false = unreturned h low (suc n) (f (suc n) (omega arith) (omega arith)) in
    rw (before, here)

pub first_some : (h low n i : ℕ) → Period h low i → i ≤ n → first_return h low n ≡ Some i
unfolding first_return
first_some h low zero i (one, _, _) l = absurd (omega arith)
first_some h low (suc n) i (one, here, none) l =
    elim (cases_eq i (suc n)) [
      | inl e ↦
          let e' : i ≡ n + 1 = omega arith in
          let before : first_return h low n ≡ None = first_none h low n (subst (NoReturn h low) e' none) in
          let now : eqb (rem h low (2 ^ suc n)) 1 ≡ true = eq-eqb (rem h low (2 ^ suc n)) 1 (subst (Returns h low) e here) in
          rw (before, now, e)
      | inr ne ↦ let before : first_return h low n ≡ Some i = first_some h low n i (one, here, none) (omega arith) in rw before
    ]

-- the answer of a search is one
pub walked_first : (h low n : ℕ) (o : Option ℕ) (s : ℕ) → Walked h low n o s → (o ≡ first_return h low n) × (s ≡ steps_of n (first_return h low n))
walked_first h low n (Some i) s (p, l, e) = let f = first_some h low n i p l in (sym f, e ∙ sym (ap (steps_of n) f))
walked_first h low n None s (f, e) = let g = first_none h low n f in (sym g, e ∙ sym (ap (steps_of n) g))
