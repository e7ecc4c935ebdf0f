-- A bound on the period by computing: a walk over the powers of X, for proofs at numerals.
-- Assumes nothing.
use Rattle.std.proofs.Common.{◌≡◌, ℕ, zero, suc, ◌+◌, ◌*◌, ◌^◌, ◌<◌, ◌≤◌, Bool, true, false, cond, T, eqb, ◌≢◌, sym, ◌∙◌, subst, arith}
use lib.Dec.{eqb_refl}
use lib.Pow.{pow-lt}
use Rattle.poly.specs.Poly.{reduce, rem}
use Rattle.poly.specs.Period.{Returns, NoReturn}
use Rattle.poly.proofs.Division.{rem_lt, rem-small, rem_twice}
use Rattle.poly.proofs.Walks.{power_more, none_more}

-- X^j does not leave 1 for the n values of j after that for which it leaves x.
unfoldable pub walk : ℕ → ℕ → ℕ → ℕ → Bool
unfolding reduce
walk h low zero x = true
walk h low (suc n) x = let y = reduce h low (x * 2) in let rest = walk h low n y in cond (eqb y 1) false rest

unequal : (y : ℕ) (rest : Bool) → T (cond (eqb y 1) false rest) → (y ≢ 1) × T rest
unequal y rest = go (eqb y 1) (λ e. subst (λ z. T (eqb z 1)) (sym e) (eqb_refl 1))
  where
    go : (b : Bool) → (y ≡ 1 → T b) → T (cond b false rest) → (y ≢ 1) × T rest
    go true f t = absurd t
    go false f t = (λ e. f e, t)

module _ (h low : ℕ) (small : low < 2 ^ h) where
  walked : (n i x : ℕ) → x ≡ rem h low (2 ^ i) → NoReturn h low (i + 1) → T (walk h low n x) → NoReturn h low (i + 1 + n)
  unfolding walk
  walked zero i x e before t = subst (NoReturn h low) (omega arith) before
  walked (suc n) i x e before t =
      let y : ℕ = reduce h low (x * 2) in
      let lx : x < 2 ^ h = subst (λ z. z < 2 ^ h) (sym e) (rem_lt h low small (2 ^ i)) in
      let here : y ≡ rem h low (2 ^ (i + 1)) = power_more h low small i x y e (sym (rem_twice h low small x lx)) in
      let s = unequal y (walk h low n y) t in
      subst (NoReturn h low) (omega arith)
      (walked n (i + 1) y here (none_more (Returns h low) (i + 1) before (λ r. s.0 (here ∙ r))) s.1)

  -- a walk of n steps from X^0 shows a period above n
  pub walk_far : (n : ℕ) → 1 ≤ h → T (walk h low n 1) → NoReturn h low (suc n)
  walk_far n h1 t =
      subst (NoReturn h low) (omega arith)
      (walked n 0 1 (sym (rem-small h low small 1 (pow-lt h1))) (λ j l m e. omega arith) t)
