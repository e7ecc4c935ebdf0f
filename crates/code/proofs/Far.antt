-- A period that was looked for and is long enough: no power of X below it leaves 1.
-- Assumes nothing.
use Rattle.std.proofs.Common.{◌≡◌, ℕ, zero, suc, ◌+◌, ◌^◌, ◌<◌, ◌≤◌, Bool, true, false, cond, eqb, Some, None, Option, refl, subst, add-one, arith}
use Rattle.std.proofs.lemmas.Bool.{leb-true, eqb-false}
use Rattle.poly.specs.Poly.{rem}
use Rattle.poly.specs.Period.{Returns, NoReturn, first_return}
use Rattle.poly.proofs.Walks.{none_more}
use Rattle.code.specs.Fields.{at_least}

-- nothing returned before what a search up to n found, or up to n
abbrev Before : ℕ → ℕ → ℕ → Option ℕ → Type 0
Before h low n (Some i) = NoReturn h low i
Before h low n None = NoReturn h low (n + 1)

first_before : (h low n : ℕ) → Before h low n (first_return h low n)
unfolding first_return
first_before h low zero = λ j l m e. let z : j < 1 = m in omega arith
first_before h low (suc n) = go (first_return h low n) (first_before h low n)
  where
    here : (b : Bool) → eqb (rem h low (2 ^ suc n)) 1 ≡ b → NoReturn h low (suc n) → Before h low (suc n) (cond b (Some (suc n)) None)
    here true e f = f
    here false e f = none_more (Returns h low) (suc n) f (eqb-false (rem h low (2 ^ suc n)) 1 e)

    go : (o : Option ℕ) → Before h low n o
        → Before h low (suc n) (elim o [ Some i ↦ Some i | None ↦ cond (eqb (rem h low (2 ^ suc n)) 1) (Some (suc n)) None ])
    go (Some i) f = f
    go None f = here (eqb (rem h low (2 ^ suc n)) 1) refl (subst (NoReturn h low) (add-one n) f)

pub far : (h low limit n : ℕ) → at_least (first_return h low limit) n ≡ true → n ≤ limit + 1 → NoReturn h low n
far h low limit n = go (first_return h low limit) (first_before h low limit)
  where
    go : (o : Option ℕ) → Before h low limit o → at_least o n ≡ true → n ≤ limit + 1 → NoReturn h low n
    go (Some i) f e l j one below = f j one (omega (arith, leb-true n i e))
    go None f e l j one below = f j one (omega arith)
