-- Rules one after the other.
-- Assumes nothing.
use Rattle.std.proofs.Common.{◌≡◌, Ok, Err, Result, sym, refl, ap}
use Rattle.answer.specs.Refusal.{Refusal}
use Rattle.answer.specs.Rules.{then}

module _ {A B : Type 0} where
  -- a step that succeeded
  pub then_at : (x : Result A Refusal) (v : A) (f : A → Result B Refusal) → Ok v ≡ x → then x f ≡ f v
  then_at x v f e = ap (λ y. then y f) (sym e)

  -- steps that go on alike wherever the first succeeds
  pub then-alike : (x : Result A Refusal) (f g : A → Result B Refusal) → ((v : A) → x ≡ Ok v → f v ≡ g v) → then x f ≡ then x g
  then-alike (Ok v) f g h = h v refl
  then-alike (Err r) f g h = refl
