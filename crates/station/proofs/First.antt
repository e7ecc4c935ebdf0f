-- The first place that passes a test, by the list.
-- Assumes nothing.
use Rattle.std.proofs.Common.{◌≡◌, ℕ, suc, ◌+◌, Bool, true, false, cond, ltb, List, ◌∷◌, length, Some, None, refl, arith, lt-ltb}
use lib.Dec.{leb-suc-suc}
use Rattle.std.specs.List.{position, position_or_len}
use Rattle.std.specs.Option.{option_map}

more : (b : Bool) (m : ℕ) → cond b (Some (suc m)) None ≡ option_map suc (cond b (Some m) None)
more true m = refl
more false m = refl

module _ {A : Type 0} (test : A → Bool) where
  pub first-here : (x : A) (xs : List A) → test x ≡ true → position test (x ∷ xs) ≡ Some 0
  first-here x xs t =
      let some : ltb 0 (suc (length xs)) ≡ true = lt-ltb 0 (suc (length xs)) (omega arith) in
      rw (t, some) refl

  pub first-later : (x : A) (xs : List A) → test x ≡ false → position test (x ∷ xs) ≡ option_map suc (position test xs)
  first-later x xs f =
      let m = position_or_len test xs in
      let one : 1 + m ≡ suc m = omega arith in
      let fewer : ltb (suc m) (suc (length xs)) ≡ ltb m (length xs) = leb-suc-suc (suc m) (length xs) in
      rw (f, one, fewer) (more (ltb m (length xs)) m)
