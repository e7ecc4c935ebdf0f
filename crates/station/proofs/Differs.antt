-- The first place where two strings differ.
-- Assumes nothing.
use Rattle.std.proofs.Common.{◌≡◌, ℕ, suc, min, Bool, true, false, cond, not, eqb, List, [], ◌∷◌, length, Some, None, Option, sym, refl, ap, ◌∙◌, arith, eq-eqb, eqb-true}
use lib.Dec.{eqb-zero-suc, eqb-suc-zero, eqb-suc-suc}
use Rattle.std.specs.Bool.{then_some}
use Rattle.std.specs.List.{position, zip}
use Rattle.std.specs.Option.{option_map, option_or}
use Rattle.station.specs.Frame.{differ}
use Rattle.station.proofs.First.{first-here, first-later}

no_way : {A : Type 0} → ◌≡◌ {A = ℕ} 0 1 → A
no_way e = absurd (omega (arith, e))

pub differ_same : (xs : List ℕ) → differ xs xs ≡ None
differ_same [] = refl
differ_same (x ∷ xs) = let t = eq-eqb x x refl in rw t (ap (option_map suc) (differ_same xs))

both : (b : Bool) (o : Option ℕ) → cond b (option_map suc o) (Some 0) ≡ None → (b ≡ true) × (o ≡ None)
both true None p = (refl, refl)
both true (Some i) p = no_way (cc)
both false o p = no_way (cc)

pub differ-none : (xs ys : List ℕ) → differ xs ys ≡ None → xs ≡ ys
differ-none [] [] p = refl
differ-none [] (y ∷ ys) p = no_way (cc)
differ-none (x ∷ xs) [] p = no_way (cc)
differ-none (x ∷ xs) (y ∷ ys) p =
    let h = both (eqb x y) (differ xs ys) p in
    let same = eqb-true x y h.0 in
    let rest = differ-none xs ys h.1 in
    cc

-- ---- the first pair that differs, or the end of the shorter string

abbrev pub unlike : ℕ × ℕ → Bool
unlike p = not (eqb p.0 p.1)

-- where no pair differs
abbrev ended : List ℕ → List ℕ → Option ℕ
ended xs ys = cond (eqb (length xs) (length ys)) None (Some (min (length xs) (length ys)))

flagged : (b : Bool) (k : ℕ) → then_some (not b) k ≡ cond b None (Some k)
flagged true k = refl
flagged false k = refl

-- .. as it is worked out
pub by_flag : (n m k : ℕ) → k ≡ min n m → then_some (not (eqb n m)) k ≡ cond (eqb n m) None (Some (min n m))
by_flag n m k e = flagged (eqb n m) k ∙ ap (λ j. cond (eqb n m) None (Some j)) e

further : (o : Option ℕ) (b : Bool) (k : ℕ) → option_or (option_map suc o) (cond b None (Some (suc k))) ≡ option_map suc (option_or o (cond b None (Some k)))
further (Some i) b k = refl
further None true k = refl
further None false k = refl

end_further : (x y : ℕ) (xs ys : List ℕ) (o : Option ℕ) → option_or (option_map suc o) (ended (x ∷ xs) (y ∷ ys)) ≡ option_map suc (option_or o (ended xs ys))
end_further x y xs ys o =
    let e : eqb (suc (length xs)) (suc (length ys)) ≡ eqb (length xs) (length ys) = eqb-suc-suc (length xs) (length ys) in
    let k : min (suc (length xs)) (suc (length ys)) ≡ suc (min (length xs) (length ys)) = omega arith in
    rw (e, k) (further o (eqb (length xs) (length ys)) (min (length xs) (length ys)))

pair : (b : Bool) (x y : ℕ) (xs ys : List ℕ) → eqb x y ≡ b → option_or (position unlike (zip xs ys)) (ended xs ys) ≡ differ xs ys
    → option_or (position unlike ((x, y) ∷ zip xs ys)) (ended (x ∷ xs) (y ∷ ys)) ≡ cond (eqb x y) (option_map suc (differ xs ys)) (Some 0)
pair true x y xs ys t h =
    ap (λ o. option_or o (ended (x ∷ xs) (y ∷ ys))) (first-later unlike (x, y) (zip xs ys) (ap not t))
    ∙ end_further x y xs ys (position unlike (zip xs ys)) ∙ ap (option_map suc) h ∙ sym (rw t refl)
pair false x y xs ys f h =
    ap (λ o. option_or o (ended (x ∷ xs) (y ∷ ys))) (first-here unlike (x, y) (zip xs ys) (ap not f)) ∙ sym (rw f refl)

pub differ_by : (xs ys : List ℕ) → option_or (position unlike (zip xs ys)) (ended xs ys) ≡ differ xs ys
differ_by [] [] = refl
differ_by [] (y ∷ ys) =
    let e : eqb 0 (suc (length ys)) ≡ false = eqb-zero-suc (length ys) in
    let k : min 0 (suc (length ys)) ≡ 0 = omega arith in
    rw (e, k) refl
differ_by (x ∷ xs) [] =
    let e : eqb (suc (length xs)) 0 ≡ false = eqb-suc-zero (length xs) in
    let k : min (suc (length xs)) 0 ≡ 0 = omega arith in
    rw (e, k) refl
differ_by (x ∷ xs) (y ∷ ys) = pair (eqb x y) x y xs ys refl (differ_by xs ys)
