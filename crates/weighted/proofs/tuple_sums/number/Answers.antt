-- One byte more.
-- Assumes nothing.
use Rattle.std.proofs.Common.{◌≡◌, ℕ, ◌+◌, ◌*◌, ◌%◌, ◌^◌, ◌<◌, ◌≤◌, List, ◌∷◌, [], ◌++◌, length, refl, sym, ap, ◌∙◌, subst, lt_of_lt_of_le, arith, rules, pow_mono, shl_lt}
use lib.Bits.{bit_xor, xor_lt}
use Rattle.std.proofs.lemmas.Fn.{fold_over, slice_gives, fronts}
use Rattle.std.proofs.lemmas.List.{length_push}
use Rattle.poly.specs.Poly.{string}
use Rattle.poly.proofs.Digits.{string_push}
use Rattle.weighted.proofs.tuple_sums.number.Goals as goal

-- Of up to four bytes nothing is cut.
Held : List ℕ → ℕ → Type 0
Held ys n = length ys ≤ 4 → (n ≡ string 8 ys) × (n < 2 ^ (8 * length ys))

more : (ys : List ℕ) (a x b : ℕ) → Held ys a → x < 256 → b ≡ bit_xor (a * 256 % 4294967296) x → Held (ys ++ (x ∷ [])) b
unfolding Held
more ys a x b held byte e l =
    let long : length (ys ++ (x ∷ [])) ≡ length ys + 1 = length_push ys x in
    let h = held (omega (arith, long)) in
    let few : 8 * length ys ≤ 24 = omega (arith, long, l) in
    let short : a < 2 ^ 24 = lt_of_lt_of_le h.1 (pow_mono few) in
    let whole : a * 256 % 4294967296 ≡ a * 256 = omega (arith, short) in
    let wide : 8 ≤ 8 * length ys + 8 = omega arith in
    let bits : 8 * length (ys ++ (x ∷ [])) ≡ 8 * length ys + 8 = omega (arith, long) in
    let small : x < 2 ^ 8 = byte in (
      e ∙ ap (λ y. bit_xor y x) (whole ∙ ap (λ y. y * 256) h.0) ∙ sym (string_push 8 ys x),
      subst (λ y. y < 2 ^ (8 * length (ys ++ (x ∷ [])))) (sym e)
          (subst (λ k. bit_xor (a * 256 % 4294967296) x < 2 ^ k) (sym bits)
          (xor_lt (8 * length ys + 8) (a * 256 % 4294967296) x
          (subst (λ y. y < 2 ^ (8 * length ys + 8)) (sym whole) (shl_lt (8 * length ys) 8 h.1))
          (lt_of_lt_of_le small (pow_mono wide)))),
    )

pub returns : goal.returns
unfolding Held
returns g c =
    let z = fold_over fronts (λ y. y.now) _ Held _
    (λ ys a x b f' j k. (more ys a x.now b j (omega arith) (search rules), search rules))
    _ _ _ _ (slice_gives c.iter.result) (λ l. (refl, omega arith)) c.fold.ensures.ran in
    let t = c.args.tuple.now in
    let same : c.iter.result.rest.now ≡ t = c.iter.ensures.rest in
    let here = subst (λ ys. Held ys c.fold.result) same z in
    let done = here (omega (arith, c.told-tuple, c.requires)) in
    record { number = done.0; below = subst (λ n. c.fold.result < 2 ^ (8 * n)) c.told-tuple done.1 }
