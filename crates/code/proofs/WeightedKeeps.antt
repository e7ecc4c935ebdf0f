-- Kind 3 keeps the two laws.
-- Assumes nothing.
use Rattle.std.proofs.Common.{◌≡◌, ℕ, suc, ◌+◌, ◌-◌, ◌*◌, ◌/◌, ◌^◌, ◌<◌, ◌≤◌, true, List, length, sym, refl, ap, ◌∙◌, subst, ap₂, lt_of_lt_of_le, le-div_iff_mul-le, div-le_self, arith, length-append, pow_mono}
use native.Mathlib.Nat.{div-add-mod, mul-mod_left}
use lib.Bits.{bit_xor}
use Rattle.std.proofs.ByRecursion.{All-append}
use Rattle.poly.specs.Poly.{rem}
use Rattle.poly.specs.Period.{NoReturn}
use Rattle.poly.proofs.Division.{rem_lt}
use Rattle.words.specs.Flips.{Bytes, flips, Notices, Sure}
use Rattle.words.specs.Words.{weighted, plain, WeightedSum}
use Rattle.words.specs.Digits.{digits}
use Rattle.words.specs.Tuples.{tuples}
use Rattle.words.proofs.Checks.{sum-word}
use Rattle.words.proofs.Weighted.{weighted_sum_notices}
use Rattle.words.proofs.DigitBytes.{length_digits, bytes_digits}
use Rattle.code.specs.declared.description.Description.{Description}
use Rattle.code.specs.Model.{Word, Keeps, LawfulSheet}
use Rattle.code.specs.WeightedModel.{first_sum, second_sum, weighted_model}
use Rattle.code.proofs.Far.{far}
use Rattle.code.proofs.WeightedFit.{Fit, Far-enough, sized, admitted_fit, admitted_far}

-- ---- the words

module _ (d : Description) (f : Fit d) where
  tall : 2 ^ d.degree ≡ 2 ^ (8 * d.tuple)
  tall = ap (λ n. 2 ^ n) f.shape.bits

  first_lt : (qs : List ℕ) → first_sum d qs < 2 ^ (8 * d.tuple)
  first_lt qs = subst (λ x. first_sum d qs < x) tall (rem_lt d.degree d.low f.small (weighted qs * 2))

  second_lt : (qs : List ℕ) → second_sum d qs < 2 ^ (8 * d.tuple)
  second_lt qs =
      lt_of_lt_of_le (rem_lt d.degree2 d.low2 f.small2 (bit_xor (plain qs) (first_sum d qs))) (pow_mono f.shape.below2)

  word_sum : (w : List ℕ) → Word weighted_model d w → WeightedSum d.tuple d.low d.degree2 d.low2 w
  word_sum w k =
      let qs : List ℕ = tuples d.tuple k.message in
      subst (WeightedSum d.tuple d.low d.degree2 d.low2) (sym k.is_word)
      (sum-word d.tuple d.low d.degree2 d.low2 k.message (sized d.tuple f.shape.size).0 f.shape.below2
      (subst (λ x. d.low < x) tall f.small) f.small2 k.lawful.tuples k.lawful.bytes (first_sum d qs) (second_sum d qs)
      (ap (λ h. rem h d.low (weighted qs * 2)) f.shape.bits) refl)

  pub check_long : (message : List ℕ) → length (weighted_model.check d message) ≡ 2 * d.tuple
  check_long message =
      let qs : List ℕ = tuples d.tuple message in
      length-append (digits d.tuple (first_sum d qs)) (digits d.tuple (second_sum d qs))
      ∙ ap₂ (λ x y. x + y) (length_digits d.tuple (first_sum d qs)) (length_digits d.tuple (second_sum d qs)) ∙ omega arith

  check_bytes_lem : (message : List ℕ) → Bytes (weighted_model.check d message)
  check_bytes_lem message =
      let qs : List ℕ = tuples d.tuple message in
      All-append (λ b. b < 2 ^ 8) (digits d.tuple (first_sum d qs)) (digits d.tuple (second_sum d qs))
      (bytes_digits d.tuple (first_sum d qs) (first_lt qs)) (bytes_digits d.tuple (second_sum d qs) (second_lt qs))

-- ---- the laws

lawful_sheet : (d : Description) (reach : ℕ) → Fit d → Far-enough d reach → LawfulSheet (weighted_model.sheet d) reach
lawful_sheet d reach f k =
    let s = sized d.tuple f.shape.size in
    let b = f.shape.bits in
    record {
      multiple = k.whole;
      least = let l = k.least in omega arith;
      most = k.most;
      some_tuple = s.0;
      some_burst = omega arith;
      some_few = omega arith;
      some_check = omega arith;
      short_check = omega arith;
      whole_check = mul-mod_left 2 d.tuple;
    }

keeps-apart : (d : Description) (reach : ℕ) → Fit d → Far-enough d reach → Notices (Word weighted_model d) reach d.degree 3 true
keeps-apart d reach f k u v bu bv l r wu wv c =
    let s : ℕ = d.tuple in
    let n : ℕ = reach / s - 1 in
    let s1 = sized s f.shape.size in
    let q : 3 ≤ reach / s = (le-div_iff_mul-le s1.0).1 (omega (arith, k.least)) in
    let q' : reach / s ≤ reach = div-le_self reach s in
    let e : reach / s ≡ suc n = omega arith in
    let z = k.whole in
    let all : reach ≡ s * (reach / s) = omega (arith, div-add-mod reach s) in
    let whole : reach ≡ s * suc n = all ∙ ap (λ x. s * x) e in
    let far1 : NoReturn (8 * s) d.low n =
    subst (λ h. NoReturn h d.low n) f.shape.bits (far d.degree d.low 32768 n k.first (omega (arith, k.most))) in
    let far2 : NoReturn d.degree2 d.low2 (8 * s) = far d.degree2 d.low2 32768 (8 * s) k.second (omega arith) in
    weighted_sum_notices s d.low d.degree2 d.low2 n f.shape.below2 (subst (λ x. d.low < x) (tall d f) f.small) f.odd far1
    f.small2 f.odd2 far2 f.even u v bu bv l (subst (λ x. length u ≤ x) whole r) (word_sum d f u wu) (word_sum d f v wv)
    (subst (λ h. Sure h 3 true (flips u v)) f.shape.bits c)

pub weighted-keeps : Keeps weighted_model
weighted-keeps = record {
  lawful = λ d reach a. lawful_sheet d reach (admitted_fit d reach a) (admitted_far d reach a);
  long = λ d reach a message _. (check_long d (admitted_fit d reach a) message, check_bytes_lem d (admitted_fit d reach a) message);
  apart = λ d reach a. keeps-apart d reach (admitted_fit d reach a) (admitted_far d reach a);
}
