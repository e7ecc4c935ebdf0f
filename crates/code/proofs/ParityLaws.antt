-- Kind 2 keeps the two laws, whatever its engine carries.
-- Assumes nothing.
use Rattle.std.proofs.Common.{◌≡◌, ℕ, suc, ◌+◌, ◌-◌, ◌*◌, ◌%◌, ◌^◌, ◌<◌, ◌≤◌, Bool, true, eqb, List, [], ◌∷◌, ◌++◌, sym, subst, inl, inr, arith}
use native.Mathlib.Nat.{mod-one}
use lib.Count.{ones}
use Rattle.std.proofs.lemmas.Bool.{or_cases, eqb-true}
use Rattle.answer.specs.declared.fault.Layer.TheVariants.{Engine}
use Rattle.answer.specs.Refusal.{refusal}
use Rattle.answer.specs.Rules.{rule}
use Rattle.answer.proofs.Ruled.{Kept, kept, kept_append}
use Rattle.poly.specs.Poly.{terms, polynomial, remainder}
use Rattle.poly.specs.Period.{NoReturn}
use Rattle.words.specs.Words.{CrcParity}
use Rattle.words.proofs.DigitBytes.{length_digits, bytes_digits}
use Rattle.words.proofs.Checks.{even-bit, parity_lt, parity_word}
use Rattle.words.proofs.Words.{crc_parity_notices}
use Rattle.code.specs.declared.description.Description.{Description}
use Rattle.code.specs.Model.{Admits, Keeps, Word, described_rules}
use Rattle.code.specs.CrcModel.{check_bytes, crc_reaches}
use Rattle.code.specs.ParityModel.{parity_degree, parity_asks, even_bit, parity_model}
use Rattle.code.proofs.CrcLaws.{far_of}
use Rattle.code.proofs.FieldRules.{proper_low_lem, lawful_reach_lem}

-- a degree that fills whole bytes with one bit more
pub record Bitwise (h : ℕ) : Type 0 where
  pub bits : 8 * check_bytes h ≡ suc h
  pub least : 8 ≤ h
  pub most : h ≤ 31

pub bitwise : (h : ℕ) → parity_degree h ≡ true → Bitwise h
bitwise h e =
    elim (or_cases _ (eqb h 31) e) [
      | inr d ↦ let q = eqb-true h 31 d in omega arith
      | inl k ↦
          elim (or_cases (eqb h 15) (eqb h 23) k) [
            | inl d ↦ let q = eqb-true h 15 d in omega arith
            | inr d ↦ let q = eqb-true h 23 d in omega arith
          ]
    ]

pub record Fit (d : Description) : Type 0 where
  pub degree : Bitwise d.degree
  pub small : d.low < 2 ^ d.degree
  pub constant : d.low % 2 ≡ 1
  pub uneven : terms d.degree d.low % 2 ≡ 1

pub fit_of : (d : Description) → Kept (parity_asks d) → Fit d
fit_of d k =
    let p = proper_low_lem d.degree d.low k.1.1.1.1.1.0 in
    record {
      degree = bitwise d.degree k.1.0;
      small = p.0;
      constant = p.1;
      uneven = eqb-true (terms d.degree d.low % 2) 1 k.1.1.1.1.1.1.0;
    }

-- ---- the check as a number

abbrev pub checked : Description → List ℕ → ℕ
checked d message = remainder d.degree d.low message * 2 + even_bit d message

pub check_lt : (d : Description) (message : List ℕ) → Fit d → checked d message < 2 ^ (8 * check_bytes d.degree)
check_lt d message f = parity_lt d.degree d.low (check_bytes d.degree) f.small f.degree.bits message

-- the ones of the message and of the remainder
pub even_bit_lem : (d : Description) (message : List ℕ)
    → even_bit d message ≡ (ones (polynomial message) + ones (remainder d.degree d.low message)) % 2
even_bit_lem d message = even-bit d.degree d.low message

word_of : (carries : ℕ → ℕ → Bool) (d : Description) (w : List ℕ) → Fit d → Word (parity_model carries) d w → CrcParity d.degree d.low w
word_of carries d w f k =
    subst (CrcParity d.degree d.low) (sym k.is_word)
    (parity_word d.degree d.low (check_bytes d.degree) f.small f.degree.bits k.message)

-- ---- the laws

module _ (carries : ℕ → ℕ → Bool) (d : Description) (reach : ℕ) (admits : Admits (parity_model carries) d reach) where
  rules : Kept (described_rules (parity_model carries) d) × Kept (crc_reaches d reach)
  rules = kept_append (described_rules (parity_model carries) d) (crc_reaches d reach) (kept tt (described_rules (parity_model carries) d ++ crc_reaches d reach) admits)

  fit : Fit d
  fit = fit_of d (kept_append (parity_asks d) (rule (carries d.degree d.low) (refusal 15 Engine 4) ∷ []) rules.0).0

  lawful : (reach % 1 ≡ 0) × (check_bytes d.degree + 1 ≤ reach) × (reach ≤ 4096)
  lawful = lawful_reach_lem 1 (check_bytes d.degree) reach rules.1.0

less : (h low n : ℕ) → NoReturn h low n → NoReturn h low (n - 1)
less h low n f j l m = f j l (omega arith)

pub parity_keeps : (carries : ℕ → ℕ → Bool) → Keeps (parity_model carries)
parity_keeps carries = record {
  lawful = λ d reach a.
      let f = fit carries d reach a in
      let r = lawful carries d reach a in
      record {
        multiple = r.0;
        least = r.1;
        most = r.2;
        some_tuple = omega arith;
        some_burst = omega arith;
        some_few = omega arith;
        some_check = omega (arith, f.degree.least);
        short_check = omega (arith, f.degree.most);
        whole_check = mod-one (check_bytes d.degree);
      };
  long = λ d reach a message l.
      let f = fit carries d reach a in
      (length_digits (check_bytes d.degree) (checked d message), bytes_digits (check_bytes d.degree) (checked d message) (check_lt d message f));
  apart = λ d reach a u v bu bv l short wu wv.
      let f = fit carries d reach a in
      crc_parity_notices d.degree d.low reach f.small f.constant
      (less d.degree d.low (8 * reach) (far_of d reach (rules carries d reach a).1)) f.uneven u v bu bv l short
      (word_of carries d u f wu) (word_of carries d v f wv);
}
