-- Kind 1 keeps the two laws, whatever its engine carries.
-- Assumes nothing.
use Rattle.std.proofs.Common.{◌≡◌, ℕ, ◌+◌, ◌*◌, ◌%◌, ◌^◌, ◌<◌, ◌≤◌, Bool, true, false, cond, eqb, List, [], ◌∷◌, ◌++◌, sym, refl, subst, inl, inr, arith}
use native.Mathlib.Nat.{mod-one}
use Rattle.std.proofs.lemmas.Bool.{or_cases, eqb-true}
use Rattle.answer.specs.declared.fault.Layer.TheVariants.{Engine}
use Rattle.answer.specs.Refusal.{refusal}
use Rattle.answer.specs.Rules.{rule}
use Rattle.answer.proofs.Ruled.{Kept, kept, kept_append}
use Rattle.poly.specs.Poly.{terms, remainder}
use Rattle.poly.specs.Period.{NoReturn}
use Rattle.words.specs.Flips.{Notices}
use Rattle.words.specs.Words.{Crc}
use Rattle.words.proofs.DigitBytes.{length_digits, bytes_digits}
use Rattle.words.proofs.Checks.{crc-lt, crc-word}
use Rattle.words.proofs.Words.{crc_notices, crc_even_notices}
use Rattle.code.specs.declared.description.Description.{Description}
use Rattle.code.specs.Model.{Admits, Keeps, Word, described_rules}
use Rattle.code.specs.CrcModel.{check_bytes, crc_degree, crc_asks, crc_reaches, even_terms, crc_model}
use Rattle.code.proofs.Far.{far}
use Rattle.code.proofs.FieldRules.{proper_low_lem, lawful_reach_lem}

-- ---- what kept rules say

-- a degree of whole bytes
pub record Bytewise (h : ℕ) : Type 0 where
  pub bits : 8 * check_bytes h ≡ h
  pub least : 8 ≤ h
  pub most : h ≤ 32

pub bytewise : (h : ℕ) → crc_degree h ≡ true → Bytewise h
bytewise h e =
    elim (or_cases _ (eqb h 32) e) [
      | inr d ↦ let q = eqb-true h 32 d in omega arith
      | inl f ↦
          elim (or_cases _ (eqb h 24) f) [
            | inr d ↦ let q = eqb-true h 24 d in omega arith
            | inl k ↦
                elim (or_cases (eqb h 8) (eqb h 16) k) [
                  | inl d ↦ let q = eqb-true h 8 d in omega arith
                  | inr d ↦ let q = eqb-true h 16 d in omega arith
                ]
          ]
    ]

pub record Fit (d : Description) : Type 0 where
  pub degree : Bytewise d.degree
  pub small : d.low < 2 ^ d.degree
  pub constant : d.low % 2 ≡ 1

-- what is asked before the engine is
pub fit_asked : (d : Description) → Kept (crc_asks d) → Fit d
fit_asked d k =
    let p = proper_low_lem d.degree d.low k.1.1.1.1.1.0 in
    record { degree = bytewise d.degree k.1.0; small = p.0; constant = p.1 }

pub fit_of : (carries : ℕ → ℕ → Bool) (d : Description) → Kept (described_rules (crc_model carries) d) → Fit d
fit_of carries d k = fit_asked d (kept_append (crc_asks d) (rule (carries d.degree d.low) (refusal 15 Engine 4) ∷ []) k).0

-- the period that is asked for
pub far_of : (d : Description) (reach : ℕ) → Kept (crc_reaches d reach) → NoReturn d.degree d.low (8 * reach)
far_of d reach k =
    let r = lawful_reach_lem 1 (check_bytes d.degree) reach k.0 in
    far d.degree d.low 32768 (8 * reach) k.1.0 (omega (arith, r.2))

-- ---- the laws

check_lt : (d : Description) (message : List ℕ) → Fit d → remainder d.degree d.low message < 2 ^ (8 * check_bytes d.degree)
check_lt d message f = crc-lt d.degree d.low (check_bytes d.degree) f.small f.degree.bits message

word_of : (carries : ℕ → ℕ → Bool) (d : Description) (w : List ℕ) → Fit d → Word (crc_model carries) d w → Crc d.degree d.low w
word_of carries d w f k =
    subst (Crc d.degree d.low) (sym k.is_word)
    (crc-word d.degree d.low (check_bytes d.degree) f.small f.degree.bits k.message)

some_few : (b : Bool) → 1 ≤ cond b 3 2
some_few true = omega arith
some_few false = omega arith

notices : (d : Description) (reach : ℕ) → Fit d → NoReturn d.degree d.low (8 * reach) → (b : Bool) → even_terms d ≡ b
    → Notices (Crc d.degree d.low) reach d.degree (cond b 3 2) b
notices d reach f r true e =
    crc_even_notices d.degree d.low reach f.small f.constant r (eqb-true (terms d.degree d.low % 2) 0 e)
notices d reach f r false e = crc_notices d.degree d.low reach f.small f.constant r

module _ (carries : ℕ → ℕ → Bool) (d : Description) (reach : ℕ) (admits : Admits (crc_model carries) d reach) where
  rules : Kept (described_rules (crc_model carries) d) × Kept (crc_reaches d reach)
  rules = kept_append (described_rules (crc_model carries) d) (crc_reaches d reach) (kept tt (described_rules (crc_model carries) d ++ crc_reaches d reach) admits)

  fit : Fit d
  fit = fit_of carries d rules.0

  lawful : (reach % 1 ≡ 0) × (check_bytes d.degree + 1 ≤ reach) × (reach ≤ 4096)
  lawful = lawful_reach_lem 1 (check_bytes d.degree) reach rules.1.0

pub crc-keeps : (carries : ℕ → ℕ → Bool) → Keeps (crc_model carries)
crc-keeps carries = record {
  lawful = λ d reach a.
      let f = fit carries d reach a in
      let r = lawful carries d reach a in
      record {
        multiple = r.0;
        least = r.1;
        most = r.2;
        some_tuple = omega arith;
        some_burst = omega (arith, f.degree.least);
        some_few = some_few (even_terms d);
        some_check = omega (arith, f.degree.least);
        short_check = omega (arith, f.degree.most);
        whole_check = mod-one (check_bytes d.degree);
      };
  long = λ d reach a message l.
      let f = fit carries d reach a in
      let x = remainder d.degree d.low message in
      (length_digits (check_bytes d.degree) x, bytes_digits (check_bytes d.degree) x (check_lt d message f));
  apart = λ d reach a u v bu bv l short wu wv.
      let f = fit carries d reach a in
      notices d reach f (far_of d reach (rules carries d reach a).1) (even_terms d) refl u v bu bv l short
      (word_of carries d u f wu) (word_of carries d v f wv);
}
