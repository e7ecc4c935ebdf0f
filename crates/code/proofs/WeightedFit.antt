-- What the rules of kind 3 say where they are kept.
-- Assumes nothing.
use Rattle.std.proofs.Common.{◌≡◌, ℕ, ◌-◌, ◌*◌, ◌/◌, ◌%◌, ◌^◌, ◌<◌, ◌≤◌, true, ◌&&◌, ◌||◌, eqb, leb, ◌⊎◌, ◌++◌, inl, inr, arith}
use Rattle.std.proofs.lemmas.Bool.{leb-true, eqb-true, and_parts, or_cases}
use Rattle.answer.proofs.Ruled.{Kept, kept, kept_append}
use Rattle.poly.specs.Poly.{terms}
use Rattle.words.specs.Tuples.{Size}
use Rattle.code.specs.declared.description.Description.{Description}
use Rattle.code.specs.Model.{Admits, described_rules}
use Rattle.code.specs.Fields.{period_at_least}
use Rattle.code.specs.WeightedModel.{weighted_degree, second_degree, weighted_sizes, weighted_reaches, weighted_model}
use Rattle.code.proofs.FieldRules.{proper_low_lem, lawful_reach_lem}

pub sized : (s : ℕ) → Size s → (1 ≤ s) × (s ≤ 4)
sized s (inl e) = (omega arith, omega arith)
sized s (inr (inl e)) = (omega arith, omega arith)
sized s (inr (inr e)) = (omega arith, omega arith)

-- the degrees and the tuple
pub record Shape (d : Description) : Type 0 where
  pub size : Size d.tuple
  pub bits : d.degree ≡ 8 * d.tuple
  pub least2 : 2 ≤ d.degree2
  pub most2 : d.degree2 ≤ 16
  pub below2 : d.degree2 ≤ 8 * d.tuple

-- the low parts and the terms too
pub record Fit (d : Description) : Type 0 where
  pub shape : Shape d
  pub small : d.low < 2 ^ d.degree
  pub odd : d.low % 2 ≡ 1
  pub small2 : d.low2 < 2 ^ d.degree2
  pub odd2 : d.low2 % 2 ≡ 1
  pub even : terms d.degree2 d.low2 % 2 ≡ 0

pub size : (h s : ℕ) → weighted_degree h ≡ true → s ≡ h / 8 → Size s × (h ≡ 8 * s)
size h s e t = go (or_cases (eqb h 8 || eqb h 16) (eqb h 32) e)
  where
    short : (eqb h 8 ≡ true) ⊎ (eqb h 16 ≡ true) → Size s × (h ≡ 8 * s)
    short (inl p) = let q = eqb-true h 8 p in (inl (omega arith), omega arith)
    short (inr p) = let q = eqb-true h 16 p in (inr (inl (omega arith)), omega arith)

    go : ((eqb h 8 || eqb h 16) ≡ true) ⊎ (eqb h 32 ≡ true) → Size s × (h ≡ 8 * s)
    go (inl p) = short (or_cases (eqb h 8) (eqb h 16) p)
    go (inr p) = let q = eqb-true h 32 p in (inr (inr (omega arith)), omega arith)

second : (h m : ℕ) → second_degree h m ≡ true → (2 ≤ m) × (m ≤ 16) × (m ≤ h)
second h m e =
    let p = and_parts (leb 2 m && leb m 16) (leb m h) e in
    let q = and_parts (leb 2 m) (leb m 16) p.0 in
    (leb-true 2 m q.0, leb-true m 16 q.1, leb-true m h p.1)

pub shape : (d : Description) → Kept (weighted_sizes d) → Shape d
shape d (a, (b, (c, _))) =
    let s = size d.degree d.tuple a (eqb-true d.tuple (d.degree / 8) c) in
    let m = second d.degree d.degree2 b in
    record { size = s.0; bits = s.1; least2 = m.0; most2 = m.1; below2 = omega arith }

pub fit : (d : Description) → Kept (weighted_model.fits d) → Fit d
fit d (a, (b, (c, (e, (f, (g, _)))))) =
    let p = proper_low_lem d.degree d.low e in
    let q = proper_low_lem d.degree2 d.low2 f in
    record {
      shape = shape d (a, (b, (c, tt)));
      small = p.0;
      odd = p.1;
      small2 = q.0;
      odd2 = q.1;
      even = eqb-true (terms d.degree2 d.low2 % 2) 0 g;
    }

pub record Far-enough (d : Description) (reach : ℕ) : Type 0 where
  pub whole : reach % d.tuple ≡ 0
  pub least : 3 * d.tuple ≤ reach
  pub most : reach ≤ 4096
  pub first : period_at_least d.degree d.low (reach / d.tuple - 1) ≡ true
  pub second : period_at_least d.degree2 d.low2 (8 * d.tuple) ≡ true

pub far_enough : (d : Description) (reach : ℕ) → Kept (weighted_reaches d reach) → Far-enough d reach
far_enough d reach (a, (b, (c, _))) =
    let p = lawful_reach_lem d.tuple (2 * d.tuple) reach a in
    record { whole = p.0; least = omega arith; most = p.2; first = b; second = c }

module _ (d : Description) (reach : ℕ) (admitted : Admits weighted_model d reach) where
  rules : Kept (described_rules weighted_model d) × Kept (weighted_reaches d reach)
  rules =
      kept_append (described_rules weighted_model d) (weighted_reaches d reach)
      (kept tt (described_rules weighted_model d ++ weighted_reaches d reach) admitted)

  pub admitted_fit : Fit d
  admitted_fit = fit d rules.0.1

  pub admitted_far : Far-enough d reach
  admitted_far = far_enough d reach rules.1
