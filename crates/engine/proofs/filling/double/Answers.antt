-- The upper half of each power of two from the lower.
-- Assumes nothing.
use Rattle.std.proofs.Common.{◌≡◌, ℕ, ◌+◌, ◌-◌, ◌*◌, ◌/◌, ◌%◌, ◌^◌, ◌<◌, ◌≤◌, length, get_or, set, sym, refl, ap, ◌∙◌, ap₂, arith, length-set, get_or-set_same, pow_pos, pow_mono, pow-add, shl_lt}
use lib.Pow.{shl-shr}
use Rattle.std.proofs.lemmas.Nat.{one_shl}
use Rattle.poly.specs.Poly.{rem, clmul}
use Rattle.poly.proofs.Steps.{times_none}
use Rattle.poly.proofs.Aligned.{to_top, more_at_top, down_to}
use Rattle.engine.proofs.Aligned.{power_aligned}
use Rattle.engine.proofs.TableSums.{fill_none, fill_write}
use Rattle.engine.proofs.filling.double.Goals as goal

-- there is room for the upper half
room : (k rounds half i n : ℕ) → half ≡ 2 ^ k → i < half → k < rounds → 2 ^ rounds ≤ n → half + i < n
room k rounds half i n e l lk ln =
    let m : 2 ^ k * 2 ≡ 2 ^ (k + 1) = sym (pow-add 2 k 1) in
    let b : 2 ^ (k + 1) ≤ 2 ^ rounds = pow_mono {i = k + 1} {j = rounds} (omega arith) in
    omega arith

pub loop-k-init : goal.loop-k-init
loop-k-init c =
    let g = c.args.generator in
    let p = pow_pos c.args.rounds in
    let top : 32 - c.degree-top.result ≡ 32 - g.degree = omega arith in (
      top,
      ap (λ s. c.args.first * 2 ^ s % 2 ^ 32) top ∙ to_top g.degree g.low g.ok.2 g.ok.1 c.args.first c.requires.1.1.1
          ∙ ap (λ x. x * 2 ^ (32 - g.degree)) (times_none g.degree g.low g.ok.2 c.args.first c.requires.1.1.1),
      λ a l.
          let z : a ≡ 0 = omega arith in
          ap (λ x. get_or (set c.args.entries.now 0 0) x 0) z ∙ get_or-set_same c.args.entries.now 0 0 0 (omega arith)
          ∙ fill_none (g.degree + c.args.up) (g.low * 2 ^ c.args.up) (shl_lt g.degree c.args.up g.ok.2) (c.args.first * 2 ^ c.args.up)
          ∙ ap (λ x. rem (g.degree + c.args.up) (g.low * 2 ^ c.args.up) (clmul x (c.args.first * 2 ^ c.args.up))) (sym z),
    )

pub bounds-entries-half : goal.bounds-entries-half
bounds-entries-half c =
    room c.loop-k.k c.args.rounds (1 * 2 ^ c.loop-k.k % 2 ^ 64) c.loop-i.i (length c.loop-i.entries)
    (one_shl c.loop-k.k 64 (omega arith)) c.loop-i-test.true c.loop-k-test.true (omega (arith, length-set c.args.entries.now 0 0))

pub bounds-entries-i : goal.bounds-entries-i
bounds-entries-i c =
    let r = room c.loop-k.k c.args.rounds (1 * 2 ^ c.loop-k.k % 2 ^ 64) c.loop-i.i (length c.loop-i.entries)
    (one_shl c.loop-k.k 64 (omega arith)) c.loop-i-test.true c.loop-k-test.true (omega (arith, length-set c.args.entries.now 0 0)) in
    omega arith

pub loop-i-preserved : goal.loop-i-preserved
loop-i-preserved c =
    let g = c.args.generator in
    let n : 1 * 2 ^ c.loop-k.k % 2 ^ 64 ≡ 2 ^ c.loop-k.k = one_shl c.loop-k.k 64 (omega arith) in
    let r = room c.loop-k.k c.args.rounds (1 * 2 ^ c.loop-k.k % 2 ^ 64) c.loop-i.i (length c.loop-i.entries)
    n c.loop-i-test.true c.loop-k-test.true (omega (arith, length-set c.args.entries.now 0 0)) in
    let up = c.args.up in
    let x : ℕ = rem g.degree g.low (c.args.first * 2 ^ c.loop-k.k) in
    let head : c.loop-k.power / 2 ^ (32 - c.degree-top.result - up) ≡ rem (g.degree + up) (g.low * 2 ^ up) (c.args.first * 2 ^ up * 2 ^ c.loop-k.k) =
    ap₂ (λ p t. p / 2 ^ (t - up)) c.loop-k.invariant.1 c.loop-k.invariant.0
    ∙ down_to g.degree g.low g.ok.2 g.ok.1 up c.requires.1.1.0 x
    ∙ power_aligned g.degree up g.low g.ok.2 c.args.first c.loop-k.k x refl in
    fill_write (g.degree + up) (g.low * 2 ^ up) (shl_lt g.degree up g.ok.2) c.loop-i.entries (c.args.first * 2 ^ up) c.loop-k.k
    _ (1 * 2 ^ c.loop-k.k % 2 ^ 64) c.loop-i.i n (omega arith) r head c.loop-i.invariant

pub loop-k-preserved : goal.loop-k-preserved
loop-k-preserved c =
    let g = c.args.generator in
    let low = ap₂ (λ l s. l * 2 ^ s % 2 ^ 32) c.low.ensures c.loop-k.invariant.0 ∙ to_top g.degree g.low g.ok.2 g.ok.1 g.low g.ok.2 in (
      c.loop-k.invariant.0,
      more_at_top g.degree g.low g.ok.2 g.ok.1 _ low c.args.first c.loop-k.k c.loop-k.power c.twice_at_top-power.result
          c.loop-k.invariant.1 c.twice_at_top-power.ensures,
      λ a l.
          let n : 1 * 2 ^ c.loop-k.k % 2 ^ 64 ≡ 2 ^ c.loop-k.k = one_shl c.loop-k.k 64 (omega arith) in
          let m : 2 ^ (c.loop-k.k + 1) ≡ 2 ^ c.loop-k.k * 2 = pow-add 2 c.loop-k.k 1 in
          c.loop-i.invariant a (omega arith),
    )

pub returns-clause-next : goal.returns-clause-next
returns-clause-next c =
    let g = c.args.generator in
    let x : ℕ = rem g.degree g.low (c.args.first * 2 ^ c.loop-k.k) in
    let all : c.loop-k.k ≡ c.args.rounds = omega arith in
    ap₂ (λ p t. p / 2 ^ t) c.loop-k.invariant.1 c.loop-k.invariant.0 ∙ shl-shr x (32 - g.degree)
    ∙ ap (λ n. rem g.degree g.low (c.args.first * 2 ^ n)) all
