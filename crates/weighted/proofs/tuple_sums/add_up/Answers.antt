-- One tuple a turn, and in the end all of them.
-- Assumes nothing.
use Rattle.std.proofs.Common.{◌≡◌, ℕ, ◌+◌, ◌-◌, ◌*◌, ◌/◌, ◌%◌, ◌^◌, ◌<◌, List, [], ◌∷◌, ◌++◌, map, length, take, get_or, sym, ap, ◌∙◌, subst, zero-mul, refl, arith}
use lib.Bits.{bit_xor}
use lib.Pow.{shl-shr}
use Rattle.std.proofs.lemmas.List.{take_more, take_all, map_push}
use Rattle.poly.specs.Poly.{rem, string}
use Rattle.poly.proofs.Division.{rem-zero}
use Rattle.words.specs.Words.{weighted, plain}
use Rattle.words.specs.Tuples.{tuples}
use Rattle.words.proofs.Members.{plain_push}
use Rattle.weighted.proofs.SumSteps.{weighted_more, chunks_are}
use Rattle.weighted.proofs.tuple_sums.add_up.Goals as goal

pub loop-tuple-init : goal.loop-tuple-init
loop-tuple-init g c =
    let p = c.args.generator in
    let up : ℕ = 2 ^ (32 - 8 * g.row.N) in
    (sym (ap (λ x. x * up) (rem-zero p.degree p.low p.ok.2) ∙ zero-mul up), refl)

pub loop-tuple-preserved : goal.loop-tuple-preserved
loop-tuple-preserved g c =
    let p = c.args.generator in
    let up : ℕ = 32 - 8 * g.row.N in
    let i : ℕ = c.loop-tuple.tuple-index in
    let q : ℕ = c.number-q.result in
    let cs = c.as_chunks.result.0.now in
    let t = c.tuple-item.result in
    let qs : List ℕ = map (string 8) (take i cs) in
    let more : map (string 8) (take (i + 1) cs) ≡ qs ++ q ∷ [] =
    ap (map (string 8)) (take_more cs i t c.loop-tuple-test.true) ∙ map_push (string 8) (take i cs) (get_or cs i t)
    ∙ ap (λ x. qs ++ x ∷ []) (ap (string 8) (sym c.tuple-item.is) ∙ sym c.number-q.ensures.number) in
    let below : q < 2 ^ p.degree = subst (λ n. q < 2 ^ n) (sym c.requires.1) c.number-q.ensures.below in (
      weighted_more p.degree p.low p.ok.2 p.ok.1 up (c.low.result * 2 ^ up % 2 ^ 32) (ap (λ n. 32 - n) (sym c.requires.1))
          (ap (λ x. x * 2 ^ up % 2 ^ 32) c.low.ensures) qs q c.loop-tuple.horner c.twice_at_top.result below
          c.loop-tuple.invariant.0 c.twice_at_top.ensures
          ∙ ap (λ qs. rem p.degree p.low (weighted qs) * 2 ^ up) (sym more),
      ap (λ x. bit_xor x q) c.loop-tuple.invariant.1 ∙ sym (plain_push qs q) ∙ ap plain (sym more),
    )

pub returns : goal.returns
returns g c =
    let p = c.args.generator in
    let up : ℕ = 32 - 8 * g.row.N in
    let message = c.args.message.now in
    let i : ℕ = c.loop-tuple.tuple-index in
    let cs = c.as_chunks.result.0.now in
    let all : map (string 8) (take i cs) ≡ tuples g.row.N message =
    ap (map (string 8)) (take_all i cs (omega arith) ∙ c.as_chunks.ensures.front ∙ chunks_are g.row.N (length message / g.row.N) message) in
    record {
      horner =
          ap (λ y. y / 2 ^ up) c.loop-tuple.invariant.0
          ∙ shl-shr (rem p.degree p.low (weighted (map (string 8) (take i cs)))) up
          ∙ ap (λ qs. rem p.degree p.low (weighted qs)) all;
      total = c.loop-tuple.invariant.1 ∙ ap plain all;
    }
