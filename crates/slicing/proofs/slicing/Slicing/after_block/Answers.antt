-- Four words, each through its four tables.
-- Assumes nothing.
use Rattle.std.proofs.Common.{◌≡◌, ℕ, ◌+◌, ◌-◌, ◌*◌, ◌/◌, ◌^◌, ◌<◌, List, [], length, get_or, sym, ap, ◌∙◌, subst, ap₂, arith, lit<}
use lib.Bits.{bit_xor, xor_lt}
use Rattle.poly.specs.Poly.{rem}
use Rattle.engine.proofs.Aligned.{up_lt}
use Rattle.slicing.proofs.Chunks.{chunk_entry, chunk_word}
use Rattle.slicing.proofs.Sixteen.{word_at, word_of_lem, word_bytes, sixteen-fed}
use Rattle.slicing.proofs.slicing.Slicing.after_block.Goals as goal

pub returns : goal.returns
returns c =
    let s = c.args.self.now in
    let g = s.register.generator in
    let low = g.low * 2 ^ (32 - g.degree) in
    let small = up_lt g.degree g.ok.1 g.low g.ok.2 in
    let b = c.args.block.now in
    let r = c.args.register in
    let words : List (List ℕ) = c.as_chunks.result.0.now in
    let w = get_or words 0 [] in
    let four : (j : ℕ) → j < 4 → j < length b / 4 = λ j l. omega (arith, l, c.told-block) in
    let word : (j : ℕ) → j < 4 → word_at (get_or words j []) 0 ≡ word_at b (j * 4) =
    λ j l. ap (λ (ws : List (List ℕ)). word_at (get_or ws j []) 0) c.as_chunks.ensures.front ∙ chunk_word (length b / 4) b j (four j l) in
    let byte : (i : ℕ) → i < 4 → get_or w i 0 < 256 =
    λ i l.
    subst (λ x. x < 256)
    (sym (ap (λ (ws : List (List ℕ)). get_or (get_or ws 0 []) i 0) c.as_chunks.ensures.front ∙ chunk_entry 4 (length b / 4) b 0 i (four 0 (lit< tt)) l))
    (c.fits-block (0 * 4 + i)) in
    let first : c.from_be_bytes.result ≡ word_at b 0 =
    c.from_be_bytes.ensures
    ∙ word_of_lem (get_or w 0 0) (get_or w 1 0) (get_or w 2 0) (get_or w 3 0) (byte 0 (lit< tt)) (byte 1 (lit< tt)) (byte 2 (lit< tt)) (byte 3 (lit< tt))
    ∙ word 0 (lit< tt) in
    ap₂ bit_xor
    (ap₂ bit_xor
    (ap₂ bit_xor
    (c.look_up_word.ensures ∙ ap (λ w. rem 32 low (w * 2 ^ 96)) (word 1 (lit< tt)))
    (c.look_up_word-2.ensures ∙ ap (λ w. rem 32 low (w * 2 ^ 64)) (word 2 (lit< tt))))
    (c.look_up_word-3.ensures ∙ ap (λ w. rem 32 low (w * 2 ^ 32)) (word 3 (lit< tt))))
    (c.look_up_word-4.ensures
    ∙ ap (λ w. rem 32 low (w * 2 ^ 128))
    (ap (λ (ws : List ℕ). word_at ws 0) c.to_be_bytes.ensures
    ∙ word_bytes (bit_xor c.from_be_bytes.result r) (xor_lt 32 c.from_be_bytes.result r c.from_be_bytes.type_inv c.ranges.register.fits)
    ∙ ap (λ w. bit_xor w r) first))
    ∙ sym (sixteen-fed low small r b c.ranges.register.fits c.told-block)
