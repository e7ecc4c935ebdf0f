-- One block more, one byte more, and in the end the whole string.
-- Assumes nothing.
use Rattle.std.proofs.Common.{◌≡◌, ℕ, ◌-◌, ◌*◌, ◌/◌, ◌^◌, List, [], ◌++◌, length, get_or, take, sym, ap, ◌∙◌, append-nil, arith, take-append-drop}
use Rattle.std.proofs.lemmas.List.{take_all}
use Rattle.engine.specs.Feed.{fed_all}
use Rattle.slicing.proofs.Chunks.{chunk_at, chunk_more, byte_more}
use Rattle.slicing.proofs.slicing.Slicing.after_string.Goals as goal

pub loop-block-preserved : goal.loop-block-preserved
loop-block-preserved c =
    let g = c.args.self.now.register.generator in
    let low = g.low * 2 ^ (32 - g.degree) in
    let bytes = c.args.bytes.now in
    let i = c.loop-block.block-index in
    chunk_more 32 low c.args.register 16 bytes i c.loop-block.r c.after_block-r.result c.loop-block.invariant
    (c.after_block-r.ensures
    ∙ ap (fed_all 32 low c.loop-block.r)
    (ap (λ (ws : List (List ℕ)). get_or ws i []) c.as_chunks.ensures.front ∙ chunk_at 16 (length bytes / 16) bytes i (omega arith)))

pub loop-b-init : goal.loop-b-init
loop-b-init c =
    let g = c.args.self.now.register.generator in
    let low = g.low * 2 ^ (32 - g.degree) in
    let bytes = c.args.bytes.now in
    let n : c.loop-block.block-index ≡ length bytes / 16 = omega arith in
    c.loop-block.invariant
    ∙ ap (fed_all 32 low c.args.register) (ap (λ i. take (i * 16) bytes) n ∙ sym (append-nil (take (length bytes / 16 * 16) bytes)))

pub loop-b-preserved : goal.loop-b-preserved
loop-b-preserved c =
    let g = c.args.self.now.register.generator in
    let low = g.low * 2 ^ (32 - g.degree) in
    let bytes = c.args.bytes.now in
    byte_more 32 low c.args.register (take (length bytes / 16 * 16) bytes) c.as_chunks.result.1.now c.loop-b.b-index c.loop-b.r
    c.after_byte-r.result (omega arith) c.loop-b.invariant c.after_byte-r.ensures

pub returns : goal.returns
returns c =
    let g = c.args.self.now.register.generator in
    let low = g.low * 2 ^ (32 - g.degree) in
    let bytes = c.args.bytes.now in
    let front = take (length bytes / 16 * 16) bytes in
    c.loop-b.invariant
    ∙ ap (fed_all 32 low c.args.register)
    (ap (λ (ys : List ℕ). front ++ ys) (take_all c.loop-b.b-index c.as_chunks.result.1.now (omega arith) ∙ c.as_chunks.ensures.back)
    ∙ take-append-drop (length bytes / 16 * 16) bytes)
