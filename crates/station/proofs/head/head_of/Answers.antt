-- The parts, one after the other, and their check.
-- Assumes nothing.
use Rattle.std.proofs.Common.{◌≡◌, ◌^◌, ◌<◌, refl, ap, ◌∙◌, rules}
use Rattle.words.specs.Digits.{digits}
use Rattle.code.specs.Coded.{coded}
use Rattle.code.proofs.BigEnd.{two}
use Rattle.station.specs.Frame.{ccitt, front}
use Rattle.station.proofs.head.head_of.Goals as goal

pub returns : goal.returns
returns c =
    let d = c.args.d in
    let word = c.args.word in
    let f = front c.args.number d word in
    let ten : c.copy_from_slice.new.self ≡ coded d = c.copy_from_slice.ensures.after ∙ c.from.ensures in
    let length : c.copy_from_slice-2.new.self ≡ digits 2 word =
    c.copy_from_slice-2.ensures.after ∙ c.to_be_bytes.ensures ∙ two word c.ranges.word.fits in
    let same : c.ccitt_of-check.result ≡ ccitt f = c.ccitt_of-check.ensures ∙ ap ccitt (rw (ten, length) refl) in
    let l : c.ccitt_of-check.result < 2 ^ 16 = search rules in
    let check : c.copy_from_slice-3.new.self ≡ digits 2 (ccitt f) =
    c.copy_from_slice-3.ensures.after ∙ c.to_be_bytes-2.ensures ∙ two c.ccitt_of-check.result l ∙ ap (digits 2) same in
    rw (ten, length, check) refl
