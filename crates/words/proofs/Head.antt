-- CRC-CCITT, by the generator X^16 + X^12 + X^5 + 1, on strings of up to 64 bytes.
-- Assumes nothing.
use Rattle.std.proofs.Common.{◌≡◌, ◌%◌, true, refl, lit<, lit≤}
use lib.Count.{ones}
use Rattle.poly.specs.Poly.{terms}
use Rattle.poly.specs.Period.{NoReturn}
use Rattle.poly.proofs.Computed.{walk, walk_far}
use Rattle.words.specs.Flips.{Notices}
use Rattle.words.specs.Words.{Crc}
use Rattle.words.proofs.Words.{crc_even_notices}

even : terms 16 0x1021 % 2 ≡ 0
unfolding ones
even = refl

far : NoReturn 16 0x1021 512
unfolding walk
far = walk_far 16 0x1021 (lit< tt) 511 (lit≤ tt) tt

pub head_notices : Notices (Crc 16 0x1021) 64 16 3 true
head_notices = crc_even_notices 16 0x1021 64 (lit< tt) refl far even
