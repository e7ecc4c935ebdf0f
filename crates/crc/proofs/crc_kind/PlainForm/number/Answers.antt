-- A remainder has the bytes of the degree.
-- Assumes nothing.
use Rattle.std.proofs.Common.{◌*◌, ◌^◌, ◌<◌, sym, subst}
use Rattle.words.proofs.Checks.{crc-lt}
use Rattle.code.specs.CrcModel.{check_bytes}
use Rattle.code.proofs.CrcLaws.{bytewise}
use Rattle.crc.proofs.crc_kind.PlainForm.number.Goals as goal

pub returns-clause-below : goal.returns-clause-below
returns-clause-below c =
    let g = c.args.arg1 in
    subst (λ x. x < 2 ^ (8 * check_bytes g.degree)) (sym c.requires.1)
    (crc-lt g.degree g.low (check_bytes g.degree) g.ok.2 (bytewise g.degree c.requires.0).bits c.args.arg3.now)
