-- The numbers by which kinds 1 to 3 and their banks refuse.
-- Assumes nothing.
use Rattle.std.specs.Prelude.{ℕ, ◌≤◌, Bool}
use Rattle.std.proofs.Common.{⊎_elim, lit≤}
use Rattle.code.specs.Model.{Model, Numbered}
use Rattle.code.specs.Bank.{joined}
use Rattle.code.specs.CrcModel.{crc_model}
use Rattle.code.specs.ParityModel.{parity_model}
use Rattle.code.specs.WeightedModel.{weighted_model}
use Rattle.code.specs.Joined.{sides}

twelve : (12 ≤ 12) × (12 ≤ 15)
twelve = (lit≤ tt, lit≤ tt)

thirteen : (12 ≤ 13) × (13 ≤ 15)
thirteen = (lit≤ tt, lit≤ tt)

fourteen : (12 ≤ 14) × (14 ≤ 15)
fourteen = (lit≤ tt, lit≤ tt)

fifteen : (12 ≤ 15) × (15 ≤ 15)
fifteen = (lit≤ tt, lit≤ tt)

sixteen : (16 ≤ 16) × (16 ≤ 17)
sixteen = (lit≤ tt, lit≤ tt)

seventeen : (16 ≤ 17) × (17 ≤ 17)
seventeen = (lit≤ tt, lit≤ tt)

pub crc_numbered : (carries : ℕ → ℕ → Bool) → Numbered (crc_model carries)
crc_numbered carries = record {
  fits = λ d. (twelve, (twelve, (twelve, (twelve, (thirteen, (fifteen, tt))))));
  reaches = λ d reach. (sixteen, (seventeen, tt));
}

pub parity_numbered : (carries : ℕ → ℕ → Bool) → Numbered (parity_model carries)
parity_numbered carries = record {
  fits = λ d. (twelve, (twelve, (twelve, (twelve, (thirteen, (fourteen, (fifteen, tt)))))));
  reaches = λ d reach. (sixteen, (seventeen, tt));
}

pub weighted_numbered : Numbered weighted_model
weighted_numbered = record {
  fits = λ d. (twelve, (twelve, (twelve, (thirteen, (thirteen, (fourteen, tt))))));
  reaches = λ d reach. (sixteen, (seventeen, (seventeen, tt)));
}

-- a bank's rules are those of one of its parts
pub joined_numbered : {l r : Model} → Numbered l → Numbered r → Numbered (joined l r)
joined_numbered {l} {r} nl nr = record {
  fits = λ d. ⊎_elim
      (λ e. let h = nl.fits d in rw e h)
      (λ e. let h = nr.fits d in rw e h)
      (sides (l.serves d.kind));
  reaches = λ d reach. ⊎_elim
      (λ e. let h = nl.reaches d reach in rw e h)
      (λ e. let h = nr.reaches d reach in rw e h)
      (sides (l.serves d.kind));
}
