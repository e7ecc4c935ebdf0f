-- All promises together.
-- Assumes nothing.
use Rattle.code.specs.CrcModel.{crc_model}
use Rattle.code.specs.ParityModel.{parity_model}
use Rattle.code.specs.WeightedModel.{weighted_model}
use Rattle.code.specs.Bank.{joined}
use Rattle.code.proofs.CrcLaws.{crc-keeps}
use Rattle.code.proofs.ParityLaws.{parity_keeps}
use Rattle.code.proofs.WeightedKeeps.{weighted-keeps}
use Rattle.code.specs.Joined.{joined_keeps}
use Rattle.code.proofs.Numbers.{crc_numbered, parity_numbered, weighted_numbered, joined_numbered}
use Rattle.code.proofs.Comparing.{crc_matches, parity_matches, matches_reflexive, joined_matches, crc_means_the_same, parity_means_the_same, same_reflexive, joined_means_the_same}
use Rattle.code.proofs.CallersCompared as callers
use Rattle.runs.specs.Pledge.{three_kinds, three_kinds_over, ThreeKindsKeep, ThreeKindsMatch, ThreeKindsAlike, ThreeKindsKeepOverTwo, ThreeKindsNumberedOverTwo, ThreeKindsMatchOverTwo, ThreeKindsAlikeOverTwo, StationsPromise}
use Rattle.runs.proofs.Promised.{takes_the_lawful, seals_the_lawful, seals_again, hands_over_unaltered, hands_over_unaltered_for_callers, answers-alike, answers-alike_for_callers}
use Rattle.runs.proofs.Flipped.{refuses_sure_flips, refuses_sure_flips_for_callers, refuses_sure_heads}
use Rattle.runs.proofs.Worded.{refuses_sure_words}
use Rattle.runs.proofs.Booked.{book_laws}
use Rattle.runs.proofs.EveryCall.{answers_by_rules, runs_by_rules, held_unrefused}
use Rattle.runs.proofs.Fixed.{rules_fix_answers}
use Rattle.runs.proofs.Numbers.{answers_by_numbers}

three_kinds_keep : ThreeKindsKeep
three_kinds_keep p = joined_keeps (crc-keeps p) (joined_keeps (parity_keeps p) weighted-keeps)

three_kinds_match : ThreeKindsMatch
three_kinds_match p q =
    joined_matches (crc_model p) (joined (parity_model p) weighted_model) (crc_model q) (joined (parity_model q) weighted_model) (crc_matches p q)
    (joined_matches (parity_model p) weighted_model (parity_model q) weighted_model (parity_matches p q) (matches_reflexive weighted_model))

three_kinds_alike : ThreeKindsAlike
three_kinds_alike p q e cs =
    answers-alike (three_kinds p) (three_kinds q)
    (joined_means_the_same (crc_model p) (joined (parity_model p) weighted_model) (crc_model q) (joined (parity_model q) weighted_model)
    (crc_means_the_same p q e)
    (joined_means_the_same (parity_model p) weighted_model (parity_model q) weighted_model (parity_means_the_same p q e) (same_reflexive weighted_model))) cs

-- ---- with an engine for each kind

three_kinds_keep_over_two : ThreeKindsKeepOverTwo
three_kinds_keep_over_two p q = joined_keeps (crc-keeps p) (joined_keeps (parity_keeps q) weighted-keeps)

three_kinds_numbered_over_two : ThreeKindsNumberedOverTwo
three_kinds_numbered_over_two p q = joined_numbered (crc_numbered p) (joined_numbered (parity_numbered q) weighted_numbered)

three_kinds_match_over_two : ThreeKindsMatchOverTwo
three_kinds_match_over_two p q r s =
    callers.joined_matches (crc_model p) (joined (parity_model q) weighted_model) (crc_model r) (joined (parity_model s) weighted_model) (callers.crc_matches p r)
    (callers.joined_matches (parity_model q) weighted_model (parity_model s) weighted_model (callers.parity_matches q s) (callers.matches_reflexive weighted_model))

three_kinds_alike_over_two : ThreeKindsAlikeOverTwo
three_kinds_alike_over_two p q r s e f =
    answers-alike_for_callers (three_kinds_over p q) (three_kinds_over r s)
    (callers.joined_means_the_same (crc_model p) (joined (parity_model q) weighted_model) (crc_model r) (joined (parity_model s) weighted_model)
    (callers.crc_means_the_same p r e)
    (callers.joined_means_the_same (parity_model q) weighted_model (parity_model s) weighted_model (callers.parity_means_the_same q s f) (callers.same_reflexive weighted_model)))

pub stations_promise : StationsPromise
stations_promise = record {
  taking = takes_the_lawful;
  sealing = seals_the_lawful;
  again = seals_again;
  unaltered = hands_over_unaltered;
  unaltered_for_callers = hands_over_unaltered_for_callers;
  sure = refuses_sure_flips;
  sure_for_callers = refuses_sure_flips_for_callers;
  heads = refuses_sure_heads;
  words = refuses_sure_words;
  alike = answers-alike;
  alike_for_callers = answers-alike_for_callers;
  book = book_laws;
  ruled = answers_by_rules;
  runs = runs_by_rules;
  fixed = rules_fix_answers;
  clean = held_unrefused;
  numbers = answers_by_numbers;
  kinds_keep = three_kinds_keep;
  kinds_match = three_kinds_match;
  kinds_alike = three_kinds_alike;
  kinds_keep_over_two = three_kinds_keep_over_two;
  kinds_numbered_over_two = three_kinds_numbered_over_two;
  kinds_match_over_two = three_kinds_match_over_two;
  kinds_alike_over_two = three_kinds_alike_over_two;
}
