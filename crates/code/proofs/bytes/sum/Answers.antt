-- One byte more.
-- Assumes nothing.
use Rattle.std.proofs.Common.{◌≡◌, refl, rules, ap, ◌∙◌}
use Rattle.std.proofs.lemmas.Fn.{fold_over, slice_gives, fronts}
use Rattle.words.specs.Words.{plain}
use Rattle.words.proofs.Members.{plain_push}
use Rattle.code.proofs.bytes.sum.Goals as goal

pub returns : goal.returns
returns c =
    fold_over fronts (λ y. y.now) _ (λ ys n. n ≡ plain ys) _ (λ ys a x b f' j k. let more = plain_push ys x.now in search rules)
    _ _ _ _ (slice_gives c.iter.result) refl c.fold.ensures.ran
    ∙ ap plain c.iter.ensures.rest
